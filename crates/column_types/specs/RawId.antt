-- The raw id of a row: a version 5 UUID (RFC 9562) of the load's number and the record's.
use Rattle.std.specs.Prelude.{ℕ, List, [], ◌∷◌, ◌++◌, take, decimal}
use Rattle.sha1.specs.Sha1.{sha1}
use Rattle.uuid.specs.Parts.{with_variant, with_version}
use Rattle.uuid.specs.Text.{hyphenated_text, lower}
use Rattle.uuid.specs.declared.Variant.TheVariants as variants
use Rattle.uuid.specs.declared.Version.TheVariants as versions

-- a1b2c3d4-0000-4000-8000-000000000001
abbrev pub row_namespace : List ℕ
row_namespace = 0xa1 ∷ 0xb2 ∷ 0xc3 ∷ 0xd4 ∷ 0 ∷ 0 ∷ 0x40 ∷ 0 ∷ 0x80 ∷ 0 ∷ 0 ∷ 0 ∷ 0 ∷ 0 ∷ 0 ∷ 1 ∷ []

-- both numbers, with a colon between them
abbrev pub row_name : ℕ → ℕ → List ℕ
row_name load seq = decimal load ++ 58 ∷ decimal seq

-- the first 16 bytes of the name's SHA-1 in the namespace, with the marks of version 5, in lower case with hyphens
abbrev pub raw_id_text : ℕ → ℕ → List ℕ
raw_id_text load seq =
    hyphenated_text lower (with_version (with_variant (take 16 (sha1 (row_namespace ++ row_name load seq))) variants.RFC4122) versions.Sha1)
