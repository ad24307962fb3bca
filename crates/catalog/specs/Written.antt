-- A catalog as it is written: the members of each entry as they stand, in order, without the generations that it had, and
-- then the new ones.
use Rattle.std.specs.Prelude.{◌≡◌, ◌⊎◌, ℕ, ◌≤◌, List, [], ◌∷◌, ◌++◌, map, length, Some, Ok, All, codes, decimal}
use Rattle.std.specs.List.{AllZip, zip}
use Rattle.json_scalar.specs.Text.{IsString}
use Rattle.json_span.specs.Members.{AreMembers}
use Rattle.json_span.specs.declared.Member.{Member}
use Rattle.json_fields.specs.Answer.{IsOnly}
use Rattle.json_fields.specs.Fields.{line_depth}
use Rattle.json_fields.specs.Parts.{Keeps}
use Rattle.json_write.specs.Objects.{Part, named, object_text, open_object, list_text}
use Rattle.json_write.specs.Laws.{part_at}
use Rattle.basics.specs.declared.limits.TheConstants.{GREATEST_GENERATION}
use Rattle.catalog.specs.declared.stream.ConfStream.{ConfStream}
use Rattle.catalog.specs.declared.stream.Gen.{Gen}
use Rattle.catalog.specs.Configured.{AreConfigured}
use Rattle.catalog.specs.Reading.{ReadsAs}

-- the key of one of the two generations
abbrev pub IsGenerationKey : List ℕ → Type 0
IsGenerationKey key = IsString key (codes "generation_id") ⊎ IsString key (codes "minimum_generation_id")

-- the generations, as members
abbrev pub gen_parts : Gen → List Part
gen_parts gen = named (codes "generation_id") (decimal gen.generation) ∷ named (codes "minimum_generation_id") (decimal gen.minimum) ∷ []

-- the entry with these generations in place of its own
pub record IsEntryText (entry : List ℕ) (gen : Gen) (text : List ℕ) : Type 0 where
  pub members : List Member
  pub are : AreMembers line_depth entry members
  pub kept : List Member
  pub keeps : Keeps IsGenerationKey entry members kept
  pub is : text ≡ object_text (map (part_at entry) kept ++ gen_parts gen)

-- For private clauses: the mark before a member behind these, and an object of them that is still open, or not begun.
abbrev pub mark_behind : List Part → ℕ
mark_behind [] = 123
mark_behind (part ∷ parts) = 44

abbrev pub begun_object : List Part → List ℕ
begun_object [] = []
begun_object (part ∷ parts) = open_object (part ∷ parts)

-- the text has grown by the members that are kept, and this is the mark before the next
pub record GrowsByKept (entry : List ℕ) (members : List Member) (mark : ℕ) (before now : List ℕ) : Type 0 where
  pub kept : List Member
  pub keeps : Keeps IsGenerationKey entry members kept
  pub marked : mark ≡ mark_behind (map (part_at entry) kept)
  pub grew : now ≡ before ++ begun_object (map (part_at entry) kept)

-- the text has grown by such an entry
pub record GrowsByEntry (entry : List ℕ) (gen : Gen) (before now : List ℕ) : Type 0 where
  pub text : List ℕ
  pub is : IsEntryText entry gen text
  pub grew : now ≡ before ++ text

-- these are the entries of the streams, each with its generations
abbrev pub AreEntryTexts : List ConfStream → List Gen → List (List ℕ) → Type 0
AreEntryTexts streams gens entries = AllZip (λ pair entry. IsEntryText pair.0.raw_entry pair.1 entry) (zip streams gens) entries

-- the text is the catalog of these streams with these generations
pub record IsCatalogText (streams : List ConfStream) (gens : List Gen) (text : List ℕ) : Type 0 where
  pub many : length gens ≡ length streams
  pub entries : List (List ℕ)
  pub are : AreEntryTexts streams gens entries
  pub is : text ≡ object_text (named (codes "streams") (list_text entries) ∷ [])

-- generations within the limit, and no minimum above its generation
pub record IsFit (gen : Gen) : Type 0 where
  pub within : gen.generation ≤ GREATEST_GENERATION
  pub minimum : gen.minimum ≤ gen.generation

-- the stream with these generations, whose entry is written so
abbrev pub with_gen : ConfStream × Gen → List ℕ → ConfStream
with_gen pair entry = record pair.0 { generation = Some pair.1.generation; minimum = pair.1.minimum; raw_entry = entry }

-- the streams with these generations
abbrev pub with_gens : List ConfStream → List Gen → List (List ℕ) → List ConfStream
with_gens streams gens entries = map (λ p. with_gen p.0 p.1) (zip (zip streams gens) entries)

-- the text is the catalog of these streams with these generations, and reads as them
pub record ReadsBack (streams : List ConfStream) (gens : List Gen) (text : List ℕ) : Type 0 where
  pub is : IsCatalogText streams gens text
  pub reads : IsOnly (ReadsAs text) (Ok (with_gens streams gens is.entries))

-- The text of a catalog with generations that fit reads as its streams with these generations; all else of them is the same,
-- but for their entries.
abbrev pub CatalogsReadBack : Type 0
CatalogsReadBack =
    (streams : List ConfStream) (gens : List Gen) (text : List ℕ) → AreConfigured streams → (is : IsCatalogText streams gens text) → All IsFit gens
    → IsOnly (ReadsAs text) (Ok (with_gens streams gens is.entries))

-- Streams with their generations have one text.
abbrev pub OneCatalogText : Type 0
OneCatalogText = (streams : List ConfStream) (gens : List Gen) (text other : List ℕ) → IsCatalogText streams gens text → IsCatalogText streams gens other → other ≡ text
