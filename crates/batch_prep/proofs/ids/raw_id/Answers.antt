use Rattle.std.proofs.Common.{List, ℕ, ap, ◌∙◌, ◌++◌, ◌≡◌, take}
use Rattle.std.proofs.lemmas.Result.{IfOk-weaker}
use Rattle.sha1.specs.Sha1.{sha1}
use Rattle.uuid.specs.Parts.{with_variant, with_version}
use Rattle.uuid.specs.Text.{hyphenated_text, lower}
use Rattle.uuid.specs.declared.Variant.TheVariants as variants
use Rattle.uuid.specs.declared.Version.TheVariants as versions
use Rattle.column_types.specs.RawId.{row_namespace}
use Rattle.batch_prep.proofs.ids.raw_id.Goals as goal

abbrev id_of : List ℕ → List ℕ
id_of bytes = with_version (with_variant (take 16 (sha1 bytes)) variants.RFC4122) versions.Sha1

pub returns : goal.returns
returns c =
    let space : c.from_bytes.result ≡ row_namespace = c.from_bytes.ensures in
    let bytes = ap (λ (n : List ℕ). n ++ c.as_slice.result.now) space ∙ ap (λ (n : List ℕ). row_namespace ++ n) (c.as_slice.ensures ∙ c.in_ok-name.ensures) in
    let id = c.hyphenated.ensures ∙ c.new_v5-id.ensures.value ∙ ap id_of bytes in
    let text = c.as_bytes.ensures.value ∙ c.encode_lower.ensures.text ∙ ap (hyphenated_text lower) id in
    IfOk-weaker c.copy_of.result _ _ (λ made e. e ∙ text) c.copy_of.ensures
