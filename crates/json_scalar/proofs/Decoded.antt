-- What a value that was read tells of its text.
use Rattle.std.proofs.Common.{◌≡◌, ℕ, Bool, false, List, Some, None, String, Global, string_bytes, bytes_eq, IsTrue, IsUtf8, refl, sym, ap, ◌∙◌, subst, arith, ◌≤◌, rules}
use Rattle.std.proofs.lemmas.Bool.{true≢false}
use Rattle.std.proofs.lemmas.Slice.Eq.{bytes_eq-Decides}
use Rattle.json.specs.Print.{escape}
use Rattle.serde_json.specs.Data.{Data, depth}
use Rattle.serde_json.specs.Read.{read, max_depth}
use Rattle.serde_json.specs.View.{view}
use Rattle.serde_json.specs.Written.{has_float, compact_text}
use Rattle.serde_json.specs.Find.{as_str}
use Rattle.serde_json.specs.declared.value.Value as value
use Rattle.serde_json.specs.declared.value.Value.{Value, the_lemmas}
use Rattle.json_scalar.specs.Text.{IsString, IsNoString}
use Rattle.json_scalar.specs.Quotes.{in_quotes, IsQuoted}
use Rattle.json_scalar.proofs.Options.{some_inj}
use Rattle.json_scalar.proofs.Contents.{one_meaning}
use Rattle.json_scalar.proofs.Lexing.{read-IsString, IsString-read}

view-String : (m : String Global) → view (value.String m) ≡ Data.string (string_bytes m)
view-String m = search (rules, the_lemmas)

as_str-other : (v : Value) → ((m : String Global) → v ≡ value.String m → ⊥) → as_str (view v) ≡ None
as_str-other v other = search (rules, the_lemmas)

string_inj : (s t : List ℕ) → Data.string s ≡ Data.string t → s ≡ t
string_inj s t e = cc

pub string_value : (text : List ℕ) (v : Value) (m : String Global) → IsUtf8 text → IsQuoted text → read text ≡ Some (view v) → v ≡ value.String m → IsString text (string_bytes m)
string_value text v m utf8 q e is =
    let r = IsString-read text (view v) utf8 q e in
    subst (IsString text) (string_inj _ _ (sym r.1 ∙ ap view is ∙ view-String m)) r.2

pub other_value : (text : List ℕ) (v : Value) → ((m : String Global) → v ≡ value.String m → ⊥) → read text ≡ Some (view v) → IsNoString text
other_value text v other e = λ meaning s.
    let is : view v ≡ Data.string meaning = some_inj _ _ (sym e ∙ read-IsString text meaning s) in
    let clash : Some meaning ≡ None = sym (ap as_str is) ∙ as_str-other v other in
    cc

pub no_value : (text : List ℕ) → read text ≡ None → IsNoString text
no_value text e = λ meaning s. let clash : None ≡ Some (Data.string meaning) = sym e ∙ read-IsString text meaning s in cc

-- what was written for a text
pub quoted_string : (m : String Global) (text bytes : List ℕ) → string_bytes m ≡ text → IsUtf8 bytes → (has_float (view (value.String m)) ≡ false → bytes ≡ compact_text (view (value.String m)))
    → (depth (view (value.String m)) ≤ max_depth → read bytes ≡ Some (view (value.String m))) → IsString bytes text
quoted_string m text bytes is utf8 written reads =
    let spelled : bytes ≡ in_quotes (escape (string_bytes m)) = written (ap has_float (view-String m)) ∙ ap compact_text (view-String m) in
    let flat : depth (view (value.String m)) ≤ max_depth = rw (view-String m) (omega arith) in
    subst (IsString bytes) is (string_value bytes (value.String m) m utf8 (record { inside = escape (string_bytes m); spelled = spelled }) (reads flat) refl)

-- ---- a comparison with the meaning

pub same_name : (text meaning name : List ℕ) (b : Bool) → b ≡ bytes_eq meaning name → IsString text meaning → (IsTrue b → IsString text name) × (IsString text name → IsTrue b)
same_name text meaning name b e s =
    let d = bytes_eq-Decides meaning name in
    (λ h. subst (IsString text) (d.0 (sym e ∙ h)) s, λ h. e ∙ d.1 (one_meaning text meaning name s h))

pub no_name : (text name : List ℕ) → IsNoString text → (IsTrue false → IsString text name) × (IsString text name → IsTrue false)
no_name text name none = (λ h. absurd (true≢false (sym h)), λ h. absurd (none name h))
