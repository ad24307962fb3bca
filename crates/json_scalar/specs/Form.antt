-- For private clauses: what a text's bytes tell of the string before it is decoded.
use Rattle.std.specs.Prelude.{◌≡◌, ℕ, List, IsTrue, IsUtf8}
use Rattle.std.specs.List.{All}
use Rattle.json_scalar.specs.declared.text.Form.{Form}
use Rattle.json_scalar.specs.declared.text.Form.TheVariants.{NoString, Plain, Escaped}
use Rattle.json_scalar.specs.Text.{is_plain, IsNoString}
use Rattle.json_scalar.specs.Quotes.{in_quotes, IsQuoted}

-- the text in quotation marks stands for itself
pub record IsPlainString (text inside : List ℕ) : Type 0 where
  pub utf8 : IsUtf8 text
  pub spelled : text ≡ in_quotes inside
  pub plain : All (λ byte. IsTrue (is_plain byte)) inside

-- the text goes on to the decoder
pub record GoesOn (text string : List ℕ) : Type 0 where
  pub utf8 : IsUtf8 text
  pub whole : string ≡ text
  pub quoted : IsQuoted text

abbrev pub IsFormOf : List ℕ → Form → Type 0
IsFormOf text NoString = IsNoString text
IsFormOf text (Plain inside) = IsPlainString text inside.now
IsFormOf text (Escaped string) = GoesOn text string.now
