-- Texts with and without line feeds.
use Rattle.std.proofs.Common.{◌≡◌, ◌≢◌, ◌==◌, ℕ, List, Option, Bool, true, false, cond, arith, sym, ◌∙◌, ap, subst}
use Rattle.std.specs.List.{list_any}
use Rattle.std.proofs.lemmas.List.Folds.{list_any_none}
use Rattle.std.proofs.lemmas.List.Elements.{All-weaker}
use Rattle.std.proofs.lemmas.Bool.Decides.{nat_tests}
use Rattle.json_squeeze.specs.Squeeze.{squeezed}
use Rattle.json_fields.specs.Answer.{IsAnswer}
use Rattle.airbyte_message.specs.Depths.{IsOneLine}
use Rattle.airbyte_message.specs.States.{IsState}
use Rattle.airbyte_message.specs.State.{State}
use Rattle.state_kinds.specs.OneLine.{on_one_line}

-- a text that has a line feed, and one that has none
pub line_of_lines : (text line : List ℕ) (found : Option State) → list_any (λ byte. byte == 10) text ≡ true → line ≡ squeezed text → IsAnswer (IsState line) found → IsAnswer (IsState (on_one_line text)) found
line_of_lines text line found has is answer =
    subst (λ (t : List ℕ). IsAnswer (IsState t) found) (is ∙ sym (ap (λ (b : Bool). cond b (squeezed text) text) has)) answer

pub line_of_one : (text : List ℕ) (found : Option State) → list_any (λ byte. byte == 10) text ≡ false → IsAnswer (IsState text) found → IsAnswer (IsState (on_one_line text)) found
line_of_one text found none answer =
    subst (λ (t : List ℕ). IsAnswer (IsState t) found) (sym (ap (λ (b : Bool). cond b (squeezed text) text) none)) answer

-- a text without line feeds stands as it is
no_feed : (byte : ℕ) → byte ≢ 10 → (byte == 10) ≡ false
no_feed byte other = grind (arith, nat_tests)

pub stands : (text : List ℕ) → IsOneLine text → on_one_line text ≡ text
stands text line =
    let none : list_any (λ byte. byte == 10) text ≡ false = list_any_none (λ byte. byte == 10) text (All-weaker (λ byte. byte ≢ 10) (λ byte. (byte == 10) ≡ false) no_feed text line) in
    ap (λ (b : Bool). cond b (squeezed text) text) none
