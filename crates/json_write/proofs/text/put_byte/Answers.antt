use Rattle.std.proofs.Common.{ℕ, List, [], ◌∷◌, ◌++◌, ◌<◌, ◌≡◌, arith, ap, sym, subst, ◌∙◌}
use Rattle.std.proofs.lemmas.Result.{on_ok_weaker}
use Rattle.json.specs.Print.{escape_letter}
use Rattle.json_write.proofs.Strings.{escape_lettered, escape_control, escape_other}
use Rattle.json_write.proofs.text.put_byte.Goals as goal

pub returns-then-letter-gt0-clause-ok : goal.returns-then-letter-gt0-clause-ok
returns-then-letter-gt0-clause-ok c =
    let letter = c.escape_letter-letter.ensures in
    let some : 0 < escape_letter c.args.byte = subst (λ (n : ℕ). 0 < n) letter c.if-letter-gt0.true in
    on_ok_weaker c.extend.result (λ put. put ∙ ap (λ (n : ℕ). c.args.text.now ++ 92 ∷ n ∷ []) letter ∙ ap (λ (l : List ℕ). c.args.text.now ++ l) (sym (escape_lettered c.args.byte some))) c.extend.ensures.ok

pub returns-then-byte-lt32-clause-ok : goal.returns-then-byte-lt32-clause-ok
returns-then-byte-lt32-clause-ok c =
    let none : escape_letter c.args.byte ≡ 0 = sym c.escape_letter-letter.ensures ∙ omega arith in
    let high = c.digit.ensures in
    let low = c.digit-then-byte-lt32.ensures in
    on_ok_weaker c.extend-then-byte-lt32.result (λ put. put ∙ (λ i. c.args.text.now ++ 92 ∷ 117 ∷ 48 ∷ 48 ∷ high i ∷ low i ∷ []) ∙ ap (λ (l : List ℕ). c.args.text.now ++ l) (sym (escape_control c.args.byte none c.if-byte-lt32.true))) c.extend-then-byte-lt32.ensures.ok

pub returns-clause-ok : goal.returns-clause-ok
returns-clause-ok c =
    let none : escape_letter c.args.byte ≡ 0 = sym c.escape_letter-letter.ensures ∙ omega arith in
    on_ok_weaker c.push.result (λ put. put ∙ ap (λ (l : List ℕ). c.args.text.now ++ l) (sym (escape_other c.args.byte none c.if-byte-lt32.false))) c.push.ensures.ok
