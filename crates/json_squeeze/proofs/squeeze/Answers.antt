use Rattle.std.proofs.Common.{◌≡◌, ◌∙◌, sym, subst, List, ℕ, arith}
use Rattle.std.specs.Prelude.{IsUtf8}
use Rattle.json_squeeze.specs.Squeeze.{squeezed}
use Rattle.json_squeeze.specs.Dense.{StaysObject, StaysArray}
use Rattle.json_squeeze.proofs.Runs.{all_made}
use Rattle.json_squeeze.proofs.Trees.{squeezed-value, stays_object, stays_array}
use Rattle.json_squeeze.proofs.Utf8.{squeezed-utf8}
use Rattle.json_squeeze.proofs.squeeze.Goals as goal

pub returns-clause-dense : goal.returns-clause-dense
returns-clause-dense c = λ v spells.
    c.from_vec.ensures
    ∙ all_made c.args.text.now c.loop-at.made.items c.loop-at.at c.loop-at.invariant.inside (omega arith) c.loop-at.invariant.made
    ∙ squeezed-value c.args.text.now v spells

pub returns-clause-utf8 : goal.returns-clause-utf8
returns-clause-utf8 c = λ u.
    let made : c.from_vec.result ≡ squeezed c.args.text.now = c.from_vec.ensures ∙ all_made c.args.text.now c.loop-at.made.items c.loop-at.at c.loop-at.invariant.inside (omega arith) c.loop-at.invariant.made in
    subst (λ (l : List ℕ). IsUtf8 l) (sym made) (squeezed-utf8 c.args.text.now u)

pub returns-clause-object : goal.returns-clause-object
returns-clause-object c =
    let made : c.from_vec.result ≡ squeezed c.args.text.now = c.from_vec.ensures ∙ all_made c.args.text.now c.loop-at.made.items c.loop-at.at c.loop-at.invariant.inside (omega arith) c.loop-at.invariant.made in
    subst (λ (l : List ℕ). StaysObject c.args.text.now l) (sym made) (stays_object c.args.text.now)

pub returns-clause-array : goal.returns-clause-array
returns-clause-array c =
    let made : c.from_vec.result ≡ squeezed c.args.text.now = c.from_vec.ensures ∙ all_made c.args.text.now c.loop-at.made.items c.loop-at.at c.loop-at.invariant.inside (omega arith) c.loop-at.invariant.made in
    subst (λ (l : List ℕ). StaysArray c.args.text.now l) (sym made) (stays_array c.args.text.now)
