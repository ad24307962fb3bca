use Rattle.std.proofs.Common.{ap, ◌∙◌, ◌++◌, ℤ, rules}
use Rattle.std.specs.Prelude.{FitsSigned}
use Rattle.std.specs.Int.{w64}
use Rattle.std.specs.Option.{option_copied}
use Rattle.std.specs.Fmt.{signed_decimal}
use Rattle.std.proofs.lemmas.Int.{to_z-of_z}
use Rattle.batch_prep.proofs.WrittenLemmas.{puts_fitting, puts_none}
use Rattle.batch_prep.proofs.cells.put_cell.Goals as goal

pub returns-in_default : goal.returns-in_default
returns-in_default c = puts_none c.args.kind (option_copied c.args.found) c.args.text.now c.extend.new.self (ap option_copied c.in_default.is) c.in_ok-extend.ensures.ok

pub returns-in_ok-extend-in-AsItStands : goal.returns-in_ok-extend-in-AsItStands
returns-in_ok-extend-in-AsItStands c =
    puts_fitting c.args.kind (option_copied c.args.found) c.in-Some.value.now c.in-Some.value.now c.args.text.now c.extend-in-AsItStands.new.self (ap option_copied c.in-Some.is) c.in-AsItStands.ensures c.in_ok-extend-in-AsItStands.ensures.ok

pub returns-in_ok-put_whole-in-Whole : goal.returns-in_ok-put_whole-in-Whole
returns-in_ok-put_whole-in-Whole c =
    let fits : FitsSigned w64 c.in-Whole.number = search rules in
    let text = c.in_ok-put_whole-in-Whole.ensures ∙ ap (λ (z : ℤ). c.args.text.now ++ signed_decimal z) (to_z-of_z w64 c.in-Whole.number fits) in
    puts_fitting c.args.kind (option_copied c.args.found) c.in-Some.value.now (signed_decimal c.in-Whole.number) c.args.text.now c.put_whole.new.text (ap option_copied c.in-Some.is) c.in-Whole.ensures text
