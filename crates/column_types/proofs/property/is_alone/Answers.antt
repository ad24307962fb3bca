use Rattle.std.proofs.Common.{◌⊎◌}
use Rattle.json_scalar.specs.Text.{IsString}
use Rattle.column_types.specs.Kinds.{IsListOf}
use Rattle.column_types.proofs.KindLemmas.{never, not_alone}
use Rattle.column_types.proofs.property.is_alone.Goals as goal

pub returns-in-None : goal.returns-in-None
returns-in-None c =
    let none = rw c.in-None.is at c.in_ok-spans.ensures.none in
    never (IsString c.args.text.now c.args.word.now ⊎ IsListOf c.args.text.now c.args.word.now)
    (not_alone c.args.text.now c.args.word.now c.in_ok-is_string_of.field-0 c.if-branch.false c.in_ok-is_string_of.ensures.1 none)
