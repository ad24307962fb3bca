use Rattle.std.proofs.lemmas.Result.{IfOk-weaker}
use Rattle.column_types.specs.Kinds.{HasOnlyType}
use Rattle.column_types.proofs.KindLemmas.{never, only_type}
use Rattle.column_types.proofs.property.has_only_type.Goals as goal

pub returns-in-Some : goal.returns-in-Some
returns-in-Some c =
    let field = rw c.in-Some.is at c.in_ok-held.ensures.field in
    IfOk-weaker c.is_alone.result _ _ (λ b is. only_type c.args.property.now c.in-Some.held.now c.args.word.now b field is) c.is_alone.ensures

pub returns-in-None : goal.returns-in-None
returns-in-None c =
    let field = rw c.in-None.is at c.in_ok-held.ensures.field in
    never (HasOnlyType c.args.property.now c.args.word.now) (λ type. field type.held type.field)
