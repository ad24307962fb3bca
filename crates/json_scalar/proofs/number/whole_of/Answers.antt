use Rattle.std.proofs.Common.{sym}
use Rattle.json_scalar.specs.Seen.{cut_of}
use Rattle.json_scalar.proofs.Values.{one_whole, no_cut, cut_digits, IsWhole-cut, cut-IsWhole}
use Rattle.std.proofs.lemmas.Option.{IfSome_then}
use Rattle.json_scalar.proofs.Options.{none_then}
use Rattle.json_scalar.proofs.number.whole_of.Goals as goal

pub returns-in_err-of-in-None-clause-none : goal.returns-in_err-of-in-None-clause-none
returns-in_err-of-in-None-clause-none c = rw c.from_residual.ensures (λ n small w. no_cut c.args.text.now n (sym (c.in_err-of-in-None.ensures {u = tt})) w)

pub whole_value-requires : goal.whole_value-requires
whole_value-requires c = cut_digits c.args.text.now (cut_of c.in_ok-of-in-None.field-0) (sym (c.in_ok-of-in-None.ensures {u = tt}))

pub returns-in-Some-clause-only : goal.returns-in-Some-clause-only
returns-in-Some-clause-only c = λ m w. one_whole c.args.text.now m c.in-Some.number w (c.in-Some.ensures {u = tt}).found

pub returns-in_ok-of-in-None-clause-found : goal.returns-in_ok-of-in-None-clause-found
returns-in_ok-of-in-None-clause-found c =
    IfSome_then c.whole_value.result c.whole_value.ensures.found (λ n v. IsWhole-cut c.args.text.now (cut_of c.in_ok-of-in-None.field-0) n (sym (c.in_ok-of-in-None.ensures {u = tt})) v)

pub returns-in_ok-of-in-None-clause-only : goal.returns-in_ok-of-in-None-clause-only
returns-in_ok-of-in-None-clause-only c =
    IfSome_then c.whole_value.result c.whole_value.ensures.found
    (λ n v m w. one_whole c.args.text.now m n w (IsWhole-cut c.args.text.now (cut_of c.in_ok-of-in-None.field-0) n (sym (c.in_ok-of-in-None.ensures {u = tt})) v))

pub returns-in_ok-of-in-None-clause-none : goal.returns-in_ok-of-in-None-clause-none
returns-in_ok-of-in-None-clause-none c =
    none_then c.whole_value.result c.whole_value.ensures.none
    (λ none n small w. none n small (cut-IsWhole c.args.text.now (cut_of c.in_ok-of-in-None.field-0) n (sym (c.in_ok-of-in-None.ensures {u = tt})) w))
