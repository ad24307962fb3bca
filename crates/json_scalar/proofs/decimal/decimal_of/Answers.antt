use Rattle.std.proofs.Common.{sym}
use Rattle.std.proofs.lemmas.Option.{IfSome_then}
use Rattle.json_scalar.specs.Seen.{cut_of}
use Rattle.json_scalar.proofs.Options.{some_both, none_then}
use Rattle.json_scalar.proofs.Values.{cut_digits}
use Rattle.json_scalar.proofs.Decimals.{cut_decimal, decimal_cut, no_cut_decimal, one_decimal}
use Rattle.json_scalar.proofs.decimal.decimal_of.Goals as goal

pub returns-in_err-of-clause-none : goal.returns-in_err-of-clause-none
returns-in_err-of-clause-none c = rw c.from_residual.ensures (λ d n w. no_cut_decimal c.args.text.now d (sym (c.in_err-of.ensures {u = tt})) w)

pub decimal_of_parts-requires : goal.decimal_of_parts-requires
decimal_of_parts-requires c = cut_digits c.args.text.now (cut_of c.in_ok-of.field-0) (sym (c.in_ok-of.ensures {u = tt}))

pub returns-clause-found : goal.returns-clause-found
returns-clause-found c = IfSome_then c.decimal_of_parts.result c.decimal_of_parts.ensures.found (λ d v. cut_decimal c.args.text.now (cut_of c.in_ok-of.field-0) d (sym (c.in_ok-of.ensures {u = tt})) v)

pub returns-clause-only : goal.returns-clause-only
returns-clause-only c =
    some_both c.decimal_of_parts.result c.decimal_of_parts.ensures.found c.decimal_of_parts.ensures.normal
    (λ d v n o m w. one_decimal (cut_of c.in_ok-of.field-0) o d m n (decimal_cut c.args.text.now (cut_of c.in_ok-of.field-0) o (sym (c.in_ok-of.ensures {u = tt})) w) v)

pub returns-clause-none : goal.returns-clause-none
returns-clause-none c = none_then c.decimal_of_parts.result c.decimal_of_parts.ensures.none (λ none d n w. none d n (decimal_cut c.args.text.now (cut_of c.in_ok-of.field-0) d (sym (c.in_ok-of.ensures {u = tt})) w))
