use Rattle.std.proofs.Common.{inr, ap, subst, rules}
use Rattle.std.specs.Prelude.{FitsSigned}
use Rattle.std.specs.Int.{w64}
use Rattle.std.specs.Fmt.{signed_decimal}
use Rattle.std.proofs.lemmas.Int.{to_z-of_z}
use Rattle.value_order.specs.declared.decimal.Decimal.{Decimal}
use Rattle.column_types.specs.Ways.{IsWholeOf}
use Rattle.column_types.proofs.WholeLemmas.{integer_decimal, whole_integer}
use Rattle.column_types.proofs.typed.whole_way.Goals as goal

pub returns-in-Some-whole_value : goal.returns-in-Some-whole_value
returns-in-Some-whole_value c =
    let whole = c.in-Some-whole_value.whole in
    let fits : FitsSigned w64 c.in-Some-whole_value.whole = search rules in
    inr (record {
      value = whole;
      integer = whole_integer c.args.text.now c.in-Some.number whole c.in-Some.ensures.found c.in-Some-whole_value.ensures.found;
      small = fits;
      plain = ap signed_decimal (to_z-of_z w64 whole fits);
    })

pub returns-in-None-whole_value : goal.returns-in-None-whole_value
returns-in-None-whole_value c = (
  c.requires,
  λ written fit.
      let h = integer_decimal c.args.text.now fit.value fit.integer fit.small in
      c.in-None-whole_value.ensures.none fit.value fit.small (subst (λ (d : Decimal). IsWholeOf d fit.value) (c.in-Some.ensures.only h.d h.number) h.whole),
)

pub returns-in-None : goal.returns-in-None
returns-in-None c = (
  c.requires,
  λ written fit.
      let h = integer_decimal c.args.text.now fit.value fit.integer fit.small in
      c.in-None.ensures.none h.d h.number,
)
