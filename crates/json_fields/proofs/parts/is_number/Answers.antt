use Rattle.std.proofs.Common.{inl, inr, sym, ◌∙◌, get_or, eq-eqb}
use Rattle.json_fields.proofs.PartLemmas.{number_tells, is_number_if, value_not_empty}
use Rattle.json_fields.proofs.parts.is_number.Goals as goal

pub bounds-value-0 : goal.bounds-value-0
bounds-value-0 c = value_not_empty c.args.value.now c.requires

pub bounds-value-0-else-value-eq45 : goal.bounds-value-0-else-value-eq45
bounds-value-0-else-value-eq45 c = value_not_empty c.args.value.now c.requires

pub returns-then-value-eq45 : goal.returns-then-value-eq45
returns-then-value-eq45 c =
    (λ yes. is_number_if c.args.value.now c.requires (inl c.if-value-eq45.true), λ number. eq-eqb (get_or c.args.value.now 0 0) 45 c.if-value-eq45.true)

pub returns-else-value-eq45 : goal.returns-else-value-eq45
returns-else-value-eq45 c = (
  λ yes. is_number_if c.args.value.now c.requires (inr (sym c.is_ascii_digit.ensures.value ∙ yes)),
  λ number.
      elim (number_tells c.args.value.now number) [ inl minus ↦ absurd (c.if-value-eq45.false minus) | inr digit ↦ c.is_ascii_digit.ensures.value ∙ digit ],
)
