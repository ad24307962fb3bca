-- The worked ways.
use Rattle.std.proofs.Common.{arith, ◌≡◌, ◌⊎◌, inl, inr, ℕ, refl}
use Rattle.std.specs.Fmt.{digits}
use Rattle.std.proofs.lemmas.Bool.{false≢true}
use Rattle.outside.specs.declared.status.Status.TheVariants as status
use Rattle.attempt_turns.specs.Acts.{EndsUnbegun, IsOpen, IsShut, place_ended}
use Rattle.attempt_turns.specs.Examples.{WaysAsWorked, going_on}

one_two : (m n : ℕ) → m ≡ n → m ≡ 1 → n ≡ 2 → ⊥
one_two m n same one_is two_is = omega (arith, same, one_is, two_is)

one_none : (m n : ℕ) → m ≡ n → m ≡ 1 → n ≡ 0 → ⊥
one_none m n same one_is none_is = omega (arith, same, one_is, none_is)

once_more : IsOpen (place_ended going_on status.LinkFault) ⊎ (IsShut (place_ended going_on status.LinkFault) × EndsUnbegun status.LinkFault) → ⊥
once_more (inl opened) = one_two 1 2 opened refl refl
once_more (inr shut) = shut.1

pub ways_as_worked : WaysAsWorked
unfolding digits
ways_as_worked = record {
  log_line = refl;
  log_back = refl;
  no_record = refl;
  no_state = refl;
  saved_state = λ text. refl;
  begun_set = λ text. refl;
  older_state = λ text. refl;
  end_line = refl;
  ends_once = λ there goes. once_more goes.1.0.one;
  then_reads = λ there goes. one_two 1 2 goes.3.order refl refl;
  then_begins = λ text there goes. false≢true goes.3.order.1;
  begun_twice = λ text there goes. one_none 1 0 goes.3.order.0 refl refl;
  failed_line = λ there goes. goes.4;
}
