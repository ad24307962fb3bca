-- The worked runs and traces.
use Rattle.std.proofs.Common.{arith, ◌≡◌, inl, inr, ◌<◌, zero, suc, ℕ, List, [], ◌∷◌, true, false, None, Some, refl, sym, ◌∙◌, ap, subst}
use Rattle.std.proofs.lemmas.Bool.{false≢true}
use Rattle.outside.specs.declared.event.Event.TheVariants as event
use Rattle.outside.specs.declared.event.StreamPlan.{StreamPlan}
use Rattle.load_rules.specs.Stores.{StoreFits}
use Rattle.std.specs.Prelude.{slice_get, Contains}
use Rattle.outside.specs.Tables.{tables_of}
use Rattle.airbyte_message.specs.declared.stream_status.StreamStatus.{StreamStatus}
use Rattle.airbyte_message.specs.declared.stream_status.StreamStatus.TheVariants.{Running, Complete}
use Rattle.catalog.specs.declared.stream.ConfStream.{ConfStream}
use Rattle.dedup_merge.proofs.SameRowLemmas.{Has, has_from}
use Rattle.load_rules.specs.Lines.{line_read}
use Rattle.load_rules.specs.Taken.{LaneState}
use Rattle.load_rules.specs.Loads.{Load}
use Rattle.load_rules.specs.Acts.{Takes, Ends}
use Rattle.load_rules.specs.Finished.{IsComplete, StreamIsDone, LoadIsDone}
use Rattle.load_rules.specs.Examples.{a, b, configured, both_streams, tells, one_status, RunsAsWorked, EchoesAsWorked, EndsAsWorked, StoresAsWorked, two_loads, then_shown, plan_of_a, row_at}
use Rattle.load_rules.proofs.Fronts.{each_at}

pub runs_as_worked : RunsAsWorked
runs_as_worked = record {
  waits_for_first = refl;
  in_order = refl;
  out_of_order = refl;
  one_more = refl;
  taken_back = refl;
  other_number = refl;
  once = refl;
  waits_for_both = refl;
  covers_both = refl;
}

pub stores_as_worked : StoresAsWorked
stores_as_worked = record {
  two_loads_fit = (record { later = omega arith; own = (tt, tt); hidden = (refl, tt) }, (record { own = (refl, tt); new = (refl, tt) }, (record { later = omega arith; own = (tt, tt); hidden = (refl, tt) }, (record { own = (refl, tt); new = (refl, tt) }, tt))));
  twice_in_one = λ run. false≢true (sym (each_at StoreFits [] two_loads [] (event.Committed 0 (row_at 2 0 0 ∷ [])) run).new.0);
  twice_in_commit = λ run. false≢true (sym run.1.0.new.1.0);
  load_again = λ run. (let e = (each_at StoreFits [] two_loads [] (event.Opened 2 1 (plan_of_a 0 0 false ∷ [])) run).later in omega (arith, e));
  stream_twice = λ run. false≢true (sym run.0.own.0.0);
  row_of_other_load = λ run. (let e = (each_at StoreFits [] two_loads [] (event.Committed 0 (row_at 1 0 1 ∷ [])) run).own.0 in omega (arith, e));
  hidden_fits = (record { later = omega arith; own = (tt, tt); hidden = (refl, tt) }, (record { own = (refl, tt); new = (refl, tt) }, (record { later = omega arith; own = (tt, tt); hidden = (refl, tt) }, (record { own = (refl, tt); new = (refl, tt) }, (record { later = omega arith; own = (tt, tt); hidden = (refl, tt) }, (record { own = (refl, tt); new = (refl, tt) }, (record { plan = plan_of_a 2 2 true; planned = refl; hidden = refl }, tt)))))));
  still_old = refl;
  now_shown = refl;
  old_gone = refl;
  shown_twice = λ run. (let fits = each_at StoreFits [] then_shown [] (event.Shown 0 2 2) run in not_hidden (plan_of_a 2 2 false) fits.plan refl fits.planned fits.hidden);
  shown_unhidden = λ run. (let fits = each_at StoreFits [] two_loads [] (event.Shown 0 0 0) run in not_hidden (plan_of_a 0 0 false) fits.plan refl fits.planned fits.hidden);
  unhidden_above = λ run. false≢true run.0.hidden.0;
  at_the_floor = (record { later = omega arith; own = (tt, tt); hidden = (refl, tt) }, (record { own = (refl, tt); new = (refl, tt) }, (record { later = omega arith; own = (tt, tt); hidden = (refl, tt) }, (record { own = (refl, tt); new = (refl, tt) }, (record { later = omega arith; own = (tt, tt); hidden = (refl, tt) }, (record { own = (refl, tt); new = (refl, tt) }, (record { plan = plan_of_a 2 2 true; planned = refl; hidden = refl }, (record { later = omega arith; own = (tt, tt); hidden = (refl, tt) }, tt))))))));
  hidden_below = λ run. false≢true (sym run.0.hidden.0);
}
  where
    not_hidden : (own plan : StreamPlan) → own.hidden ≡ false → Some own ≡ Some plan → plan.hidden ≡ true → ⊥
    not_hidden own plan shown same hidden =
        let is : own ≡ plan = cc in
        false≢true (sym shown ∙ (ap (λ (p : StreamPlan). p.hidden) is ∙ hidden))

-- Echoes

some_is : {A : Type 0} {x y : A} → Some x ≡ Some y → x ≡ y
some_is e = cc

none_some : {A : Type 0} {x : A} → None ≡ Some x → ⊥
none_some e = cc

other_object : {x y : ℕ} → x ∷ [] ≡ y ∷ [] → x ≡ y
other_object e = grind (arith, e)

pub echoes_as_worked : EchoesAsWorked
echoes_as_worked = record {
  behind_its_records = record { next = refl; committed_are = (refl, tt) };
  early = λ fits. false≢true fits.committed_are.0;
  skipped = λ fits. (let e : 1 ≡ 2 = other_object (ap (λ (state : LaneState). state.state.object) (some_is fits.next)) in omega (arith, e));
  twice = λ fits. (let e : 2 ≡ 1 = other_object (ap (λ (state : LaneState). state.state.object) (some_is fits.next)) in omega (arith, e));
  then_next = record { next = refl; committed_are = (refl, tt) };
}

-- Ends

abbrev own_load : Load
own_load = record { opening = record { load = 1; moment = 1; plan = plan_of_a 0 0 false ∷ [] }; events = event.Took [] ∷ event.TookEnd ∷ [] }

done : (status : StreamStatus) → LoadIsDone (tells status) one_status own_load
done status = record {
  older = [];
  last = refl;
  ended = (1, omega arith, refl);
  committed_are = refl;
  acts = Takes (line_read (tells status) []) ∷ Ends ∷ [];
  are = (refl, (tt, tt));
  echoes = record { lanes = (tt, tt); echoed_are = λ lane. refl };
}

stream_done : StreamIsDone (tables_of one_status) 0 (configured a)
stream_done = record { plan = plan_of_a 0 0 false; planned = refl; same = refl; merged = λ dedup. absurd (false≢true dedup); shown = refl }

only_first : (P : ℕ → ConfStream → Type 0) → P 0 (configured a) → (number : ℕ) (stream : ConfStream) → slice_get (configured a ∷ []) number ≡ Some stream → P number stream
only_first P first zero stream at = subst (P 0) (some_is at) first
only_first P first (suc number) stream at = absurd (none_some at)

a_complete : IsComplete (tells Complete) own_load (configured a)
a_complete = refl

second_done : (other : ℕ) (stream : ConfStream) → slice_get both_streams other ≡ Some stream → IsComplete (tells Complete) own_load stream → StreamIsDone (tables_of one_status) other stream
second_done zero stream at is = subst (StreamIsDone (tables_of one_status) 0) (some_is at) stream_done
second_done (suc zero) stream at is = absurd (none_some (subst (λ (it : ConfStream). IsComplete (tells Complete) own_load it) (sym (some_is at)) is))
second_done (suc (suc other)) stream at is = absurd (none_some at)

first_complete : (other : ℕ) (stream : ConfStream) → other < 1 → slice_get both_streams other ≡ Some stream → IsComplete (tells Complete) own_load stream
first_complete zero stream low at = subst (IsComplete (tells Complete) own_load) (some_is at) a_complete
first_complete (suc other) stream low at = absurd (omega (arith, low))

is_running : Some Running ≡ Some Complete → ⊥
is_running e = cc

same_load : (x y : Load) (xs ys : List Load) → x ∷ xs ≡ y ∷ ys → x ≡ y
same_load x y xs ys e = grind (arith, e)

no_end_taken : Contains (event.Took [] ∷ []) event.TookEnd → ⊥
no_end_taken there = at (has_from (event.Took [] ∷ []) event.TookEnd there)
  where
    at : Has event.TookEnd (event.Took [] ∷ []) → ⊥
    at (inl e) = cc
    at (inr none) = none

pub ends_as_worked : EndsAsWorked
ends_as_worked = record {
  complete = record { load = own_load; done = done Complete; complete = only_first (λ number stream. IsComplete (tells Complete) own_load stream) a_complete; each = only_first (StreamIsDone (tables_of one_status)) stream_done };
  running = record { load = own_load; done = done Running; each = λ other stream at is. only_first (StreamIsDone (tables_of one_status)) stream_done other stream at; stream = configured a; configured = refl; incomplete = is_running; before = λ other stream low at. absurd (omega (arith, low)) };
  second = record { load = own_load; done = done Complete; each = second_done; stream = configured b; configured = refl; incomplete = none_some; before = first_complete };
  not_first = λ open_one. (let same = same_load own_load open_one.load [] open_one.done.older open_one.done.last in open_one.incomplete (subst (λ (load : Load). IsComplete (tells Complete) load open_one.stream) same (subst (λ (it : ConfStream). IsComplete (tells Complete) own_load it) (some_is open_one.configured) a_complete)));
  not_second = λ open_one. (let same = same_load own_load open_one.load [] open_one.done.older open_one.done.last in is_running (subst (λ (load : Load). IsComplete (tells Running) load (configured a)) (sym same) (open_one.before 0 (configured a) (omega arith) refl)));
  no_end = λ finished. (let same = same_load (record { opening = record { load = 1; moment = 1; plan = plan_of_a 0 0 false ∷ [] }; events = event.Took [] ∷ [] }) finished.load [] finished.done.older finished.done.last in no_end_taken (subst (λ (load : Load). Contains load.events event.TookEnd) (sym same) finished.done.ended));
}
