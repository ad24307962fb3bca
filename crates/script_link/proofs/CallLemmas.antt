-- What the end of an attempt adds to a trace.
use Rattle.std.proofs.Common.{◌≡◌, ◌⊎◌, [], ◌∷◌, ◌++◌, Bool, true, false, Some, Result, Ok, Err, inl, inr, refl, sym, ◌∙◌, ap, arith}
use Rattle.outside.specs.Link.{Grew, NoneAbove}
use Rattle.outside.specs.declared.event.Event.{Event}
use Rattle.outside.specs.declared.event.Event.TheVariants as event
use Rattle.outside.specs.declared.fault.Fault.{Fault}
use Rattle.outside.specs.declared.fault.Fault.TheVariants as fault
use Rattle.outside.specs.declared.link.LinkCounts.{LinkCounts}
use Rattle.outside.proofs.ToldLaws.{told_none}
use Rattle.script_link.specs.Trace.{told}
use Rattle.script_link.specs.Link.{Goes, LinkState, called, ended, known_codes, link_failed, seen_of, stopped}

none_above_same : (a : LinkCounts) → NoneAbove a a
none_above_same a = record { state_faults = omega arith; link_faults = omega arith; quiet_source = omega arith; quiet_dest = omega arith; quiet_codes = omega arith; waits = omega arith }

grew_same : (old new : LinkState) → new.trace ≡ old.trace → NoneAbove old.counts new.counts → Grew (seen_of old) (seen_of new)
grew_same old new same counts = record { counts = counts; more = []; grew = ap Some same ∙ sym (told_none (Some old.trace)); timed = tt }

grew_event : (old new : LinkState) (e : Event) → new.trace ≡ old.trace ++ told e old.counts ∷ [] → NoneAbove old.counts new.counts → Grew (seen_of old) (seen_of new)
grew_event old new e added counts = record {
  counts = counts;
  more = told e old.counts ∷ [];
  grew = ap Some added;
  timed = (record { not_below = none_above_same old.counts; not_above = counts }, tt);
}

-- the end of both children, where they run
end_trace : (running : Bool) (old : LinkState) → old.face.running ≡ running → ((ended (called old)).trace ≡ old.trace) ⊎ ((ended (called old)).trace ≡ old.trace ++ told (event.Ended (known_codes (called old))) old.counts ∷ [])
end_trace true old e = inr (rw e)
end_trace false old e = inl (rw e)

end_grew : (old new : LinkState) → new.trace ≡ (ended (called old)).trace → ((ended (called old)).trace ≡ old.trace) ⊎ ((ended (called old)).trace ≡ old.trace ++ told (event.Ended (known_codes (called old))) old.counts ∷ []) → NoneAbove old.counts new.counts → Grew (seen_of old) (seen_of new)
end_grew old new is (inl same) counts = grew_same old new (is ∙ same) counts
end_grew old new is (inr added) counts = grew_event old new (event.Ended (known_codes (called old))) (is ∙ added) counts

pub stop_grew : {T : Type 0} (result : Result T Fault) (old new : LinkState) → Goes result old (stopped (ended (called old))) (stopped (link_failed (called old))) (stopped (called old)) new → NoneAbove old.counts new.counts → Grew (seen_of old) (seen_of new)
stop_grew (Ok value) old new goes counts = end_grew old new (ap (λ (s : LinkState). s.trace) goes.1) (end_trace old.face.running old refl) counts
stop_grew (Err fault.Failed) old new goes counts = grew_same old new (ap (λ (s : LinkState). s.trace) goes.1) counts
stop_grew (Err fault.NoMemory) old new goes counts = grew_same old new (ap (λ (s : LinkState). s.trace) goes.1) counts
