-- What a poll of a dock in memory adds.
use Rattle.std.proofs.Common.{◌≡◌, ℕ, List, [], ◌∷◌, ◌++◌, map, Bool, true, false, Some, refl, sym, ◌∙◌, ap, arith}
use Rattle.std.specs.Prelude.{if◌then◌else◌}
use Rattle.std.proofs.lemmas.List.{append-nil}
use Rattle.outside.specs.declared.dock.DockTally.{DockTally}
use Rattle.outside.specs.declared.event.Event.TheVariants.{Took, TookEnd}
use Rattle.outside.specs.declared.link.Polled.{Polled}
use Rattle.outside.specs.declared.link.Polled.TheVariants as polled
use Rattle.basics.specs.Told.{told_by, RoseIf}
use Rattle.outside.specs.Link.{QuietPoll}
use Rattle.outside.specs.Dock.{DockGrew, NoneFell, event_of, dock_events, took_over, TookAdds}
use Rattle.outside.specs.Tables.{side_marks_of}
use Rattle.outside_mem.specs.MemDock.{ToldEvent, told, DockState, seen_of, trace_tables, IsPlain, Gives, given_trace, given_quiet, ended}
use Rattle.outside_mem.proofs.DockLemmas.{grew_same, grew_event, events_added, marks_at_plain, tables_added}

tally_kept : (given : Polled) (old new : DockState) → Gives given old new → NoneFell old.tally new.tally
tally_kept given old new gives =
    let e : new.tally ≡ record (old.tally) { quiet = given_quiet given old.tally.quiet } = ap (λ (s : DockState). s.tally) gives.state in
    let r : new.tally.read_faults ≡ old.tally.read_faults = ap (λ (t : DockTally). t.read_faults) e in
    let s : new.tally.store_faults ≡ old.tally.store_faults = ap (λ (t : DockTally). t.store_faults) e in
    let w : new.tally.write_faults ≡ old.tally.write_faults = ap (λ (t : DockTally). t.write_faults) e in
    let o : new.tally.opens ≡ old.tally.opens = ap (λ (t : DockTally). t.opens) e in
    record { read_faults = omega arith; store_faults = omega arith; write_faults = omega arith; quiet = gives.kept; opens = omega arith }

plain_took : (line : List ℕ) → IsPlain (Took line)
plain_took line = record { tables = λ t. refl; over = λ o. refl }

-- Growth

end_grew : (old new : DockState) (b : Bool) → took_over (map event_of old.trace) ≡ b → new.trace ≡ ended old.tally old.trace → NoneFell old.tally new.tally → DockGrew (seen_of old) (seen_of new)
end_grew old new true e added counts = grew_same old new (added ∙ rw e) counts
end_grew old new false e added counts = grew_event old new TookEnd old.tally (added ∙ rw e) refl counts

grew_by : (given : Polled) (old new : DockState) → new.trace ≡ given_trace given old → NoneFell old.tally new.tally → DockGrew (seen_of old) (seen_of new)
grew_by (polled.Line line) old new added counts = grew_event old new (Took line) old.tally added refl counts
grew_by (polled.Torn line) old new added counts = grew_event old new (Took line) old.tally added refl counts
grew_by polled.TooLong old new added counts = grew_same old new added counts
grew_by polled.NotYet old new added counts = grew_same old new added counts
grew_by polled.End old new added counts = end_grew old new (took_over (map event_of old.trace)) refl added counts
grew_by polled.Failed old new added counts = grew_same old new added counts
grew_by polled.NoMemory old new added counts = grew_same old new added counts

pub gives_grew : (given : Polled) (old new : DockState) → Gives given old new → DockGrew (seen_of old) (seen_of new)
gives_grew given old new gives = grew_by given old new (ap (λ (s : DockState). s.trace) gives.state) (tally_kept given old new gives)

-- Events

same_events : (old new : DockState) → new.trace ≡ old.trace → dock_events (seen_of new) ≡ dock_events (seen_of old)
same_events old new e = ap (λ (t : List ToldEvent). Some (map event_of t)) e

end_events : (old new : DockState) (b : Bool) → took_over (map event_of old.trace) ≡ b → new.trace ≡ ended old.tally old.trace → dock_events (seen_of new) ≡ told_by (λ events. if took_over events then [] else TookEnd ∷ []) (dock_events (seen_of old))
end_events old new true e added = same_events old new (added ∙ rw e) ∙ rw e (ap Some (sym (append-nil (map event_of old.trace))))
end_events old new false e added = events_added old new TookEnd old.tally (added ∙ rw e) ∙ rw e

events_by : (given : Polled) (old new : DockState) → new.trace ≡ given_trace given old → TookAdds given (dock_events (seen_of old)) (dock_events (seen_of new))
events_by (polled.Line line) old new added = events_added old new (Took line) old.tally added
events_by (polled.Torn line) old new added = events_added old new (Took line) old.tally added
events_by polled.TooLong old new added = same_events old new added
events_by polled.NotYet old new added = same_events old new added
events_by polled.End old new added = end_events old new (took_over (map event_of old.trace)) refl added
events_by polled.Failed old new added = same_events old new added
events_by polled.NoMemory old new added = same_events old new added

pub gives_events : (given : Polled) (old new : DockState) → Gives given old new → TookAdds given (dock_events (seen_of old)) (dock_events (seen_of new))
gives_events given old new gives = events_by given old new (ap (λ (s : DockState). s.trace) gives.state)

-- Marks

same_marks : (old new : DockState) → new.trace ≡ old.trace → side_marks_of (trace_tables new.trace) ≡ side_marks_of (trace_tables old.trace)
same_marks old new e = ap (λ (t : List ToldEvent). side_marks_of (trace_tables t)) e

end_marks : (old new : DockState) (b : Bool) → took_over (map event_of old.trace) ≡ b → new.trace ≡ ended old.tally old.trace → side_marks_of (trace_tables new.trace) ≡ side_marks_of (trace_tables old.trace)
end_marks old new true e added = same_marks old new (added ∙ rw e)
end_marks old new false e added = let more : new.trace ≡ old.trace ++ told TookEnd old.tally ∷ [] = added ∙ rw e in ap side_marks_of (tables_added old.trace new.trace TookEnd old.tally more)

marks_by : (given : Polled) (old new : DockState) → new.trace ≡ given_trace given old → side_marks_of (trace_tables new.trace) ≡ side_marks_of (trace_tables old.trace)
marks_by (polled.Line line) old new added = marks_at_plain old.trace new.trace (Took line) old.tally (plain_took line) added
marks_by (polled.Torn line) old new added = marks_at_plain old.trace new.trace (Took line) old.tally (plain_took line) added
marks_by polled.TooLong old new added = same_marks old new added
marks_by polled.NotYet old new added = same_marks old new added
marks_by polled.End old new added = end_marks old new (took_over (map event_of old.trace)) refl added
marks_by polled.Failed old new added = same_marks old new added
marks_by polled.NoMemory old new added = same_marks old new added

pub gives_marks : (given : Polled) (old new : DockState) → Gives given old new → side_marks_of (trace_tables new.trace) ≡ side_marks_of (trace_tables old.trace)
gives_marks given old new gives = marks_by given old new (ap (λ (s : DockState). s.trace) gives.state)

-- Counts

quiet_by : (given : Polled) (quiet now : ℕ) → now ≡ given_quiet given quiet → QuietPoll given quiet now
quiet_by (polled.Line line) quiet now e = e
quiet_by (polled.Torn line) quiet now e = e
quiet_by polled.TooLong quiet now e = e
quiet_by polled.NotYet quiet now e = omega arith
quiet_by polled.End quiet now e = e
quiet_by polled.Failed quiet now e = e
quiet_by polled.NoMemory quiet now e = e

pub gives_quiet : (given : Polled) (old new : DockState) → Gives given old new → QuietPoll given old.tally.quiet new.tally.quiet
gives_quiet given old new gives = quiet_by given old.tally.quiet new.tally.quiet (ap (λ (s : DockState). s.tally.quiet) gives.state)

pub gives_faults : (given : Polled) (old new : DockState) → Gives given old new → RoseIf (given ≡ polled.Failed) old.tally.read_faults new.tally.read_faults
gives_faults given old new gives = record { kept = (tally_kept given old new gives).read_faults; rose = λ failed. absurd (gives.passes failed) }
