-- What a call of a dock in memory adds.
use Rattle.std.proofs.Common.{◌≡◌, ℕ, List, [], ◌∷◌, ◌++◌, map, Some, sym, ◌∙◌, ap, subst}
use Rattle.std.proofs.lemmas.List.{map-append}
use Rattle.basics.specs.Told.{told_more}
use Rattle.outside.specs.declared.dock.DockTally.{DockTally}
use Rattle.outside.specs.declared.event.Event.{Event}
use Rattle.outside.specs.declared.event.Event.TheVariants.{Committed}
use Rattle.outside.specs.declared.event.RawRow.{RawRow}
use Rattle.outside.specs.Dock.{DockGrew, NoneFell, IsToldBetween, event_of, dock_events}
use Rattle.outside.specs.Tables.{tables_of, tables_after, side_marks_of, plan_at}
use Rattle.outside.proofs.ToldLaws.{told_none}
use Rattle.outside.proofs.DockLaws.{none_fell_refl}
use Rattle.raw_tables.proofs.StoreLaws.{tables_more, marks_committed}
use Rattle.std.specs.Prelude.{Contains}
use Rattle.outside_mem.specs.Calls.{Calls, call_made, next_call}
use Rattle.outside_mem.specs.MemDock.{ToldEvent, told, DockState, seen_of, trace_tables, IsPlain, FailsOnly}

pub grew_same : (old new : DockState) → new.trace ≡ old.trace → NoneFell old.tally new.tally → DockGrew (seen_of old) (seen_of new)
grew_same old new same counts = record { counts = counts; more = []; grew = ap Some same ∙ sym (told_none (Some old.trace)); timed = tt }

pub grew_event : (old new : DockState) (event : Event) (tally : DockTally) → new.trace ≡ old.trace ++ told event tally ∷ [] → tally ≡ old.tally → NoneFell old.tally new.tally → DockGrew (seen_of old) (seen_of new)
grew_event old new event tally added at counts = record {
  counts = counts;
  more = told event tally ∷ [];
  grew = ap Some added;
  timed = (subst (λ (t : DockTally). IsToldBetween old.tally new.tally (told event t)) (sym at) (record { not_below = none_fell_refl old.tally; not_above = counts }), tt);
}

pub events_added : (old new : DockState) (event : Event) (tally : DockTally) → new.trace ≡ old.trace ++ told event tally ∷ [] → dock_events (seen_of new) ≡ told_more (event ∷ []) (dock_events (seen_of old))
events_added old new event tally added = ap Some (ap (map event_of) added ∙ map-append event_of old.trace (told event tally ∷ []))

pub tables_added : (before now : List ToldEvent) (event : Event) (tally : DockTally) → now ≡ before ++ told event tally ∷ [] → trace_tables now ≡ tables_after (trace_tables before) event
tables_added before now event tally added = ap tables_of (ap (map event_of) added ∙ map-append event_of before (told event tally ∷ [])) ∙ tables_more (map event_of before) event

pub marks_at_commit : (before now : List ToldEvent) (stream : ℕ) (rows : List RawRow) (tally : DockTally) → now ≡ before ++ told (Committed stream rows) tally ∷ [] → side_marks_of (trace_tables now) ≡ side_marks_of (trace_tables before)
marks_at_commit before now stream rows tally added = ap side_marks_of (tables_added before now (Committed stream rows) tally added) ∙ marks_committed (plan_at (trace_tables before) stream) rows (trace_tables before)

pub marks_at_plain : (before now : List ToldEvent) (event : Event) (tally : DockTally) → IsPlain event → now ≡ before ++ told event tally ∷ [] → side_marks_of (trace_tables now) ≡ side_marks_of (trace_tables before)
marks_at_plain before now event tally plain added = ap side_marks_of (tables_added before now event tally added ∙ plain.tables (trace_tables before))

-- a call that was to fail
pub fails_only : (old new : DockState) (calls : Calls) (tally : DockTally) → calls ≡ call_made old.calls → Contains old.calls.fails (next_call old.calls) → new ≡ record old { calls = calls; tally = tally } → FailsOnly old new
fails_only old new calls tally counted numbered is =
    let tallies : tally ≡ new.tally = sym (ap (λ (d : DockState). d.tally) is) in
    record { numbered = numbered; state = is ∙ (ap (λ (c : Calls). record old { calls = c; tally = tally }) counted ∙ ap (λ (t : DockTally). record old { calls = call_made old.calls; tally = t }) tallies) }
