-- What a finish leaves of the streams: its own one is done where it says so, and each that was done stays so.
use Rattle.std.proofs.Common.{◌≡◌, ◌⊎◌, inl, inr, ℕ, List, [], ◌∷◌, ◌++◌, Option, None, Some, Bool, true, false, ◌&&◌, not, Result, Ok, Err, refl, sym, ◌∙◌, ap, subst}
use Rattle.std.specs.Prelude.{IfSome, slice_get}
use Rattle.std.proofs.lemmas.Bool.{cases_eq, false≢true}
use Rattle.std.proofs.lemmas.Option.{IfSome_then}
use Rattle.basics.specs.Told.{told_by, told_more}
use Rattle.catalog.specs.declared.stream.ConfStream.{ConfStream}
use Rattle.dedup_merge.specs.Merges.{unmerged_at}
use Rattle.dedup_merge.specs.Pages.{IsMergedWhole}
use Rattle.dedup_merge.specs.declared.pages.MergeFault.{MergeFault}
use Rattle.outside.specs.Dock.{DockSeen, ShowAdds, dock_events, showing}
use Rattle.outside.specs.Tables.{plan_at, shown_event, shown_plan, tables_of}
use Rattle.outside.specs.declared.event.Event.{Event}
use Rattle.outside.specs.declared.event.StreamPlan.{StreamPlan}
use Rattle.outside.specs.declared.fault.Fault.{Fault}
use Rattle.outside.specs.declared.fault.Fault.TheVariants as fault
use Rattle.outside.specs.declared.status.Status.{Status}
use Rattle.load_rules.specs.Finished.{StreamIsDone}
use Rattle.book_rules.specs.declared.answer.Finished.{Finished}
use Rattle.book_rules.specs.declared.answer.Finished.TheVariants as finished
use Rattle.book_rules.specs.Books.{IsBook}
use Rattle.book_rules.specs.Endings.{EndsStream, FinishIsDone, FinishLeaves, FinishLeavesDone, LeavesBook}
use Rattle.book_rules.specs.Finishes.{BreaksFinish, FinishUnless, MergesWhere, ShownAnswer, ShowsBehind, ShowsStream, ShowsWhere, is_complete_in, is_drained, is_marked, is_to_show, merge_stop, show_stop}
use Rattle.book_rules.specs.Views.{BookView, plan_now, plans_now}
use Rattle.book_rules.proofs.Finishing.{MayFinish, MayShow, may_finish, may_show, merged_may, plans_differ, plans_told, show_now, show_planned, where_stays}
use Rattle.book_rules.proofs.Lists.{none_some, some_is}
use Rattle.book_rules.proofs.Planned.{fits_at, now_at, now_id}
use Rattle.book_rules.proofs.Running.{PlansAre, of_tables}
use Rattle.book_rules.proofs.Turning.{NoneLeft}

-- The answer alone

fails_leaves : (stop : Status) (result : Result Finished Status) (old : BookView) (seen : DockSeen) (new : BookView) → BreaksFinish stop result (record old { seen = seen }) new → LeavesBook result old new
fails_leaves stop result old seen new b = subst (λ (answer : Result Finished Status). LeavesBook answer old new) (sym b.answer) (subst (LeavesBook (Err stop) old) (sym b.is) (record { is = refl; broken = refl }))

still_leaves : (done : Finished) (result : Result Finished Status) (old new : BookView) → old.tally.broken ≡ None → result ≡ Ok done → new ≡ old → LeavesBook result old new
still_leaves done result old new whole answer same = subst (λ (it : Result Finished Status). LeavesBook it old new) (sym answer) (subst (LeavesBook (Ok done) old) (sym same) (record { is = refl; broken = whole }))

shown_leaves : (shown : Result (Unit {0}) Fault) (stream : ℕ) (result : Result Finished Status) (old : BookView) (seen : DockSeen) (new : BookView) → old.tally.broken ≡ None → ShownAnswer shown stream result (record old { seen = seen }) new → LeavesBook result old new
shown_leaves (Ok done) stream result old seen new whole answer = subst (λ (it : Result Finished Status). LeavesBook it old new) (sym answer.answer) (subst (LeavesBook (Ok finished.Shown) old) (sym answer.is) (record { is = refl; broken = whole }))
shown_leaves (Err stop) stream result old seen new whole answer = fails_leaves (show_stop stop) result old seen new answer

shows_leave : (to_show : Bool) (stream : ℕ) (result : Result Finished Status) (old : BookView) (seen : DockSeen) (new : BookView) → old.tally.broken ≡ None → ShowsWhere to_show stream result (record old { seen = seen }) new → LeavesBook result old new
shows_leave true stream result old seen new whole shows = shown_leaves shows.shown stream result old shows.seen new whole shows.answer
shows_leave false stream result old seen new whole shows = subst (λ (it : Result Finished Status). LeavesBook it old new) (sym shows.answer) (subst (LeavesBook (Ok finished.Kept) old) (sym shows.is) (record { is = refl; broken = whole }))

behind_leaves : (merged : Result (Unit {0}) MergeFault) (to_show : Bool) (stream : ℕ) (result : Result Finished Status) (old : BookView) (seen : DockSeen) (new : BookView) → old.tally.broken ≡ None → ShowsBehind merged to_show stream result (record old { seen = seen }) new → LeavesBook result old new
behind_leaves (Ok done) to_show stream result old seen new whole shows = shows_leave to_show stream result old seen new whole shows
behind_leaves (Err stop) to_show stream result old seen new whole shows = fails_leaves (merge_stop stop) result old seen new shows

unless_leaves : (broken : Option Status) (drained complete : Bool) (stream : ℕ) (result : Result Finished Status) (old new : BookView) → old.tally.broken ≡ broken → FinishUnless broken drained complete stream result old new → LeavesBook result old new
unless_leaves (Some first) drained complete stream result old new b f = subst (λ (it : Result Finished Status). LeavesBook it old new) (sym f.0) (subst (LeavesBook (Err first) old) (sym f.1) (record { is = refl; broken = b }))
unless_leaves None false complete stream result old new b f = still_leaves finished.Undrained result old new b f.0 f.1
unless_leaves None true false stream result old new b f = still_leaves finished.NotComplete result old new b f.0 f.1
unless_leaves None true true stream result old new b f = behind_leaves f.finishes.merged (is_to_show stream f.plan.hidden old) stream result old f.finishes.seen new b f.finishes.shows

pub finish_leaves : FinishLeaves
finish_leaves number result old new answer = unless_leaves old.tally.broken (is_drained old) (is_complete_in number old) number result old new refl answer

-- The stream is done

and_true : (b : Bool) → (b && true) ≡ b
and_true true = refl
and_true false = refl

not_hidden : (plan : StreamPlan) (flag : Bool) → (plan.hidden && not flag) ≡ false → (plan_now plan flag).hidden ≡ false
not_hidden plan true e = refl
not_hidden plan false e = sym (and_true plan.hidden) ∙ e

-- pages were merged to the last one
where_none : (dedup : Bool) (stream page : ℕ) (old new : DockSeen) → MergesWhere {T = Unit {0}} dedup (Ok tt) stream page old new → dedup ≡ true → NoneLeft stream (dock_events new)
where_none true stream page old new r is = IfSome_then (dock_events new) (of_tables (λ store. IsMergedWhole store stream) (dock_events new) r.ends.answer) (λ events whole. whole.none_left)
where_none false stream page old new r is = absurd (false≢true is)

told_at : (P : List Event → Type 0) (told : Option (List Event)) (events : List Event) → told ≡ Some events → IfSome told P → P events
told_at P told events is holds = subst (λ (it : Option (List Event)). IfSome it P) is holds

-- a stream that is not to be shown is done once it is merged
kept_done : (number : ℕ) (stream : ConfStream) (plan : StreamPlan) (book : BookView) (trace : List Event) → MayFinish number plan book → slice_get book.catalog number ≡ Some stream → is_to_show number plan.hidden book ≡ false → (plan.dedup ≡ true → NoneLeft number (dock_events book.seen)) → dock_events book.seen ≡ Some trace → StreamIsDone (tables_of trace) number stream
kept_done number stream plan book trace may configured kept none told =
    let own = fits_at book.catalog book.opening.plan number stream may.is.planned configured in
    let same : own.plan ≡ plan = some_is own.plan plan (sym own.planned ∙ may.planned) in
    let are : (tables_of trace).plan ≡ plans_now book.opening.plan book.shown = told_at (λ events. (tables_of events).plan ≡ plans_now book.opening.plan book.shown) (dock_events book.seen) trace told (plans_told book may.is may.whole) in
    record {
      plan = plan_now plan (is_marked (slice_get book.shown number));
      planned = ap (λ (plans : List StreamPlan). slice_get plans number) are ∙ now_at book.opening.plan book.shown number plan may.planned;
      same = now_id plan (is_marked (slice_get book.shown number)) ∙ (ap (λ (it : StreamPlan). it.id) (sym same) ∙ own.fits.id);
      merged = λ dedup. told_at (λ events. unmerged_at (tables_of events) number ≡ []) (dock_events book.seen) trace told (none (ap (λ (it : StreamPlan). it.dedup) (sym same) ∙ (own.fits.dedup ∙ dedup)));
      shown = not_hidden plan (is_marked (slice_get book.shown number)) kept;
    }

-- and so is one that is shown
shown_done : (number : ℕ) (stream : ConfStream) (plan : StreamPlan) (book : BookView) (told : Option (List Event)) (trace : List Event) → MayShow number plan book → slice_get book.catalog number ≡ Some stream → (plan.dedup ≡ true → NoneLeft number (dock_events book.seen)) → dock_events book.seen ≡ told → told_by (showing number) told ≡ Some trace → StreamIsDone (tables_of trace) number stream
shown_done number stream plan book None trace may configured none told added = absurd (none_some trace added)
shown_done number stream plan book (Some events) trace may configured none told added =
    let own = fits_at book.catalog book.opening.plan number stream may.may.is.planned configured in
    let same : own.plan ≡ plan = some_is own.plan plan (sym own.planned ∙ may.may.planned) in
    let now = show_now number plan book events may told in
    let behind : events ++ shown_event (tables_of events) number ∷ [] ≡ trace = some_is (events ++ shown_event (tables_of events) number ∷ []) trace added in
    subst (λ (it : List Event). StreamIsDone (tables_of it) number stream) behind (record {
      plan = shown_plan plan;
      planned = now.own_plan;
      same = ap (λ (it : StreamPlan). it.id) (sym same) ∙ own.fits.id;
      merged = λ dedup. now.own (told_at (λ it. unmerged_at (tables_of it) number ≡ []) (dock_events book.seen) events told (none (ap (λ (it : StreamPlan). it.dedup) (sym same) ∙ (own.fits.dedup ∙ dedup))));
      shown = refl;
    })

hidden_done : (shown : Result (Unit {0}) Fault) (number : ℕ) (stream : ConfStream) (plan : StreamPlan) (result : Result Finished Status) (book : BookView) (seen : DockSeen) (new : BookView) (trace : List Event) → MayShow number plan book → slice_get book.catalog number ≡ Some stream → (plan.dedup ≡ true → NoneLeft number (dock_events book.seen)) → ShowsStream shown number book.seen seen → ShownAnswer shown number result (record book { seen = seen }) new → EndsStream result → dock_events new.seen ≡ Some trace → StreamIsDone (tables_of trace) number stream
hidden_done (Ok done) number stream plan result book seen new trace may configured none s answer ends told = shown_done number stream plan book (dock_events book.seen) trace may configured none refl (sym s.events ∙ (ap (λ (it : BookView). dock_events it.seen) (sym answer.is) ∙ told))
hidden_done (Err stop) number stream plan result book seen new trace may configured none s answer ends told = absurd (subst EndsStream answer.answer ends)

shows_done : (to_show : Bool) (number : ℕ) (stream : ConfStream) (plan : StreamPlan) (result : Result Finished Status) (book new : BookView) (trace : List Event) → MayFinish number plan book → slice_get book.catalog number ≡ Some stream → (plan.dedup ≡ true → NoneLeft number (dock_events book.seen)) → is_to_show number plan.hidden book ≡ to_show → ShowsWhere to_show number result book new → EndsStream result → dock_events new.seen ≡ Some trace → StreamIsDone (tables_of trace) number stream
shows_done true number stream plan result book new trace may configured none to_show shows ends told = hidden_done shows.shown number stream plan result book shows.seen new trace (may_show number plan book may to_show) configured none shows.shows shows.answer ends told
shows_done false number stream plan result book new trace may configured none to_show shows ends told = kept_done number stream plan book trace may configured to_show none (ap (λ (it : BookView). dock_events it.seen) (sym shows.is) ∙ told)

behind_done : (merged : Result (Unit {0}) MergeFault) (number : ℕ) (stream : ConfStream) (plan : StreamPlan) (result : Result Finished Status) (book : BookView) (seen : DockSeen) (new : BookView) (trace : List Event) → MayFinish number plan book → slice_get book.catalog number ≡ Some stream → MergesWhere plan.dedup merged number book.limits.page book.seen seen → ShowsBehind merged (is_to_show number plan.hidden book) number result (record book { seen = seen }) new → EndsStream result → dock_events new.seen ≡ Some trace → StreamIsDone (tables_of trace) number stream
behind_done (Ok done) number stream plan result book seen new trace may configured merges shows ends told = shows_done (is_to_show number plan.hidden book) number stream plan result (record book { seen = seen }) new trace (merged_may plan.dedup number plan book seen may merges) configured (where_none plan.dedup number book.limits.page book.seen seen merges) refl shows ends told
behind_done (Err stop) number stream plan result book seen new trace may configured merges shows ends told = absurd (subst EndsStream shows.answer ends)

unless_done : (broken : Option Status) (drained complete : Bool) (number : ℕ) (stream : ConfStream) (result : Result Finished Status) (old new : BookView) (trace : List Event) → old.tally.broken ≡ broken → is_drained old ≡ drained → is_complete_in number old ≡ complete → IsBook old → FinishUnless broken drained complete number result old new → EndsStream result → slice_get old.catalog number ≡ Some stream → dock_events new.seen ≡ Some trace → StreamIsDone (tables_of trace) number stream
unless_done (Some first) drained complete number stream result old new trace b d c is f ends configured told = absurd (subst EndsStream f.0 ends)
unless_done None false complete number stream result old new trace b d c is f ends configured told = absurd (subst EndsStream f.0 ends)
unless_done None true false number stream result old new trace b d c is f ends configured told = absurd (subst EndsStream f.0 ends)
unless_done None true true number stream result old new trace b d c is f ends configured told = behind_done f.finishes.merged number stream f.plan result old f.finishes.seen new trace (may_finish number result old new f is b d c) configured f.finishes.merges f.finishes.shows ends told

pub finish_is_done : FinishIsDone
finish_is_done number stream result old new trace is answer ends configured told = unless_done old.tally.broken (is_drained old) (is_complete_in number old) number stream result old new trace refl refl refl is answer ends configured told

-- Streams that were done

-- merges leave it so
merges_done : (number other : ℕ) (stream : ConfStream) (merged : Result (Unit {0}) MergeFault) (plan : StreamPlan) (book : BookView) (seen : DockSeen) (before now : List Event) → MayFinish number plan book → MergesWhere plan.dedup merged number book.limits.page book.seen seen → dock_events book.seen ≡ Some before → dock_events seen ≡ Some now → StreamIsDone (tables_of before) other stream → StreamIsDone (tables_of now) other stream
merges_done number other stream merged plan book seen before now may merges first second done =
    let stays = (where_stays plan.dedup merged number book.limits.page book.seen seen merges).stays in
    let plans = plans_now book.opening.plan book.shown in
    let were : PlansAre plans (dock_events book.seen) = plans_told book may.is may.whole in
    let old : (tables_of before).plan ≡ plans = told_at (λ events. (tables_of events).plan ≡ plans) (dock_events book.seen) before first were in
    let new : (tables_of now).plan ≡ plans = told_at (λ events. (tables_of events).plan ≡ plans) (dock_events seen) now second (stays.plans plans were) in
    record {
      plan = done.plan;
      planned = ap (λ (list : List StreamPlan). slice_get list other) (new ∙ sym old) ∙ done.planned;
      same = done.same;
      merged = λ dedup. told_at (λ events. unmerged_at (tables_of events) other ≡ []) (dock_events seen) now second (stays.left plans (plans_differ book may.is) were other (subst (NoneLeft other) (sym first) (done.merged dedup)));
      shown = done.shown;
    }

-- showing leaves another one so, and its own was not
show_leaves : (number other : ℕ) (stream : ConfStream) (plan : StreamPlan) (book : BookView) (before now : List Event) → MayShow number plan book → dock_events book.seen ≡ Some before → told_by (showing number) (Some before) ≡ Some now → StreamIsDone (tables_of before) other stream → StreamIsDone (tables_of now) other stream
show_leaves number other stream plan book before now may told added done = at (cases_eq other number)
  where
    behind : before ++ shown_event (tables_of before) number ∷ [] ≡ now
    behind = some_is (before ++ shown_event (tables_of before) number ∷ []) now added

    at : (other ≡ number) ⊎ (other ≡ number → ⊥) → StreamIsDone (tables_of now) other stream
    at (inl same) =
        let planned : Some done.plan ≡ Some plan = sym done.planned ∙ (ap (plan_at (tables_of before)) same ∙ show_planned number plan book before may told) in
        absurd (false≢true (sym done.shown ∙ (ap (λ (it : StreamPlan). it.hidden) (some_is done.plan plan planned) ∙ may.hidden)))
    at (inr apart) =
        let now_stays = show_now number plan book before may told in
        subst (λ (it : List Event). StreamIsDone (tables_of it) other stream) behind (record {
          plan = done.plan;
          planned = now_stays.other_plan other apart ∙ done.planned;
          same = done.same;
          merged = λ dedup. now_stays.other other apart ∙ done.merged dedup;
          shown = done.shown;
        })

same_done : (other : ℕ) (stream : ConfStream) (old new : DockSeen) (before now : List Event) → dock_events new ≡ dock_events old → dock_events old ≡ Some before → dock_events new ≡ Some now → StreamIsDone (tables_of before) other stream → StreamIsDone (tables_of now) other stream
same_done other stream old new before now same first second done = subst (λ (it : List Event). StreamIsDone (tables_of it) other stream) (some_is before now (sym first ∙ (sym same ∙ second))) done

adds_done : (shown : Result (Unit {0}) Fault) (number other : ℕ) (stream : ConfStream) (plan : StreamPlan) (book : BookView) (seen : DockSeen) (before now : List Event) → MayShow number plan book → ShowAdds shown number (dock_events book.seen) (dock_events seen) → dock_events book.seen ≡ Some before → dock_events seen ≡ Some now → StreamIsDone (tables_of before) other stream → StreamIsDone (tables_of now) other stream
adds_done (Ok done) number other stream plan book seen before now may added first second was = show_leaves number other stream plan book before now may first (ap (told_by (showing number)) (sym first) ∙ (sym added ∙ second)) was
adds_done (Err fault.Failed) number other stream plan book seen before now may (inl same) first second was = same_done other stream book.seen seen before now same first second was
adds_done (Err fault.Failed) number other stream plan book seen before now may (inr added) first second was = show_leaves number other stream plan book before now may first (ap (told_by (showing number)) (sym first) ∙ (sym added ∙ second)) was
adds_done (Err fault.NoMemory) number other stream plan book seen before now may same first second was = same_done other stream book.seen seen before now same first second was

shown_was : (shown : Result (Unit {0}) Fault) (stream : ℕ) (result : Result Finished Status) (book : BookView) (seen : DockSeen) (new : BookView) → ShownAnswer shown stream result (record book { seen = seen }) new → new.seen ≡ seen
shown_was (Ok done) stream result book seen new answer = ap (λ (it : BookView). it.seen) answer.is
shown_was (Err stop) stream result book seen new answer = ap (λ (it : BookView). it.seen) answer.is

shows_leave_done : (to_show : Bool) (number other : ℕ) (stream : ConfStream) (plan : StreamPlan) (result : Result Finished Status) (book new : BookView) (before now : List Event) → MayFinish number plan book → is_to_show number plan.hidden book ≡ to_show → ShowsWhere to_show number result book new → dock_events book.seen ≡ Some before → dock_events new.seen ≡ Some now → StreamIsDone (tables_of before) other stream → StreamIsDone (tables_of now) other stream
shows_leave_done true number other stream plan result book new before now may to_show shows first second was = adds_done shows.shown number other stream plan book shows.seen before now (may_show number plan book may to_show) shows.shows.events first (ap dock_events (sym (shown_was shows.shown number result book shows.seen new shows.answer)) ∙ second) was
shows_leave_done false number other stream plan result book new before now may to_show shows first second was = same_done other stream book.seen new.seen before now (ap (λ (it : BookView). dock_events it.seen) shows.is) first second was

behind_leaves_done : (merged : Result (Unit {0}) MergeFault) (number other : ℕ) (stream : ConfStream) (plan : StreamPlan) (result : Result Finished Status) (book : BookView) (seen : DockSeen) (new : BookView) (before now : List Event) → MayFinish number plan book → MergesWhere plan.dedup merged number book.limits.page book.seen seen → ShowsBehind merged (is_to_show number plan.hidden book) number result (record book { seen = seen }) new → dock_events book.seen ≡ Some before → dock_events new.seen ≡ Some now → StreamIsDone (tables_of before) other stream → StreamIsDone (tables_of now) other stream
behind_leaves_done (Ok done) number other stream plan result book seen new before now may merges shows first second was =
    let moves = (where_stays plan.dedup (Ok done) number book.limits.page book.seen seen merges).turns.moves in
    let mid : dock_events seen ≡ Some (before ++ moves.more) = moves.events ∙ ap (told_more moves.more) first in
    shows_leave_done (is_to_show number plan.hidden book) number other stream plan result (record book { seen = seen }) new (before ++ moves.more) now (merged_may plan.dedup number plan book seen may merges) refl shows mid second (merges_done number other stream (Ok done) plan book seen before (before ++ moves.more) may merges first mid was)
behind_leaves_done (Err stop) number other stream plan result book seen new before now may merges shows first second was = merges_done number other stream (Err stop) plan book seen before now may merges first (ap (λ (it : BookView). dock_events it.seen) (sym shows.is) ∙ second) was

unless_leaves_done : (broken : Option Status) (drained complete : Bool) (number other : ℕ) (stream : ConfStream) (result : Result Finished Status) (old new : BookView) (before now : List Event) → old.tally.broken ≡ broken → is_drained old ≡ drained → is_complete_in number old ≡ complete → IsBook old → FinishUnless broken drained complete number result old new → dock_events old.seen ≡ Some before → dock_events new.seen ≡ Some now → StreamIsDone (tables_of before) other stream → StreamIsDone (tables_of now) other stream
unless_leaves_done (Some first_stop) drained complete number other stream result old new before now b d c is f first second was = same_done other stream old.seen new.seen before now (ap (λ (it : BookView). dock_events it.seen) f.1) first second was
unless_leaves_done None false complete number other stream result old new before now b d c is f first second was = same_done other stream old.seen new.seen before now (ap (λ (it : BookView). dock_events it.seen) f.1) first second was
unless_leaves_done None true false number other stream result old new before now b d c is f first second was = same_done other stream old.seen new.seen before now (ap (λ (it : BookView). dock_events it.seen) f.1) first second was
unless_leaves_done None true true number other stream result old new before now b d c is f first second was = behind_leaves_done f.finishes.merged number other stream f.plan result old f.finishes.seen new before now (may_finish number result old new f is b d c) f.finishes.merges f.finishes.shows first second was

pub finish_leaves_done : FinishLeavesDone
finish_leaves_done number other stream result old new before now is answer first second was = unless_leaves_done old.tally.broken (is_drained old) (is_complete_in number old) number other stream result old new before now refl refl refl is answer first second was
