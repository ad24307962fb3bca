-- What becomes of a stream at the end of a load: its rows are merged, page by page, and then it is shown, where it is hidden.
use Rattle.std.specs.Prelude.{◌≡◌, ◌*◌, ◌<◌, ℕ, zero, suc, List, [], ◌∷◌, length, slice_get, slice_set, Bool, true, false, ◌&&◌, not, Option, None, Some, IfOk, IfSome, IsErrOf, Result, Ok, Err}
use Rattle.basics.specs.Told.{RoseIf}
use Rattle.airbyte_message.specs.declared.stream_status.StreamStatus.{StreamStatus}
use Rattle.airbyte_message.specs.declared.stream_status.StreamStatus.TheVariants.{Complete}
use Rattle.outside.specs.Dock.{DockSeen, DockGrew, DockMoves, ReadAtMost, ShowAdds, dock_events, tables}
use Rattle.outside.specs.declared.event.StreamPlan.{StreamPlan}
use Rattle.outside.specs.declared.fault.Fault.{Fault}
use Rattle.outside.specs.declared.fault.Fault.TheVariants as fault
use Rattle.outside.specs.declared.status.Status.{Status}
use Rattle.outside.specs.declared.status.Status.TheVariants as status
use Rattle.dedup_merge.specs.Pages.{IsAnswer, PageAdds, rows_of_page}
use Rattle.dedup_merge.specs.declared.pages.MergeFault.{MergeFault}
use Rattle.dedup_merge.specs.declared.pages.MergeFault.TheVariants as merge_fault
use Rattle.dedup_merge.specs.declared.pages.Merged.{Merged}
use Rattle.dedup_merge.specs.declared.pages.Merged.TheVariants as merged
use Rattle.book_queue.specs.Content.{all_of}
use Rattle.book_rules.specs.declared.answer.Finished.{Finished}
use Rattle.book_rules.specs.declared.answer.Finished.TheVariants as finished
use Rattle.book_rules.specs.Views.{BookView}

-- Whether a stream may be finished

abbrev pub has_none : {A : Type 0} → List A → Bool
has_none [] = true
has_none (x ∷ xs) = false

-- the input has ended, and no record is uncommitted
abbrev pub is_drained : BookView → Bool
is_drained book = book.tally.is_ended && has_none (all_of book.queue)

abbrev pub is_complete : Option (Option StreamStatus) → Bool
is_complete (Some (Some Complete)) = true
is_complete _ = false

-- the last status of the stream is that it is complete
abbrev pub is_complete_in : ℕ → BookView → Bool
is_complete_in stream book = is_complete (slice_get book.statuses stream)

-- Merges

-- a page of the stream's rows was merged, or could not be
pub record MergesOne (result : Result Merged MergeFault) (stream page : ℕ) (old new : DockSeen) : Type 0 where
  pub grew : DockGrew old new
  pub moves : DockMoves old new
  pub merges : PageAdds result stream page old new
  pub answer : IfOk result (λ answer. IfSome (tables new) (λ store. IsAnswer answer store stream))
  pub rows_read : ReadAtMost (2 * page) old.rows_read new.rows_read
  pub reads : IfSome (tables old) (λ store. ReadAtMost (rows_of_page store stream page) old.rows_read new.rows_read)
  pub faults : RoseIf (IsErrOf result merge_fault.StoreFault) old.counts.store_faults new.counts.store_faults
  pub counts : new.counts ≡ record (old.counts) { store_faults = new.counts.store_faults }

-- so many pages were merged, and rows were left behind each
abbrev pub MergesTo : ℕ → ℕ → ℕ → DockSeen → DockSeen → Type 0
MergesTo zero stream page old new = new ≡ old
MergesTo (suc count) stream page old new = (mid : DockSeen) × MergesTo count stream page old mid × MergesOne (Ok merged.More) stream page mid new

-- pages were merged up to one that ended so
pub record MergesUpTo (last : Result Merged MergeFault) (stream page : ℕ) (old new : DockSeen) : Type 0 where
  pub count : ℕ
  pub mid : DockSeen
  pub merges : MergesTo count stream page old mid
  pub ends : MergesOne last stream page mid new

-- Pages were merged until no row was left. Where one could not be merged, those before it were.
abbrev pub MergesAll : {T : Type 0} → Result T MergeFault → ℕ → ℕ → DockSeen → DockSeen → Type 0
MergesAll (Ok done) stream page old new = MergesUpTo (Ok merged.Done) stream page old new
MergesAll (Err stop) stream page old new = MergesUpTo (Err stop) stream page old new

-- a stream that is deduplicated is merged, and no other
abbrev pub MergesWhere : {T : Type 0} → Bool → Result T MergeFault → ℕ → ℕ → DockSeen → DockSeen → Type 0
MergesWhere true merged stream page old new = MergesAll merged stream page old new
MergesWhere false (Ok done) stream page old new = new ≡ old
MergesWhere false (Err stop) stream page old new = ⊥

-- Showing

-- the stream was shown, or could not be
pub record ShowsStream {T : Type 0} (result : Result T Fault) (stream : ℕ) (old new : DockSeen) : Type 0 where
  pub grew : DockGrew old new
  pub moves : DockMoves old new
  pub events : ShowAdds result stream (dock_events old) (dock_events new)
  pub face : new.face ≡ old.face
  pub rows_read : new.rows_read ≡ old.rows_read
  pub faults : RoseIf (IsErrOf result fault.Failed) old.counts.store_faults new.counts.store_faults
  pub counts : new.counts ≡ record (old.counts) { store_faults = new.counts.store_faults }

abbrev pub is_marked : Option Bool → Bool
is_marked (Some flag) = flag
is_marked None = false

-- the plan hides the stream, and it was not shown yet
abbrev pub is_to_show : ℕ → Bool → BookView → Bool
is_to_show stream hidden book = hidden && not (is_marked (slice_get book.shown stream))

-- Answers

abbrev pub merge_stop : MergeFault → Status
merge_stop merge_fault.StoreFault = status.StoreFault
merge_stop merge_fault.NoMemory = status.NoMemory

abbrev pub show_stop : Fault → Status
show_stop fault.Failed = status.StoreFault
show_stop fault.NoMemory = status.NoMemory

-- the book broke by this
pub record BreaksFinish (stop : Status) (result : Result Finished Status) (old new : BookView) : Type 0 where
  pub answer : result ≡ Err stop
  pub is : new ≡ record old { tally = record (old.tally) { broken = Some stop } }

-- the stream is one that was shown
pub record IsShown (stream : ℕ) (result : Result Finished Status) (old new : BookView) : Type 0 where
  pub answer : result ≡ Ok finished.Shown
  pub is : new ≡ record old { shown = slice_set old.shown stream true }

-- the stream stays as it is
pub record IsKept (result : Result Finished Status) (old new : BookView) : Type 0 where
  pub answer : result ≡ Ok finished.Kept
  pub is : new ≡ old

abbrev pub ShownAnswer : {T : Type 0} → Result T Fault → ℕ → Result Finished Status → BookView → BookView → Type 0
ShownAnswer (Ok done) stream result old new = IsShown stream result old new
ShownAnswer (Err stop) stream result old new = BreaksFinish (show_stop stop) result old new

pub record ShowsHidden (stream : ℕ) (result : Result Finished Status) (old new : BookView) : Type 0 where
  pub shown : Result (Unit {0}) Fault
  pub seen : DockSeen
  pub shows : ShowsStream shown stream old.seen seen
  pub answer : ShownAnswer shown stream result (record old { seen = seen }) new

-- a stream that is to be shown is shown, and every other is kept
abbrev pub ShowsWhere : Bool → ℕ → Result Finished Status → BookView → BookView → Type 0
ShowsWhere true stream result old new = ShowsHidden stream result old new
ShowsWhere false stream result old new = IsKept result old new

-- a stream is shown once it is merged
abbrev pub ShowsBehind : {T : Type 0} → Result T MergeFault → Bool → ℕ → Result Finished Status → BookView → BookView → Type 0
ShowsBehind (Ok done) to_show stream result old new = ShowsWhere to_show stream result old new
ShowsBehind (Err stop) to_show stream result old new = BreaksFinish (merge_stop stop) result old new

-- a stream is merged, where it is deduplicated, and then shown, where its plan hides it and it was not shown yet
pub record FinishesBy (dedup hidden : Bool) (stream : ℕ) (result : Result Finished Status) (old new : BookView) : Type 0 where
  pub merged : Result (Unit {0}) MergeFault
  pub seen : DockSeen
  pub merges : MergesWhere dedup merged stream old.limits.page old.seen seen
  pub shows : ShowsBehind merged (is_to_show stream hidden old) stream result (record old { seen = seen }) new

pub record Finishes (stream : ℕ) (result : Result Finished Status) (old new : BookView) : Type 0 where
  pub plan : StreamPlan
  pub planned : slice_get old.opening.plan stream ≡ Some plan
  pub finishes : FinishesBy plan.dedup plan.hidden stream result old new

abbrev pub FinishUnless : Option Status → Bool → Bool → ℕ → Result Finished Status → BookView → BookView → Type 0
FinishUnless (Some first) drained complete stream result old new = (result ≡ Err first) × (new ≡ old)
FinishUnless None false complete stream result old new = (result ≡ Ok finished.Undrained) × (new ≡ old)
FinishUnless None true false stream result old new = (result ≡ Ok finished.NotComplete) × (new ≡ old)
FinishUnless None true true stream result old new = Finishes stream result old new

-- What a finish of a stream does. A book that is broken stays, and answers what broke it first. Else the stream stays where the input
-- goes on or a record is uncommitted, and where its source did not say last that it is complete.
abbrev pub FinishAnswer : ℕ → Result Finished Status → BookView → BookView → Type 0
FinishAnswer stream result old new = FinishUnless old.tally.broken (is_drained old) (is_complete_in stream old) stream result old new

-- What `finish` asks of a book that is not broken: its dock, its plan and its own lists know the stream, and a page has a row.
pub record CanFinish (stream : ℕ) (book : BookView) : Type 0 where
  pub known : stream < length book.seen.face.side_marks
  pub planned : stream < length book.opening.plan
  pub listed : stream < length book.shown
  pub some : 0 < book.limits.page
