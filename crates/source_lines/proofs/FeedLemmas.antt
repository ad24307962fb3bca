-- A feed over a source, as contracts see it.
use Rattle.std.proofs.Common.{inl, inr, ◌⊎◌, ◌≡◌, ◌≢◌, ◌∙◌, ℕ, List, Option, None, Some, Result, Ok, Err, IfErr, IfSome, IsErrAnd, true, false, refl, sym, ap, subst}
use Rattle.basics.specs.Told.{RoseIf}
use Rattle.json_fields.specs.Answer.{IsOnly}
use Rattle.outside.specs.declared.status.Status.{Status}
use Rattle.outside.specs.declared.status.Status.TheVariants as status
use Rattle.outside.specs.Feed.{GivesLine, GivesNext, Left, RefusesTexts, StartsAlike}
use Rattle.catalog.specs.declared.stream.ConfStream.{ConfStream}
use Rattle.source_lines.specs.Begins.{BeginsAs}
use Rattle.source_lines.specs.Giving.{MayGiveRound, Round, first_round}
use Rattle.source_lines.specs.Rounds.{Advances, wants_memory}
use Rattle.source_lines.specs.SourceFeeds.{BeginsLines, Ended, Goes, MayBeginBy, MayBeginFrom, MayGiveFrom, feed_seen}
use Rattle.source_lines.specs.Sources.{Listed, OpensAlike, SourceSeen}
use Rattle.source_lines.proofs.RoundLemmas.{ok_no_fault, streams_narrow}

err_is : {A : Type 0} (why other : Status) → ◌≡◌ {A = Result A Status} (Err why) (Err other) → why ≡ other
err_is why other same = cc

-- an error is the same, whatever an Ok would have had
pub err_moved : {A B : Type 0} (why other : Status) → ◌≡◌ {A = Result A Status} (Err why) (Err other) → ◌≡◌ {A = Result B Status} (Err why) (Err other)
err_moved {A} {B} why other same = ap (λ (w : Status). Err w) (err_is why other same)

pub rose_moved : {P Q : Type 0} (before now : ℕ) → (Q → P) → RoseIf P before now → RoseIf Q before now
rose_moved before now f rose = record { kept = rose.kept; rose = λ happened. rose.rose (f happened) }

is_memory : (why : Status) → (why ≡ status.NoMemory) ⊎ (why ≢ status.NoMemory)
is_memory status.NoMemory = inl refl
is_memory other = inr (λ same. cc)

is_lost : (why : Status) → (why ≡ status.RowFault) ⊎ (why ≢ status.RowFault)
is_lost status.RowFault = inl refl
is_lost other = inr (λ same. cc)

memory_is : (why : Status) → wants_memory why ≡ true → why ≡ status.NoMemory
memory_is status.NoMemory is = refl
memory_is other is = absurd (no is)
  where
    no : ¬ (false ≡ true)
    no e = cc

not_memory : (why : Status) → wants_memory why ≡ false → why ≢ status.NoMemory
not_memory why is same = no (sym is ∙ ap wants_memory same)
  where
    no : ¬ (false ≡ true)
    no e = cc

pub if_none : {A : Type 0} (found : Option A) (P : A → Type 0) → found ≡ None → IfSome found P
if_none None P is = tt
if_none (Some value) P is = absurd (no value is)
  where
    no : {A : Type 0} (v : A) → ¬ (Some v ≡ None)
    no v e = cc

-- a source that could not be made ready
pub not_ready : {A : Type 0} (answer : Result A Status) (why : Status) (P : Status → Type 0) → IsErrAnd answer (λ e. e ≡ why) → (why ≡ status.NoMemory) ⊎ (why ≡ status.RowFault)
    → IfErr answer (λ e. e ≢ status.NoMemory → e ≢ status.RowFault → P e)
not_ready (Ok found) why P is cause = absurd is
not_ready (Err e) why P is cause = λ memory fault. elim cause [ inl none ↦ absurd (memory (is ∙ none)) | inr lost ↦ absurd (fault (is ∙ lost)) ]

-- texts that are refused
pub refused_by : {Start : Type 0} (Begins : List ℕ → List ℕ → Result (List ConfStream × List Start) Status → Type 0) (Opens : ℕ → ConfStream → Start → Result Listed Status → Type 0) (moment : ℕ) (catalog states : List ℕ) (why : Status)
    → (why ≢ status.NoMemory → why ≢ status.RowFault → IsOnly (Begins catalog states) (Err why))
    → RefusesTexts (λ text list found. MayBeginBy (Begins text list) Opens moment found) catalog states why
refused_by Begins Opens moment catalog states why by_texts = elim (is_memory why) [
  | inl memory ↦ inl memory
  | inr other ↦ inr (elim (is_lost why) [ inl lost ↦ inl lost | inr another ↦ inr (by_texts other another) ])
]

-- before the first stream, all streams may give theirs
pub begins_lines : {Start : Type 0} (Begins : Result (List ConfStream × List Start) Status → Type 0) (Old New : ℕ → ConfStream → Start → Result Listed Status → Type 0) (moment : ℕ) (round : Round Start)
    → IsOnly Begins (Ok (round.streams, round.starts)) → round ≡ first_round round.streams round.starts → OpensAlike Old New → (left : Left) → MayGiveRound New moment round left → BeginsLines Begins Old moment left
begins_lines {Start} Begins Old New moment round read first alike left may = record {
  streams = round.streams;
  starts = round.starts;
  read = read;
  gives = streams_narrow Old New moment 0 round.streams round.starts alike left (subst (λ (r : Round Start). MayGiveRound New moment r left) first may);
}

-- a start leads to what it could lead to before
pub starts_alike : {Start : Type 0} (Starts : ConfStream → Option (List ℕ) → Start → Type 0) (old new : SourceSeen) (Old New : ℕ → ConfStream → Start → Result Listed Status → Type 0) (moment : ℕ)
    → new ≡ record old { faults = new.faults } → OpensAlike Old New
    → StartsAlike (MayBeginFrom Starts old Old moment) (MayBeginFrom Starts new New moment)
starts_alike Starts old new Old New moment others alike catalog states (Ok left) may = record {
  streams = may.streams;
  starts = may.starts;
  read = subst (λ (s : SourceSeen). IsOnly (BeginsAs Starts s.is_known catalog states) (Ok (may.streams, may.starts))) others may.read;
  gives = streams_narrow Old New moment 0 may.streams may.starts alike left may.gives;
}
starts_alike Starts old new Old New moment others alike catalog states (Err why) may =
    subst (λ (s : SourceSeen). IsOnly (BeginsAs Starts s.is_known catalog states) (Err why)) others may

-- ---- the next line

-- a line is the first
pub given_next : {Start : Type 0} (old new : SourceSeen) (Old New : ℕ → ConfStream → Start → Result Listed Status → Type 0) (moment : ℕ) (round next : Round Start) (answer : Result (Option (List ℕ)) Status) (line : List ℕ)
    → answer ≡ Ok (Some line) → Advances answer (MayGiveRound Old moment round) (MayGiveRound New moment next) → (¬ (answer ≡ Err status.RowFault) → new.faults ≡ old.faults)
    → GivesLine line (MayGiveFrom Old moment (Goes round)) (MayGiveFrom New moment (Goes next)) (feed_seen old (Goes round)) (feed_seen new (Goes next))
given_next {Start} old new Old New moment round next answer line is goes stays = record {
  stays = ap (λ (n : ℕ). record { ended = None; faults = n }) (stays (λ lost. ok_no_fault (Some line) status.RowFault (sym is ∙ lost)));
  first = subst (λ (r : Result (Option (List ℕ)) Status). Advances r (MayGiveRound Old moment round) (MayGiveRound New moment next)) is goes;
}

-- memory was wanting
pub wants_next : {Start : Type 0} (old new : SourceSeen) (Old New : ℕ → ConfStream → Start → Result Listed Status → Type 0) (moment : ℕ) (round next : Round Start) (answer : Result (Option (List ℕ)) Status) (why : Status)
    → answer ≡ Err why → wants_memory why ≡ true → Advances answer (MayGiveRound Old moment round) (MayGiveRound New moment next) → (¬ (answer ≡ Err status.RowFault) → new.faults ≡ old.faults)
    → GivesNext (Err why) (MayGiveFrom Old moment (Goes round)) (MayGiveFrom New moment (Goes next)) (feed_seen old (Goes round)) (feed_seen new (Goes next))
wants_next {Start} old new Old New moment round next answer why is wants goes stays =
    let memory = memory_is why wants in
    let moved = subst (λ (r : Result (Option (List ℕ)) Status). Advances r (MayGiveRound Old moment round) (MayGiveRound New moment next)) is goes in (
      moved.0,
      inl (
        record { is = memory; stays = ap (λ (n : ℕ). record { ended = None; faults = n }) (stays (λ lost. no_loss (sym memory ∙ err_is {A = Option (List ℕ)} why status.RowFault (sym is ∙ lost)))) },
        moved.1 memory,
      ),
    )
  where
    no_loss : ¬ (status.NoMemory ≡ status.RowFault)
    no_loss same = cc

-- a refusal that is not want of memory ends the feed
pub ends_next : {Start : Type 0} (old new : SourceSeen) (Old New : ℕ → ConfStream → Start → Result Listed Status → Type 0) (moment : ℕ) (round next : Round Start) (answer : Result (Option (List ℕ)) Status) (why : Status)
    → answer ≡ Err why → wants_memory why ≡ false → Advances answer (MayGiveRound Old moment round) (MayGiveRound New moment next) → RoseIf (answer ≡ Err status.RowFault) old.faults new.faults
    → (¬ (answer ≡ Err status.RowFault) → new.faults ≡ old.faults)
    → GivesNext (Err why) (MayGiveFrom Old moment (Goes round)) (MayGiveFrom New moment (Ended why)) (feed_seen old (Goes round)) (feed_seen {Start = Start} new (Ended why))
ends_next {Start} old new Old New moment round next answer why is want goes rose stays =
    let other = not_memory why want in
    let moved = subst (λ (r : Result (Option (List ℕ)) Status). Advances r (MayGiveRound Old moment round) (MayGiveRound New moment next)) is goes in (
      moved.0,
      elim (is_lost why) [
        | inl lost ↦ inr (inl (record { is = lost; rose = rose.rose (is ∙ ap (λ (w : Status). Err w) lost); kept = rose.kept; ended = refl }))
        | inr another ↦ inr (inr (elim moved.2 [
          | inl memory ↦ absurd (other memory)
          | inr cause ↦ elim cause [
            | inl lost ↦ absurd (another lost)
            | inr over ↦ record {
              memory = other;
              rows = another;
              over = over;
              ended = ap (λ (n : ℕ). record { ended = Some why; faults = n }) (stays (λ lost. another (err_is {A = Option (List ℕ)} why status.RowFault (sym is ∙ lost))));
            }
          ]
        ]))
      ],
    )
