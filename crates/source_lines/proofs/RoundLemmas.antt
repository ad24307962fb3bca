-- What a round may give, stream by stream.
use Rattle.std.proofs.Common.{inl, inr, ◌≡◌, ◌∙◌, ◌≤◌, ℕ, ◌+◌, List, [], ◌∷◌, drop, length, slice_get, Option, None, Some, Result, Ok, Err, IsErrAnd, IfErr, IfOk, OnErr, refl, sym, ap, subst}
use Rattle.std.proofs.lemmas.List.{drop_all}
use Rattle.outside.specs.declared.status.Status.{Status}
use Rattle.outside.specs.declared.status.Status.TheVariants as status
use Rattle.outside.specs.Feed.{Left, Narrows, NarrowsBehind, anything, behind_line, nothing_left}
use Rattle.catalog.specs.declared.stream.ConfStream.{ConfStream}
use Rattle.source_lines.specs.Turns.{GivesLine}
use Rattle.source_lines.specs.Sources.{Listed, OpensAlike, SourceSeen}
use Rattle.source_lines.specs.Giving.{MayGiveLines, MayGiveRound, MayGiveStream, MayGiveStreams, Opened, Refused, Round, Untold, listed_lines}
use Rattle.source_lines.specs.Rounds.{Advances, OpensNext, OpensNotNext}
use Rattle.source_lines.proofs.BeginLemmas.{left_with}

-- ---- what may be given where what streams may have has narrowed

lines_narrow : (lines : List (List ℕ)) (Before After : Left → Type 0) → Narrows Before After → Narrows (MayGiveLines lines Before) (MayGiveLines lines After)
lines_narrow [] Before After narrows left gives = narrows left gives
lines_narrow (line ∷ lines) Before After narrows left (inl untold) = inl untold
lines_narrow (line ∷ lines) Before After narrows left (inr more) = inr (more.0, more.1, lines_narrow lines Before After narrows more.0 more.2)

stream_narrow : {Start : Type 0} (Old New : ℕ → ConfStream → Start → Result Listed Status → Type 0) (moment number : ℕ) (stream : ConfStream) (start : Start) (Before After : Left → Type 0)
    → OpensAlike Old New → Narrows Before After → Narrows (MayGiveStream moment stream.id (Old number stream start) Before) (MayGiveStream moment stream.id (New number stream start) After)
stream_narrow Old New moment number stream start Before After alike narrows left (Untold untold) = Untold untold
stream_narrow Old New moment number stream start Before After alike narrows left (Refused why opens is) = Refused why (alike number stream start (Err why) opens) is
stream_narrow Old New moment number stream start Before After alike narrows left (Opened listed opens gives) =
    Opened listed (alike number stream start (Ok listed) opens) (lines_narrow (listed_lines moment stream.id listed) Before After narrows left gives)

pub streams_narrow : {Start : Type 0} (Old New : ℕ → ConfStream → Start → Result Listed Status → Type 0) (moment number : ℕ) (streams : List ConfStream) (starts : List Start)
    → OpensAlike Old New → Narrows (MayGiveStreams Old moment number streams starts) (MayGiveStreams New moment number streams starts)
streams_narrow Old New moment number [] starts alike left gives = gives
streams_narrow Old New moment number (stream ∷ streams) [] alike left gives = gives
streams_narrow Old New moment number (stream ∷ streams) (start ∷ starts) alike left gives =
    stream_narrow Old New moment number stream start (MayGiveStreams Old moment (number + 1) streams starts) (MayGiveStreams New moment (number + 1) streams starts) alike
    (streams_narrow Old New moment (number + 1) streams starts alike) left gives

pub round_narrow : {Start : Type 0} (Old New : ℕ → ConfStream → Start → Result Listed Status → Type 0) (moment : ℕ) (round : Round Start) → OpensAlike Old New
    → Narrows (MayGiveRound Old moment round) (MayGiveRound New moment round)
round_narrow Old New moment round alike =
    lines_narrow round.lines (MayGiveStreams Old moment round.next (drop round.next round.streams) (drop round.next round.starts)) (MayGiveStreams New moment round.next (drop round.next round.streams) (drop round.next round.starts))
    (streams_narrow Old New moment round.next (drop round.next round.streams) (drop round.next round.starts) alike)

-- ---- nothing may be said of what comes

lines_untold : (lines : List (List ℕ)) (Behind : Left → Type 0) → Behind anything → MayGiveLines lines Behind anything
lines_untold [] Behind untold = untold
lines_untold (line ∷ lines) Behind untold = inl refl

streams_untold : {Start : Type 0} (Opens : ℕ → ConfStream → Start → Result Listed Status → Type 0) (moment number : ℕ) (streams : List ConfStream) (starts : List Start) → MayGiveStreams Opens moment number streams starts anything
streams_untold Opens moment number [] starts = inl refl
streams_untold Opens moment number (stream ∷ streams) [] = refl
streams_untold Opens moment number (stream ∷ streams) (start ∷ starts) = Untold refl

pub round_untold : {Start : Type 0} (Opens : ℕ → ConfStream → Start → Result Listed Status → Type 0) (moment : ℕ) (round : Round Start) → MayGiveRound Opens moment round anything
round_untold Opens moment round =
    lines_untold round.lines (MayGiveStreams Opens moment round.next (drop round.next round.streams) (drop round.next round.starts))
    (streams_untold Opens moment round.next (drop round.next round.streams) (drop round.next round.starts))

-- ---- one line

-- a round whose stream has no line left is as it was
pub round_same : {Start : Type 0} (old new : Round Start) → new ≡ record old { lines = new.lines } → GivesLine None old.lines new.lines → new ≡ old
round_same {Start} old new is none = is ∙ ap (λ (lines : List (List ℕ)). record old { lines = lines }) (none.1 ∙ sym none.0)

-- the first of the lines that may be given
pub gives : {Start : Type 0} (Opens : ℕ → ConfStream → Start → Result Listed Status → Type 0) (moment : ℕ) (old new : Round Start) (line : List ℕ)
    → new ≡ record old { lines = new.lines } → GivesLine (Some line) old.lines new.lines → NarrowsBehind line (MayGiveRound Opens moment old) (MayGiveRound Opens moment new)
gives {Start} Opens moment old new line is first left may =
    let Behind = MayGiveStreams Opens moment old.next (drop old.next old.streams) (drop old.next old.starts) in
    let moved = subst (λ (r : Round Start). MayGiveRound Opens moment r left) is may in
    subst (λ (lines : List (List ℕ)). MayGiveLines lines Behind (behind_line line left)) (sym first) (inr (left, refl, moved))

-- ---- the next stream

-- where no line is left, the streams from the next on
at_streams : {Start : Type 0} (Opens : ℕ → ConfStream → Start → Result Listed Status → Type 0) (moment : ℕ) (old : Round Start) → old.lines ≡ []
    → Narrows (MayGiveRound Opens moment old) (MayGiveStreams Opens moment old.next (drop old.next old.streams) (drop old.next old.starts))
at_streams Opens moment old none left may =
    subst (λ (lines : List (List ℕ)). MayGiveLines lines (MayGiveStreams Opens moment old.next (drop old.next old.streams) (drop old.next old.starts)) left) (sym none) may

-- the first of them is the next
at_next : {Start : Type 0} (Opens : ℕ → ConfStream → Start → Result Listed Status → Type 0) (moment : ℕ) (old : Round Start) (stream : ConfStream) (start : Start)
    → old.lines ≡ [] → slice_get old.streams old.next ≡ Some stream → slice_get old.starts old.next ≡ Some start
    → Narrows (MayGiveRound Opens moment old) (MayGiveStream moment stream.id (Opens old.next stream start) (MayGiveStreams Opens moment (old.next + 1) (drop (old.next + 1) old.streams) (drop (old.next + 1) old.starts)))
at_next {Start} Opens moment old stream start none at from left may =
    at_streams Opens moment old none left
    (subst (λ (streams : List ConfStream). MayGiveStreams Opens moment old.next streams (drop old.next old.starts) left) (sym (left_with old.streams old.next stream at))
    (subst (λ (starts : List Start). MayGiveStreams Opens moment old.next (stream ∷ drop (old.next + 1) old.streams) starts left) (sym (left_with old.starts old.next start from)) may))

-- a stream that was opened has the lines that may come
pub opened_narrows : {Start : Type 0} (Old New : ℕ → ConfStream → Start → Result Listed Status → Type 0) (moment : ℕ) (old mid : Round Start) → old.lines ≡ [] → OpensAlike Old New → OpensNext Old moment old mid
    → Narrows (MayGiveRound Old moment old) (MayGiveRound New moment mid)
opened_narrows {Start} Old New moment old mid none alike o left may =
    let before = round_narrow Old New moment mid alike left may in
    at_next Old moment old o.stream o.start none o.at o.from left (Opened o.listed o.opens (subst (λ (r : Round Start). MayGiveRound Old moment r left) o.is before))

-- an opened stream has a line
opened_gives : {Start : Type 0} (Opens : ℕ → ConfStream → Start → Result Listed Status → Type 0) (moment : ℕ) (old mid : Round Start) (now : List (List ℕ)) → OpensNext Opens moment old mid → ¬ GivesLine None mid.lines now
opened_gives {Start} Opens moment old mid now o none = no_line (listed_lines moment o.stream.id o.listed) (sym (ap (λ (r : Round Start). r.lines) o.is) ∙ none.0)
  where
    no_line : (lines : List (List ℕ)) → ¬ (listed_lines moment o.stream.id o.listed ≡ [])
    no_line lines same = cc

-- where no stream is left, all may be over
pub over : {Start : Type 0} (Opens : ℕ → ConfStream → Start → Result Listed Status → Type 0) (moment : ℕ) (old : Round Start) → old.lines ≡ [] → length old.streams ≤ old.next
    → MayGiveRound Opens moment old (nothing_left status.Ok)
over Opens moment old none all =
    at_streams Opens moment old none (nothing_left status.Ok)
    (subst (λ (streams : List ConfStream). MayGiveStreams Opens moment old.next streams (drop old.next old.starts) (nothing_left status.Ok)) (sym (drop_all old.next old.streams all)) (inr refl))

-- a stream that is refused ends the lines
pub not_opened : {Start : Type 0} (Old New : ℕ → ConfStream → Start → Result Listed Status → Type 0) (moment : ℕ) (old new : Round Start) (why : Status) → old.lines ≡ [] → new ≡ old → OpensAlike Old New → OpensNotNext Old old why
    → Advances (Err why) (MayGiveRound Old moment old) (MayGiveRound New moment new)
not_opened {Start} Old New moment old new why none same alike o = (
  o.refused.0,
  λ memory left may. round_narrow Old New moment old alike left (subst (λ (r : Round Start). MayGiveRound New moment r left) same may),
  elim o.refused.1 [
    | inl memory ↦ inl memory
    | inr other ↦ inr (elim other [ inl fault ↦ inl fault | inr opens ↦ inr (at_next Old moment old o.stream o.start none o.at o.from (nothing_left why) (Refused why opens refl)) ])
  ],
)

-- the answer of a stream that was opened
pub opened_answer : {Start : Type 0} (Old New : ℕ → ConfStream → Start → Result Listed Status → Type 0) (moment : ℕ) (old mid new : Round Start) (answer : Result (Option (List ℕ)) Status) → old.lines ≡ [] → OpensAlike Old New → OpensNext Old moment old mid
    → IfOk answer (λ found. GivesLine found mid.lines new.lines) → new ≡ record mid { lines = new.lines } → IfErr answer (λ why. why ≡ status.NoMemory) → OnErr answer (new ≡ mid)
    → Advances answer (MayGiveRound Old moment old) (MayGiveRound New moment new)
opened_answer Old New moment old mid new (Ok (Some line)) none alike o found is memory stays =
    λ left may. opened_narrows Old New moment old mid none alike o (behind_line line left) (gives New moment mid new line is found left may)
opened_answer Old New moment old mid new (Ok None) none alike o found is memory stays = absurd (opened_gives Old moment old mid new.lines o found)
opened_answer {Start} Old New moment old mid new (Err why) none alike o found is memory stays = (
  λ ok. not_ok (sym memory ∙ ok),
  λ same left may. opened_narrows Old New moment old mid none alike o left (subst (λ (r : Round Start). MayGiveRound New moment r left) stays may),
  inl memory,
)
  where
    not_ok : ¬ (status.NoMemory ≡ status.Ok)
    not_ok same = cc

-- an error as it came
pub as_it_came : (answer : Result (Option (List ℕ)) Status) (why : Status) (Before After : Left → Type 0) → IsErrAnd answer (λ e. e ≡ why) → Advances (Err why) Before After → Advances answer Before After
as_it_came (Ok found) why Before After is goes = absurd is
as_it_came (Err e) why Before After is goes = subst (λ (w : Status). Advances (Err w) Before After) (sym is) goes

-- a source of which nothing changed
pub source_same : (source now : SourceSeen) → now ≡ record source { faults = now.faults } → now.faults ≡ source.faults → now ≡ source
source_same source now others same = others ∙ ap (λ (n : ℕ). record source { faults = n }) same

pub ok_no_fault : {A : Type 0} (value : A) (why : Status) → ¬ (◌≡◌ {A = Result A Status} (Ok value) (Err why))
ok_no_fault value why same = cc
