-- Quiet turns in a row are counted.
use Rattle.std.proofs.Common.{arith, ◌≡◌, ◌⊎◌, inl, inr, ℕ, ◌+◌, ◌-◌, ◌^◌, min, ◌≤◌, List, [], ◌∷◌, ◌++◌, Bool, true, false, cond, Option, None, Some, refl, sym, ◌∙◌, ap, subst, append-nil, append_assoc, filter, fold, map}
use Rattle.std.specs.List.{AllByRecursion}
use Rattle.std.specs.Prelude.{option_map}
use Rattle.std.proofs.lemmas.Bool.{false≢true}
use Rattle.std.proofs.lemmas.List.{map-append}
use Rattle.std.proofs.lemmas.List.Elements.{filter-append}
use Rattle.std.proofs.lemmas.List.Sums.{fold-append}
use Rattle.basics.specs.Told.{RoseBy, Rose, told_more}
use Rattle.outside.specs.Event.{is_links}
use Rattle.outside.specs.Link.{Seen, Grew, IsBetween, NoneAbove, Told, own_events}
use Rattle.outside.specs.declared.event.Codes.{Codes}
use Rattle.outside.specs.declared.event.Event.{Event}
use Rattle.outside.specs.declared.event.Event.TheVariants as event
use Rattle.outside.specs.declared.link.LinkCounts.{LinkCounts}
use Rattle.attempt_turns.specs.Silence.{Waited, breaks_silence, counted_from, names_codes, names_source}
use Rattle.attempt_turns.specs.declared.worker.Worker.{Worker}
use Rattle.attempt_close.specs.Turns.{Rests, SilentSince}

-- ---- counts

pub rose_none : (a b : ℕ) → a ≤ b → RoseBy 0 a b
rose_none a b within = omega (arith, within)

pub rose_then : (m n a b c : ℕ) → RoseBy m a b → RoseBy n b c → RoseBy (m + n) a c
rose_then m n a b c first then = omega (arith, first, then)

pub rose_from : (n low a b : ℕ) → low ≤ a → RoseBy n a b → RoseBy n low b
rose_from n low a b below rose = omega (arith, below, rose)

pub rose_to : (n a b high : ℕ) → RoseBy n a b → b ≤ high → RoseBy n a high
rose_to n a b high rose above = omega (arith, rose, above)

le_then : (a b c : ℕ) → a ≤ b → b ≤ c → a ≤ c
le_then a b c first then = omega (arith, first, then)

pub none_above : (a b c : LinkCounts) → NoneAbove a b → NoneAbove b c → NoneAbove a c
none_above a b c x y = record {
  state_faults = le_then a.state_faults b.state_faults c.state_faults x.state_faults y.state_faults;
  link_faults = le_then a.link_faults b.link_faults c.link_faults x.link_faults y.link_faults;
  quiet_source = le_then a.quiet_source b.quiet_source c.quiet_source x.quiet_source y.quiet_source;
  quiet_dest = le_then a.quiet_dest b.quiet_dest c.quiet_dest x.quiet_dest y.quiet_dest;
  quiet_codes = le_then a.quiet_codes b.quiet_codes c.quiet_codes x.quiet_codes y.quiet_codes;
  waits = le_then a.waits b.waits c.waits x.waits y.waits;
}

pub none_same : (a : LinkCounts) → NoneAbove a a
none_same a = record { state_faults = omega arith; link_faults = omega arith; quiet_source = omega arith; quiet_dest = omega arith; quiet_codes = omega arith; waits = omega arith }

-- ---- turns

waited_none : (w : Worker) (now : Seen) → Waited 0 w now.counts now
waited_none w now = record {
  waits = rose_none now.counts.waits now.counts.waits (omega arith);
  dest = λ named. rose_none now.counts.quiet_dest now.counts.quiet_dest (omega arith);
  source = λ named. rose_none now.counts.quiet_source now.counts.quiet_source (omega arith);
  codes = λ named. rose_none now.counts.quiet_codes now.counts.quiet_codes (omega arith);
}

waited_more : (turns : ℕ) (w : Worker) (from : LinkCounts) (between now : Seen) → now.face.codes ≡ between.face.codes → Waited turns w from between → Waited 1 w between.counts now → Waited (turns + 1) w from now
waited_more turns w from between now same before one = record {
  waits = rose_then turns 1 from.waits between.counts.waits now.counts.waits before.waits one.waits;
  dest = λ named. rose_then turns 1 from.quiet_dest between.counts.quiet_dest now.counts.quiet_dest (before.dest named) (one.dest named);
  source = λ named. rose_then turns 1 from.quiet_source between.counts.quiet_source now.counts.quiet_source (before.source (subst (λ it. names_source w it ≡ true) same named)) (one.source named);
  codes = λ named. rose_then turns 1 from.quiet_codes between.counts.quiet_codes now.counts.quiet_codes (before.codes (subst (λ it. names_codes w it ≡ true) same named)) (one.codes named);
}

pub waited_from : (turns : ℕ) (w : Worker) (low from : LinkCounts) (now : Seen) → NoneAbove low from → Waited turns w from now → Waited turns w low now
waited_from turns w low from now below waited = record {
  waits = rose_from turns low.waits from.waits now.counts.waits below.waits waited.waits;
  dest = λ named. rose_from turns low.quiet_dest from.quiet_dest now.counts.quiet_dest below.quiet_dest (waited.dest named);
  source = λ named. rose_from turns low.quiet_source from.quiet_source now.counts.quiet_source below.quiet_source (waited.source named);
  codes = λ named. rose_from turns low.quiet_codes from.quiet_codes now.counts.quiet_codes below.quiet_codes (waited.codes named);
}

-- ---- lists

tails : {A : Type 0} {x y : A} {xs ys : List A} → x ∷ xs ≡ y ∷ ys → xs ≡ ys
tails e = cc

same_rest : {A : Type 0} (front xs ys : List A) → front ++ xs ≡ front ++ ys → xs ≡ ys
same_rest [] xs ys same = same
same_rest (a ∷ front) xs ys same = same_rest front xs ys (tails same)

some_is : {A : Type 0} {a b : A} → Some a ≡ Some b → a ≡ b
some_is e = cc

-- ---- what was added

grew_by : (old now : Seen) (grew : Grew old now) (before more : List (Told Event LinkCounts)) → old.trace ≡ Some before → now.trace ≡ Some (before ++ more) → more ≡ grew.more
grew_by old now grew before more told told_now = same_rest before more grew.more (some_is (sym told_now ∙ (grew.grew ∙ ap (told_more grew.more) told)))

-- the counts at an event that was added are no more than those now
from_below : (low high from : LinkCounts) (more : List (Told Event LinkCounts)) → NoneAbove from high → AllByRecursion (IsBetween low high) more → NoneAbove (fold (λ it told. cond (breaks_silence told.event) told.counts it) from more) high
from_below low high from [] below timed = below
from_below low high from (told ∷ more) below timed = from_below low high (cond (breaks_silence told.event) told.counts from) more (at (breaks_silence told.event)) timed.1
  where
    at : (b : Bool) → NoneAbove (cond b told.counts from) high
    at true = timed.0.not_above
    at false = below

-- an event that breaks silence is the link's own
not_breaking : (event : Event) → is_links event ≡ false → breaks_silence event ≡ false
not_breaking (event.Started plan) none = absurd (false≢true (sym none))
not_breaking (event.ReadLine text) none = absurd (false≢true (sym none))
not_breaking (event.Given text) none = absurd (false≢true (sym none))
not_breaking (event.Got text) none = absurd (false≢true (sym none))
not_breaking event none = refl

cons_nil : {A : Type 0} {x : A} {xs : List A} → x ∷ xs ≡ [] → ⊥
cons_nil e = cc

-- where no event is the link's own none breaks silence
still : (from : LinkCounts) (more : List (Told Event LinkCounts)) → filter is_links (map (λ (told : Told Event LinkCounts). told.event) more) ≡ [] → fold (λ it told. cond (breaks_silence told.event) told.counts it) from more ≡ from
still from [] none = refl
still from (told ∷ more) none = at (is_links told.event) refl none (λ empty. still from more empty)
  where
    at : (b : Bool) → is_links told.event ≡ b → cond b (told.event ∷ filter is_links (map (λ (it : Told Event LinkCounts). it.event) more)) (filter is_links (map (λ (it : Told Event LinkCounts). it.event) more)) ≡ []
        → (filter is_links (map (λ (it : Told Event LinkCounts). it.event) more) ≡ [] → fold (λ it own. cond (breaks_silence own.event) own.counts it) from more ≡ from)
        → fold (λ it own. cond (breaks_silence own.event) own.counts it) (cond (breaks_silence told.event) told.counts from) more ≡ from
    at true is empty later = absurd (cons_nil empty)
    at false is empty later = ap (λ b. fold (λ it own. cond (breaks_silence own.event) own.counts it) (cond b told.counts from) more) (not_breaking told.event is) ∙ later empty

none_own : (before more : List (Told Event LinkCounts)) → filter is_links (map (λ (told : Told Event LinkCounts). told.event) (before ++ more)) ≡ filter is_links (map (λ (told : Told Event LinkCounts). told.event) before)
    → filter is_links (map (λ (told : Told Event LinkCounts). told.event) more) ≡ []
none_own before more same = same_rest own (filter is_links (map (λ (told : Told Event LinkCounts). told.event) more)) [] (sym parts ∙ (same ∙ sym (append-nil own)))
  where
    own : List Event
    own = filter is_links (map (λ (told : Told Event LinkCounts). told.event) before)

    parts : filter is_links (map (λ (told : Told Event LinkCounts). told.event) (before ++ more)) ≡ filter is_links (map (λ (told : Told Event LinkCounts). told.event) before) ++ filter is_links (map (λ (told : Told Event LinkCounts). told.event) more)
    parts = ap (filter is_links) (map-append (λ (told : Told Event LinkCounts). told.event) before more) ∙ filter-append is_links (map (λ (told : Told Event LinkCounts). told.event) before) (map (λ (told : Told Event LinkCounts). told.event) more)

-- ---- a row of quiet turns

-- So many stand behind these counts, which are not below those at the beginning, nor below those at the last event since that breaks
-- silence.
pub record Quiet (turns : ℕ) (w : Worker) (old now : Seen) : Type 0 where
  pub from : LinkCounts
  pub waited : Waited turns w from now
  pub above : NoneAbove old.counts from
  pub since : (before more : List (Told Event LinkCounts)) → old.trace ≡ Some before → now.trace ≡ Some (before ++ more) → NoneAbove (counted_from old.counts (Some more)) from

-- behind a turn that brought something, and at the beginning, a row begins
pub row_begins : (w : Worker) (old now : Seen) → Grew old now → Quiet 0 w old now
row_begins w old now grew = record {
  from = now.counts;
  waited = waited_none w now;
  above = grew.counts;
  since = λ before more told told_now. subst (λ list. NoneAbove (counted_from old.counts (Some list)) now.counts) (sym (grew_by old now grew before more told told_now)) (from_below old.counts now.counts old.counts grew.more grew.counts grew.timed);
}

pub row_goes_on : (turns : ℕ) (w : Worker) (old between now : Seen) → Grew old between → Grew between now → Quiet turns w old between → Rests w w between now → Quiet (turns + 1) w old now
row_goes_on turns w old between now first then quiet rests = record {
  from = quiet.from;
  waited = waited_more turns w quiet.from between now rests.codes quiet.waited rests.waited;
  above = quiet.above;
  since = λ before more told told_now.
      let told_between : between.trace ≡ Some (before ++ first.more) = first.grew ∙ ap (told_more first.more) told in
      let told_then : now.trace ≡ Some ((before ++ first.more) ++ then.more) = then.grew ∙ ap (told_more then.more) told_between in
      let all : more ≡ first.more ++ then.more = same_rest before more (first.more ++ then.more) (some_is (sym told_now ∙ (told_then ∙ ap (λ list. Some list) (append_assoc before first.more then.more)))) in
      let own : filter is_links (map (λ (it : Told Event LinkCounts). it.event) ((before ++ first.more) ++ then.more)) ≡ filter is_links (map (λ (it : Told Event LinkCounts). it.event) (before ++ first.more)) =
      some_is (ap (option_map (λ trace. filter is_links (map (λ (it : Told Event LinkCounts). it.event) trace))) (sym told_then) ∙ (rests.told_none ∙ ap (option_map (λ trace. filter is_links (map (λ (it : Told Event LinkCounts). it.event) trace))) told_between)) in
      let same : counted_from old.counts (Some more) ≡ counted_from old.counts (Some first.more) =
      ap (λ list. counted_from old.counts (Some list)) all
      ∙ (fold-append (λ it told_one. cond (breaks_silence told_one.event) told_one.counts it) old.counts first.more then.more
      ∙ still (counted_from old.counts (Some first.more)) then.more (none_own (before ++ first.more) then.more own)) in
      subst (λ (it : LinkCounts). NoneAbove it quiet.from) (sym same) (quiet.since before first.more told told_between);
}

pub row_is_silent : (turns : ℕ) (w : Worker) (old now : Seen) → Quiet turns w old now → SilentSince turns w old now
row_is_silent turns w old now quiet = record {
  waited = waited_from turns w old.counts quiet.from now quiet.above quiet.waited;
  told = λ before more told told_now. waited_from turns w (counted_from old.counts (Some more)) quiet.from now (quiet.since before more told told_now) quiet.waited;
}
