-- The book's own load is safe and bounded, and so each call leaves the whole trace.
use Rattle.std.proofs.Common.{arith, ◌≡◌, ℕ, ◌+◌, ◌≤◌, List, [], ◌∷◌, ◌++◌, map, length, Option, false, refl, sym, ◌∙◌, ap, subst, length-append}
use Rattle.std.specs.Prelude.{fold, not, IfSome}
use Rattle.std.specs.List.{AllByRecursion}
use Rattle.std.proofs.lemmas.List.{append-nil}
use Rattle.std.proofs.lemmas.Option.{IfSome_then}
use Rattle.catalog.specs.declared.stream.ConfStream.{ConfStream}
use Rattle.outside.specs.Dock.{DockMoves, DockSeen, dock_events, is_opening}
use Rattle.outside.specs.Event.{is_links}
use Rattle.outside.specs.declared.event.Event.{Event}
use Rattle.outside.specs.declared.load.Limits.{Limits}
use Rattle.outside.proofs.PlaceLaws.{all_filtered}
use Rattle.load_rules.specs.Acts.{Act, Takes, IsAct, AreActs}
use Rattle.load_rules.specs.Bounded.{HoldsAtMost, IsBounded}
use Rattle.load_rules.specs.Laws.{IsSafeLast, OpensNothing}
use Rattle.load_rules.specs.Lines.{IsReading, Line, Reading, line_read}
use Rattle.load_rules.specs.Loads.{Load, Opening, loads, loads_after, store_events, with_event}
use Rattle.load_rules.specs.Machine.{Machine, Accept, Placed, happens, is_done}
use Rattle.load_rules.specs.Machine as machine
use Rattle.load_rules.specs.Prefixes.{EachFits}
use Rattle.load_rules.specs.SafeDest.{Fits, IsSafeDest, uncommitted}
use Rattle.load_rules.specs.Taken.{entries_from}
use Rattle.load_rules.proofs.Held.{held_are_uncommitted}
use Rattle.load_rules.proofs.LoadFronts.{goes_on, loads-append, stays_safe}
use Rattle.load_rules.proofs.Machines.{IsGood, good_run, good_start, good_step}
use Rattle.load_rules.proofs.TakenLists.{each_more}
use Rattle.book_rules.specs.Books.{AreUnused, HoldsFew, IsBook, KeepsSafe, KeepsSafeOf, LastIsSafe, OwnLoadIsSafe, Reached, StaySafe, Tells, take_of}
use Rattle.book_rules.specs.Holds.{still}
use Rattle.book_rules.specs.Views.{BookView}
use Rattle.book_rules.proofs.Acts.{uncommitted_length}
use Rattle.book_rules.proofs.Lists.{length_of_map}
use Rattle.book_rules.proofs.Moves.{still_more}
use Rattle.book_rules.proofs.Running.{KeepsRunOf, StayRun, loads_read, told_is}
use Rattle.book_rules.proofs.Taking.{one_more}

-- Bounds, act by act and event by event

act_pushed : (read : Reading) (acts : List Act) (events : List Event) (act : Act) (event : Event) → AreActs read acts events → IsAct read act event → AreActs read (acts ++ act ∷ []) (events ++ event ∷ [])
act_pushed read [] [] act event are is = (is, tt)
act_pushed read [] (one ∷ events) act event are is = absurd are
act_pushed read (one ∷ acts) [] act event are is = absurd are
act_pushed read (one ∷ acts) (first ∷ events) act event are is = (are.0, act_pushed read acts events act event are.1 is)

bounded_events : (most : ℕ) (read : Reading) (before : List Act) (events_before : List Event) (acts : List Act) (events : List Event) → AreActs read before events_before → AreActs read acts events → EachFits (HoldsFew most) before acts → EachFits (HoldsAtMost most read) events_before events
bounded_events most read before events_before [] [] stand are few = tt
bounded_events most read before events_before [] (event ∷ events) stand are few = absurd are
bounded_events most read before events_before (act ∷ acts) [] stand are few = absurd are
bounded_events most read before events_before (act ∷ acts) (event ∷ events) stand are few =
    let now = act_pushed read before events_before act event stand are.0 in
    (subst (λ n. n ≤ most) (sym (ap (λ list. length list) (held_are_uncommitted read (before ++ act ∷ []) (events_before ++ event ∷ []) now))) few.0, bounded_events most read (before ++ act ∷ []) (events_before ++ event ∷ []) acts events now are.1 few.1)

-- a line more that is not used
line_few : (catalog : List ConfStream) (m : Machine) (line : Line) (slots : ℕ) → IsGood m → length (uncommitted m.acts) ≤ slots → length (uncommitted (m.acts ++ Takes line ∷ [])) ≤ slots + 1
line_few catalog m line slots g few =
    let list = entries_from (length m.placed) (line ∷ []) in
    let before = uncommitted_length m g in
    let now = uncommitted_length (happens catalog m (Accept line)) (good_step catalog m (Accept line) g) in
    let more = ap (λ (it : List Placed). length it) (still_more m.placed list) in
    let long = length-append (still m.placed) (map machine.queue list) in
    let same = length_of_map machine.queue list in
    let one = one_more (length m.placed) line in
    omega (arith, before, now, more, long, same, one, few)

unused_fit : (catalog : List ConfStream) (opening : Opening) (read : Reading) (slots : ℕ) (acts : List Act) (unused : List (List ℕ)) → AreUnused slots acts unused → EachFits (Fits catalog opening) [] acts → EachFits (Fits catalog opening) [] (acts ++ map (take_of read) unused)
unused_fit catalog opening read slots acts [] are fit = subst (EachFits (Fits catalog opening) []) (sym (append-nil acts)) fit
unused_fit catalog opening read slots acts (line ∷ []) are fit = each_more (Fits catalog opening) [] acts (take_of read line) fit tt
unused_fit catalog opening read slots acts (line ∷ (next ∷ more)) are fit = absurd are

unused_few : (catalog : List ConfStream) (read : Reading) (m : Machine) (slots : ℕ) (unused : List (List ℕ)) → IsGood m → AreUnused slots m.acts unused → EachFits (HoldsFew (slots + 1)) [] m.acts → EachFits (HoldsFew (slots + 1)) [] (m.acts ++ map (take_of read) unused)
unused_few catalog read m slots [] g are few = subst (EachFits (HoldsFew (slots + 1)) []) (sym (append-nil m.acts)) few
unused_few catalog read m slots (line ∷ []) g are few = each_more (HoldsFew (slots + 1)) [] m.acts (take_of read line) few (line_few catalog m (line_read read line) slots g are)
unused_few catalog read m slots (line ∷ (next ∷ more)) g are few = absurd are

pub reached_good : (book : BookView) (m : Machine) → Reached book m → IsGood m
reached_good book m r = subst IsGood r.runs (good_run book.catalog r.steps machine.start good_start)

last_safe : (book : BookView) (m : Machine) (r : Reached book m) (trace : List Event) → Tells book.opening m.acts r.unused trace → LastIsSafe book trace
last_safe book m r trace t = record {
  load = t.load;
  older = t.older;
  last = t.last;
  opened = t.opened;
  safe = λ read reads. record {
    acts = m.acts ++ map (take_of read) r.unused;
    are = t.acts_are read reads;
    fit = subst (λ opening. EachFits (Fits book.catalog opening) [] (m.acts ++ map (take_of read) r.unused)) (sym t.opened) (unused_fit book.catalog book.opening read book.limits.slots m.acts r.unused r.unused_are r.safe);
  };
  bounded = λ read reads. bounded_events (book.limits.slots + 1) read [] [] (m.acts ++ map (take_of read) r.unused) t.load.events tt (t.acts_are read reads) (unused_few book.catalog read m book.limits.slots r.unused (reached_good book m r) r.unused_are r.bounded);
}

pub own_is_safe : (book : BookView) → IsBook book → OwnLoadIsSafe book
own_is_safe book is = IfSome_then (dock_events book.seen) is.is.reached.told (λ trace tells. last_safe book is.machine is.is.reached trace tells)

-- A trace whose last load goes on

-- the older loads stay
record OlderStay (older after : List Load) : Type 0 where
  last : Load
  is : after ≡ last ∷ older

older_stay : (load : Load) (older : List Load) (events : List Event) → OpensNothing events → OlderStay older (fold loads_after (load ∷ older) events)
older_stay load older [] opens = record { last = load; is = refl }
older_stay load older (event ∷ events) opens =
    let deeper = older_stay (with_event event load) older events opens.1 in
    record { last = deeper.last; is = ap (λ list. fold loads_after list events) (goes_on (load ∷ older) event opens.0) ∙ deeper.is }

none_stays : (events : List Event) → OpensNothing events → fold loads_after [] events ≡ []
none_stays [] opens = refl
none_stays (event ∷ events) opens = ap (λ list. fold loads_after list events) (goes_on [] event opens.0) ∙ none_stays events opens.1

tail_is : (a b : Load) (xs ys : List Load) → a ∷ xs ≡ b ∷ ys → xs ≡ ys
tail_is a b xs ys e = cc

nil_is : (a : Load) (xs : List Load) → [] ≡ a ∷ xs → ⊥
nil_is a xs e = cc

bounded_on : (most : ℕ) (read : Reading) (list : List Load) (events : List Event) (load : Load) (older : List Load) → OpensNothing events → AllByRecursion (IsBounded most read) list → fold loads_after list events ≡ load ∷ older → IsBounded most read load → AllByRecursion (IsBounded most read) (fold loads_after list events)
bounded_on most read [] events load older opens each is own = absurd (nil_is load older (sym (none_stays events opens) ∙ is))
bounded_on most read (first ∷ rest) events load older opens each is own =
    let on = older_stay first rest events opens in
    subst (AllByRecursion (IsBounded most read)) (sym is) (own, subst (AllByRecursion (IsBounded most read)) (tail_is on.last load rest older (sym on.is ∙ is)) each.1)

stay_safe : (book : BookView) (read : Reading) (before more : List Event) → OpensNothing more → IsReading read (before ++ more) → LastIsSafe book (before ++ more) → StayRun book.catalog read before (before ++ more) → StaySafe book.catalog (book.limits.slots + 1) read before (before ++ more)
stay_safe book read before more opens reads last run = record {
  safe = stays;
  bounded = λ each. subst (AllByRecursion (IsBounded (book.limits.slots + 1) read)) (sym (loads-append before more)) (bounded_on (book.limits.slots + 1) read (loads before) (store_events more) last.load last.older (all_filtered (λ event. is_opening event ≡ false) (λ event. not (is_links event)) more opens) each (sym (loads-append before more) ∙ last.last) (last.bounded read own));
  store = run.store;
  engine = λ loads_are. record { safe = stays loads_are.safe; store = run.store loads_are.store; fit = run.fit loads_are.fit };
}
  where
    own : IsReading read last.load.events
    own = (subst (AllByRecursion (λ load. IsReading read load.events)) last.last (loads_read read (before ++ more) reads)).0

    stays : IsSafeDest book.catalog read before → IsSafeDest book.catalog read (before ++ more)
    stays safe = stays_safe book.catalog read before more safe opens (subst (IsSafeLast book.catalog read) (sym last.last) (last.safe read own))

pub keeps_safe_of : (book : BookView) (old : DockSeen) → IsBook book → DockMoves old book.seen → KeepsRunOf book.catalog old book.seen → KeepsSafeOf book.catalog (book.limits.slots + 1) old book.seen
keeps_safe_of book old is moves run read before now first second reads =
    let same = told_is moves.more before now (dock_events old) (dock_events book.seen) moves.events first second in
    let own : LastIsSafe book now = subst (λ (o : Option (List Event)). IfSome o (LastIsSafe book)) second (own_is_safe book is) in
    subst (StaySafe book.catalog (book.limits.slots + 1) read before) (sym same) (stay_safe book read before moves.more moves.goes_on (subst (IsReading read) same reads) (subst (LastIsSafe book) same own) (subst (StayRun book.catalog read before) same (run read before now first second reads)))

pub keeps_safe : (old new : BookView) → IsBook new → new.catalog ≡ old.catalog → new.limits ≡ old.limits → DockMoves old.seen new.seen → KeepsRunOf new.catalog old.seen new.seen → KeepsSafe old new
keeps_safe old new is catalog limits moves run =
    subst (λ (slots : ℕ). KeepsSafeOf old.catalog (slots + 1) old.seen new.seen) (ap (λ (it : Limits). it.slots) limits) (subst (λ (streams : List ConfStream). KeepsSafeOf streams (new.limits.slots + 1) old.seen new.seen) catalog (keeps_safe_of new old.seen is moves run))
