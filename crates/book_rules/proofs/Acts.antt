-- A run of the machine, and the trace beside it: one act more, or a line that is not used.
use Rattle.std.proofs.Common.{arith, ◌≡◌, ℕ, ◌+◌, ◌≤◌, List, [], ◌∷◌, ◌++◌, map, length, Option, None, Some, Bool, true, false, refl, sym, ◌∙◌, ap, subst}
use Rattle.std.specs.Prelude.{filter, fold, not, ◌||◌, IfSome}
use Rattle.std.specs.List.{list_any}
use Rattle.std.proofs.lemmas.List.{append-nil}
use Rattle.std.proofs.lemmas.List.Folds.{list_any-append}
use Rattle.std.proofs.lemmas.List.Sums.{fold-append}
use Rattle.basics.specs.Told.{told_more}
use Rattle.catalog.specs.Reading.{ids_of}
use Rattle.catalog.specs.declared.stream.ConfStream.{ConfStream}
use Rattle.outside.specs.Dock.{took_over, took_over_after, is_opening}
use Rattle.outside.specs.Event.{is_links}
use Rattle.outside.specs.declared.event.Event.{Event}
use Rattle.outside.specs.declared.event.Event.TheVariants.{Took}
use Rattle.load_rules.specs.Acts.{Act, Takes, Ends, Commits, Echoes, Turns, IsAct, AreActs, taken, committed}
use Rattle.load_rules.specs.Lines.{Reading, ReadsEvent}
use Rattle.load_rules.specs.Loads.{Load, Opening, loads, loads_after, store_events, with_event}
use Rattle.load_rules.specs.Machine.{Machine, Placed, Step, start, run, happens, is_done, entry_of, BringsOwnRows}
use Rattle.load_rules.specs.Prefixes.{EachFits, with_first}
use Rattle.load_rules.specs.SafeDest.{Fits, uncommitted}
use Rattle.load_rules.specs.Taken.{Entry, is_in}
use Rattle.load_rules.proofs.LoadFronts.{loads-append, goes_on}
use Rattle.load_rules.proofs.Machines.{IsGood, IsMarked, good_run, good_start, taken-more}
use Rattle.load_rules.proofs.SafeRuns.{runs_grow, runs_stay_safe}
use Rattle.load_rules.proofs.TakenLists.{each_more, all_weaker}
use Rattle.book_rules.specs.Books.{HoldsFew, IsGoodLine, Tells, take_of, AreUnused}
use Rattle.book_rules.specs.Holds.{is_end, still}
use Rattle.book_rules.proofs.Lists.{all_first, all_second, filter_map_list, length_of_map}

-- one act more, and its event beside it, where events are told
pub record Adds (act : Act) (before now : Option (List Event)) : Type 0 where
  pub event : Event
  pub added : now ≡ told_more (event ∷ []) before
  pub store : is_links event ≡ false
  pub opens : is_opening event ≡ false
  pub is : (read : Reading) → ReadsEvent read event → IsAct read act event
  pub over : (b : Bool) → took_over_after b event ≡ (b || is_end act)

acts_more : (read : Reading) (acts : List Act) (events : List Event) (act : Act) (event : Event) → AreActs read acts events → IsAct read act event → AreActs read (acts ++ act ∷ []) (events ++ event ∷ [])
acts_more read [] [] act event are is = (is, tt)
acts_more read [] (one ∷ events) act event are is = absurd are
acts_more read (one ∷ acts) [] act event are is = absurd are
acts_more read (one ∷ acts) (first ∷ events) act event are is = (are.0, acts_more read acts events act event are.1 is)

pub or_false : (b : Bool) → (b || false) ≡ b
or_false true = refl
or_false false = refl

pub ends_more : (acts : List Act) (act : Act) → list_any is_end (acts ++ act ∷ []) ≡ (list_any is_end acts || is_end act)
ends_more acts act = list_any-append is_end acts (act ∷ []) ∙ ap (λ b. list_any is_end acts || b) (or_false (is_end act))

one_of_store : (event : Event) → is_links event ≡ false → store_events (event ∷ []) ≡ event ∷ []
one_of_store event store = rw store refl

loads_more : (trace : List Event) (event : Event) (load : Load) (older : List Load) → is_links event ≡ false → is_opening event ≡ false → loads trace ≡ load ∷ older → loads (trace ++ event ∷ []) ≡ with_event event load ∷ older
loads_more trace event load older store opens last =
    loads-append trace (event ∷ [])
    ∙ (ap (fold loads_after (loads trace)) (one_of_store event store)
    ∙ (goes_on (loads trace) event opens
    ∙ ap (with_first (with_event event)) last))

tells_act : (opening : Opening) (acts : List Act) (act : Act) (trace : List Event) (event : Event) → is_links event ≡ false → is_opening event ≡ false → ((read : Reading) → ReadsEvent read event → IsAct read act event) → ((b : Bool) → took_over_after b event ≡ (b || is_end act)) → Tells opening acts [] trace → Tells opening (acts ++ act ∷ []) [] (trace ++ event ∷ [])
tells_act opening acts act trace event store opens is over t = record {
  load = with_event event t.load;
  older = t.older;
  last = loads_more trace event t.load t.older store opens t.last;
  opened = t.opened;
  over = fold-append took_over_after true trace (event ∷ []) ∙ (over (took_over trace) ∙ (ap (λ b. b || is_end act) t.over ∙ sym (ends_more acts act)));
  acts_are = λ read reads.
      let before = subst (λ list. AreActs read list t.load.events) (append-nil acts) (t.acts_are read (all_first (ReadsEvent read) t.load.events (event ∷ []) reads)) in
      let now = is read (all_second (ReadsEvent read) t.load.events (event ∷ []) reads).0 in
      subst (λ list. AreActs read list (t.load.events ++ event ∷ [])) (sym (append-nil (acts ++ act ∷ []))) (acts_more read acts t.load.events act event before now);
}

tells_unused : (opening : Opening) (acts : List Act) (text : List ℕ) (trace : List Event) → Tells opening acts [] trace → Tells opening acts (text ∷ []) (trace ++ Took text ∷ [])
tells_unused opening acts text trace t = record {
  load = with_event (Took text) t.load;
  older = t.older;
  last = loads_more trace (Took text) t.load t.older refl refl t.last;
  opened = t.opened;
  over = fold-append took_over_after true trace (Took text ∷ []) ∙ t.over;
  acts_are = λ read reads.
      let before = subst (λ list. AreActs read list t.load.events) (append-nil acts) (t.acts_are read (all_first (ReadsEvent read) t.load.events (Took text ∷ []) reads)) in
      acts_more read acts t.load.events (take_of read text) (Took text) before refl;
}

-- A run, and what is told beside it: all that a book says of its machine, whatever its fields are.
pub record Ran (catalog : List ConfStream) (opening : Opening) (slots : ℕ) (m : Machine) (unused : List (List ℕ)) (events : Option (List Event)) : Type 0 where
  pub steps : List Step
  pub runs : run catalog steps start ≡ m
  pub safe : EachFits (Fits catalog opening) [] m.acts
  pub bounded : EachFits (HoldsFew (slots + 1)) [] m.acts
  pub good : EachFits (IsGoodLine (ids_of catalog)) [] (taken m.acts)
  pub unused_are : AreUnused slots m.acts unused
  pub told : IfSome events (Tells opening m.acts unused)

pub ran_good : (catalog : List ConfStream) (opening : Opening) (slots : ℕ) (m : Machine) (unused : List (List ℕ)) (events : Option (List Event)) → Ran catalog opening slots m unused events → IsGood m
ran_good catalog opening slots m unused events r = subst IsGood r.runs (good_run catalog r.steps start good_start)

-- what is uncommitted is what has its place still
pub uncommitted_are : (m : Machine) → IsGood m → uncommitted m.acts ≡ map entry_of (still m.placed)
uncommitted_are m g =
    ap (filter (λ (entry : Entry). not (is_in entry.seq (committed m.acts)))) (sym g.entries_are)
    ∙ filter_map_list entry_of (λ entry. not (is_in entry.seq (committed m.acts))) (λ one. not (is_done one.place)) m.placed (all_weaker (IsMarked (committed m.acts)) (λ one. not (is_in one.entry.seq (committed m.acts)) ≡ not (is_done one.place)) m.placed (λ one is. ap not is) g.marked)

pub uncommitted_length : (m : Machine) → IsGood m → length (uncommitted m.acts) ≡ length (still m.placed)
uncommitted_length m g = ap (λ list. length list) (uncommitted_are m g) ∙ length_of_map entry_of (still m.placed)

told_act : (opening : Opening) (acts : List Act) (act : Act) (before now : Option (List Event)) → Adds act before now → IfSome before (Tells opening acts []) → IfSome now (Tells opening (acts ++ act ∷ []) [])
told_act opening acts act None now adds told = subst (λ (o : Option (List Event)). IfSome o (Tells opening (acts ++ act ∷ []) [])) (sym adds.added) tt
told_act opening acts act (Some trace) now adds told = subst (λ (o : Option (List Event)). IfSome o (Tells opening (acts ++ act ∷ []) [])) (sym adds.added) (tells_act opening acts act trace adds.event adds.store adds.opens adds.is adds.over told)

told_unused : (opening : Opening) (acts : List Act) (text : List ℕ) (before now : Option (List Event)) → now ≡ told_more (Took text ∷ []) before → IfSome before (Tells opening acts []) → IfSome now (Tells opening acts (text ∷ []))
told_unused opening acts text None now added told = subst (λ (o : Option (List Event)). IfSome o (Tells opening acts (text ∷ []))) (sym added) tt
told_unused opening acts text (Some trace) now added told = subst (λ (o : Option (List Event)). IfSome o (Tells opening acts (text ∷ []))) (sym added) (tells_unused opening acts text trace told)

-- a line that is used has no fault
abbrev pub IsGoodAct : List ConfStream → List Act → Act → Type 0
IsGoodAct catalog acts (Takes line) = IsGoodLine (ids_of catalog) (taken acts) line
IsGoodAct catalog acts act = Unit {0}

good_more : (catalog : List ConfStream) (acts : List Act) (act : Act) → IsGoodAct catalog acts act → EachFits (IsGoodLine (ids_of catalog)) [] (taken acts) → EachFits (IsGoodLine (ids_of catalog)) [] (taken (acts ++ act ∷ []))
good_more catalog acts (Takes line) good each = subst (EachFits (IsGoodLine (ids_of catalog)) []) (sym (taken-more acts (Takes line))) (each_more (IsGoodLine (ids_of catalog)) [] (taken acts) line each good)
good_more catalog acts Ends good each = subst (EachFits (IsGoodLine (ids_of catalog)) []) (sym (taken-more acts Ends ∙ append-nil (taken acts))) each
good_more catalog acts (Commits number rows) good each = subst (EachFits (IsGoodLine (ids_of catalog)) []) (sym (taken-more acts (Commits number rows) ∙ append-nil (taken acts))) each
good_more catalog acts (Echoes state) good each = subst (EachFits (IsGoodLine (ids_of catalog)) []) (sym (taken-more acts (Echoes state) ∙ append-nil (taken acts))) each
good_more catalog acts Turns good each = subst (EachFits (IsGoodLine (ids_of catalog)) []) (sym (taken-more acts Turns ∙ append-nil (taken acts))) each

-- a step that adds an act
pub ran_act : (catalog : List ConfStream) (opening : Opening) (slots : ℕ) (m : Machine) (step : Step) (act : Act) (before now : Option (List Event)) → Ran catalog opening slots m [] before → (happens catalog m step).acts ≡ m.acts ++ act ∷ [] → IsGoodAct catalog m.acts act → BringsOwnRows catalog opening m step → length (still (happens catalog m step).placed) ≤ slots + 1 → Adds act before now → Ran catalog opening slots (happens catalog m step) [] now
ran_act catalog opening slots m step act before now r more fine own few adds = record {
  steps = r.steps ++ step ∷ [];
  runs = runs;
  safe = subst (λ (it : Machine). EachFits (Fits catalog opening) [] it.acts) runs (runs_stay_safe catalog opening r.steps step (subst (λ (it : Machine). EachFits (Fits catalog opening) [] it.acts) (sym r.runs) r.safe) (subst (λ (it : Machine). BringsOwnRows catalog opening it step) (sym r.runs) own));
  bounded = subst (EachFits (HoldsFew (slots + 1)) []) (sym more) (each_more (HoldsFew (slots + 1)) [] m.acts act r.bounded fits);
  good = subst (λ (acts : List Act). EachFits (IsGoodLine (ids_of catalog)) [] (taken acts)) (sym more) (good_more catalog m.acts act fine r.good);
  unused_are = tt;
  told = subst (λ (acts : List Act). IfSome now (Tells opening acts [])) (sym more) (told_act opening m.acts act before now adds r.told);
}
  where
    runs : run catalog (r.steps ++ step ∷ []) start ≡ happens catalog m step
    runs = runs_grow catalog r.steps (step ∷ []) start ∙ ap (λ (it : Machine). happens catalog it step) r.runs

    good : IsGood (happens catalog m step)
    good = subst IsGood runs (good_run catalog (r.steps ++ step ∷ []) start good_start)

    fits : HoldsFew (slots + 1) m.acts act
    fits = subst (λ (acts : List Act). length (uncommitted acts) ≤ slots + 1) more (let long = uncommitted_length (happens catalog m step) good in omega (arith, long, few))

-- steps that only move records
pub ran_moved : (catalog : List ConfStream) (opening : Opening) (slots : ℕ) (m : Machine) (unused : List (List ℕ)) (events : Option (List Event)) (steps : List Step) (placed : List Placed) → Ran catalog opening slots m unused events → run catalog steps m ≡ record m { placed = placed } → Ran catalog opening slots (record m { placed = placed }) unused events
ran_moved catalog opening slots m unused events steps placed r is = record {
  steps = r.steps ++ steps;
  runs = runs_grow catalog r.steps steps start ∙ (ap (run catalog steps) r.runs ∙ is);
  safe = r.safe;
  bounded = r.bounded;
  good = r.good;
  unused_are = r.unused_are;
  told = r.told;
}

-- what is told stays
pub ran_still : (catalog : List ConfStream) (opening : Opening) (slots : ℕ) (m : Machine) (unused : List (List ℕ)) (before now : Option (List Event)) → Ran catalog opening slots m unused before → now ≡ before → Ran catalog opening slots m unused now
ran_still catalog opening slots m unused before now r same = subst (Ran catalog opening slots m unused) (sym same) r

-- a line was taken, and not used
pub ran_unused : (catalog : List ConfStream) (opening : Opening) (slots : ℕ) (m : Machine) (text : List ℕ) (before now : Option (List Event)) → Ran catalog opening slots m [] before → length (still m.placed) ≤ slots → now ≡ told_more (Took text ∷ []) before → Ran catalog opening slots m (text ∷ []) now
ran_unused catalog opening slots m text before now r few added = record {
  steps = r.steps;
  runs = r.runs;
  safe = r.safe;
  bounded = r.bounded;
  good = r.good;
  unused_are = let long = uncommitted_length m (ran_good catalog opening slots m [] before r) in omega (arith, long, few);
  told = told_unused opening m.acts text before now added r.told;
}
