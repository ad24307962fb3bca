-- What the states that an attempt's sets take cover stands in the store's tables, in the generation that the sets have.
use Rattle.std.proofs.Common.{arith, ◌≡◌, inl, inr, ℕ, List, [], ◌∷◌, ◌++◌, map, slice_get, Some, Bool, true, false, refl, sym, ◌∙◌, ap, subst, append_assoc, append-nil}
use Rattle.std.specs.Prelude.{fold, ◌||◌}
use Rattle.std.specs.List.{AllByRecursion, list_any}
use Rattle.std.proofs.lemmas.Bool.{false≢true}
use Rattle.std.proofs.lemmas.List.Sums.{fold-append}
use Rattle.basics.specs.declared.stream.StreamId.{StreamId}
use Rattle.outside.specs.Tables.{tables_of, table_in, row_of}
use Rattle.outside.specs.declared.event.AttemptPlan.{AttemptPlan}
use Rattle.outside.specs.declared.event.Event.{Event}
use Rattle.outside.specs.declared.event.Event.TheVariants.{Committed, Started}
use Rattle.outside.specs.declared.event.StreamPlan.{StreamPlan}
use Rattle.raw_tables.proofs.StoreLaws.{tables_more}
use Rattle.catalog.specs.Configured.{AreConfigured}
use Rattle.catalog.specs.Written.{IsCatalogText}
use Rattle.catalog.specs.declared.stream.ConfStream.{ConfStream}
use Rattle.catalog.specs.declared.stream.Gen.{Gen}
use Rattle.dedup_merge.proofs.SameRowLemmas.{Has, has_from, has_to}
use Rattle.load_rules.specs.Prefixes.{EachFits}
use Rattle.load_rules.specs.Lines.{Reading}
use Rattle.load_rules.specs.Taken.{Entry, entries, covers, LaneState}
use Rattle.load_rules.specs.Loads.{Opening, Load, loads, loads_after}
use Rattle.load_rules.specs.Stores.{StoreFits}
use Rattle.load_rules.specs.Attempts.{Attempt, attempts, attempts_after, attempt_events}
use Rattle.load_rules.specs.Honest.{IsCommitted}
use Rattle.load_rules.specs.Engine.{IsEngineRun}
use Rattle.load_rules.specs.Laws.{is_started}
use Rattle.load_rules.proofs.RunFronts.{fronts_are_runs}
use Rattle.load_rules.proofs.TakenLists.{all_weaker}
use Rattle.state_kinds.specs.Saved.{Saved as Set}
use Rattle.sync_rules.specs.Generations.{Begins, generations_in, last_generation}
use Rattle.sync_rules.specs.Sync.{Running, Sync, no_sync}
use Rattle.sync_rules.specs.Steps.{Puts}
use Rattle.sync_rules.specs.SafeSync.{commits, Goes, Leads, IsAsked}
use Rattle.sync_rules.proofs.KindLemmas.{all_has, some_is}
use Rattle.sync_rules.proofs.StoreLemmas.{store_holds}
use Rattle.sync_rules.proofs.Ways.{ways_part}
use Rattle.replay_rules.specs.Saves.{SavesFit, StandsIn, standing}
use Rattle.replay_rules.specs.Laws.{SavesFrom, SavedStand}
use Rattle.replay_rules.proofs.Gens.{IsGivenTo, load_given, given_fit, held_generation, put_generations, same_generations}
use Rattle.replay_rules.proofs.Keeps.{Keeps, keeps_first, keeps_along}
use Rattle.replay_rules.proofs.Lines.{get_has}
use Rattle.replay_rules.proofs.Opens.{InLoad, MayHaveLoad, HasLoad, has_load, CommitsAt, commits_stand, PlansOf, plans_of, PlanNow}
use Rattle.replay_rules.proofs.Rises.{IsRunning, Rises, none_put, fits_along}
use Rattle.replay_rules.proofs.StepKinds.{goes_on}

-- ---- the last attempt of a trace

none_first : (a b : Bool) → (a || b) ≡ false → a ≡ false
none_first true b is = is
none_first false b is = refl

none_rest : (a b : Bool) → (a || b) ≡ false → b ≡ false
none_rest true b is = absurd (false≢true (sym is))
none_rest false b is = is

fold_plain : (plan : AttemptPlan) (done events : List Event) (old : List Attempt) → list_any is_started events ≡ false → fold attempts_after (record { plan = plan; events = done } ∷ old) events ≡ record { plan = plan; events = done ++ events } ∷ old
fold_plain plan done [] old none = ap (λ list. record { plan = plan; events = list } ∷ old) (sym (append-nil done))
fold_plain plan done (event ∷ events) old none =
    ap (λ list. fold attempts_after list events) (goes_on event (record { plan = plan; events = done } ∷ old) (none_first (is_started event) (list_any is_started events) none))
    ∙ (fold_plain plan (done ++ event ∷ []) events old (none_rest (is_started event) (list_any is_started events) none) ∙ ap (λ list. record { plan = plan; events = list } ∷ old) (append_assoc done (event ∷ []) events))

pub last_attempt : (front : List Event) (plan : AttemptPlan) (events : List Event) → list_any is_started events ≡ false → attempts ((front ++ Started plan ∷ []) ++ events) ≡ record { plan = plan; events = events } ∷ attempts front
last_attempt front plan events none =
    fold-append attempts_after [] (front ++ Started plan ∷ []) events
    ∙ (ap (λ list. fold attempts_after list events) (fold-append attempts_after [] front (Started plan ∷ [])) ∙ fold_plain plan [] events (attempts front) none)

-- ---- a committed record stands in its table

in_plan : (P : StreamPlan → Type 0) (plans : List StreamPlan) (n : ℕ) (plan : StreamPlan) → AllByRecursion P plans → slice_get plans n ≡ Some plan → P plan
in_plan P plans n plan each is = all_has P plan plans each (get_has plans n plan is)

each_behind : {A : Type 0} (fits : List A → A → Type 0) (before front rest : List A) → EachFits fits before (front ++ rest) → EachFits fits (before ++ front) rest
each_behind fits before [] rest each = subst (λ list. EachFits fits list rest) (sym (append-nil before)) each
each_behind fits before (x ∷ front) rest each = subst (λ list. EachFits fits list rest) (append_assoc before (x ∷ []) front) (each_behind fits (before ++ x ∷ []) front rest each.1)

only_one : {A : Type 0} {x y : A} → Has x (y ∷ []) → x ≡ y
only_one (inl is) = sym is
only_one (inr none) = absurd none

plans_now : (trace : List Event) (there : Load) (older : List Load) (n : ℕ) (plan : StreamPlan) → loads trace ≡ there ∷ older → slice_get there.opening.plan n ≡ Some plan → PlanNow (tables_of trace).plan n plan
plans_now trace there older n plan are named = subst (λ list. PlansOf list (tables_of trace)) are (plans_of trace) n plan named

any_more : (xs : List Event) (event : Event) → list_any is_started xs ≡ false → is_started event ≡ false → list_any is_started (xs ++ event ∷ []) ≡ false
any_more [] event none own = rw own refl
any_more (x ∷ xs) event none own = rw (none_first (is_started x) (list_any is_started xs) none) (any_more xs event (none_rest (is_started x) (list_any is_started xs) none) own)

-- What is known of a trace whose last attempt was started with this set: what is to come makes it a run of the engine.
pub record Runs (streams : List ConfStream) (read : Reading) (front : List Event) (plan : AttemptPlan) (held : Set) (whole before rest : List Event) (own : Running) : Type 0 where
  pub run : IsEngineRun streams read (whole ++ rest)
  pub is : whole ≡ (front ++ Started plan ∷ []) ++ before
  pub none : list_any is_started before ≡ false
  pub coming : list_any is_started rest ≡ false
  pub start : own.start ≡ held

module _ (streams : List ConfStream) (read : Reading) (configured : AreConfigured streams) (front : List Event) (plan : AttemptPlan) (previous held : Set) (gens : List Gen)
    (begins : Begins streams previous gens held) (catalog : IsCatalogText streams gens plan.catalog) where
  row_stands : (whole before : List Event) → IsEngineRun streams read whole → whole ≡ (front ++ Started plan ∷ []) ++ before → list_any is_started before ≡ false
      → (set : Set) → ((id : StreamId) → last_generation set id ≡ last_generation held id)
      → (entry : Entry) → IsCommitted streams before entry → StandsIn streams (tables_of whole) set entry
  row_stands whole before run is none set same entry committed =
      in_load_of (subst (λ list. HasLoad list whole) (ap attempts is ∙ last_attempt front plan before none) (has_load streams read whole run.attempts_are))
    where
      own : Attempt
      own = record { plan = plan; events = before }

      given : (in_load : InLoad own whole) → AllByRecursion (IsGivenTo streams gens) in_load.load.opening.plan
      given in_load = load_given streams previous gens in_load.opener in_load.before in_load.load.opening.plan configured begins.gens_are
          (subst (λ (it : AttemptPlan). IsCatalogText streams gens it.catalog) (sym in_load.same) catalog) in_load.opens

      at : (in_load : InLoad own whole) → committed.load ≡ in_load.load → CommitsAt whole in_load.load in_load.older committed.stands.number committed.stands.rows → StandsIn streams (tables_of whole) set entry
      at in_load load_is commit =
          let row = committed.stands.is in
          let named : slice_get commit.there.opening.plan committed.stands.number ≡ Some row.plan = ap (λ list. slice_get list committed.stands.number) (ap (λ (it : Opening). it.plan) commit.opening ∙ ap (λ (it : Load). it.opening.plan) (sym load_is)) ∙ row.planned in
          let now = plans_now commit.before commit.there in_load.older committed.stands.number row.plan commit.loads_are named in
          let to = in_plan (IsGivenTo streams gens) in_load.load.opening.plan committed.stands.number row.plan (given in_load) (ap (λ (it : Load). slice_get it.opening.plan committed.stands.number) (sym load_is) ∙ row.planned) in
          let fit = given_fit streams previous gens row.plan configured begins.gens_are to in
          let generation : committed.stands.row.generation ≡ row.plan.generation = row.is.numbers.generation in
          let minimum = now.same.minimum in
          let id_is : now.now.id ≡ entry.content.id = now.same.id ∙ (row.same ∙ sym row.own) in
          let run_before = fronts_are_runs streams read commit.before (Committed committed.stands.number committed.stands.rows ∷ commit.behind) (subst (IsEngineRun streams read) commit.splits run) in
          let first = keeps_first entry.content.id committed.stands.row commit.before committed.stands.number committed.stands.rows now.now run_before.loads_are.store now.named id_is (omega (arith, fit, generation, minimum))
          (has_from committed.stands.rows committed.stands.row committed.stands.among) in
          let splits : whole ≡ (commit.before ++ Committed committed.stands.number committed.stands.rows ∷ []) ++ commit.behind = commit.splits ∙ sym (append_assoc commit.before (Committed committed.stands.number committed.stands.rows ∷ []) commit.behind) in
          let keeps = keeps_along entry.content.id committed.stands.row (commit.before ++ Committed committed.stands.number committed.stands.rows ∷ []) commit.behind
          (each_behind StoreFits [] (commit.before ++ Committed committed.stands.number committed.stands.rows ∷ []) commit.behind (subst (EachFits StoreFits []) splits run.loads_are.store)) commit.none
          (subst (λ store. Keeps store entry.content.id committed.stands.row) (sym (tables_more commit.before (Committed committed.stands.number committed.stands.rows))) first) in
          record {
            opening = committed.load.opening;
            number = committed.stands.number;
            row = committed.stands.row;
            is = row;
            stands = has_to (map row_of (table_in (tables_of whole).streams entry.content.id).rows) committed.stands.row (subst (λ trace. Has committed.stands.row (map row_of (table_in (tables_of trace).streams entry.content.id).rows)) (sym splits) keeps.stands);
            held = same entry.content.id ∙ (subst (λ id. last_generation held id ≡ Some row.plan.generation) (row.same ∙ sym row.own) (held_generation streams previous held gens row.plan configured begins to) ∙ ap (λ n. Some n) (sym generation));
          }

      in_load_of : MayHaveLoad own whole → StandsIn streams (tables_of whole) set entry
      in_load_of (inl empty) = absurd (subst (λ list. Has committed.load (fold loads_after [] list)) empty (has_from (loads before) committed.load committed.among))
      in_load_of (inr in_load) =
          let load_is = only_one (subst (Has committed.load) in_load.own (has_from (loads before) committed.load committed.among)) in
          at in_load load_is (commits_stand whole in_load.load in_load.older in_load.whole committed.stands.number committed.stands.rows
          (subst (λ (it : Load). Has (Committed committed.stands.number committed.stands.rows) it.events) load_is (has_from committed.load.events (Committed committed.stands.number committed.stands.rows) committed.stands.commit)))

  -- ---- along the attempt

  runs_on : (whole before : List Event) (event : Event) (rest : List Event) (own next : Running) → next.start ≡ own.start → Runs streams read front plan held whole before (event ∷ rest) own → Runs streams read front plan held (whole ++ event ∷ []) (before ++ event ∷ []) rest next
  runs_on whole before event rest own next same runs = record {
    run = subst (IsEngineRun streams read) (sym (append_assoc whole (event ∷ []) rest)) runs.run;
    is = ap (λ list. list ++ event ∷ []) runs.is ∙ append_assoc (front ++ Started plan ∷ []) before (event ∷ []);
    none = any_more before event runs.none (none_first (is_started event) (list_any is_started rest) runs.coming);
    coming = none_rest (is_started event) (list_any is_started rest) runs.coming;
    start = same ∙ runs.start;
  }

  puts_stand : (whole before rest : List Event) (sync : Sync) (own : Running) (taken : List LaneState) (set : Set) → Runs streams read front plan held whole before rest own → IsRunning sync before own → Rises read own.events sync.owed taken
      → (put : Puts streams read (IsAsked streams commits whole) sync set) → standing streams (front ++ Started plan ∷ []) taken set before put.state
  puts_stand whole before rest sync own taken set runs running rises put =
      all_weaker (λ entry. covers put.state.lane entry.content.id ≡ true → IsCommitted streams (attempt_events (attempts whole)) entry) (λ entry. covers put.state.lane entry.content.id ≡ true → StandsIn streams (tables_of ((front ++ Started plan ∷ []) ++ before)) set entry) (entries put.state.before)
      (λ entry committed covered. subst (λ trace. StandsIn streams (tables_of trace) set entry) runs.is
      (row_stands whole before (fronts_are_runs streams read whole rest runs.run) runs.is runs.none set same entry (subst (λ list. IsCommitted streams (attempt_events list) entry) (ap attempts runs.is ∙ last_attempt front plan before runs.none) (committed covered))))
      put.beside
    where
      start : put.attempt.start ≡ held
      start = ap (λ (it : Running). it.start) (some_is (sym put.in_attempt ∙ running.0)) ∙ runs.start

      same : (id : StreamId) → last_generation set id ≡ last_generation held id
      same id = same_generations set held id (put_generations put.state.state sync.set set put.put ∙ (put.kept ∙ ap generations_in start))

pub saved_stand : SavedStand
saved_stand streams read front plan events now configured none leads run =
    let parted = ways_part streams read commits [] front (Started plan ∷ events) no_sync now leads in
    at parted.between parted.first parted.then
  where
    at : (between : Sync) → Leads streams read commits front between → Goes streams read commits front between (Started plan ∷ events) now → SavesFrom front (λ held. SavesFit streams read (standing streams (front ++ Started plan ∷ [])) [] held [] events)
    at between first (middle, step, rest) = record {
      held = between.set;
      stored_is = store_holds streams read commits front between first;
      fits = subst (λ set. SavesFit streams read (standing streams (front ++ Started plan ∷ [])) [] set [] events) (ap (λ (it : Sync). it.set) step.1)
          (fits_along streams read commits (standing streams (front ++ Started plan ∷ [])) (Runs streams read front plan between.set)
          (runs_on streams read configured front plan between.previous between.set step.0.gens step.0.begins step.0.catalog)
          (puts_stand streams read configured front plan between.previous between.set step.0.gens step.0.begins step.0.catalog)
          (front ++ Started plan ∷ []) [] events middle now (record { start = between.set; events = [] }) [] none
          (record { run = subst (IsEngineRun streams read) (sym (append_assoc front (Started plan ∷ []) events)) run; is = sym (append-nil (front ++ Started plan ∷ [])); none = refl; coming = none; start = refl })
          (ap (λ (it : Sync). it.attempt) step.1, refl)
          (none_put read [] middle.owed (ap (λ (it : Sync). it.owed) step.1)) rest);
    }
