-- Fronts of runs of the engine, and the merges of a store.
use Rattle.std.proofs.Common.{List, [], subst}
use Rattle.outside.specs.declared.event.Event.{Event}
use Rattle.outside.specs.declared.event.Event.TheVariants.{Opened, Took, TookEnd, Committed, Emitted, Merged, Shown, Started, ReadLine, ReadEnd, Given, Closed, Got, GotEnd, Saved, Ended}
use Rattle.dedup_merge.specs.Merges.{MergesFit}
use Rattle.dedup_merge.specs.Merges as merges
use Rattle.load_rules.specs.Prefixes.{EachFits}
use Rattle.load_rules.specs.Stores.{StoreFits}
use Rattle.load_rules.specs.Engine.{LoadFits, RunFits}
use Rattle.load_rules.specs.Laws.{FrontsAreRuns, StoreMergesFit}
use Rattle.load_rules.proofs.Fronts.{each_front, each_at}
use Rattle.load_rules.proofs.LoadFronts.{fronts_are_safe}

pub fronts_are_runs : FrontsAreRuns
fronts_are_runs streams read front rest runs = record {
  loads_are = record {
    safe = fronts_are_safe streams read front rest runs.loads_are.safe;
    store = each_front StoreFits [] front rest runs.loads_are.store;
    fit = each_front (LoadFits streams read) [] front rest runs.loads_are.fit;
  };
  attempts_are = each_front (RunFits streams read) [] front rest runs.attempts_are;
}

merge_fits : (before : List Event) (event : Event) → StoreFits before event → merges.Fits before event
merge_fits before (Opened a b c) fits = fits.own
merge_fits before (Took a) fits = tt
merge_fits before TookEnd fits = tt
merge_fits before (Committed a b) fits = tt
merge_fits before (Emitted a) fits = tt
merge_fits before (Merged a b c) fits = fits
merge_fits before (Shown a b c) fits = tt
merge_fits before (Started a) fits = tt
merge_fits before (ReadLine a) fits = tt
merge_fits before ReadEnd fits = tt
merge_fits before (Given a) fits = tt
merge_fits before Closed fits = tt
merge_fits before (Got a) fits = tt
merge_fits before GotEnd fits = tt
merge_fits before (Saved a) fits = tt
merge_fits before (Ended a) fits = tt

pub store_merges_fit : StoreMergesFit
store_merges_fit trace run before event behind is = merge_fits before event (each_at StoreFits [] before behind event (subst (EachFits StoreFits []) is run))
