use Rattle.std.proofs.Common.{◌<◌, length, arith, ap, set}
use Rattle.state_kinds.specs.declared.entry.SavedEntry.{SavedEntry}
use Rattle.state_kinds.specs.Changes.{given_of}
use Rattle.state_kinds.proofs.BeginLemmas.{renewed_all, renewed_first, renewed_more}
use Rattle.state_kinds.proofs.begin.renew.Goals as goal

pub loop-i-init : goal.loop-i-init
loop-i-init c = renewed_first (given_of c.args.configured.now c.args.gens.now) c.args.entries.now.items

pub loop-i-preserved : goal.loop-i-preserved
loop-i-preserved c =
    let lt : c.loop-i.i < length c.args.entries.now.items = let h = c.loop-i-test.true in let e = c.requires.count in omega arith in
    renewed_more (given_of c.args.configured.now c.args.gens.now) c.loop-i.i c.args.entries.now.items c.loop-i.entries.items _ c.index.result.now c.index_mut.result.now c.given_generation-given.result lt c.index.ensures c.index_mut.ensures.value c.given_generation-given.ensures (ap (λ (e : SavedEntry). set c.loop-i.entries.items c.loop-i.i e) c.renew_entry.ensures) c.loop-i.invariant

pub returns : goal.returns
returns c = renewed_all (given_of c.args.configured.now c.args.gens.now) c.loop-i.i c.args.count c.args.entries.now.items c.loop-i.entries.items c.loop-i-test.false c.loop-i.auto.i-end c.loop-i.invariant
