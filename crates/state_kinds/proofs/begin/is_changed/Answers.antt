use Rattle.std.proofs.Common.{◌≡◌, ◌≤◌, Option, length, sym, ap, ◌∙◌, arith, true, false}
use Rattle.state_kinds.specs.declared.entry.SavedEntry.{SavedEntry}
use Rattle.state_kinds.specs.Saved.{entry_of}
use Rattle.state_kinds.specs.Changes.{given_of, is_of}
use Rattle.state_kinds.proofs.BeginLemmas.{changed_at, given_at, given_length, unchanged_all, unchanged_more}
use Rattle.state_kinds.proofs.begin.is_changed.Goals as goal

pub returns-then-not-is_of_generation : goal.returns-then-not-is_of_generation
returns-then-not-is_of_generation c =
    let given = given_of c.args.configured.now c.args.gens.now in
    let generation = c.at.result.now.generation in
    let id = c.stream.result.now.id in
    let at = given_at c.args.configured.now c.args.gens.now c.loop-n.n c.stream.result.now c.at.result.now c.stream.ensures.stream c.at.ensures in
    let other : is_of generation (entry_of c.args.entries.now id) ≡ false = ap (λ (o : Option SavedEntry). is_of generation o) (sym c.entry_in-entry.ensures) ∙ (sym c.is_of_generation.ensures ∙ c.if-not-is_of_generation.true) in
    sym (changed_at c.args.entries.now given c.loop-n.n id generation at other)

pub loop-n-preserved : goal.loop-n-preserved
loop-n-preserved c =
    let given = given_of c.args.configured.now c.args.gens.now in
    let generation = c.at.result.now.generation in
    let id = c.stream.result.now.id in
    let at = given_at c.args.configured.now c.args.gens.now c.loop-n.n c.stream.result.now c.at.result.now c.stream.ensures.stream c.at.ensures in
    let same : is_of generation (entry_of c.args.entries.now id) ≡ true = ap (λ (o : Option SavedEntry). is_of generation o) (sym c.entry_in-entry.ensures) ∙ (sym c.is_of_generation.ensures ∙ c.if-not-is_of_generation.false) in
    unchanged_more c.args.entries.now given c.loop-n.n id generation at same c.loop-n.invariant

pub returns : goal.returns
returns c =
    let long = given_length c.args.configured.now c.args.gens.now c.requires.gens in
    let done : length (given_of c.args.configured.now c.args.gens.now) ≤ c.loop-n.n = let h = c.loop-n-test.false in let e = c.len-n-end.ensures.len in omega arith in
    sym (unchanged_all c.args.entries.now (given_of c.args.configured.now c.args.gens.now) c.loop-n.n done c.loop-n.invariant)
