use Rattle.std.proofs.Common.{sym}
use Rattle.state_kinds.proofs.BeginLemmas.{entry_absent, entry_found, entry_read}
use Rattle.state_kinds.proofs.begin.entry_in.Goals as goal

pub returns-in-Some : goal.returns-in-Some
returns-in-Some c =
    let here = entry_read c.args.entries.now c.args.index.now c.in-Some.place c.args.id.now c.index-entries-place.result c.requires.ids c.in-Some.ensures.found c.index-entries-place.is in
    sym (entry_found c.args.entries.now c.args.index.now c.in-Some.place c.args.id.now c.index-entries-place.result c.requires c.in-Some.ensures.found here)

pub returns-in-None : goal.returns-in-None
returns-in-None c = sym (entry_absent c.args.entries.now c.args.index.now c.args.id.now c.requires c.in-None.ensures.none)
