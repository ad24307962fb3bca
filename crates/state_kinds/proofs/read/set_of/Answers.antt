use Rattle.state_kinds.proofs.ReadLemmas.{saved_index, saved_one_kind}
use Rattle.state_kinds.proofs.read.set_of.Goals as goal

pub of-requires-clause-index : goal.of-requires-clause-index
of-requires-clause-index c = saved_index c.args.stored.entries c.in_ok-saved.saved.items c.args.index c.in_ok-saved.ensures c.requires.index

pub of-requires-clause-one_kind : goal.of-requires-clause-one_kind
of-requires-clause-one_kind c = saved_one_kind c.args.stored c.in_ok-saved.saved.items c.object_of.result c.requires.sound c.in_ok-saved.ensures c.object_of.ensures
