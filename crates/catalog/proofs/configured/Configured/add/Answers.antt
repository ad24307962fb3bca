use Rattle.std.proofs.Common.{List, length, ◌<◌, subst, sym}
use Rattle.basics.specs.declared.limits.TheConstants.{MOST_STREAMS}
use Rattle.catalog.specs.declared.stream.ConfStream.{ConfStream}
use Rattle.catalog.proofs.ConfiguredLemmas.{indexed_more, indexed_again}
use Rattle.catalog.proofs.configured.Configured.add.Goals as goal

pub invariant_of-self-in-Ok : goal.invariant_of-self-in-Ok
invariant_of-self-in-Ok c =
    let room = subst (λ (ss : List ConfStream). length ss < MOST_STREAMS) (sym c.self.view_is) c.requires.room in
    indexed_more c.self.inside.streams c.push.new.self c.self.inside.index c.add.new.self c.args.stream c.in_ok-id.id c.self.invariant c.requires.configured room c.in_ok-id.ensures.copied (c.in_ok-add.ensures.new.0 c.if-not-branch.false) c.in-Ok.ensures.ok (c.in_ok-add.ensures.added c.if-not-branch.false)

pub invariant_of-self-in-Err : goal.invariant_of-self-in-Err
invariant_of-self-in-Err c =
    indexed_again c.self.inside.streams c.push.new.self c.self.inside.index c.add.new.self c.truncate.new.self c.in_ok-id.id c.len.result c.self.invariant c.in-Err.ensures.err (c.in_ok-add.ensures.added c.if-not-branch.false) c.len.ensures c.truncate.ensures
