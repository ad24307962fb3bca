use Rattle.std.proofs.Common.{Option, sym, ap, subst}
use Rattle.std.specs.Option.{option_copied}
use Rattle.basics.specs.declared.stream.StreamId.{StreamId}
use Rattle.state_kinds.specs.Store.{AddsOnce}
use Rattle.state_kinds.proofs.OnceLemmas.{once_added}
use Rattle.local_world.proofs.awaited.add_stream.Goals as goal

pub returns-in_ok-is_new-in-Some : goal.returns-in_ok-is_new-in-Some
returns-in_ok-is_new-in-Some c =
    let e = c.in_ok-is_new-in-Some.ensures in
    let adds = once_added c.args.index.now c.add.new.self c.in-Some.id.now c.in_ok-copy-in-Some.field-0 c.in_ok-is_new-in-Some.is_new c.in_ok-copy-in-Some.ensures.copied e.added e.new.0 e.new.1 e.there in
    subst (λ (o : Option StreamId). AddsOnce c.args.index.now o c.add.new.self c.in_ok-is_new-in-Some.is_new) (sym (ap option_copied c.in-Some.is)) adds
