use Rattle.book_rules.specs.Releases.{Point, Released}
use Rattle.book_parts.proofs.Releasing.{can_go_on, fewer_wait, next_released, one_more}
use Rattle.book_parts.proofs.release.release.Goals as goal

pub heads-smaller : goal.heads-smaller
heads-smaller g c = let released = next_released _ _ _ c.in_ok-release_next.ensures c.if-branch.true in fewer_wait _ _ _ _ c.heads.invariant.can released.takes

pub heads-preserved : goal.heads-preserved
heads-preserved g c =
    let before : Point = record { gate = c.heads.gate; seen = g.D.Dock.seen c.heads.dock; emitted = c.heads.emitted } in
    let after : Point = record { gate = c.release_next.new.gate; seen = g.D.Dock.seen c.release_next.new.dock; emitted = c.release_next.new.emitted } in
    let released : Released before after = next_released _ before after c.in_ok-release_next.ensures c.if-branch.true in
    record { can = can_go_on before after c.heads.invariant.can released; so_far = one_more _ before after c.heads.invariant.so_far released }
