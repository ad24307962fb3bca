use Rattle.std.proofs.Common.{sym, subst, ◌∙◌, ap}
use Rattle.book_rules.specs.Holds.{CanRelease}
use Rattle.book_rules.specs.Views.{BookView}
use Rattle.book_parts.proofs.Taking.{gate_takes, may_release, puts_err, puts_ok}
use Rattle.book_parts.proofs.parts.Parts.release_with.Goals as goal

pub release-requires : goal.release-requires
release-requires g c =
    let can = subst (λ (one : BookView). CanRelease one.tally.emitted one.gate) (sym c.self.view_is) c.requires.can.ready.releases in
    may_release _ c.args.lane c.args.state _ c.accept_state.new.self can c.requires.state (gate_takes c.args.lane c.args.state _ c.accept_state.new.self _ c.accept_state.ensures.view c.accept_state.ensures.content)

pub returns-in-Ok : goal.returns-in-Ok
returns-in-Ok g c = puts_ok c.args.lane c.args.state c.args.kind _ _ c.accept_state.new.self c.release.new.gate _ c.release.new.emitted c.self.view_is (ap (λ (one : BookView). one.tally.broken) c.self.view_is ∙ c.requires.can.whole) (gate_takes c.args.lane c.args.state _ c.accept_state.new.self _ c.accept_state.ensures.view c.accept_state.ensures.content) c.in-Ok.ensures

pub returns-in-Err : goal.returns-in-Err
returns-in-Err g c = puts_err c.args.lane c.args.state c.args.kind _ _ c.breaks.new.self c.accept_state.new.self c.release.new.gate _ c.release.new.emitted c.in-Err.fault c.stop_of.result c.breaks.result c.self.view_is (gate_takes c.args.lane c.args.state _ c.accept_state.new.self _ c.accept_state.ensures.view c.accept_state.ensures.content) c.in-Err.ensures c.stop_of.ensures c.breaks.ensures
