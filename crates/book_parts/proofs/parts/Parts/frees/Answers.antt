use Rattle.std.proofs.Common.{◌≡◌, ◌∙◌, ap, sym, subst}
use Rattle.book_queue.specs.Content.{IsBatchOf, batch_of}
use Rattle.book_rules.specs.Holds.{CanPut}
use Rattle.book_rules.specs.Puts.{seqs_of}
use Rattle.book_rules.specs.Views.{BookView}
use Rattle.book_parts.proofs.Committing.{gate_commits, may_release}
use Rattle.book_parts.proofs.Putting.{frees_err, frees_ok}
use Rattle.book_parts.proofs.parts.Parts.frees.Goals as goal

pub release-requires : goal.release-requires
release-requires g c =
    let can = subst CanPut (sym c.self.view_is) c.requires.can in
    let of = subst (λ (one : BookView). IsBatchOf c.args.stream c.args.batch one.queue.held) (sym c.self.view_is) c.requires.of in
    let seqs = subst (λ (one : BookView). c.args.seqs.now ≡ seqs_of (batch_of c.args.batch one.queue.held)) (sym c.self.view_is) c.requires.seqs in
    let knows = gate_commits _ c.args.stream c.args.batch c.args.seqs.now c.committed.new.self can c.stands.ensures of seqs c.committed.ensures.view c.committed.ensures.content in
    may_release _ _ c.committed.new.self can knows

pub returns-in-Ok : goal.returns-in-Ok
returns-in-Ok g c =
    let can = subst CanPut (sym c.self.view_is) c.requires.can in
    let of = subst (λ (one : BookView). IsBatchOf c.args.stream c.args.batch one.queue.held) (sym c.self.view_is) c.requires.of in
    let seqs = subst (λ (one : BookView). c.args.seqs.now ≡ seqs_of (batch_of c.args.batch one.queue.held)) (sym c.self.view_is) c.requires.seqs in
    let knows = gate_commits _ c.args.stream c.args.batch c.args.seqs.now c.committed.new.self can c.stands.ensures of seqs c.committed.ensures.view c.committed.ensures.content in
    frees_ok c.args.batch _ _ c.committed.new.self c.release.new.gate (g.D.Dock.seen c.release.new.dock) c.release.new.emitted c.let_go.new.self c.self.view_is (ap (λ (one : BookView). one.tally.broken) c.self.view_is ∙ c.requires.whole) knows c.let_go.ensures.gone c.in-Ok.ensures

pub returns-in-Err : goal.returns-in-Err
returns-in-Err g c =
    let can = subst CanPut (sym c.self.view_is) c.requires.can in
    let of = subst (λ (one : BookView). IsBatchOf c.args.stream c.args.batch one.queue.held) (sym c.self.view_is) c.requires.of in
    let seqs = subst (λ (one : BookView). c.args.seqs.now ≡ seqs_of (batch_of c.args.batch one.queue.held)) (sym c.self.view_is) c.requires.seqs in
    let knows = gate_commits _ c.args.stream c.args.batch c.args.seqs.now c.committed.new.self can c.stands.ensures of seqs c.committed.ensures.view c.committed.ensures.content in
    frees_err c.args.batch _ _ c.breaks_by.new.self c.committed.new.self c.release.new.gate (g.D.Dock.seen c.release.new.dock) c.release.new.emitted c.let_go.new.self c.in-Err.fault c.stop_of.result c.breaks_by.result c.self.view_is knows c.let_go.ensures.gone c.in-Err.ensures c.stop_of.ensures c.breaks_by.ensures
