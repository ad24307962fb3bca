use Rattle.std.proofs.Common.{ℕ, List, Option, ◌∙◌, subst}
use Rattle.source_lines.specs.Turns.{GivesLine}
use Rattle.source_lines.specs.Giving.{MayGiveRound, Round}
use Rattle.source_lines.specs.Rounds.{OpensNext, OpensNotNext}
use Rattle.source_lines.proofs.RoundLemmas.{as_it_came, not_opened, opened_answer, round_same}
use Rattle.source_lines.proofs.round.advance.Goals as goal

pub returns-in_err-open_next-clause-goes : goal.returns-in_err-open_next-clause-goes
returns-in_err-open_next-clause-goes g c =
    let S = g.S.StreamSource in
    let before = S.Opens c.args.source.now in
    let after = S.Opens c.open_next.new.source in
    let none = subst (λ (found : Option (List ℕ)). GivesLine found c.args.round.now.lines c.line_of.new.round.lines) c.in_default.is c.in_ok-line.ensures.line in
    let same = round_same c.args.round.now c.line_of.new.round c.in_ok-line.ensures.others none in
    let refused = c.in_err-open_next.ensures.refused in
    as_it_came c.from_residual-in_err-open_next.result c.in_err-open_next.field-0.0 (MayGiveRound before c.args.moment c.args.round.now) (MayGiveRound after c.args.moment c.open_next.new.round) c.from_residual-in_err-open_next.ensures.1
    (not_opened before after c.args.moment c.args.round.now c.open_next.new.round c.in_err-open_next.field-0.0 none.0 (refused.0 ∙ same) c.in_err-open_next.ensures.alike
    (subst (λ (r : Round g.row.S-Start.Denot). OpensNotNext before r c.in_err-open_next.field-0.0) same refused.1))

pub returns-then-branch-clause-goes : goal.returns-then-branch-clause-goes
returns-then-branch-clause-goes g c =
    let S = g.S.StreamSource in
    let before = S.Opens c.args.source.now in
    let after = S.Opens c.open_next.new.source in
    let none = subst (λ (found : Option (List ℕ)). GivesLine found c.args.round.now.lines c.line_of.new.round.lines) c.in_default.is c.in_ok-line.ensures.line in
    let same = round_same c.args.round.now c.line_of.new.round c.in_ok-line.ensures.others none in
    let line = c.line_of-then-branch.ensures in
    let opened = subst (λ (r : Round g.row.S-Start.Denot). OpensNext before c.args.moment r c.open_next.new.round) same (c.in_ok-open_next.ensures.opened c.if-branch.true) in
    opened_answer before after c.args.moment c.args.round.now c.open_next.new.round c.line_of-then-branch.new.round c.line_of-then-branch.result none.0 c.in_ok-open_next.ensures.alike opened line.line line.others line.memory line.err
