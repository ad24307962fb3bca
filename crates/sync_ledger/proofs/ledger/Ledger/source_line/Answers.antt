use Rattle.std.proofs.Common.{arith, ◌≡◌, false, nat_lt, length, IfErr, subst}
use Rattle.std.proofs.lemmas.Bool.{le-ltb}
use Rattle.basics.specs.declared.limits.TheConstants.{LONGEST_LINE}
use Rattle.sync_ledger.specs.Judged.{RefusesLine}
use Rattle.sync_ledger.specs.Noted.{Noted}
use Rattle.sync_ledger.proofs.JudgeLemmas.{refused_if}
use Rattle.sync_ledger.proofs.ledger.Ledger.source_line.Goals as goal

pub returns-clause-refused : goal.returns-clause-refused
returns-clause-refused c =
    let short : nat_lt LONGEST_LINE (length c.args.line.now) ≡ false = let h = c.if-line-gt-LONGEST_LINE.false in le-ltb LONGEST_LINE (length c.args.line.now) (omega (arith, h)) in
    subst (λ (noted : Noted). IfErr c.hear.result (λ fault. RefusesLine noted c.args.line.now fault)) c.self.view_is (refused_if c.self.inside.notes c.args.line.now c.in_ok-told.told c.hear.result short c.in_ok-told.ensures c.hear.ensures.refused)
