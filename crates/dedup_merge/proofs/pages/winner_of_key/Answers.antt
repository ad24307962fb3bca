use Rattle.std.proofs.Common.{◌≡◌, Option, false, subst}
use Rattle.std.specs.Prelude.{IfSome}
use Rattle.std.specs.Str.{bytes_eq}
use Rattle.outside.specs.Dock.{tables}
use Rattle.outside.specs.Tables.{winner_of}
use Rattle.outside.specs.declared.event.RawRow.{RawRow}
use Rattle.dedup_merge.proofs.StepLemmas.{other_key}
use Rattle.dedup_merge.proofs.pages.winner_of_key.Goals as goal

pub returns-else-eq-clause-winner : goal.returns-else-eq-clause-winner
returns-else-eq-clause-winner g c =
    let told = tables (g.D.Dock.seen c.args.dock.now) in
    let given = subst (λ (o : Option RawRow). IfSome told (λ store. o ≡ winner_of store c.args.stream c.args.key.now)) c.in-Some.is c.in_ok-winner.ensures.winner in
    let differs : bytes_eq c.in-Some.winner.key c.args.key.now ≡ false = cc in
    other_key told c.args.stream c.args.key.now c.in-Some.winner given differs
