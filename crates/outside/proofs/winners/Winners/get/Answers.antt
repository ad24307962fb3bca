use Rattle.std.proofs.Common.{◌≡◌, ℕ, List, Bool, true, false, refl, sym, ◌∙◌, ap, arith}
use Rattle.std.specs.Str.{bytes_eq}
use Rattle.outside.proofs.WinnerLaws.{waiting_here, waiting_there}
use Rattle.outside.proofs.winners.Winners.get.Goals as goal

pub returns-then-eq : goal.returns-then-eq
returns-then-eq c =
    let same : bytes_eq c.row-item.result.key c.args.key.now ≡ true = cc in
    sym (waiting_here c.self.inside.placed c.deref-row-items.result.now c.loop-row.row-index c.row-item.result c.args.key.now (omega arith) c.row-item.is same) ∙ c.loop-row.invariant

pub loop-row-preserved : goal.loop-row-preserved
loop-row-preserved c =
    let differs : bytes_eq c.row-item.result.key c.args.key.now ≡ false = cc in
    waiting_there c.self.inside.placed c.deref-row-items.result.now c.loop-row.row-index c.row-item.result c.args.key.now (omega arith) c.row-item.is differs ∙ c.loop-row.invariant
