use Rattle.std.proofs.lemmas.Result.{on_ok_weaker}
use Rattle.made_input.specs.Made.{complete, items, visits}
use Rattle.made_input.proofs.LineLemmas.{items_put, visits_put}
use Rattle.made_input.proofs.PartLemmas.{two_lines}
use Rattle.made_input.proofs.put.put_end.Goals as goal

pub returns-clause-ok : goal.returns-clause-ok
returns-clause-ok c =
    let text = c.args.text.now in
    let first = c.extend.new.self in
    on_ok_weaker c.extend-2.result
    (λ n. two_lines text first c.extend-2.new.self (complete items) (complete visits) (items_put text first c.in_ok-extend.ensures.ok) (visits_put first c.extend-2.new.self n))
    c.extend-2.ensures.ok
