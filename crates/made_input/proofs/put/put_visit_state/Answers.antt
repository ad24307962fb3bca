use Rattle.std.proofs.Common.{◌∙◌, ◌++◌, ℕ, ap}
use Rattle.std.specs.Fmt.{decimal}
use Rattle.std.proofs.lemmas.Result.{on_ok_weaker}
use Rattle.made_input.proofs.LineLemmas.{visit_state_front, visit_state_put, stats_front}
use Rattle.made_input.proofs.put.put_visit_state.Goals as goal

pub returns-clause-ok : goal.returns-clause-ok
returns-clause-ok c =
    let text = c.args.text.now in
    let first = c.put_numbered.new.text in
    on_ok_weaker c.extend.result
    (visit_state_put text first c.put_numbered-2.new.text c.extend.new.self c.args.row
    (c.in_ok-put_numbered.ensures.ok ∙ ap (λ (n : ℕ). text ++ (visit_state_front ++ decimal n)) c.from.ensures)
    (c.in_ok-put_numbered-2.ensures.ok ∙ ap (λ (n : ℕ). first ++ (stats_front ++ decimal n)) (c.from-2.ensures ∙ c.since_state.ensures)))
    c.extend.ensures.ok
