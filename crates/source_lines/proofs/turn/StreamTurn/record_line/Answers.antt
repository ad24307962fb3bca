use Rattle.std.proofs.Common.{ℕ, List, ◌++◌, ap, ◌∙◌, append_assoc}
use Rattle.source_lines.specs.Heads.{record_head, record_tail}
use Rattle.source_lines.specs.Turns.{Turn}
use Rattle.source_lines.proofs.LineLemmas.{record_line_is}
use Rattle.source_lines.proofs.turn.StreamTurn.record_line.Goals as goal

pub returns : goal.returns
returns g c =
    λ row found.
    let turn = c.args.self.now in
    let head = record_head turn.form.id in
    let tail = record_tail turn.form.moment in
    c.in_ok-extend.ensures.ok
    ∙ ap (λ (t : List ℕ). t ++ c.as_slice.result.now) (c.in_ok-put_body.ensures row found ∙ ap (λ (t : List ℕ). t ++ row.body) (c.in_ok-line.ensures.copied ∙ c.self.invariant.1 ∙ ap (λ (held : Turn). record_head held.form.id) c.self.view_is))
    ∙ ap (λ (t : List ℕ). (head ++ row.body) ++ t) (c.as_slice.ensures ∙ c.self.invariant.2 ∙ ap (λ (held : Turn). record_tail held.form.moment) c.self.view_is)
    ∙ append_assoc head row.body tail ∙ record_line_is turn.form.id turn.form.moment row.body
