use Rattle.std.proofs.Common.{ℕ, List, ◌++◌, ap, ◌∙◌, append_assoc, take}
use Rattle.source_lines.specs.Heads.{state_head, state_tail}
use Rattle.source_lines.specs.Streams.{blob_behind}
use Rattle.source_lines.specs.Turns.{Turn}
use Rattle.source_lines.proofs.LineLemmas.{state_line_is}
use Rattle.source_lines.proofs.turn.StreamTurn.state_line.Goals as goal

pub returns : goal.returns
returns g c =
    let turn = c.args.self.now in
    let blob = blob_behind turn.blob (take turn.given (g.L.ListedRows.rows c.args.rows.now)) in
    let head = state_head turn.form.id in
    let tail = state_tail turn.since in
    c.in_ok-put_state_end.ensures
    ∙ ap (λ (held : Turn). c.put_blob.new.line ++ state_tail held.since) c.self.view_is
    ∙ ap (λ (t : List ℕ). t ++ tail) (c.in_ok-put_blob.ensures ∙ ap (λ (t : List ℕ). t ++ blob) (c.in_ok-line.ensures.copied ∙ c.self.invariant.3 ∙ ap (λ (held : Turn). state_head held.form.id) c.self.view_is))
    ∙ append_assoc head blob tail ∙ state_line_is turn.form.id blob turn.since
