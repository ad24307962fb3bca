use Rattle.std.proofs.Common.{arith, ap, ◌∙◌, ◌++◌, take}
use Rattle.source_lines.specs.Streams.{blob_behind}
use Rattle.source_lines.specs.Turns.{Turn}
use Rattle.source_lines.proofs.GivingLemmas.{blob_is, on_ok}
use Rattle.source_lines.proofs.turn.StreamTurn.put_blob.Goals as goal

pub returns : goal.returns
returns g c =
    let rows = g.L.ListedRows.rows c.args.rows.now in
    let blob = c.args.self.now.blob in
    let old = c.args.line.now in
    let given = ap (λ (held : Turn). held.given) c.self.view_is in
    on_ok c.put_blob.result
    (λ puts. blob_is blob rows c.self.inside.given (omega (arith, c.if-self-eq0.false)) (omega (arith, given, c.if-self-eq0.false, c.requires)) old c.put_blob.new.line puts
    ∙ ap (λ (held : Turn). old ++ blob_behind blob (take held.given rows)) c.self.view_is)
    c.put_blob.ensures
