use Rattle.std.proofs.Common.{arith, sym, ap, ◌∙◌, true, false, take, drop}
use Rattle.source_lines.specs.Streams.{blob_behind}
use Rattle.source_lines.specs.Turns.{Turn, left_in}
use Rattle.source_lines.specs.declared.turn.Stage.{Stage}
use Rattle.source_lines.proofs.GivingLemmas.{record_given}
use Rattle.source_lines.proofs.turn.StreamTurn.next_line.Goals as goal

pub returns-in_ok-give_record-in-Owing-clause-line : goal.returns-in_ok-give_record-in-Owing-clause-line
returns-in_ok-give_record-in-Owing-clause-line g c =
    let rows = g.L.ListedRows.rows c.args.rows.now in
    let turn = c.args.self.now in
    let given = ap (λ (held : Turn). held.given) c.self.view_is in
    ap (λ (s : Stage). left_in s turn.form turn.since (blob_behind turn.blob (take turn.given rows)) (drop turn.given rows)) (sym (ap (λ (held : Turn). held.stage) c.self.view_is) ∙ c.in-Owing.is)
    ∙ record_given turn c.give_record.new.self rows c.in_ok-give_record-in-Owing.field-0 (omega (arith, given, c.if-is_more.true, c.len.ensures))
    c.in_ok-give_record-in-Owing.ensures.line c.in_ok-give_record-in-Owing.ensures.turned true

pub returns-in_ok-give_record-in-Settled-clause-line : goal.returns-in_ok-give_record-in-Settled-clause-line
returns-in_ok-give_record-in-Settled-clause-line g c =
    let rows = g.L.ListedRows.rows c.args.rows.now in
    let turn = c.args.self.now in
    let given = ap (λ (held : Turn). held.given) c.self.view_is in
    ap (λ (s : Stage). left_in s turn.form turn.since (blob_behind turn.blob (take turn.given rows)) (drop turn.given rows)) (sym (ap (λ (held : Turn). held.stage) c.self.view_is) ∙ c.in-Settled.is)
    ∙ record_given turn c.give_record-in-Settled.new.self rows c.in_ok-give_record-in-Settled.field-0 (omega (arith, given, c.if-is_more-2.true, c.len.ensures))
    c.in_ok-give_record-in-Settled.ensures.line c.in_ok-give_record-in-Settled.ensures.turned false
