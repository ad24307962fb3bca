use Rattle.std.proofs.Common.{◌<◌, ◌≤◌, ◌∙◌, length}
use Rattle.file_run.proofs.EntryLemmas.{has-all, has-more}
use Rattle.file_run.proofs.RunLemmas.{read_more, texts_read}
use Rattle.file_run.proofs.run.check_entries.Goals as goal

pub loop-entry-preserved : goal.loop-entry-preserved
loop-entry-preserved g c =
    let within : c.loop-entry.entry-index < length c.args.entries.now = c.loop-entry-test.true in
    let old = g.K.Desk.seen c.args.desk.now in
    let mid = g.K.Desk.seen c.loop-entry.desk in
    record {
      texts = has-more c.args.entries.now c.loop-entry.entry-index c.entry-item.result c.as_str.result.now c.in_ok-_text._text old.texts mid.texts within c.entry-item.is c.as_str.ensures (texts_read ⊥ old mid c.loop-entry.invariant.only) c.in_ok-_text.ensures.text c.loop-entry.invariant.texts;
      only = read_more old mid (g.K.Desk.seen c.read_text.new.self) c.loop-entry.invariant.only c.in_ok-_text.ensures.stays c.in_ok-_text.ensures.others;
      stays = c.in_ok-_text.ensures.stays ∙ c.loop-entry.invariant.stays;
    }

pub returns-clause-texts : goal.returns-clause-texts
returns-clause-texts g c =
    let over : length c.args.entries.now ≤ c.loop-entry.entry-index = c.loop-entry-test.false in
    has-all c.args.entries.now c.loop-entry.entry-index (g.K.Desk.seen c.args.desk.now).texts over c.loop-entry.invariant.texts
