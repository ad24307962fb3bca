use Rattle.std.proofs.Common.{codes}
use Rattle.json_fields.specs.Fields.{HasText}
use Rattle.json_fields.proofs.AnswerLemmas.{along}
use Rattle.catalog.specs.Entry.{HasIds, HasOptionalList, HasStream, IsPath, IsKey}
use Rattle.catalog.proofs.EntryLemmas.{entry_answer, entry_no_stream, entry_no_sync, entry_no_dest, entry_no_cursor, entry_no_key, entry_no_ids}
use Rattle.catalog.proofs.members.entry_in.Goals as goal

pub returns-in_default : goal.returns-in_default
returns-in_default c = entry_no_stream c.args.text.now (along (HasStream c.args.text.now) c.in_default.is c.in_ok-stream.ensures)

pub returns-in_default-2 : goal.returns-in_default-2
returns-in_default-2 c = entry_no_sync c.args.text.now (along (HasText c.args.text.now (codes "sync_mode")) c.in_default-2.is c.in_ok-sync.ensures)

pub returns-in_default-3 : goal.returns-in_default-3
returns-in_default-3 c = entry_no_dest c.args.text.now (along (HasText c.args.text.now (codes "destination_sync_mode")) c.in_default-3.is c.in_ok-dest.ensures)

pub returns-in_default-4 : goal.returns-in_default-4
returns-in_default-4 c = entry_no_cursor c.args.text.now (along (HasOptionalList IsPath c.args.text.now (codes "cursor_field")) c.in_default-4.is c.in_ok-cursor.ensures)

pub returns-in_default-5 : goal.returns-in_default-5
returns-in_default-5 c = entry_no_key c.args.text.now (along (HasOptionalList IsKey c.args.text.now (codes "primary_key")) c.in_default-5.is c.in_ok-key.ensures)

pub returns-in-Some-6 : goal.returns-in-Some-6
returns-in-Some-6 c =
    let text = c.args.text.now in
    entry_answer text c.in-Some.stream c.in-Some-2.sync c.in-Some-3.dest c.in-Some-4.cursor c.in-Some-5.key c.in-Some-6.ids
    (along (HasStream text) c.in-Some.is c.in_ok-stream.ensures)
    (along (HasText text (codes "sync_mode")) c.in-Some-2.is c.in_ok-sync.ensures)
    (along (HasText text (codes "destination_sync_mode")) c.in-Some-3.is c.in_ok-dest.ensures)
    (along (HasOptionalList IsPath text (codes "cursor_field")) c.in-Some-4.is c.in_ok-cursor.ensures)
    (along (HasOptionalList IsKey text (codes "primary_key")) c.in-Some-5.is c.in_ok-key.ensures)
    (along (HasIds text) c.in-Some-6.is c.in_ok-ids.ensures)

pub returns-in-None : goal.returns-in-None
returns-in-None c = entry_no_ids c.args.text.now (along (HasIds c.args.text.now) c.in-None.is c.in_ok-ids.ensures)
