use Rattle.std.proofs.Common.{codes}
use Rattle.json_fields.proofs.AnswerLemmas.{along}
use Rattle.catalog.specs.Entry.{HasStreamId, HasOptionalList, IsPath, IsKey}
use Rattle.catalog.proofs.EntryLemmas.{stream_answer, stream_unnamed, stream_no_cursor, stream_no_key}
use Rattle.catalog.proofs.members.stream_part_of.Goals as goal

pub returns-in_default : goal.returns-in_default
returns-in_default c = stream_unnamed c.args.stream.now (along (HasStreamId c.args.stream.now) c.in_default.is c.in_ok-id.ensures)

pub returns-in_default-2 : goal.returns-in_default-2
returns-in_default-2 c = stream_no_cursor c.args.stream.now (along (HasOptionalList IsPath c.args.stream.now (codes "default_cursor_field")) c.in_default-2.is c.in_ok-cursor.ensures)

pub returns-in_default-3 : goal.returns-in_default-3
returns-in_default-3 c = stream_no_key c.args.stream.now (along (HasOptionalList IsKey c.args.stream.now (codes "source_defined_primary_key")) c.in_default-3.is c.in_ok-key.ensures)

pub returns : goal.returns
returns c =
    let stream = c.args.stream.now in
    stream_answer stream c.in-Some.id c.in-Some-2.cursor c.in-Some-3.key c.in_ok-resumable.resumable c.in_ok-schema.schema
    (along (HasStreamId stream) c.in-Some.is c.in_ok-id.ensures)
    (along (HasOptionalList IsPath stream (codes "default_cursor_field")) c.in-Some-2.is c.in_ok-cursor.ensures)
    (along (HasOptionalList IsKey stream (codes "source_defined_primary_key")) c.in-Some-3.is c.in_ok-key.ensures)
    c.in_ok-resumable.ensures
    c.in_ok-schema.ensures
