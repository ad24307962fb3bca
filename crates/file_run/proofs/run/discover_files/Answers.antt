use Rattle.std.proofs.Common.{◌<◌, ◌≤◌, length}
use Rattle.file_run.proofs.EntryLemmas.{streams-all, streams-more, streams-refused}
use Rattle.file_run.proofs.run.discover_files.Goals as goal

pub loop-place-preserved : goal.loop-place-preserved
loop-place-preserved c =
    let within : c.loop-place.place < length c.args.files.now = c.loop-place-test.true in
    streams-more c.args.files.now c.loop-place.place c.place_shown.result c.index-files-place.result c.loop-place.names c.add_stream.new.names c.loop-place.texts c.add_stream.new.texts c.place_shown.ensures within c.index-files-place.is c.in-Ok.ensures.added c.loop-place.invariant

pub returns-clause-texts : goal.returns-clause-texts
returns-clause-texts c =
    let over : length c.args.files.now ≤ c.loop-place.place = c.loop-place-test.false in
    streams-all c.args.files.now c.loop-place.place c.loop-place.names c.loop-place.texts over c.loop-place.invariant

pub returns-in-Err-clause-refused : goal.returns-in-Err-clause-refused
returns-in-Err-clause-refused c =
    let within : c.loop-place.place < length c.args.files.now = c.loop-place-test.true in
    streams-refused c.args.files.now c.loop-place.place c.place_shown.result c.index-files-place.result c.loop-place.names c.loop-place.texts c.in-Err.why c.place_shown.ensures within c.index-files-place.is c.in-Err.ensures.refused c.loop-place.invariant
