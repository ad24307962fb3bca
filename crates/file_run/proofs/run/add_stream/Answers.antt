use Rattle.file_run.proofs.EntryLemmas.{adds, passes, refuses}
use Rattle.file_run.proofs.run.add_stream.Goals as goal

pub returns-in-Some-clause-added : goal.returns-in-Some-clause-added
returns-in-Some-clause-added c = passes c.args.place c.in-Some._place c.args.file.now c.args.names.now c.args.texts.now c.as_str.result.now c.as_str.ensures c.in-Some.ensures.found

pub returns-in-Ok-put_stream-clause-added : goal.returns-in-Ok-put_stream-clause-added
returns-in-Ok-put_stream-clause-added c =
    adds c.args.place c.args.file.now c.args.names.now c.args.texts.now c.put_stream.new.names c.put_stream.new.texts c.as_str.result.now c.as_str-in-Ok.result.now c.in-Ok.text c.as_str.ensures c.as_str-in-Ok.ensures c.in-None.ensures.none c.in-Ok.ensures.text c.in-Ok-put_stream.ensures

pub returns-in-Err-clause-refused : goal.returns-in-Err-clause-refused
returns-in-Err-clause-refused c = refuses c.args.place c.args.file.now c.args.names.now c.as_str.result.now c.in-Err.why c.as_str.ensures c.in-None.ensures.none c.in-Err.ensures.refused
