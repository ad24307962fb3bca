use Rattle.std.proofs.Common.{sym}
use Rattle.json_span.proofs.FirstArray.{listed_read}
use Rattle.json_span.proofs.lists.array_at.Goals as goal

pub returns-in-Some-listed : goal.returns-in-Some-listed
returns-in-Some-listed c = listed_read c.args.text.now c.args.members.now c.args.first c.args.listed c.in-Some.index c.in-Some-listed.place c.args.read c.requires.parts c.in-Some.is c.in-Some-listed.is (sym c.if-place-index.true) c.requires.first c.requires.read
