use Rattle.std.proofs.Common.{refl, Some}
use Rattle.std.proofs.lemmas.Option.{slice_get-get_or}
use Rattle.json_span.proofs.FirstArray.{listed_cut}
use Rattle.json_span.proofs.lists.cut_at.Goals as goal

pub returns : goal.returns
returns c = listed_cut c.args.text.now c.args.members.now (Some c.args.index) c.args.index _ c.of.result.now c.cut_array.result refl c.requires.first (slice_get-get_or c.args.members.now c.args.index _ c.requires.first.below) c.of.ensures c.cut_array.ensures
