use Rattle.json_squeeze.proofs.Trees.{squeezes}
use Rattle.json_squeeze.proofs.squeezes_values.Goals as goal

pub returns : goal.returns
returns c = squeezes
