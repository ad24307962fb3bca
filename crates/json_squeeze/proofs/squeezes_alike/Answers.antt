use Rattle.json_squeeze.proofs.Trees.{alike}
use Rattle.json_squeeze.proofs.squeezes_alike.Goals as goal

pub returns : goal.returns
returns c = alike
