use Rattle.json_squeeze.proofs.Twice.{squeezed-twice}
use Rattle.json_squeeze.proofs.squeezes_once.Goals as goal

pub returns : goal.returns
returns c = squeezed-twice
