use Rattle.json_squeeze.proofs.Utf8.{squeezed-utf8}
use Rattle.json_squeeze.proofs.keeps_utf8.Goals as goal

pub returns : goal.returns
returns c = squeezed-utf8
