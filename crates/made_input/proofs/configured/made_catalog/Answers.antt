use Rattle.std.proofs.Common.{refl}
use Rattle.std.specs.Fmt.{digits}
use Rattle.json.specs.Print.{escape_byte}
use Rattle.made_input.proofs.configured.made_catalog.Goals as goal

pub returns : goal.returns
unfolding escape_byte digits
returns c = refl
