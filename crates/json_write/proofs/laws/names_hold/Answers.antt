use Rattle.json_write.proofs.Names as names
use Rattle.json_write.proofs.laws.names_hold.Goals as goal

pub returns : goal.returns
returns c = λ text name members parts named e. names.names_hold text name members parts named e
