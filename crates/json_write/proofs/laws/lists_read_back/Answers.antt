use Rattle.json_write.proofs.Lists.{list_of}
use Rattle.json_write.proofs.laws.lists_read_back.Goals as goal

pub returns : goal.returns
returns c = λ limit items s. list_of limit items s
