use Rattle.json_write.proofs.Trees.{object_of}
use Rattle.json_write.proofs.laws.objects_read_back.Goals as goal

pub returns : goal.returns
returns c = λ limit parts s. object_of limit parts s
