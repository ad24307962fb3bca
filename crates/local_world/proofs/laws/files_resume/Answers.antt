use Rattle.local_world.proofs.RestLemmas.{files_resume}
use Rattle.local_world.proofs.laws.files_resume.Goals as goal

pub returns : goal.returns
returns c = files_resume
