use Rattle.file_source.proofs.ResumeLemmas.{resume}
use Rattle.file_source.proofs.laws.files_resume.Goals as goal

pub returns : goal.returns
returns c = resume
