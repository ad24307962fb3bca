use Rattle.source_lines.proofs.ResumeLemmas.{resume}
use Rattle.source_lines.proofs.laws.lines_resume.Goals as goal

pub returns : goal.returns
returns c = resume
