use Rattle.source_lines.proofs.CutLemmas.{cuts_alike}
use Rattle.source_lines.proofs.laws.cuts_anew.Goals as goal

pub returns : goal.returns
returns c = cuts_alike
