use Rattle.script_link.proofs.CallLemmas.{stop_grew}
use Rattle.script_link.proofs.script_link.ScriptLinkLink.stop.Goals as goal

pub returns-clause-grew : goal.returns-clause-grew
returns-clause-grew c = stop_grew c.end.result c.args.self.now c.end.new.self c.end.ensures.goes c.end.ensures.kept
