use Rattle.json_span.proofs.Theorems.{none_in_front}
use Rattle.json_span.proofs.cut.no_object_in_front.Goals as goal

pub returns : goal.returns
returns c = none_in_front
