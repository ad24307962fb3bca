use Rattle.std.proofs.Common.{get_or, eq-eqb}
use Rattle.json_span.proofs.Classes.{equal}
use Rattle.json_span.proofs.First.{not_empty}
use Rattle.json_span.proofs.ArrayFirst.{first_tells_array}
use Rattle.json_span.proofs.array.is_array.Goals as goal

pub bounds-text-0 : goal.bounds-text-0
bounds-text-0 c = not_empty c.args.text.now c.requires

pub returns : goal.returns
returns c =
    let tells = first_tells_array c.args.text.now c.requires in
    (λ e. tells.0 (equal (get_or c.args.text.now 0 0) 91 e), λ o. eq-eqb (get_or c.args.text.now 0 0) 91 (tells.1 o))
