use Rattle.std.proofs.Common.{get_or, eq-eqb}
use Rattle.json_span.proofs.Classes.{equal}
use Rattle.json_span.proofs.First.{not_empty}
use Rattle.column_types.proofs.ValueLemmas.{string_first, string_begins}
use Rattle.column_types.proofs.typed.is_string.Goals as goal

pub bounds-text-0 : goal.bounds-text-0
bounds-text-0 c = not_empty c.args.text.now c.requires

pub returns : goal.returns
returns c =
    (λ e. string_first c.args.text.now c.requires (equal (get_or c.args.text.now 0 0) 34 e), λ s. eq-eqb (get_or c.args.text.now 0 0) 34 (string_begins c.args.text.now s))
