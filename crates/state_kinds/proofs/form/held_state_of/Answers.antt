use Rattle.std.proofs.Common.{sym, ◌∙◌}
use Rattle.std.proofs.lemmas.Slice.Eq.{bytes_eq-Decides}
use Rattle.state_kinds.proofs.FormLemmas.{held_null}
use Rattle.state_kinds.proofs.form.held_state_of.Goals as goal

pub returns-then-eq : goal.returns-then-eq
returns-then-eq c = held_null c.args.held.now ((bytes_eq-Decides c.args.held.now c.as_slice.result.now).0 (sym c.eq.ensures ∙ c.if-eq.true) ∙ c.as_slice.ensures)
