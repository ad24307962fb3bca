use Rattle.column_types.proofs.ValueLemmas.{IsWalked}
use Rattle.column_types.proofs.value.text_along.Given as goal

abbrev pub invariant-loop-name : goal.invariant-loop-name
invariant-loop-name l = IsWalked l.text l.names l.name-index l.at
