use Rattle.column_types.proofs.KindLemmas.{AreRead}
use Rattle.column_types.proofs.property.is_list_of.Given as goal

abbrev pub invariant-loop-span : goal.invariant-loop-span
invariant-loop-span l = AreRead l.text l.word l.spans l.span-index l.some
