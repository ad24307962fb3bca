use Rattle.std.proofs.Common.{take}
use Rattle.std.specs.Option.{option_copied}
use Rattle.script_link.proofs.TraceLemmas.{IsSaved}
use Rattle.script_link.proofs.link_trace.LinkTrace.stored.Given as goal

-- the text that was saved last so far
abbrev pub invariant-loop-told : goal.invariant-loop-told
invariant-loop-told l = IsSaved (take l.told-index l.told-items) (option_copied l.last)
