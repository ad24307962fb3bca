use Rattle.std.proofs.Common.{None, List, length, ap, sym, ◌∙◌}
use Rattle.std.proofs.lemmas.List.{length-replicate}
use Rattle.std.specs.List.{filter_map}
use Rattle.airbyte_message.specs.State.{State}
use Rattle.state_kinds.specs.StateLists.{stream_of}
use Rattle.local_world.specs.Awaited.{count_missing}
use Rattle.local_world.proofs.AwaitLemmas.{missing_replicate}
use Rattle.local_world.proofs.awaited.Awaited.new.Goals as goal

pub invariant_of-result : goal.invariant_of-result
invariant_of-result c =
    let all = c.in_ok-reached.ensures in (
      c.requires,
      c.in_ok-index.ensures ∙ ap (λ (ss : List State). filter_map (λ s. stream_of s.kind) ss) c.as_slice.ensures,
      ap length all ∙ (length-replicate c.len-missing.result None ∙ c.len-missing.ensures),
      sym (ap count_missing all ∙ missing_replicate c.len-missing.result),
    )
