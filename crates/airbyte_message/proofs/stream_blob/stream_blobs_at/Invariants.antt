use Rattle.std.proofs.Common.{take}
use Rattle.airbyte_message.proofs.StateLemmas.{AreOnly}
use Rattle.airbyte_message.proofs.stream_blob.stream_blobs_at.Given as goal

-- the elements so far
abbrev pub invariant-loop-span : goal.invariant-loop-span
invariant-loop-span l = AreOnly l.text (take l.span-index l.spans) l.parts
