use Rattle.std.proofs.Common.{◌∙◌}
use Rattle.attempt_close.proofs.Completing.{line_if, zero_text}
use Rattle.attempt_close.proofs.complete.completion_line.Goals as goal

pub returns : goal.returns
returns c = line_if c.args.configured.now c.args.stream c.stream.result.now c.in_ok-id.id c.in_ok-copy_of.field-0 c.write_message.result c.stream.ensures.stream c.in_ok-id.ensures.copied (c.in_ok-copy_of.ensures ∙ zero_text) c.write_message.ensures.written
