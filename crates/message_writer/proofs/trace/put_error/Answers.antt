use Rattle.std.proofs.Common.{[], codes, option_map}
use Rattle.json.specs.Print.{quoted}
use Rattle.airbyte_message.specs.Words.{failure_text}
use Rattle.json_write.specs.Objects.{Part, named, optional}
use Rattle.json_write.proofs.Texts.{grows, closes}
use Rattle.message_writer.proofs.trace.put_error.Goals as goal

pub returns : goal.returns
returns c =
    let old = c.args.text.now in
    let message : Part = named (codes "message") (quoted c.as_str.result.now) in
    let failure = optional (codes "failure_type") (option_map (λ f. quoted (failure_text f)) c.args.failure.now) [] in
    let first = grows old c.put_string_member.new.text c.put_failure.new.text message [] failure c.in_ok-put_string_member.ensures.ok c.in_ok-put_failure.ensures in
    let closed = closes old c.put_failure.new.text c.push.new.self message failure first c.in_ok-push.ensures.ok in
    rw (← c.as_str.ensures) closed
