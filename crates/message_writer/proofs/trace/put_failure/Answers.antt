use Rattle.std.proofs.Common.{codes, ap}
use Rattle.json.specs.Print.{quoted}
use Rattle.airbyte_message.specs.Words.{failure_text}
use Rattle.json_write.proofs.Texts.{optional_grows}
use Rattle.message_writer.proofs.trace.put_failure.Goals as goal

pub returns-in_ok-put_string_member-in-Some : goal.returns-in_ok-put_string_member-in-Some
returns-in_ok-put_string_member-in-Some c =
    optional_grows (λ f. quoted (failure_text f)) (codes "failure_type") c.args.text.now c.put_string_member.new.text (quoted c.text.result.now) c.in-Some.held c.args.failure.now c.in-Some.is (ap quoted c.text.ensures) c.in_ok-put_string_member-in-Some.ensures.ok
