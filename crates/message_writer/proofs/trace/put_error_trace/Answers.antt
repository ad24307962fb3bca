use Rattle.std.proofs.Common.{codes}
use Rattle.json.specs.Print.{quoted}
use Rattle.message_writer.specs.Written.{error_text}
use Rattle.json_write.specs.Objects.{named}
use Rattle.message_writer.proofs.Texts.{told_closes}
use Rattle.message_writer.proofs.trace.put_error_trace.Goals as goal

pub returns : goal.returns
returns c =
    told_closes c.args.text.now c.put_type.new.text c.put_key.new.text c.put_error.new.text c.push.new.self (named (codes "type") (quoted (codes "ERROR"))) (codes "emitted_at") c.args.emitted_at.now (codes "error") (error_text c.args.meaning.now c.args.failure.now) c.in_ok-put_type.ensures c.in_ok-put_key.ensures.ok c.in_ok-put_error.ensures c.in_ok-push.ensures.ok
