use Rattle.std.proofs.Common.{codes}
use Rattle.json.specs.Print.{quoted}
use Rattle.message_writer.specs.Written.{stream_status_text}
use Rattle.json_write.specs.Objects.{named}
use Rattle.message_writer.proofs.Texts.{told_closes}
use Rattle.message_writer.proofs.trace.put_status_trace.Goals as goal

pub returns : goal.returns
returns c =
    told_closes c.args.text.now c.put_type.new.text c.put_key.new.text c.put_status.new.text c.push.new.self (named (codes "type") (quoted (codes "STREAM_STATUS"))) (codes "emitted_at") c.args.emitted_at.now (codes "stream_status") (stream_status_text c.args.id.now c.args.status) c.in_ok-put_type.ensures c.in_ok-put_key.ensures.ok c.in_ok-put_status.ensures c.in_ok-push.ensures.ok
