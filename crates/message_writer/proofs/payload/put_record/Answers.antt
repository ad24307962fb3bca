use Rattle.std.proofs.Common.{codes, option_map}
use Rattle.std.specs.Fmt.{decimal}
use Rattle.json.specs.Print.{quoted}
use Rattle.json_write.specs.Objects.{named}
use Rattle.message_writer.proofs.Texts.{record_closes}
use Rattle.message_writer.proofs.payload.put_record.Goals as goal

pub returns : goal.returns
returns c =
    let content = c.args.content.now in
    let closed = record_closes c.args.text.now c.put_id.new.text c.put_member.new.text c.put_number_member.new.text c.put_optional_member.new.text c.push.new.self
    (named (codes "stream") (quoted content.id.name)) (named (codes "data") c.as_slice.result.now) (named (codes "emitted_at") (decimal content.emitted_at)) (codes "namespace") (codes "meta") (option_map quoted content.id.namespace) content.meta
    c.in_ok-put_id.ensures c.in_ok-put_member.ensures.ok c.in_ok-put_number_member.ensures.ok c.in_ok-put_optional_member.ensures.ok c.in_ok-push.ensures.ok in
    rw (← c.as_slice.ensures) closed
