use Rattle.std.proofs.Common.{[], codes, option_map}
use Rattle.json.specs.Print.{quoted}
use Rattle.json_write.specs.Objects.{Part, named, optional}
use Rattle.json_write.proofs.Texts.{grows, closes}
use Rattle.message_writer.proofs.payload.put_connection.Goals as goal

pub returns : goal.returns
returns c =
    let old = c.args.text.now in
    let content = c.args.content.now in
    let status : Part = named (codes "status") (quoted c.status.result.now) in
    let message = optional (codes "message") (option_map quoted content.text) [] in
    let first = grows old c.put_string_member.new.text c.put_optional_string.new.text status [] message c.in_ok-put_string_member.ensures.ok c.in_ok-put_optional_string.ensures.ok in
    let closed = closes old c.put_optional_string.new.text c.push.new.self status message first c.in_ok-push.ensures.ok in
    rw (← c.status.ensures) closed
