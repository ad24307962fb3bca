use Rattle.std.proofs.Common.{[], ◌∷◌, codes}
use Rattle.json.specs.Print.{quoted}
use Rattle.json_write.specs.Objects.{Part, named}
use Rattle.json_write.proofs.Texts.{grows, closes}
use Rattle.message_writer.proofs.payload.put_log.Goals as goal

pub returns : goal.returns
returns c =
    let old = c.args.text.now in
    let content = c.args.content.now in
    let level : Part = named (codes "level") (quoted c.text.result.now) in
    let message : Part = named (codes "message") (quoted c.as_str.result.now) in
    let closed = closes old c.put_string_member-2.new.text c.push.new.self level (message ∷ []) (grows old c.put_string_member.new.text c.put_string_member-2.new.text level [] (message ∷ []) c.in_ok-put_string_member.ensures.ok c.in_ok-put_string_member-2.ensures.ok) c.in_ok-push.ensures.ok in
    rw (← c.text.ensures, ← c.as_str.ensures) closed
