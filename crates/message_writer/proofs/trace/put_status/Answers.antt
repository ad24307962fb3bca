use Rattle.std.proofs.Common.{◌++◌, [], ◌∷◌, codes, option_map, refl}
use Rattle.json.specs.Print.{quoted}
use Rattle.json_write.specs.Objects.{Part, named, object_text, open_object, optional}
use Rattle.json_write.proofs.Texts.{grows, closes, keyed}
use Rattle.message_writer.proofs.trace.put_status.Goals as goal

pub returns : goal.returns
returns c =
    let old = c.args.text.now in
    let id = c.args.id.now in
    let name : Part = named (codes "name") (quoted id.name) in
    let space = optional (codes "namespace") (option_map quoted id.namespace) [] in
    let descriptor : Part = named (codes "stream_descriptor") (object_text (name ∷ space)) in
    let status : Part = named (codes "status") (quoted c.text.result.now) in
    let head = c.put_key.new.text in
    let ids = grows head (head ++ open_object (name ∷ [])) c.put_id.new.text name [] space refl c.in_ok-put_id.ensures in
    let closed = closes head c.put_id.new.text c.push.new.self name space ids c.in_ok-push.ensures.ok in
    let first = keyed 123 old head c.push.new.self (codes "stream_descriptor") (object_text (name ∷ space)) c.in_ok-put_key.ensures.ok closed in
    let both = grows old c.push.new.self c.put_string_member.new.text descriptor [] (status ∷ []) first c.in_ok-put_string_member.ensures.ok in
    let whole = closes old c.put_string_member.new.text c.push-2.new.self descriptor (status ∷ []) both c.in_ok-push-2.ensures.ok in
    rw (← c.text.ensures) whole
