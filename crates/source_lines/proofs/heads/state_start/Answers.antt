use Rattle.std.proofs.Common.{[], ◌∷◌, codes, option_map}
use Rattle.json.specs.Print.{quoted}
use Rattle.json_write.specs.Objects.{named, open_object, optional}
use Rattle.airbyte_message.specs.declared.read.MessageType.TheVariants as types
use Rattle.source_lines.specs.Heads.{key_text, line_head}
use Rattle.source_lines.proofs.HeadLemmas.{state_begins}
use Rattle.source_lines.proofs.heads.state_start.Goals as goal

pub returns : goal.returns
returns c =
    let id = c.args.id.now in
    state_begins (line_head types.State) c.in_ok-head.head c.put_string_member.new.text c.put_key.new.text c.put_key-2.new.text c.put_id.new.text c.push.new.self c.put_key-3.new.text
    (open_object (named (codes "type") (quoted (codes "STREAM")) ∷ [])) (key_text (codes "stream")) (codes "stream_descriptor") (named (codes "name") (quoted id.name)) (optional (codes "namespace") (option_map quoted id.namespace) []) (key_text (codes "stream_state"))
    c.in_ok-head.ensures c.in_ok-put_string_member.ensures.ok c.in_ok-put_key.ensures.ok c.in_ok-put_key-2.ensures.ok c.in_ok-put_id.ensures c.in_ok-push.ensures.ok c.in_ok-put_key-3.ensures.ok
