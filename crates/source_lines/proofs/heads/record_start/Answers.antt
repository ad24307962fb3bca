use Rattle.std.proofs.Common.{[], codes, option_map}
use Rattle.json.specs.Print.{quoted}
use Rattle.json_write.specs.Objects.{named, optional}
use Rattle.airbyte_message.specs.declared.read.MessageType.TheVariants as types
use Rattle.source_lines.specs.Heads.{key_text, line_head}
use Rattle.source_lines.proofs.HeadLemmas.{record_begins}
use Rattle.source_lines.proofs.heads.record_start.Goals as goal

pub returns : goal.returns
returns c =
    let id = c.args.id.now in
    record_begins (line_head types.Rec) c.in_ok-head.head c.put_id.new.text c.put_key.new.text (named (codes "stream") (quoted id.name)) (optional (codes "namespace") (option_map quoted id.namespace) []) (key_text (codes "data"))
    c.in_ok-head.ensures c.in_ok-put_id.ensures c.in_ok-put_key.ensures.ok
