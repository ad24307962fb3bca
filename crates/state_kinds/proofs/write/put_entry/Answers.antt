use Rattle.state_kinds.proofs.StoreTextLemmas.{entry_closes}
use Rattle.state_kinds.proofs.write.put_entry.Goals as goal

pub returns : goal.returns
returns c =
    entry_closes c.args.entry.now c.as_str.result.now c.args.text.now c.put_string_member.new.text c.put_optional_string.new.text c.put_number_member.new.text c.put_held.new.text c.push.new.self c.as_str.ensures c.in_ok-put_string_member.ensures.ok c.in_ok-put_optional_string.ensures.ok c.in_ok-put_number_member.ensures.ok c.in_ok-put_held.ensures c.in_ok-push.ensures.ok
