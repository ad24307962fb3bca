use Rattle.std.proofs.Common.{◌≡◌, ◌++◌, take, map}
use Rattle.json_write.specs.Objects.{object_text, open_list}
use Rattle.state_kinds.specs.Texts.{entry_parts}
use Rattle.state_kinds.proofs.write.put_entries.Given as goal

-- the entries so far
abbrev pub invariant-loop-i : goal.invariant-loop-i
invariant-loop-i l = l.text ≡ l.fn.text ++ open_list (map (λ entry. object_text (entry_parts entry)) (take l.i l.entries))
