use Rattle.std.proofs.Common.{◌≡◌, ◌++◌, take}
use Rattle.json_write.specs.Objects.{open_list}
use Rattle.json_write.proofs.item.put_list.Given as goal

-- the elements so far stand there, and the array is open
abbrev pub invariant-loop-i : goal.invariant-loop-i
invariant-loop-i l = l.text ≡ l.fn.text ++ open_list (take l.i l.item-items)
