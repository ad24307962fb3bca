use Rattle.std.proofs.Common.{◌≡◌, ◌++◌, take, flat_map}
use Rattle.airbyte_message.specs.Echo.{member_text}
use Rattle.airbyte_message.proofs.echo.put_raw_members.Given as goal

-- the members so far are put
abbrev pub invariant-loop-member : goal.invariant-loop-member
invariant-loop-member l = l.echo ≡ l.fn.echo ++ flat_map (member_text l.object) (take l.member-index l.members)
