use Rattle.std.proofs.Common.{◌≡◌, ◌<◌, ◌≤◌, ◌*◌, ◌^◌, ◌-◌}
use Rattle.value_order.proofs.order.digit_count.Given as goal

abbrev pub invariant-loop-power : goal.invariant-loop-power
invariant-loop-power l = record { power : l.power ≡ 10 ^ l.count; some : 0 < l.count; short : l.count ≤ 38; least : 10 ^ l.count ≤ l.number * 10 }

abbrev pub decreases-loop-power : goal.decreases-loop-power
decreases-loop-power l = 39 - l.count
