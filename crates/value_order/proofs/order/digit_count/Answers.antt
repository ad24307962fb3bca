use Rattle.std.proofs.Common.{◌≡◌, ◌<◌, ◌≤◌, ◌+◌, ◌*◌, ◌^◌, arith}
use Rattle.std.proofs.lemmas.Nat.{pow-add}
use Rattle.value_order.proofs.SizeLemmas.{power_below, power_up_to}
use Rattle.value_order.proofs.order.digit_count.Goals as goal

pub overflow_mul-power : goal.overflow_mul-power
overflow_mul-power c =
    let l = c.loop-power in
    let few : l.count < 38 = power_below l.count 38 (omega arith) in
    let next : 10 ^ (l.count + 1) ≡ 10 ^ l.count * 10 = pow-add 10 l.count 1 in
    let most : 10 ^ (l.count + 1) ≤ 10 ^ 38 = power_up_to (l.count + 1) 38 (omega arith) in
    omega (arith, few, next, most)
