-- Limits from what members say: there is at most one reading.
use Rattle.std.proofs.Common.{◌≡◌, ◌∙◌, ℕ, ◌≤◌, ◌^◌, min, List, Option, None, Some, sym, subst, arith}
use Rattle.json_fields.specs.Answer.{IsAnswer, IsOnly}
use Rattle.outside.specs.Limits.{AreLimits}
use Rattle.outside.specs.declared.load.Limits.{Limits}
use Rattle.dest_config.specs.Config.{HasNumbers, Says, SaysLimits}

-- ---- from numbers

pub wide_slots : (slots bytes batch workers : ℕ) → 2 ^ 32 ≤ slots → IsAnswer (HasNumbers slots bytes batch workers) None
wide_slots slots bytes batch workers wide = λ limits has. omega (arith, wide, has.slots_is, has.within.1)

pub wide_batch : (slots bytes batch workers : ℕ) → 2 ^ 32 ≤ batch → IsAnswer (HasNumbers slots bytes batch workers) None
wide_batch slots bytes batch workers wide = λ limits has. omega (arith, wide, has.batch_is, has.within.1, has.within.5)

pub wide_workers : (slots bytes batch workers : ℕ) → 2 ^ 32 ≤ workers → IsAnswer (HasNumbers slots bytes batch workers) None
wide_workers slots bytes batch workers wide = λ limits has. omega (arith, wide, has.workers_is, has.within.7)

-- limits with the same numbers are the same
same_limits : (slots bytes batch workers : ℕ) (limits other : Limits) → limits.slots ≡ slots → limits.bytes ≡ bytes → limits.batch ≡ batch → limits.workers ≡ workers → limits.page ≡ 1000
    → HasNumbers slots bytes batch workers other → other ≡ limits
same_limits slots bytes batch workers limits other s b t w p has = λ k. record {
  slots = (has.slots_is ∙ sym s) k;
  bytes = (has.bytes_is ∙ sym b) k;
  batch = (has.batch_is ∙ sym t) k;
  workers = (has.workers_is ∙ sym w) k;
  page = (has.page ∙ sym p) k;
}

pub has_numbers : (slots bytes batch workers : ℕ) (limits : Limits) → limits.slots ≡ slots → limits.bytes ≡ bytes → limits.batch ≡ batch → limits.workers ≡ workers → limits.page ≡ 1000 → AreLimits limits
    → IsOnly (HasNumbers slots bytes batch workers) limits
has_numbers slots bytes batch workers limits s b t w p within = record {
  is = record { slots_is = s; bytes_is = b; batch_is = t; workers_is = w; page = p; within = within };
  only = λ other has. same_limits slots bytes batch workers limits other s b t w p has;
}

pub no_numbers : (slots bytes batch workers : ℕ) (limits : Limits) → limits.slots ≡ slots → limits.bytes ≡ bytes → limits.batch ≡ batch → limits.workers ≡ workers → limits.page ≡ 1000 → ¬ AreLimits limits
    → IsAnswer (HasNumbers slots bytes batch workers) None
no_numbers slots bytes batch workers limits s b t w p out =
    λ other has. out (subst AreLimits (same_limits slots bytes batch workers limits other s b t w p has) has.within)

-- ---- from members

pub no_slots : (slots bytes batch workers : Option (List ℕ)) → IsAnswer (Says 4096 slots) None → IsAnswer (SaysLimits slots bytes batch workers) None
no_slots slots bytes batch workers none = λ limits says. none limits.slots says.slots_say

pub no_bytes : (slots bytes batch workers : Option (List ℕ)) → IsAnswer (Says 67108864 bytes) None → IsAnswer (SaysLimits slots bytes batch workers) None
no_bytes slots bytes batch workers none = λ limits says. none limits.bytes says.bytes_say

-- the batch's usual number stands by the slots that are said
batch_at : (slots batch : Option (List ℕ)) (s held t : ℕ) → IsOnly (Says 4096 slots) s → Says 4096 slots held → Says (min 1000 held) batch t → Says (min 1000 s) batch t
batch_at slots batch s held t only says is = subst (λ (n : ℕ). Says (min 1000 n) batch t) (only.only held says) is

pub no_batch : (slots bytes batch workers : Option (List ℕ)) (s : ℕ) → IsOnly (Says 4096 slots) s → IsAnswer (Says (min 1000 s) batch) None → IsAnswer (SaysLimits slots bytes batch workers) None
no_batch slots bytes batch workers s only none = λ limits says. none limits.batch (batch_at slots batch s limits.slots limits.batch only says.slots_say says.batch_say)

pub no_workers : (slots bytes batch workers : Option (List ℕ)) → IsAnswer (Says 2 workers) None → IsAnswer (SaysLimits slots bytes batch workers) None
no_workers slots bytes batch workers none = λ limits says. none limits.workers says.workers_say

-- the numbers that are said
pub record AreSaid (slots bytes batch workers : Option (List ℕ)) (s b t w : ℕ) : Type 0 where
  pub slots_said : IsOnly (Says 4096 slots) s
  pub bytes_said : IsOnly (Says 67108864 bytes) b
  pub batch_said : IsOnly (Says (min 1000 s) batch) t
  pub workers_said : IsOnly (Says 2 workers) w

numbers_of : (slots bytes batch workers : Option (List ℕ)) (s b t w : ℕ) → AreSaid slots bytes batch workers s b t w → (limits : Limits) → SaysLimits slots bytes batch workers limits → HasNumbers s b t w limits
numbers_of slots bytes batch workers s b t w said limits says = record {
  slots_is = said.slots_said.only limits.slots says.slots_say;
  bytes_is = said.bytes_said.only limits.bytes says.bytes_say;
  batch_is = said.batch_said.only limits.batch (batch_at slots batch s limits.slots limits.batch said.slots_said says.slots_say says.batch_say);
  workers_is = said.workers_said.only limits.workers says.workers_say;
  page = says.page;
  within = says.within;
}

limits_say : (slots bytes batch workers : Option (List ℕ)) (s b t w : ℕ) → AreSaid slots bytes batch workers s b t w → (limits : Limits) → HasNumbers s b t w limits → SaysLimits slots bytes batch workers limits
limits_say slots bytes batch workers s b t w said limits has = record {
  slots_say = subst (λ (n : ℕ). Says 4096 slots n) (sym has.slots_is) said.slots_said.is;
  bytes_say = subst (λ (n : ℕ). Says 67108864 bytes n) (sym has.bytes_is) said.bytes_said.is;
  batch_say = subst (λ (n : ℕ). Says (min 1000 n) batch limits.batch) (sym has.slots_is) (subst (λ (n : ℕ). Says (min 1000 s) batch n) (sym has.batch_is) said.batch_said.is);
  workers_say = subst (λ (n : ℕ). Says 2 workers n) (sym has.workers_is) said.workers_said.is;
  page = has.page;
  within = has.within;
}

pub limits_answer : (slots bytes batch workers : Option (List ℕ)) (s b t w : ℕ) (found : Option Limits) → AreSaid slots bytes batch workers s b t w → IsAnswer (HasNumbers s b t w) found → IsAnswer (SaysLimits slots bytes batch workers) found
limits_answer slots bytes batch workers s b t w None said none = λ limits says. none limits (numbers_of slots bytes batch workers s b t w said limits says)
limits_answer slots bytes batch workers s b t w (Some limits) said only = record {
  is = limits_say slots bytes batch workers s b t w said limits only.is;
  only = λ other says. only.only other (numbers_of slots bytes batch workers s b t w said other says);
}
