-- The limits that a load may be given.
use Rattle.std.specs.Prelude.{◌≤◌}
use Rattle.outside.specs.declared.load.Limits.{Limits}

-- each number lies in its range; so many bytes may wait that the longest line fits
abbrev pub AreLimits : Limits → Type 0
AreLimits limits =
    (1 ≤ limits.slots) × (limits.slots ≤ 1000000) × (20971520 ≤ limits.bytes) × (limits.bytes ≤ 536870912) × (1 ≤ limits.batch)
    × (limits.batch ≤ limits.slots) × (1 ≤ limits.workers) × (limits.workers ≤ 16) × (1 ≤ limits.page)
