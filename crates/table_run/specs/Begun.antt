-- What is said of a feed that is begun with a catalog and saved states.
use Rattle.std.specs.Prelude.{◌≡◌, ◌⊎◌, ℕ, Result, Ok, Err}
use Rattle.basics.specs.Told.{told_more}
use Rattle.outside.specs.Desk.{DeskSeen}
use Rattle.outside.specs.Feed.{Left, anything, nothing_left}
use Rattle.outside.specs.declared.status.Status.{Status}
use Rattle.say_feed.specs.Said.{EndsBy}

-- a feed that begins may give this; one that is refused ends at once
abbrev pub IsTold : Result Left Status → Left → Type 0
IsTold (Ok begun) left = left ≡ begun
IsTold (Err why) left = left ≡ nothing_left why

-- what may be said of a feed that may begin so
abbrev pub MaySayBegun : (Result Left Status → Type 0) → Left → Type 0
MaySayBegun MayBegin left = (found : Result Left Status) × MayBegin found × IsTold found left

-- What was said is a front of lines that the feed may be begun to give, and all of them up to the end that is answered; or nothing was
-- said, and so it ended before.
pub record SaysBegun (result : Status) (MayBegin : Result Left Status → Type 0) (rows rows_now : ℕ) (old new : DeskSeen) : Type 0 where
  pub left : Left
  pub may : (left ≡ anything) ⊎ MaySayBegun MayBegin left
  pub said : new.said ≡ told_more left.lines old.said
  pub ends : EndsBy result left.ends rows rows_now old.say_faults new.say_faults
