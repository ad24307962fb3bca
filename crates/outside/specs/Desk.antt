-- What a desk tells, and what saying lines does to it.
use Rattle.std.specs.Prelude.{◌≡◌, ℕ, List, Option}
use Rattle.basics.specs.Told.{told_more, RoseIf, GrewByFront}

-- the texts of a desk by name; a name without a text is a missing file
abbrev pub Texts : Type 0
Texts = List ℕ → Option (List ℕ)

-- What contracts see of a desk: its texts, the lines said so far, and how often a text could not be read and a line
-- could not be said or written out. Only the counts are known of every desk.
pub record DeskSeen : Type 0 where
  pub texts : Option Texts
  pub said : Option (List (List ℕ))
  pub read_faults : ℕ
  pub say_faults : ℕ

-- these lines were said
abbrev pub SaidLines : List (List ℕ) → DeskSeen → DeskSeen → Type 0
SaidLines lines old new = new.said ≡ told_more lines old.said

-- Nothing of the desk has changed but what was said and the count of faults of saying, which rose where saying failed.
pub record SaysOnly (failed : Type 0) (old new : DeskSeen) : Type 0 where
  pub faults : RoseIf failed old.say_faults new.say_faults
  pub texts : new.texts ≡ old.texts
  pub read_faults : new.read_faults ≡ old.read_faults

-- so, and what was said is a front of these lines
pub record SaidFront (failed : Type 0) (lines : List (List ℕ)) (old new : DeskSeen) : Type 0 where
  pub front : GrewByFront lines old.said new.said
  pub only : SaysOnly failed old new
