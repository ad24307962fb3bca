-- Lines that go to a sink of bytes.
use Rattle.std.specs.Prelude.{◌≡◌, ◌⊎◌, ℕ, ◌<◌, List, [], ◌∷◌, ◌++◌, length, take, Bool, true, Option}
use Rattle.basics.specs.Told.{told_more, Rose}

-- what contracts see of an output
pub record Output : Type 0 where
  -- what the sink took, where it tells that
  pub bytes : Option (List ℕ)
  -- how often the sink failed
  pub faults : ℕ
  -- a line could not be written, or only in part
  pub is_broken : Bool
  -- how many bytes of that line stand
  pub part : ℕ

-- a line with its newline
abbrev pub with_newline : List ℕ → List ℕ
with_newline line = line ++ 10 ∷ []

-- The first bytes of a text stand, and not all: the sink's count of faults rose, or some of them stand, and memory was wanting
-- behind them.
pub record IsCutShort (text : List ℕ) (part : ℕ) (bytes bytes_now : Option (List ℕ)) (faults faults_now : ℕ) : Type 0 where
  pub part_is : part < length text
  pub stands : bytes_now ≡ told_more (take part text) bytes
  pub cause : Rose faults faults_now ⊎ (0 < part)

-- a line could not be written: the output is broken, and its first bytes stand behind what stood
pub record Breaks (line : List ℕ) (old new : Output) : Type 0 where
  pub broken : new.is_broken ≡ true
  pub cut : IsCutShort (with_newline line) new.part old.bytes new.bytes old.faults new.faults
