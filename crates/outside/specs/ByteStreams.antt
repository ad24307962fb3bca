-- Streams of bytes: what a read gives and what a write takes.
use Rattle.std.specs.Prelude.{◌≡◌, ℕ, ◌<◌, ◌≤◌, List, [], ◌++◌, length, take, drop, ◌↔◌, Option, None, Some, Result, Ok, Err}
use Rattle.outside.specs.declared.fault.Fault.{Fault}
use Rattle.outside.specs.declared.fault.Fault.TheVariants as fault

-- The first bytes still to come, as many as were read, stand at the front of the room, and the others are left.
-- None was read exactly where none was left.
pub record ReadsFront (count : ℕ) (room now bytes : List ℕ) (left : Option (List ℕ)) : Type 0 where
  pub some : count ≤ length bytes
  pub filled : now ≡ take count bytes ++ drop count room
  pub left_are : left ≡ Some (drop count bytes)
  pub end_is : (count ≡ 0) ↔ (bytes ≡ [])

abbrev pub ReadsTold : ℕ → List ℕ → List ℕ → Option (List ℕ) → Option (List ℕ) → Type 0
ReadsTold count room now None left = left ≡ None
ReadsTold count room now (Some bytes) left = ReadsFront count room now bytes left

-- what a read did; where it did not succeed, what is still to come stays
abbrev pub Reads : Result ℕ Fault → List ℕ → List ℕ → Option (List ℕ) → Option (List ℕ) → Type 0
Reads (Ok count) room now before left = ReadsTold count room now before left
Reads (Err why) room now before left = left ≡ before

-- a write failed, or took nothing of a piece that is not empty
abbrev pub WriteFails : Result ℕ Fault → List ℕ → Type 0
WriteFails (Ok count) piece = (count ≡ 0) × (0 < length piece)
WriteFails (Err why) piece = why ≡ fault.Failed
