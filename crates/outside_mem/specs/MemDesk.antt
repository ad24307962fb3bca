-- A desk in memory: what it holds, and when its calls fail.
use Rattle.std.specs.Prelude.{◌≡◌, ◌⊎◌, ℕ, ◌+◌, ◌-◌, ◌^◌, min, List, [], ◌∷◌, Contains, Option, None, Some, Result, Ok, Err, if◌then◌else◌}
use Rattle.std.specs.Str.{bytes_eq}
use Rattle.outside.specs.Desk.{DeskSeen}
use Rattle.outside.specs.declared.fault.Fault.{Fault}
use Rattle.outside.specs.declared.fault.Fault.TheVariants as fault
use Rattle.outside_mem.specs.declared.mem_desk.NamedText.{NamedText}

-- the text of this name, the first of two
abbrev pub text_named : List NamedText → List ℕ → Option (List ℕ)
text_named [] name = None
text_named (entry ∷ texts) name = if bytes_eq entry.name name then Some entry.text else text_named texts name

-- what contracts see of the desk
pub record DeskState : Type 0 where
  pub texts : List NamedText
  pub fails : List ℕ
  pub said : List (List ℕ)
  -- how many calls were made
  pub calls : ℕ
  pub read_faults : ℕ
  pub say_faults : ℕ

-- what it tells: all of it
abbrev pub seen_of : DeskState → DeskSeen
seen_of desk = record { texts = Some (λ name. text_named desk.texts name); said = Some desk.said; read_faults = desk.read_faults; say_faults = desk.say_faults }

abbrev pub begun : List NamedText → List ℕ → DeskState
begun texts fails = record { texts = texts; fails = fails; said = []; calls = 0; read_faults = 0; say_faults = 0 }

-- a count one higher; it stands still at its type's end
abbrev pub one_more : ℕ → ℕ
one_more count = min (count + 1) (2 ^ 64 - 1)

-- the count of faults behind a call: one higher where it failed, and the same else
abbrev pub fault_after : {T : Type 0} → Result T Fault → ℕ → ℕ
fault_after (Ok done) faults = faults
fault_after (Err fault.Failed) faults = one_more faults
fault_after (Err fault.NoMemory) faults = faults

-- the next call gives the text of this name
pub record ReadsText (desk : DeskState) (name text : List ℕ) : Type 0 where
  pub is : text_named desk.texts name ≡ Some text
  pub passes : ¬ Contains desk.fails (one_more desk.calls)

-- the next call is to fail, or no text has this name
abbrev pub FailsToRead : DeskState → List ℕ → Type 0
FailsToRead desk name = Contains desk.fails (one_more desk.calls) ⊎ (text_named desk.texts name ≡ None)
