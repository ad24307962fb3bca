-- What is put of the parts of made input.
use Rattle.std.specs.Prelude.{◌≡◌, ℕ, ◌-◌, List, [], ◌∷◌, ◌++◌, Bool, true, false}
use Rattle.airbyte_message.specs.declared.message.Message.{Message}
use Rattle.made_input.specs.Made.{lines_text, parts_from}

-- The lines of the first part stand behind the text, and it is left no more; nothing is put where no part is left.
abbrev pub Puts : Bool → List ℕ → List ℕ → List (List Message) → List (List Message) → Type 0
Puts false before now old new = (old ≡ []) × (new ≡ []) × (now ≡ before)
Puts true before now old new = (part : List Message) × (old ≡ part ∷ new) × (now ≡ before ++ lines_text part)

-- For private clauses: the parts that are left behind so many rows.
abbrev pub parts_left : ℕ → ℕ → Bool → List (List Message)
parts_left rows row true = []
parts_left rows row false = parts_from rows row (rows - row)
