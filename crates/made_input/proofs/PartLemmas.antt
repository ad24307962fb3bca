-- The parts of made input, one behind the other.
use Rattle.std.proofs.Common.{◌≡◌, ◌∙◌, ℕ, suc, ◌+◌, ◌-◌, ◌<◌, ◌≤◌, List, [], ◌∷◌, ◌++◌, true, false, sym, ap, append_assoc, arith}
use Rattle.std.specs.Prelude.{flat_map}
use Rattle.std.proofs.lemmas.List.{append-nil}
use Rattle.std.proofs.lemmas.List.Concat.{flat_map-append}
use Rattle.airbyte_message.specs.declared.message.Message.{Message}
use Rattle.message_writer.specs.Written.{written}
use Rattle.made_input.specs.Made.{end_messages, has_states, lines_text, made_text, parts_from, row_messages, row_records, row_states}
use Rattle.made_input.specs.Parts.{parts_left}

-- the lines of two messages
pub two_lines : (old first new : List ℕ) (m n : Message) → first ≡ old ++ (written m ++ 10 ∷ []) → new ≡ first ++ (written n ++ 10 ∷ []) → new ≡ old ++ lines_text (m ∷ n ∷ [])
two_lines old first new m n f s =
    s ∙ (ap (λ (t : List ℕ). t ++ (written n ++ 10 ∷ [])) f
    ∙ (append_assoc old (written m ++ 10 ∷ []) (written n ++ 10 ∷ [])
    ∙ ap (λ (t : List ℕ). old ++ ((written m ++ 10 ∷ []) ++ t)) (sym (append-nil (written n ++ 10 ∷ [])))))

-- the lines of messages and of others
lines_both : (ms ns : List Message) → lines_text (ms ++ ns) ≡ lines_text ms ++ lines_text ns
lines_both ms ns = flat_map-append (λ (m : Message). written m ++ 10 ∷ []) ms ns

pub row_with : (old first new : List ℕ) (rows row : ℕ) → has_states rows row ≡ true → first ≡ old ++ lines_text (row_records row) → new ≡ first ++ lines_text (row_states row) → new ≡ old ++ lines_text (row_messages rows row)
row_with old first new rows row e f s =
    s ∙ (ap (λ (t : List ℕ). t ++ lines_text (row_states row)) f
    ∙ (append_assoc old (lines_text (row_records row)) (lines_text (row_states row))
    ∙ (ap (λ (t : List ℕ). old ++ t) (sym (lines_both (row_records row) (row_states row))) ∙ rw e)))

pub row_without : (old new : List ℕ) (rows row : ℕ) → has_states rows row ≡ false → new ≡ old ++ lines_text (row_records row) → new ≡ old ++ lines_text (row_messages rows row)
row_without old new rows row e s = s ∙ rw e

left_less : (rows row : ℕ) → row < rows → rows - row ≡ suc (rows - (row + 1))
left_less rows row less = omega arith

-- the first of the rows that are left
pub one_row : (rows row : ℕ) → row < rows → parts_left rows row false ≡ row_messages rows row ∷ parts_left rows (row + 1) false
one_row rows row less = ap (λ (left : ℕ). parts_from rows row left) (left_less rows row less)

pub no_row : (rows row : ℕ) → row ≤ rows → rows ≤ row → parts_left rows row false ≡ end_messages ∷ []
no_row rows row most least = let none : rows - row ≡ 0 = omega arith in ap (λ (left : ℕ). parts_from rows row left) none

-- a text of the lines so far, with those that are left
pub record IsMade (text : List ℕ) (rows row : ℕ) : Type 0 where
  pub is : text ++ flat_map lines_text (parts_from rows row (rows - row)) ≡ made_text rows

pub none_made : (text : List ℕ) (rows : ℕ) → text ≡ [] → IsMade text rows 0
none_made text rows e = record { is = ap (λ (t : List ℕ). t ++ flat_map lines_text (parts_from rows 0 (rows - 0))) e ∙ ap (λ (left : ℕ). flat_map lines_text (parts_from rows 0 left)) (omega arith) }

pub row_given : (text next : List ℕ) (rows row : ℕ) → row < rows → IsMade text rows row → next ≡ text ++ lines_text (row_messages rows row) → IsMade next rows (row + 1)
row_given text next rows row less made e = record {
  is = ap (λ (t : List ℕ). t ++ rest) e
      ∙ (append_assoc text (lines_text (row_messages rows row)) rest
      ∙ (ap (λ (ps : List (List Message)). text ++ flat_map lines_text ps) (sym (one_row rows row less))
      ∙ made.is));
}
  where
    rest : List ℕ
    rest = flat_map lines_text (parts_from rows (row + 1) (rows - (row + 1)))

pub all_given : (text next : List ℕ) (rows row : ℕ) → row ≤ rows → rows ≤ row → IsMade text rows row → next ≡ text ++ lines_text end_messages → next ≡ made_text rows
all_given text next rows row most least made e =
    e ∙ (ap (λ (t : List ℕ). text ++ t) (sym (append-nil (lines_text end_messages)))
    ∙ (ap (λ (ps : List (List Message)). text ++ flat_map lines_text ps) (sym (no_row rows row most least)) ∙ made.is))
