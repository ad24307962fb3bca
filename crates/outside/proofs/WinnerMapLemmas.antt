-- Rows in a map under their own keys.
use Rattle.std.proofs.Common.{◌≡◌, ℕ, List, [], ◌∷◌, Vec, Global, Bool, true, false, cond, Option, None, Some, refl, sym, subst, ◌∙◌, ap, Ordering, Less, Equal, Greater, nat_cmp, is_eq}
use Rattle.std.specs.Str.{bytes_eq}
use Rattle.std.specs.Cmp.Lexicographic.{slice_cmp}
use Rattle.std.specs.BTreeMap.{insert_entry, is_at}
use Rattle.std.specs.Map.{values_of, lookup}
use Rattle.std.specs.Prelude.{Result, Ok, Err, OnOk, OnErr}
use Rattle.std.proofs.lemmas.Map.Text.{is_eq-slice_cmp}
use Rattle.outside.specs.declared.event.RawRow.{RawRow}
use Rattle.outside.specs.Winners.{put_winner, winner_in}
use Rattle.outside.specs.WinnerMap.{AreUnderKeys}
use Rattle.outside.proofs.WinnerLaws.{keys_equal, by_order, key_back}

abbrev Key : Type 0
Key = Vec ℕ Global

module _ (cmp : Key → Key → Ordering) (cmp_is : (a b : Key) → cmp a b ≡ slice_cmp nat_cmp a.items b.items) where
  at_entry : (key : Key) (row : RawRow) (entry : Key × RawRow) → key.items ≡ row.key → entry.0.items ≡ entry.1.key → cmp key entry.0 ≡ slice_cmp nat_cmp row.key entry.1.key
  at_entry key row entry own under = cmp_is key entry.0 ∙ (ap (λ (k : List ℕ). slice_cmp nat_cmp k entry.0.items) own ∙ ap (λ (k : List ℕ). slice_cmp nat_cmp row.key k) under)

  pub put_is : (entries : List (Key × RawRow)) (key : Key) (row : RawRow) → AreUnderKeys entries → key.items ≡ row.key → values_of (insert_entry cmp entries key row) ≡ put_winner (values_of entries) row
  put_is [] key row under own = refl
  put_is (entry ∷ entries) key row under own =
      let at = at_entry key row entry own under.0 in
      let rest = put_is entries key row under.1 own in
      by_order (slice_cmp nat_cmp row.key entry.1.key) (λ e. rw (at, e) refl) (λ e. rw (at, e) refl) (λ e. rw (at, e) (ap (λ (ws : List RawRow). entry.1 ∷ ws) rest))

  pub under_keys : (entries : List (Key × RawRow)) (key : Key) (row : RawRow) → AreUnderKeys entries → key.items ≡ row.key → AreUnderKeys (insert_entry cmp entries key row)
  under_keys [] key row under own = (own, tt)
  under_keys (entry ∷ entries) key row under own =
      let at = at_entry key row entry own under.0 in
      let rest = under_keys entries key row under.1 own in
      by_order (slice_cmp nat_cmp row.key entry.1.key) (λ e. rw (at, e) (own, under)) (λ e. rw (at, e) (under.0 ∙ sym (keys_equal row.key entry.1.key e), under.1)) (λ e. rw (at, e) (under.0, rest))

pub found_is : (compare : Key → Ordering) (key : List ℕ) (entries : List (Key × RawRow)) → ((k : Key) → compare k ≡ slice_cmp nat_cmp key k.items) → AreUnderKeys entries → lookup (is_at compare) entries ≡ winner_in (values_of entries) key
found_is compare key [] is under = refl
found_is compare key (entry ∷ entries) is under =
    let test : is_eq (compare entry.0) ≡ bytes_eq entry.1.key key = ap is_eq (is entry.0) ∙ (is_eq-slice_cmp key entry.0.items ∙ (ap (λ (k : List ℕ). bytes_eq key k) under.0 ∙ key_back key entry.1.key)) in
    rw test (ap (λ (o : Option RawRow). cond (bytes_eq entry.1.key key) (Some entry.1) o) (found_is compare key entries is under.1))

-- what an insertion leaves, whatever its answer
pub still_under : {T E : Type 0} (answer : Result T E) (old inserted new : List (Key × RawRow)) → OnOk answer (new ≡ inserted) → OnErr answer (new ≡ old) → AreUnderKeys inserted → AreUnderKeys old → AreUnderKeys new
still_under (Ok done) old inserted new ok err made before = subst (λ (es : List (Key × RawRow)). AreUnderKeys es) (sym ok) made
still_under (Err fault) old inserted new ok err made before = subst (λ (es : List (Key × RawRow)). AreUnderKeys es) (sym err) before
