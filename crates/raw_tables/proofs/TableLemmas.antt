-- The table of a stream by its index, and rows with their places.
use Rattle.std.proofs.Common.{◌≡◌, ◌∷◌, ◌++◌, ◌<◌, ◌+◌, ℕ, List, [], take, drop, length, set, get_or, suc, Some, true, sym, ◌∙◌, ap, slice_get, arith}
use Rattle.std.proofs.Math.Seq.{drop-cons}
use Rattle.std.proofs.lemmas.List.{set_split, set-set, set-get_or, take_more, length-take-le}
use Rattle.std.proofs.lemmas.Option.{slice_get-get_or, get_or_from_slice_get}
use Rattle.basics.specs.declared.stream.StreamId.{StreamId}
use Rattle.outside.specs.declared.event.RawRow.{RawRow}
use Rattle.outside.specs.declared.table.PlacedRow.{PlacedRow}
use Rattle.outside.specs.declared.table.StreamTable.{StreamTable}
use Rattle.outside.specs.Tables.{same_id, changed, table_in, placed_after}
use Rattle.raw_tables.specs.Found.{StandsAt}

-- Where a table stands

module _ (tables : List StreamTable) (id : StreamId) (i : ℕ) (table : StreamTable) (within : i < length tables) (is : table ≡ get_or tables i table) (same : same_id table.id id ≡ true) where
  begins : drop i tables ≡ table ∷ drop (suc i) tables
  begins = drop-cons tables i table within ∙ ap (λ (t : StreamTable). t ∷ drop (suc i) tables) (sym is)

  own : table_in (drop i tables) id ≡ table
  own = ap (λ (ts : List StreamTable). table_in ts id) begins ∙ rw same

  changes_there : (change : StreamTable → StreamTable) → changed change id (drop i tables) ≡ change table ∷ drop (suc i) tables
  changes_there change = ap (λ (ts : List StreamTable). changed change id ts) begins ∙ rw same

  pub found : table_in (drop i tables) id ≡ table_in tables id → ((change : StreamTable → StreamTable) → changed change id tables ≡ take i tables ++ changed change id (drop i tables)) → StandsAt tables id i
  found reads changes =
      let here : table_in tables id ≡ table = sym reads ∙ own in
      record {
        within = within;
        is = slice_get-get_or tables i table within ∙ (ap Some (sym is) ∙ ap Some (sym here));
        changes = λ change. changes change ∙ (ap (λ (ts : List StreamTable). take i tables ++ ts) (changes_there change) ∙ (sym (set_split tables i (change table) within) ∙ ap (λ (t : StreamTable). set tables i (change t)) (sym here)));
      }

-- a table that was taken out, changed and put back
pub put_back : (before mid now : List StreamTable) (id : StreamId) (i : ℕ) (holder old new : StreamTable) (change : StreamTable → StreamTable) → StandsAt before id i → mid ≡ set before i holder → slice_get before i ≡ Some old → now ≡ set mid i new → new ≡ change old → now ≡ changed change id before
put_back before mid now id i holder old new change at out got back made =
    let own : old ≡ table_in before id = cc (got, at.is) in
    back ∙ (ap (λ (ts : List StreamTable). set ts i new) out ∙ (set-set before i holder new ∙ (ap (λ (t : StreamTable). set before i t) (made ∙ ap change own) ∙ sym (at.changes change))))

-- one that was put back as it was
pub put_back_same : (before mid now : List StreamTable) (i : ℕ) (holder old new : StreamTable) → i < length before → mid ≡ set before i holder → slice_get before i ≡ Some old → now ≡ set mid i new → new ≡ old → now ≡ before
put_back_same before mid now i holder old new within out got back same =
    back ∙ (ap (λ (ts : List StreamTable). set ts i new) out ∙ (set-set before i holder new ∙ (ap (λ (t : StreamTable). set before i t) (same ∙ sym (get_or_from_slice_get before i old old got)) ∙ set-get_or before i old)))

-- Places

placed_behind : (place : ℕ) (rows : List RawRow) (row : RawRow) → placed_after place (rows ++ row ∷ []) ≡ placed_after place rows ++ record { place = place + length rows + 1; row = row } ∷ []
placed_behind place [] row = ap (λ (n : ℕ). record { place = n; row = row } ∷ []) (omega arith)
placed_behind place (first ∷ rows) row = ap (λ (ps : List PlacedRow). record { place = place + 1; row = first } ∷ ps) (placed_behind (place + 1) rows row ∙ ap (λ (n : ℕ). placed_after (place + 1) rows ++ record { place = n; row = row } ∷ []) (omega arith))

pub placed_take : (place i : ℕ) (rows : List RawRow) (row : RawRow) → i < length rows → row ≡ get_or rows i row → placed_after place (take (i + 1) rows) ≡ placed_after place (take i rows) ++ record { place = place + i + 1; row = row } ∷ []
placed_take place i rows row within is =
    let more : take (i + 1) rows ≡ take i rows ++ row ∷ [] = take_more rows i row within ∙ ap (λ (r : RawRow). take i rows ++ r ∷ []) (sym is) in
    ap (placed_after place) more ∙ (placed_behind place (take i rows) row ∙ ap (λ (n : ℕ). placed_after place (take i rows) ++ record { place = place + n + 1; row = row } ∷ []) (length-take-le i rows (omega arith)))
