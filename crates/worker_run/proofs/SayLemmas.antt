-- Lines that are said one after another: what was said is a front of the whole, wherever saying stops.
use Rattle.std.proofs.Common.{◌≡◌, ℕ, ◌+◌, ◌<◌, List, [], ◌∷◌, ◌++◌, take, drop, length, get_or, Result, Ok, Err, OnOk, sym, ◌∙◌, ap, suc, add-one}
use Rattle.std.proofs.lemmas.List.{append-nil, map-append, take_more, take-append-drop}
use Rattle.std.proofs.lemmas.Grind.{flat_map-append}
use Rattle.std.proofs.Math.Seq.{drop-cons}
use Rattle.outside.specs.declared.event.Event.{Event}
use Rattle.outside.specs.declared.event.RawRow.{RawRow}
use Rattle.worker_run.specs.EventParts.{rows_of}
use Rattle.worker_run.specs.Output.{row_line, body_lines, committed_lines}
use Rattle.basics.specs.Told.{told_more, GrewByFront}
use Rattle.outside.specs.Desk.{DeskSeen, SaidLines}
use Rattle.outside.proofs.Says.{front_behind, said_both}

-- a list about one of its elements
split_at : {A : Type 0} (xs : List A) (i : ℕ) (x : A) → i < length xs → x ≡ get_or xs i x → xs ≡ take i xs ++ ((x ∷ []) ++ drop (i + 1) xs)
split_at xs i x within is = sym (take-append-drop i xs) ∙ ap (λ (rest : _). take i xs ++ rest) (drop-cons xs i x within ∙ (ap (λ (y : _). y ∷ drop (suc i) xs) (sym is) ∙ ap (λ (n : ℕ). x ∷ drop n xs) (sym (add-one i))))

more_taken : {A : Type 0} (xs : List A) (i : ℕ) (x : A) → i < length xs → x ≡ get_or xs i x → take (i + 1) xs ≡ take i xs ++ x ∷ []
more_taken xs i x within is = take_more xs i x within ∙ ap (λ (y : _). take i xs ++ y ∷ []) (sym is)

-- the bodies of rows, up to one of which a front was said
pub front_body : (rows : List RawRow) (i : ℕ) (row : RawRow) (old mid new : DeskSeen) → i < length rows → row ≡ get_or rows i row → SaidLines (body_lines (take i rows)) old mid → GrewByFront (row_line row.body ∷ []) mid.said new.said → GrewByFront (body_lines rows) old.said new.said
front_body rows i row old mid new within is said grew = front_behind (body_lines rows) (body_lines (take i rows)) (row_line row.body ∷ []) (body_lines (drop (i + 1) rows)) old.said mid.said new.said splits said grew
  where
    splits : body_lines rows ≡ body_lines (take i rows) ++ ((row_line row.body ∷ []) ++ body_lines (drop (i + 1) rows))
    splits = ap body_lines (split_at rows i row within is) ∙ map-append (λ (r : RawRow). row_line r.body) (take i rows) ((row ∷ []) ++ drop (i + 1) rows)

-- the rows of events, up to those of one of which a front was said
pub front_rows : (events : List Event) (i : ℕ) (event : Event) (old mid new : DeskSeen) → i < length events → event ≡ get_or events i event → SaidLines (committed_lines (take i events)) old mid → GrewByFront (body_lines (rows_of event)) mid.said new.said → GrewByFront (committed_lines events) old.said new.said
front_rows events i event old mid new within is said grew = front_behind (committed_lines events) (committed_lines (take i events)) (body_lines (rows_of event)) (committed_lines (drop (i + 1) events)) old.said mid.said new.said splits said grew
  where
    splits : committed_lines events ≡ committed_lines (take i events) ++ (body_lines (rows_of event) ++ committed_lines (drop (i + 1) events))
    splits = ap committed_lines (split_at events i event within is) ∙ flat_map-append (λ e. body_lines (rows_of e)) (take i events) ((event ∷ []) ++ drop (i + 1) events)

-- the rows of one event more
pub said_rows : (events : List Event) (i : ℕ) (event : Event) (old mid new : DeskSeen) → i < length events → event ≡ get_or events i event → SaidLines (committed_lines (take i events)) old mid → SaidLines (body_lines (rows_of event)) mid new → SaidLines (committed_lines (take (i + 1) events)) old new
said_rows events i event old mid new within is said more =
    said_both (committed_lines (take i events)) (body_lines (rows_of event)) old mid new said more ∙ ap (λ (ls : List (List ℕ)). told_more ls old.said) (sym grown)
  where
    grown : committed_lines (take (i + 1) events) ≡ committed_lines (take i events) ++ body_lines (rows_of event)
    grown =
        ap committed_lines (more_taken events i event within is) ∙ (flat_map-append (λ e. body_lines (rows_of e)) (take i events) (event ∷ []) ∙ ap (λ (ls : List (List ℕ)). committed_lines (take i events) ++ ls) (append-nil (body_lines (rows_of event))))

-- where a second part was said, both were
pub said_second : {T E : Type 0} (r : Result T E) (a b : List (List ℕ)) (old mid new : DeskSeen) → SaidLines a old mid → OnOk r (SaidLines b mid new) → OnOk r (SaidLines (a ++ b) old new)
said_second (Ok value) a b old mid new said more = said_both a b old mid new said more
said_second (Err fault) a b old mid new said more = tt
