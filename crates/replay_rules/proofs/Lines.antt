-- Lines of a trace that goes on: those that were passed on, their records and states.
use Rattle.std.proofs.Common.{arith, ◌≡◌, ◌⊎◌, inl, inr, ℕ, zero, suc, ◌+◌, ◌<◌, List, [], ◌∷◌, ◌++◌, map, drop, length, slice_get, Option, None, Some, refl, sym, ◌∙◌, ap, subst, append_assoc}
use Rattle.std.specs.Prelude.{filter}
use Rattle.std.proofs.lemmas.List.{map-append}
use Rattle.std.proofs.lemmas.List.Elements.{filter_map-append, filter-append}
use Rattle.basics.specs.declared.stream.StreamId.{StreamId}
use Rattle.outside.specs.Event.{is_links, read_in}
use Rattle.outside.specs.declared.event.Event.{Event}
use Rattle.outside.specs.declared.event.Event.TheVariants.{Opened, Took, TookEnd, Committed, Emitted, Merged, Shown, Started, ReadLine, ReadEnd, Given, Closed, Got, GotEnd, Saved, Ended}
use Rattle.airbyte_message.specs.Lanes.{Lane, lane_of}
use Rattle.airbyte_message.specs.State.{State}
use Rattle.dedup_merge.proofs.SameRowLemmas.{Has}
use Rattle.load_rules.specs.Lines.{Line, Reading, lines_read, passes, state_in}
use Rattle.load_rules.specs.Taken.{Entry, entries, entries_from, LaneState, state_of, state_of_lane, states_behind, covers}
use Rattle.load_rules.specs.Attempts.{reads, passed}
use Rattle.load_rules.proofs.TakenLists.{entries-append}
use Rattle.sync_rules.proofs.KindLemmas.{has_parts, some_is, some_none}
use Rattle.replay_rules.specs.Sources.{body_told, bodies}

-- ---- lists

pub get_front : {A : Type 0} (xs ys : List A) (n : ℕ) (x : A) → slice_get xs n ≡ Some x → slice_get (xs ++ ys) n ≡ Some x
get_front [] ys n x is = absurd (some_none (sym is))
get_front (y ∷ xs) ys zero x is = is
get_front (y ∷ xs) ys (suc n) x is = get_front xs ys n x is

pub get_map : {A B : Type 0} (f : A → B) (xs : List A) (n : ℕ) (x : A) → slice_get xs n ≡ Some x → slice_get (map f xs) n ≡ Some (f x)
get_map f [] n x is = absurd (some_none (sym is))
get_map f (y ∷ xs) zero x is = ap (λ it. Some (f it)) (some_is is)
get_map f (y ∷ xs) (suc n) x is = get_map f xs n x is

pub get_drop : {A : Type 0} (xs : List A) (p k : ℕ) → slice_get (drop p xs) k ≡ slice_get xs (p + k)
get_drop xs zero k = let e : 0 + k ≡ k = omega arith in rw e
get_drop [] (suc p) k = refl
get_drop (x ∷ xs) (suc p) k = let e : suc p + k ≡ suc (p + k) = omega arith in rw e (get_drop xs p k)

pub record At {A : Type 0} (xs : List A) (n : ℕ) : Type 0 where
  pub item : A
  pub is : slice_get xs n ≡ Some item

pub at_of : {A : Type 0} (xs : List A) (n : ℕ) → n < length xs → At xs n
at_of [] n low = absurd (omega (arith, low))
at_of (x ∷ xs) zero low = record { item = x; is = refl }
at_of (x ∷ xs) (suc n) low = let found = at_of xs n (omega (arith, low)) in record { item = found.item; is = found.is }

pub get_has : {A : Type 0} (xs : List A) (n : ℕ) (x : A) → slice_get xs n ≡ Some x → Has x xs
get_has [] n x is = absurd (some_none (sym is))
get_has (y ∷ xs) zero x is = inl (some_is is)
get_has (y ∷ xs) (suc n) x is = inr (get_has xs n x is)

-- ---- lines that were passed on

pub passed-append : (ids : List StreamId) (read : Reading) (xs ys : List Event) → passed ids read (xs ++ ys) ≡ passed ids read xs ++ passed ids read ys
passed-append ids read xs ys =
    ap (λ texts. filter (λ line. passes ids line.found) (lines_read read texts)) (filter_map-append read_in xs ys)
    ∙ (ap (filter (λ line. passes ids line.found)) (map-append (λ (text : List ℕ). record { text = text; found = read text }) (reads xs) (reads ys))
    ∙ filter-append (λ (line : Line). passes ids line.found) (lines_read read (reads xs)) (lines_read read (reads ys)))

pub reads_links : (events : List Event) → reads (filter is_links events) ≡ reads events
reads_links [] = refl
reads_links ((Opened x y z) ∷ events) = reads_links events
reads_links ((Took x) ∷ events) = reads_links events
reads_links (TookEnd ∷ events) = reads_links events
reads_links ((Committed x y) ∷ events) = reads_links events
reads_links ((Emitted x) ∷ events) = reads_links events
reads_links ((Merged x y z) ∷ events) = reads_links events
reads_links ((Shown x y z) ∷ events) = reads_links events
reads_links ((Started x) ∷ events) = reads_links events
reads_links (ReadLine x ∷ events) = ap (λ texts. x ∷ texts) (reads_links events)
reads_links (ReadEnd ∷ events) = reads_links events
reads_links ((Given x) ∷ events) = reads_links events
reads_links (Closed ∷ events) = reads_links events
reads_links ((Got x) ∷ events) = reads_links events
reads_links (GotEnd ∷ events) = reads_links events
reads_links ((Saved x) ∷ events) = reads_links events
reads_links ((Ended x) ∷ events) = reads_links events

pub passed_links : (ids : List StreamId) (read : Reading) (events : List Event) → passed ids read (filter is_links events) ≡ passed ids read events
passed_links ids read events = ap (λ texts. filter (λ line. passes ids line.found) (lines_read read texts)) (reads_links events)

-- ---- records of a lane

abbrev pub lane_entries : Lane → List Line → List Entry
lane_entries lane lines = filter (λ entry. covers lane entry.content.id) (entries lines)

pub lane_entries-append : (lane : Lane) (xs ys : List Line) → lane_entries lane (xs ++ ys) ≡ lane_entries lane xs ++ filter (λ entry. covers lane entry.content.id) (entries_from (0 + length (entries xs)) ys)
lane_entries-append lane xs ys =
    ap (filter (λ entry. covers lane entry.content.id)) (entries-append 0 xs ys)
    ∙ filter-append (λ (entry : Entry). covers lane entry.content.id) (entries xs) (entries_from (0 + length (entries xs)) ys)

-- the n-th record of a lane stays the n-th
pub nth_front : (lane : Lane) (xs ys : List Line) (n : ℕ) (entry : Entry) → slice_get (lane_entries lane xs) n ≡ Some entry → slice_get (lane_entries lane (xs ++ ys)) n ≡ Some entry
nth_front lane xs ys n entry is =
    ap (λ list. slice_get list n) (lane_entries-append lane xs ys)
    ∙ get_front (lane_entries lane xs) (filter (λ entry. covers lane entry.content.id) (entries_from (0 + length (entries xs)) ys)) n entry is

pub nth_body : (lane : Lane) (lines : List Line) (n : ℕ) (entry : Entry) → slice_get (lane_entries lane lines) n ≡ Some entry → slice_get (bodies lane lines) n ≡ Some (body_told entry)
nth_body lane lines n entry is = get_map body_told (lane_entries lane lines) n entry is

-- ---- states

-- a state among lines stands behind a front of them
pub record IsAmong (lines : List Line) (state : LaneState) : Type 0 where
  pub line : Line
  pub rest : List Line
  pub splits : lines ≡ state.before ++ line ∷ rest
  pub lane : lane_of state.state.kind ≡ Some state.lane

pub among : (front lines : List Line) (state : LaneState) → Has state (states_behind front lines) → IsAmong (front ++ lines) state
among front [] state has = absurd has
among front (line ∷ lines) state has = on (has_parts state (state_of front (state_in line.found)) (states_behind (front ++ line ∷ []) lines) has) (λ there. among (front ++ line ∷ []) lines state there)
  where
    in_lane : (found : State) (lane : Option Lane) → lane_of found.kind ≡ lane → Has state (state_of_lane front found lane) → IsAmong (front ++ line ∷ lines) state
    in_lane found None is here = absurd here
    in_lane found (Some lane) is (inr none) = absurd none
    in_lane found (Some lane) is (inl same) = record {
      line = line;
      rest = lines;
      splits = ap (λ (it : LaneState). it.before ++ line ∷ lines) same;
      lane = subst (λ (it : LaneState). lane_of it.state.kind ≡ Some it.lane) same is;
    }

    here_is : (found : Option State) → Has state (state_of front found) → IsAmong (front ++ line ∷ lines) state
    here_is None here = absurd here
    here_is (Some found) here = in_lane found (lane_of found.kind) refl here

    on : Has state (state_of front (state_in line.found)) ⊎ Has state (states_behind (front ++ line ∷ []) lines) → (Has state (states_behind (front ++ line ∷ []) lines) → IsAmong ((front ++ line ∷ []) ++ lines) state) → IsAmong (front ++ line ∷ lines) state
    on (inl here) deeper = here_is (state_in line.found) here
    on (inr there) deeper = subst (λ whole. IsAmong whole state) (append_assoc front (line ∷ []) lines) (deeper there)
