-- Lists of events, one longer.
use Rattle.std.proofs.Common.{◌≡◌, ℕ, List, [], ◌∷◌, ◌++◌, Bool, false, true, ◌||◌, Option, None, refl, sym, ◌∙◌, ap, subst, append_assoc, append-nil}
use Rattle.std.specs.Prelude.{filter, filter_map, fold}
use Rattle.std.specs.List.{cons_option, list_any}
use Rattle.std.proofs.lemmas.List.{map-append}
use Rattle.std.proofs.lemmas.List.Elements.{filter-append, filter_map-append}
use Rattle.std.proofs.lemmas.List.Sums.{fold-append}
use Rattle.basics.specs.declared.stream.StreamId.{StreamId}
use Rattle.outside.specs.Event.{read_in, given_in, got_in, read_over, read_over_after, got_over, got_over_after}
use Rattle.outside.specs.declared.event.Event.{Event}
use Rattle.outside.specs.declared.event.Event.TheVariants.{Opened, Took, TookEnd, Committed, Emitted, Merged, Shown, Started, ReadLine, ReadEnd, Given, Closed, Got, GotEnd, Saved, Ended}
use Rattle.load_rules.specs.Prefixes.{EachFits}
use Rattle.load_rules.specs.Lines.{IsReading, Line, Reading, ReadsEvent, line_read, lines_read, passes}
use Rattle.load_rules.specs.Attempts.{reads, gives, gots}
use Rattle.sync_rules.specs.Sync.{texts}
use Rattle.sync_rules.proofs.KindLemmas.{all_more}

pub reads_one : (events : List Event) (event : Event) → reads (events ++ event ∷ []) ≡ reads events ++ filter_map read_in (event ∷ [])
reads_one events event = filter_map-append read_in events (event ∷ [])

pub gives_one : (events : List Event) (event : Event) → gives (events ++ event ∷ []) ≡ gives events ++ filter_map given_in (event ∷ [])
gives_one events event = filter_map-append given_in events (event ∷ [])

pub gots_one : (events : List Event) (event : Event) → gots (events ++ event ∷ []) ≡ gots events ++ filter_map got_in (event ∷ [])
gots_one events event = filter_map-append got_in events (event ∷ [])

-- where the event has no such line the lines are the same
none_more : (f : Event → Option (List ℕ)) (events : List Event) (event : Event) → f event ≡ None → filter_map f (events ++ event ∷ []) ≡ filter_map f events
none_more f events event none = filter_map-append f events (event ∷ []) ∙ (ap (λ found. filter_map f events ++ cons_option found []) none ∙ append-nil (filter_map f events))

pub same_reads : (events : List Event) (event : Event) → read_in event ≡ None → reads (events ++ event ∷ []) ≡ reads events
same_reads events event none = none_more read_in events event none

pub same_gives : (events : List Event) (event : Event) → given_in event ≡ None → gives (events ++ event ∷ []) ≡ gives events
same_gives events event none = none_more given_in events event none

pub same_gots : (events : List Event) (event : Event) → got_in event ≡ None → gots (events ++ event ∷ []) ≡ gots events
same_gots events event none = none_more got_in events event none

pub read_over_one : (events : List Event) (event : Event) → read_over (events ++ event ∷ []) ≡ read_over_after (read_over events) event
read_over_one events event = fold-append read_over_after false events (event ∷ [])

pub got_over_one : (events : List Event) (event : Event) → got_over (events ++ event ∷ []) ≡ got_over_after (got_over events) event
got_over_one events event = fold-append got_over_after false events (event ∷ [])

got_after : (a b : Bool) (event : Event) → (a ≡ true → b ≡ true) → got_over_after a event ≡ true → got_over_after b event ≡ true
got_after a b (Opened x y z) more is = more is
got_after a b (Took x) more is = more is
got_after a b TookEnd more is = more is
got_after a b (Committed x y) more is = more is
got_after a b (Emitted x) more is = more is
got_after a b (Merged x y z) more is = more is
got_after a b (Shown x y z) more is = more is
got_after a b (Started x) more is = is
got_after a b (ReadLine x) more is = more is
got_after a b ReadEnd more is = more is
got_after a b (Given x) more is = more is
got_after a b Closed more is = more is
got_after a b (Got x) more is = more is
got_after a b GotEnd more is = refl
got_after a b (Saved x) more is = more is
got_after a b (Ended x) more is = more is

-- an output that ends in events ends in them whatever was before
pub got_more : (a b : Bool) (events : List Event) → (a ≡ true → b ≡ true) → fold got_over_after a events ≡ true → fold got_over_after b events ≡ true
got_more a b [] more is = more is
got_more a b (event ∷ events) more is = got_more (got_over_after a event) (got_over_after b event) events (got_after a b event more) is

pub any_one : {A : Type 0} (p : A → Bool) (xs : List A) (x : A) → p x ≡ false → list_any p (xs ++ x ∷ []) ≡ list_any p xs
any_one p [] x none = ap (λ b. b || false) none
any_one p (y ∷ xs) x none = ap (λ b. p y || b) (any_one p xs x none)

pub each_one : {A : Type 0} (fits : List A → A → Type 0) (before list : List A) (next : A) → EachFits fits before list → fits (before ++ list) next → EachFits fits before (list ++ next ∷ [])
each_one fits before [] next each one_fits = (subst (λ own. fits own next) (append-nil before) one_fits, tt)
each_one fits before (first ∷ list) next each one_fits = (each.0, each_one fits (before ++ first ∷ []) list next each.1 (subst (λ own. fits own next) (sym (append_assoc before (first ∷ []) list)) one_fits))

pub reading_one : (read : Reading) (events : List Event) (event : Event) → IsReading read events → ReadsEvent read event → IsReading read (events ++ event ∷ [])
reading_one read events event right one_right = all_more (ReadsEvent read) events event right one_right

-- the lines that are passed on, behind one more
pub passed_one : (ids : List StreamId) (read : Reading) (list : List (List ℕ)) (text : List ℕ)
    → texts (filter (λ line. passes ids line.found) (lines_read read (list ++ text ∷ []))) ≡ texts (filter (λ line. passes ids line.found) (lines_read read list)) ++ texts (filter (λ line. passes ids line.found) (line_read read text ∷ []))
passed_one ids read list text =
    ap (λ lines. texts (filter (λ line. passes ids line.found) lines)) (map-append (line_read read) list (text ∷ []))
    ∙ (ap texts (filter-append (λ line. passes ids line.found) (lines_read read list) (line_read read text ∷ []))
    ∙ map-append (λ (line : Line). line.text) (filter (λ line. passes ids line.found) (lines_read read list)) (filter (λ line. passes ids line.found) (line_read read text ∷ [])))
