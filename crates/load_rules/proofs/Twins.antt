-- States of lines that tell the same messages.
use Rattle.std.proofs.Common.{◌≡◌, ◌⊎◌, inl, inr, ℕ, ◌+◌, List, [], ◌∷◌, ◌++◌, map, Option, None, Some, true, false, refl, sym, ◌∙◌, ap, subst}
use Rattle.std.specs.Prelude.{filter_map}
use Rattle.std.proofs.lemmas.List.{append-nil, map-append}
use Rattle.std.proofs.lemmas.List.Elements.{filter_map-append}
use Rattle.std.proofs.lemmas.Bool.{cases_Bool}
use Rattle.airbyte_message.specs.Lanes.{Lane, lane_of}
use Rattle.airbyte_message.specs.State.{State}
use Rattle.airbyte_message.specs.Same.{Same}
use Rattle.airbyte_message.specs.declared.message.Message.{Message}
use Rattle.airbyte_message.specs.declared.message.RecordMsg.{RecordMsg}
use Rattle.load_rules.specs.Prefixes.{IsPrefix}
use Rattle.load_rules.specs.Lines.{Line, Reading, lines_read, record_in, state_in}
use Rattle.load_rules.specs.Taken.{Entry, and_record, entries, entries_from, LaneState, state_of, state_of_lane, states, states_behind, of_lane, is_same_lane}
use Rattle.load_rules.proofs.TakenLists.{states-append}
use Rattle.load_rules.proofs.Returns.{AreReturned}

-- the messages of lines, and lines that have nothing else
abbrev pub messages : List Line → List Message
messages lines = filter_map (λ line. line.found) lines

abbrev pub bare_line : Message → Line
bare_line content = record { text = []; found = Some content }

abbrev pub bare : List Message → List Line
bare contents = map bare_line contents

pub messages_read : (read : Reading) (texts : List (List ℕ)) → messages (lines_read read texts) ≡ filter_map read texts
messages_read read [] = refl
messages_read read (text ∷ texts) = at (read text) refl (messages_read read texts)
  where
    at : (found : Option Message) → read text ≡ found → messages (lines_read read texts) ≡ filter_map read texts → messages (lines_read read (text ∷ texts)) ≡ filter_map read (text ∷ texts)
    at None is rest = rw is rest
    at (Some content) is rest = rw is (ap (λ list. content ∷ list) rest)

messages_one : (before : List Line) (text : List ℕ) (content : Message) → messages (before ++ record { text = text; found = Some content } ∷ []) ≡ messages before ++ content ∷ []
messages_one before text content = filter_map-append (λ line. line.found) before (record { text = text; found = Some content } ∷ [])

messages_none : (before : List Line) (text : List ℕ) → messages (before ++ record { text = text; found = None } ∷ []) ≡ messages before
messages_none before text = filter_map-append (λ line. line.found) before (record { text = text; found = None } ∷ []) ∙ append-nil (messages before)

entries_bare : (n : ℕ) (lines : List Line) → entries_from n lines ≡ entries_from n (bare (messages lines))
entries_bare n [] = refl
entries_bare n (line ∷ lines) = at line.text line.found (λ k. entries_bare k lines)
  where
    both : (found : Option RecordMsg) → ((k : ℕ) → entries_from k lines ≡ entries_from k (bare (messages lines))) → and_record n found (λ next. entries_from next lines) ≡ and_record n found (λ next. entries_from next (bare (messages lines)))
    both None deeper = deeper n
    both (Some content) deeper = ap (λ (list : List Entry). record { seq = n; content = content } ∷ list) (deeper (n + 1))

    at : (text : List ℕ) (found : Option Message) → ((k : ℕ) → entries_from k lines ≡ entries_from k (bare (messages lines))) → entries_from n (record { text = text; found = found } ∷ lines) ≡ entries_from n (bare (messages (record { text = text; found = found } ∷ lines)))
    at text None deeper = deeper n
    at text (Some content) deeper = both (record_in (Some content)) deeper

-- lines that tell the same have the same records
pub entries_alike : (a b : List Line) → messages a ≡ messages b → entries a ≡ entries b
entries_alike a b same = entries_bare 0 a ∙ (ap (λ list. entries (bare list)) same ∙ sym (entries_bare 0 b))

-- Twins

pub record IsTwin (one other : LaneState) : Type 0 where
  pub lane : one.lane ≡ other.lane
  pub state : one.state ≡ other.state
  pub before : messages one.before ≡ messages other.before

abbrev pub AreTwins : List LaneState → List LaneState → Type 0
AreTwins [] [] = Unit {0}
AreTwins (one ∷ more) (other ∷ others) = IsTwin one other × AreTwins more others
AreTwins [] (other ∷ others) = ⊥
AreTwins (one ∷ more) [] = ⊥

twins_both : (a b c d : List LaneState) → AreTwins a b → AreTwins c d → AreTwins (a ++ c) (b ++ d)
twins_both [] [] c d first second = second
twins_both [] (y ∷ b) c d first second = absurd first
twins_both (x ∷ a) [] c d first second = absurd first
twins_both (x ∷ a) (y ∷ b) c d first second = (first.0, twins_both a b c d first.1 second)

twins_join : (a b c : List LaneState) → AreTwins a c → AreTwins b c → AreTwins a b
twins_join [] [] [] first second = tt
twins_join [] (y ∷ b) [] first second = absurd second
twins_join (x ∷ a) b [] first second = absurd first
twins_join [] b (z ∷ c) first second = absurd first
twins_join (x ∷ a) [] (z ∷ c) first second = absurd second
twins_join (x ∷ a) (y ∷ b) (z ∷ c) first second = (record { lane = first.0.lane ∙ sym second.0.lane; state = first.0.state ∙ sym second.0.state; before = first.0.before ∙ sym second.0.before }, twins_join a b c first.1 second.1)

pub twins_lane : (lane : Lane) (a b : List LaneState) → AreTwins a b → AreTwins (of_lane lane a) (of_lane lane b)
twins_lane lane [] [] alike = tt
twins_lane lane [] (y ∷ b) alike = absurd alike
twins_lane lane (x ∷ a) [] alike = absurd alike
twins_lane lane (x ∷ a) (y ∷ b) alike = at (cases_Bool (is_same_lane lane x.lane)) (twins_lane lane a b alike.1)
  where
    at : (is_same_lane lane x.lane ≡ true) ⊎ (is_same_lane lane x.lane ≡ false) → AreTwins (of_lane lane a) (of_lane lane b) → AreTwins (of_lane lane (x ∷ a)) (of_lane lane (y ∷ b))
    at (inl own) rest = rw (own, ap (is_same_lane lane) (sym alike.0.lane) ∙ own) (alike.0, rest)
    at (inr other) rest = rw (other, ap (is_same_lane lane) (sym alike.0.lane) ∙ other) rest

-- twins of a list in two parts
pub record FirstTwins (list front : List LaneState) : Type 0 where
  pub first : List LaneState
  pub second : List LaneState
  pub is : list ≡ first ++ second
  pub alike : AreTwins first front

first_twins : (list front rest : List LaneState) → AreTwins list (front ++ rest) → FirstTwins list front
first_twins list [] rest alike = record { first = []; second = list; is = refl; alike = tt }
first_twins [] (y ∷ front) rest alike = absurd alike
first_twins (x ∷ list) (y ∷ front) rest alike =
    let deeper = first_twins list front rest alike.1
    in record { first = x ∷ deeper.first; second = deeper.second; is = ap (λ more. x ∷ more) deeper.is; alike = (alike.0, deeper.alike) }

pub record CutTwins (front : List LaneState) (state : LaneState) (list : List LaneState) : Type 0 where
  pub first : List LaneState
  pub one : LaneState
  pub more : List LaneState
  pub is : list ≡ first ++ one ∷ more
  pub alike : AreTwins front first
  pub twin : IsTwin state one

pub cut_twins : (front rest : List LaneState) (state : LaneState) (list : List LaneState) → AreTwins (front ++ state ∷ rest) list → CutTwins front state list
cut_twins [] rest state [] alike = absurd alike
cut_twins [] rest state (y ∷ list) alike = record { first = []; one = y; more = list; is = refl; alike = tt; twin = alike.0 }
cut_twins (x ∷ front) rest state [] alike = absurd alike
cut_twins (x ∷ front) rest state (y ∷ list) alike =
    let deeper = cut_twins front rest state list alike.1
    in record { first = y ∷ deeper.first; one = deeper.one; more = deeper.more; is = ap (λ more. y ∷ more) deeper.is; alike = (alike.0, deeper.alike); twin = deeper.twin }

-- States of lines

lane_twin : (before other : List Line) (state : State) (lane : Option Lane) → messages before ≡ messages other → AreTwins (state_of_lane before state lane) (state_of_lane other state lane)
lane_twin before other state None same = tt
lane_twin before other state (Some lane) same = (record { lane = refl; state = refl; before = same }, tt)

state_twin : (before other : List Line) (found : Option State) → messages before ≡ messages other → AreTwins (state_of before found) (state_of other found)
state_twin before other None same = tt
state_twin before other (Some state) same = lane_twin before other state (lane_of state.kind) same

states_bare : (before other lines : List Line) → messages before ≡ messages other → AreTwins (states_behind before lines) (states_behind other (bare (messages lines)))
states_bare before other [] same = tt
states_bare before other (line ∷ lines) same = at line.text line.found (λ a b alike. states_bare a b lines alike)
  where
    at : (text : List ℕ) (found : Option Message) → ((a b : List Line) → messages a ≡ messages b → AreTwins (states_behind a lines) (states_behind b (bare (messages lines)))) → AreTwins (states_behind before (record { text = text; found = found } ∷ lines)) (states_behind other (bare (messages (record { text = text; found = found } ∷ lines))))
    at text None deeper = deeper (before ++ record { text = text; found = None } ∷ []) other (messages_none before text ∙ same)
    at text (Some content) deeper =
        let on = messages_one before text content ∙ (ap (λ list. list ++ content ∷ []) same ∙ sym (messages_one other [] content)) in
        twins_both (state_of before (state_in (Some content))) (state_of other (state_in (Some content))) (states_behind (before ++ record { text = text; found = Some content } ∷ []) lines) (states_behind (other ++ bare_line content ∷ []) (bare (messages lines))) (state_twin before other (state_in (Some content)) same) (deeper (before ++ record { text = text; found = Some content } ∷ []) (other ++ bare_line content ∷ []) on)

pub record GivenTwins (own whole : List Line) : Type 0 where
  pub twins : List LaneState
  pub rest : List LaneState
  pub are : states whole ≡ twins ++ rest
  pub alike : AreTwins (states own) twins

-- where the messages of lines are the first of others', so are the states
pub given_twins : (own whole : List Line) → IsPrefix (messages own) (messages whole) → GivenTwins own whole
given_twins own whole prefix =
    let mine = bare (messages own) in
    let more = bare prefix.0 in
    let split : states (bare (messages whole)) ≡ states (bare (messages own)) ++ states_behind (bare (messages own)) (bare prefix.0) = ap (λ list. states (bare list)) prefix.1 ∙ (ap states (map-append bare_line (messages own) prefix.0) ∙ states-append [] mine more) in
    let parts = first_twins (states whole) (states mine) (states_behind mine more) (subst (AreTwins (states whole)) split (states_bare [] [] whole refl)) in
    record { twins = parts.first; rest = parts.second; are = parts.is; alike = twins_join (states own) parts.first (states mine) (states_bare [] [] own refl) parts.alike }

-- those of one lane, in place of their twins
pub record Woven (lane : Lane) (front twins : List LaneState) : Type 0 where
  pub list : List LaneState
  pub alike : AreTwins front list
  pub own : of_lane lane list ≡ twins

own_twin : (one : LaneState) → IsTwin one one
own_twin one = record { lane = refl; state = refl; before = refl }

pub weave : (lane : Lane) (front twins : List LaneState) → AreTwins (of_lane lane front) twins → Woven lane front twins
weave lane [] [] alike = record { list = []; alike = tt; own = refl }
weave lane [] (y ∷ twins) alike = absurd alike
weave lane (x ∷ front) twins alike = at (cases_Bool (is_same_lane lane x.lane)) alike (weave lane front)
  where
    taken : is_same_lane lane x.lane ≡ true → (twins : List LaneState) → AreTwins (x ∷ of_lane lane front) twins → ((ts : List LaneState) → AreTwins (of_lane lane front) ts → Woven lane front ts) → Woven lane (x ∷ front) twins
    taken own [] alike deeper = absurd alike
    taken own (y ∷ twins) alike deeper =
        let rest = deeper twins alike.1 in
        record { list = y ∷ rest.list; alike = (alike.0, rest.alike); own = rw (ap (is_same_lane lane) (sym alike.0.lane) ∙ own) (ap (λ list. y ∷ list) rest.own) }

    at : (is_same_lane lane x.lane ≡ true) ⊎ (is_same_lane lane x.lane ≡ false) → AreTwins (of_lane lane (x ∷ front)) twins → ((ts : List LaneState) → AreTwins (of_lane lane front) ts → Woven lane front ts) → Woven lane (x ∷ front) twins
    at (inl own) alike deeper = taken own twins (rw own at alike) deeper
    at (inr other) alike deeper =
        let rest = deeper twins (rw other at alike) in
        record { list = x ∷ rest.list; alike = (own_twin x, rest.alike); own = rw other rest.own }

pub returned_twins : (read : Reading) (states twins : List LaneState) (texts : List (List ℕ)) → AreTwins states twins → AreReturned read states texts → AreReturned read twins texts
returned_twins read [] [] texts alike are = are
returned_twins read [] (y ∷ twins) texts alike are = absurd alike
returned_twins read (x ∷ more) [] texts alike are = absurd alike
returned_twins read (x ∷ more) (y ∷ twins) [] alike are = absurd are
returned_twins read (x ∷ more) (y ∷ twins) (text ∷ texts) alike are = (
  record {
    back = are.0.back;
    is = are.0.is ∙ ap (λ (lane : Lane). record { lane = lane; state = are.0.back; before = [] } ∷ []) alike.0.lane;
    same = subst (λ state. Same state are.0.back) alike.0.state are.0.same;
  },
  returned_twins read more twins texts alike.1 are.1,
)
