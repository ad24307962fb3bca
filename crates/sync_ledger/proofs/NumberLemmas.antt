-- The lines of the states that are pending rise.
use Rattle.std.proofs.Common.{arith, ◌≡◌, ◌⊎◌, inl, inr, ℕ, ◌+◌, ◌<◌, ◌≤◌, List, [], ◌∷◌, ◌++◌, Option, None, Some, Bool, true, false, cond, refl, sym, ◌∙◌, ap, subst, map, is_some, option_map, append-nil, append_assoc}
use Rattle.std.proofs.lemmas.List.{map-append}
use Rattle.std.proofs.lemmas.Bool.{false≢true}
use Rattle.basics.specs.declared.stream.StreamId.{StreamId}
use Rattle.stream_index.specs.Same.{is_same_stream}
use Rattle.stream_index.proofs.IndexLemmas.{Decides-stream}
use Rattle.airbyte_message.specs.Lanes.{Lane, one, all, lane_of}
use Rattle.airbyte_message.specs.State.{State}
use Rattle.airbyte_message.specs.declared.stream_status.StreamStatus.{StreamStatus}
use Rattle.sync_ledger.specs.Accounts.{account_of, lane_in, left_pending, new_account, pending_of, with_lane, with_pending}
use Rattle.sync_ledger.specs.Lists.{is_lane}
use Rattle.sync_ledger.specs.Noted.{Noted, gave, given_in, heard, heard_in, heard_status, nothing_noted, pending_in}
use Rattle.sync_ledger.specs.PendingLists.{AreNumbered, HoldsOne, NumberLaws, RiseTo, lines_of, of_lane}
use Rattle.sync_ledger.specs.declared.accounts.Account.{Account}
use Rattle.sync_ledger.specs.declared.accounts.LaneAccount.{LaneAccount}
use Rattle.sync_ledger.specs.declared.form.StateForm.{StateForm}
use Rattle.sync_ledger.specs.declared.pending.Pending.{Pending}
use Rattle.sync_ledger.specs.declared.told.Told.{Told}
use Rattle.sync_ledger.specs.declared.told.Told.TheVariants as told
use Rattle.sync_ledger.proofs.AccountLemmas.{by_test}
use Rattle.sync_ledger.proofs.PendingLemmas.{own_lane, other_lane, pending_laws}

-- ---- numbers that rise

rise_within : (low high : ℕ) (numbers : List ℕ) → RiseTo low high numbers → low ≤ high
rise_within low high [] rises = rises
rise_within low high (number ∷ numbers) rises = (let deeper = rise_within number high numbers rises.1 in let first = rises.0 in omega (arith, deeper, first))

rise_front : (low high : ℕ) (front back : List ℕ) → RiseTo low high (front ++ back) → RiseTo low high front
rise_front low high [] back rises = rise_within low high back rises
rise_front low high (number ∷ front) back rises = (rises.0, rise_front number high front back rises.1)

rise_lower : (low lower high : ℕ) (numbers : List ℕ) → lower ≤ low → RiseTo low high numbers → RiseTo lower high numbers
rise_lower low lower high [] le rises = omega (arith, le, rises)
rise_lower low lower high (number ∷ numbers) le rises = ((let first = rises.0 in omega (arith, le, first)), rises.1)

rise_back : (low high : ℕ) (front back : List ℕ) → RiseTo low high (front ++ back) → RiseTo low high back
rise_back low high [] back rises = rises
rise_back low high (number ∷ front) back rises = rise_lower number low high back (let first = rises.0 in omega (arith, first)) (rise_back number high front back rises.1)

rise_higher : (low high higher : ℕ) (numbers : List ℕ) → high ≤ higher → RiseTo low high numbers → RiseTo low higher numbers
rise_higher low high higher [] le rises = omega (arith, le, rises)
rise_higher low high higher (number ∷ numbers) le rises = (rises.0, rise_higher number high higher numbers le rises.1)

rise_more : (low high : ℕ) (numbers : List ℕ) → RiseTo low high numbers → RiseTo low (high + 1) (numbers ++ (high + 1) ∷ [])
rise_more low high [] rises = ((let first : low ≤ high = rises in omega (arith, first)), omega arith)
rise_more low high (number ∷ numbers) rises = (rises.0, rise_more number high numbers rises.1)

pending_rise : (noted : Noted) (lane : Lane) → AreNumbered noted → RiseTo 0 noted.lines (lines_of (pending_in noted lane))
pending_rise noted lane numbered = rise_front 0 noted.lines (lines_of (pending_in noted lane)) (lines_of (of_lane lane noted.held)) (subst (RiseTo 0 noted.lines) (map-append (λ (it : Pending). it.line) (pending_in noted lane) (of_lane lane noted.held)) (numbered lane))

one_higher : (n : ℕ) → n ≤ n + 1
one_higher n = omega arith

-- ---- the beginning

none_pending : (ids : List StreamId) (id : StreamId) → pending_of (option_map (λ account. account.lane) (account_of ids id (map (λ it. new_account) ids))) ≡ []
none_pending [] id = refl
none_pending (own ∷ ids) id = at (is_same_stream own id) (none_pending ids id)
  where
    at : (b : Bool) → pending_of (option_map (λ account. account.lane) (account_of ids id (map (λ it. new_account) ids))) ≡ [] → pending_of (option_map (λ account. account.lane) (cond b (Some new_account) (account_of ids id (map (λ it. new_account) ids)))) ≡ []
    at true rest = refl
    at false rest = rest

begins : (ids : List StreamId) (saved : Option StateForm) → AreNumbered (nothing_noted ids saved)
begins ids saved (one id) = subst (λ (list : List Pending). RiseTo 0 0 (lines_of (list ++ []))) (sym (none_pending ids id)) (omega arith)
begins ids saved all = omega arith

-- ---- a line is heard

kept_held : (noted now : Noted) (lane : Lane) → pending_in now lane ≡ pending_in noted lane → now.lines ≡ noted.lines + 1 → now.held ≡ noted.held → AreNumbered noted → RiseTo 0 now.lines (lines_of (pending_in now lane ++ of_lane lane now.held))
kept_held noted now lane pending lines held numbered =
    subst (λ n. RiseTo 0 n (lines_of (pending_in now lane ++ of_lane lane now.held))) (sym lines)
    (subst (λ (list : List Pending). RiseTo 0 (noted.lines + 1) (lines_of (list ++ of_lane lane now.held))) (sym pending)
    (subst (λ (list : List Pending). RiseTo 0 (noted.lines + 1) (lines_of (pending_in noted lane ++ of_lane lane list))) (sym held)
    (rise_higher 0 noted.lines (noted.lines + 1) (lines_of (pending_in noted lane ++ of_lane lane noted.held)) (one_higher noted.lines) (numbered lane))))

none_held : (noted now : Noted) (lane : Lane) → pending_in now lane ≡ pending_in noted lane → now.lines ≡ noted.lines + 1 → now.held ≡ [] → AreNumbered noted → RiseTo 0 now.lines (lines_of (pending_in now lane ++ of_lane lane now.held))
none_held noted now lane pending lines held numbered =
    subst (λ n. RiseTo 0 n (lines_of (pending_in now lane ++ of_lane lane now.held))) (sym lines)
    (subst (λ (list : List Pending). RiseTo 0 (noted.lines + 1) (lines_of (list ++ of_lane lane now.held))) (sym pending)
    (subst (λ (list : List Pending). RiseTo 0 (noted.lines + 1) (lines_of (pending_in noted lane ++ of_lane lane list))) (sym held)
    (subst (λ (list : List Pending). RiseTo 0 (noted.lines + 1) (lines_of list)) (sym (append-nil (pending_in noted lane)))
    (rise_higher 0 noted.lines (noted.lines + 1) (lines_of (pending_in noted lane)) (one_higher noted.lines) (pending_rise noted lane numbered)))))

new_held : (noted : Noted) (lane : Lane) (b : Bool) (pending : Pending) → pending.line ≡ noted.lines + 1 → AreNumbered noted → RiseTo 0 (noted.lines + 1) (lines_of (pending_in noted lane ++ cond b (pending ∷ []) []))
new_held noted lane true pending line numbered =
    subst (RiseTo 0 (noted.lines + 1)) (sym (map-append (λ (it : Pending). it.line) (pending_in noted lane) (pending ∷ []) ∙ ap (λ n. lines_of (pending_in noted lane) ++ n ∷ []) line))
    (rise_more 0 noted.lines (lines_of (pending_in noted lane)) (pending_rise noted lane numbered))
new_held noted lane false pending line numbered =
    subst (λ (list : List Pending). RiseTo 0 (noted.lines + 1) (lines_of list)) (sym (append-nil (pending_in noted lane)))
    (rise_higher 0 noted.lines (noted.lines + 1) (lines_of (pending_in noted lane)) (one_higher noted.lines) (pending_rise noted lane numbered))

hears_state : (noted : Noted) (state : State) (own : Option Lane) (lane : Lane) → pending_in (heard_in state noted own) lane ≡ pending_in noted lane → lane_of state.kind ≡ own → AreNumbered noted
    → RiseTo 0 (heard_in state noted own).lines (lines_of (pending_in (heard_in state noted own) lane ++ of_lane lane (heard_in state noted own).held))
hears_state noted state None lane pending of numbered = kept_held noted (heard_in state noted None) lane pending refl refl numbered
hears_state noted state (Some own) lane pending of numbered =
    subst (λ (list : List Pending). RiseTo 0 (noted.lines + 1) (lines_of (list ++ of_lane lane (record { state = state; line = noted.lines + 1 } ∷ [])))) (sym pending)
    (new_held noted lane (is_lane lane (lane_of state.kind)) (record { state = state; line = noted.lines + 1 }) refl numbered)

hears_status : (noted : Noted) (id : StreamId) (status : StreamStatus) (found : Option Account) (lane : Lane) → pending_in (heard_status id status noted found) lane ≡ pending_in noted lane → AreNumbered noted
    → RiseTo 0 (heard_status id status noted found).lines (lines_of (pending_in (heard_status id status noted found) lane ++ of_lane lane (heard_status id status noted found).held))
hears_status noted id status None lane pending numbered = kept_held noted (heard_status id status noted None) lane pending refl refl numbered
hears_status noted id status (Some account) lane pending numbered = none_held noted (heard_status id status noted (Some account)) lane pending refl refl numbered

hears : (noted : Noted) (line : Told) → AreNumbered noted → AreNumbered (heard noted line)
hears noted (told.Record id) numbered lane = none_held noted (heard noted (told.Record id)) lane (pending_laws.hears noted (told.Record id) lane) refl refl numbered
hears noted (told.State state) numbered lane = hears_state noted state (lane_of state.kind) lane (pending_laws.hears noted (told.State state) lane) refl numbered
hears noted (told.Status id status) numbered lane = hears_status noted id status (account_of noted.ids id noted.accounts.streams) lane (pending_laws.hears noted (told.Status id status) lane) numbered
hears noted (told.Other saying) numbered lane = kept_held noted (heard noted (told.Other saying)) lane (pending_laws.hears noted (told.Other saying) lane) refl refl numbered

-- ---- what is held is given

no_lane : (found : Option LaneAccount) → is_some found ≡ false → found ≡ None
no_lane None none = refl
no_lane (Some account) none = absurd (false≢true (sym none))

no_pending : (found : Option LaneAccount) (change : LaneAccount → LaneAccount) → is_some found ≡ false → pending_of (option_map change found) ≡ []
no_pending None change none = refl
no_pending (Some account) change none = absurd (false≢true (sym none))

none_of : (found : Option LaneAccount) → is_some found ≡ false → pending_of found ≡ []
none_of None none = refl
none_of (Some account) none = absurd (false≢true (sym none))

unknown_given : (noted : Noted) (held : List Pending) (own : Option Lane) (lane : Lane) → is_some (lane_in noted.ids noted.accounts lane) ≡ false → pending_of (lane_in noted.ids (given_in noted.ids held own noted.accounts) lane) ≡ []
unknown_given noted held None lane none = none_of (lane_in noted.ids noted.accounts lane) none
unknown_given noted held (Some own) lane none = by_test (is_lane lane (Some own))
    (λ same. ap pending_of (own_lane noted.ids noted.accounts own lane (with_pending held) same) ∙ no_pending (lane_in noted.ids noted.accounts lane) (with_pending held) none)
    (λ differs. ap pending_of (other_lane noted.ids noted.accounts own lane (with_pending held) differs) ∙ none_of (lane_in noted.ids noted.accounts lane) none)

unknown_gave : (noted : Noted) (lane : Lane) → HoldsOne noted.held → is_some (lane_in noted.ids noted.accounts lane) ≡ false → pending_in (gave noted) lane ≡ []
unknown_gave noted lane (inl empty) none = subst (λ (held : List Pending). pending_in (gave (record noted { held = held })) lane ≡ []) (sym empty) (none_of (lane_in noted.ids noted.accounts lane) none)
unknown_gave noted lane (inr (pending, single)) none = subst (λ (held : List Pending). pending_in (gave (record noted { held = held })) lane ≡ []) (sym single) (unknown_given noted (pending ∷ []) (lane_of pending.state.kind) lane none)

gives : (noted : Noted) → HoldsOne noted.held → AreNumbered noted → AreNumbered (gave noted)
gives noted single numbered lane = subst (λ (list : List Pending). RiseTo 0 noted.lines (lines_of list)) (sym (append-nil (pending_in (gave noted) lane))) (by_test (is_some (lane_in noted.ids noted.accounts lane))
    (λ known. subst (λ (list : List Pending). RiseTo 0 noted.lines (lines_of list)) (sym (pending_laws.gives noted lane known single)) (numbered lane))
    (λ unknown. subst (λ (list : List Pending). RiseTo 0 noted.lines (lines_of list)) (sym (unknown_gave noted lane single unknown)) (rise_within 0 noted.lines (lines_of (pending_in noted lane)) (pending_rise noted lane numbered))))

-- ---- a state comes back

left_of : (left : List Pending) (found : Option LaneAccount) (over : List Pending) (first : Pending) → pending_of found ≡ over ++ first ∷ left → pending_of (option_map (left_pending left) found) ≡ left
left_of left (Some account) over first splits = refl
left_of left None [] first splits = absurd (let e : [] ≡ first ∷ left = splits in cc)
left_of left None (own ∷ over) first splits = absurd (let e : [] ≡ own ∷ (over ++ first ∷ left) = splits in cc)

lane_is : (lane other : Lane) → is_lane other (Some lane) ≡ true → other ≡ lane
lane_is (one id) (one other) same = ap (λ it. one it) ((Decides-stream other id).0 same)
lane_is (one id) all same = absurd (false≢true same)
lane_is all (one other) same = absurd (false≢true same)
lane_is all all same = refl

takes : (noted : Noted) (lane : Lane) (over left : List Pending) (first : Pending) → pending_in noted lane ≡ over ++ first ∷ left → AreNumbered noted → AreNumbered (record noted { accounts = with_lane noted.ids noted.accounts lane (left_pending left) })
takes noted lane over left first splits numbered other = by_test (is_lane other (Some lane))
    (λ same.
    let at = lane_is lane other same in
    let whole : pending_in noted other ≡ (over ++ first ∷ []) ++ left = ap (pending_in noted) at ∙ (splits ∙ sym (append_assoc over (first ∷ []) left)) in
    let rises = subst (λ (list : List Pending). RiseTo 0 noted.lines (lines_of list)) (ap (λ (list : List Pending). list ++ of_lane other noted.held) whole ∙ append_assoc (over ++ first ∷ []) left (of_lane other noted.held)) (numbered other) in
    subst (λ (list : List Pending). RiseTo 0 noted.lines (lines_of (list ++ of_lane other noted.held)))
    (sym (ap pending_of (own_lane noted.ids noted.accounts lane other (left_pending left) same) ∙ left_of left (lane_in noted.ids noted.accounts other) over first (ap (pending_in noted) at ∙ splits)))
    (rise_back 0 noted.lines (lines_of (over ++ first ∷ [])) (lines_of (left ++ of_lane other noted.held)) (subst (RiseTo 0 noted.lines) (map-append (λ (it : Pending). it.line) (over ++ first ∷ []) (left ++ of_lane other noted.held)) rises)))
    (λ differs. subst (λ (list : List Pending). RiseTo 0 noted.lines (lines_of (list ++ of_lane other noted.held))) (sym (ap pending_of (other_lane noted.ids noted.accounts lane other (left_pending left) differs))) (numbered other))

pub number_laws : NumberLaws
number_laws = record { begins = begins; hears = hears; gives = gives; takes = takes }
