-- Words of ledgers and of attempts that mean the same.
use Rattle.std.proofs.Common.{◌≡◌, ℕ, ◌+◌, List, [], ◌∷◌, Bool, true, false, cond, ◌||◌, ◌&&◌, Option, None, Some, refl, sym, ◌∙◌, ap, subst, map, fold}
use Rattle.std.specs.Str.{bytes_eq}
use Rattle.std.proofs.lemmas.Bool.{false≢true}
use Rattle.basics.specs.declared.stream.StreamId.{StreamId}
use Rattle.stream_index.specs.Same.{is_same_stream, is_same_namespace}
use Rattle.stream_index.proofs.IndexLemmas.{Decides-stream}
use Rattle.outside.specs.Tables.{same_id, same_namespace}
use Rattle.outside.specs.declared.faults.Side.TheVariants as side
use Rattle.airbyte_message.specs.Lanes.{Lane, one, all, lane_of}
use Rattle.airbyte_message.specs.declared.message.Message.{Message}
use Rattle.airbyte_message.specs.declared.message.Message.TheVariants as message
use Rattle.airbyte_message.specs.declared.message.TraceMsg.{TraceMsg}
use Rattle.airbyte_message.specs.declared.message.TraceMsg.TheVariants as trace
use Rattle.load_rules.specs.Lines.{Reading, is_known, lines_read, record_in, state_in}
use Rattle.load_rules.specs.Taken.{covers, counts_record, counts_state, is_of_lane, is_same_lane, since}
use Rattle.sync_ledger.specs.Accounts.{account_of}
use Rattle.sync_ledger.specs.Lists.{AllStreams, IsAccountOf, is_lane, covers_stream, since_after}
use Rattle.sync_ledger.specs.Lists as lists
use Rattle.sync_ledger.specs.Told.{told_of}
use Rattle.sync_ledger.specs.declared.accounts.Account.{Account}
use Rattle.ledger_rules.specs.Ledgers.{told_read}

-- ---- streams and lanes

namespaces : (a b : Option (List ℕ)) → is_same_namespace a b ≡ same_namespace a b
namespaces None None = refl
namespaces None (Some y) = refl
namespaces (Some x) None = refl
namespaces (Some x) (Some y) = refl

pub same_streams : (a b : StreamId) → is_same_stream a b ≡ same_id a b
same_streams a b = ap (λ is. bytes_eq a.name b.name && is) (namespaces a.namespace b.namespace)

pub same_covers : (lane : Lane) (id : StreamId) → covers_stream lane id ≡ covers lane id
same_covers (one own) id = same_streams own id
same_covers all id = refl

pub same_lanes : (lane other : Lane) → is_lane lane (Some other) ≡ is_same_lane lane other
same_lanes (one id) (one other) = same_streams id other
same_lanes (one id) all = refl
same_lanes all (one other) = refl
same_lanes all all = refl

of_lane_same : (lane : Lane) (other : Option Lane) → is_lane lane other ≡ is_of_lane lane other
of_lane_same (one id) None = refl
of_lane_same all None = refl
of_lane_same (one id) (Some other) = same_lanes (one id) other
of_lane_same all (Some other) = same_lanes all other

-- ---- how many records of a lane stand behind its last state

trace_since : (lane : Lane) (text : List ℕ) (count : ℕ) (content : TraceMsg) → since_after lane count (told_of side.Source text (Some (message.Trace content))) ≡ count
trace_since lane text count (trace.Error words failure emitted_at) = refl
trace_since lane text count (trace.Status id status emitted_at) = refl
trace_since lane text count (trace.Other object) = refl

after_same : (lane : Lane) (text : List ℕ) (count : ℕ) (found : Option Message) → since_after lane count (told_of side.Source text found) ≡ counts_state lane (counts_record lane count (record_in found)) (state_in found)
after_same lane text count None = refl
after_same lane text count (Some (message.Rec content)) = ap (λ b. cond b (count + 1) count) (same_covers lane content.id)
after_same lane text count (Some (message.State state)) = ap (λ b. cond b 0 count) (of_lane_same lane (lane_of state.kind))
after_same lane text count (Some (message.Log content)) = refl
after_same lane text count (Some (message.Spec content)) = refl
after_same lane text count (Some (message.Connection content)) = refl
after_same lane text count (Some (message.Catalog content)) = refl
after_same lane text count (Some (message.Trace content)) = trace_since lane text count content
after_same lane text count (Some (message.Control content)) = refl

since_from : (lane : Lane) (read : Reading) (list : List (List ℕ)) (count : ℕ)
    → fold (since_after lane) count (map (told_read read) list) ≡ fold (λ n line. counts_state lane (counts_record lane n (record_in line.found)) (state_in line.found)) count (lines_read read list)
since_from lane read [] count = refl
since_from lane read (text ∷ list) count =
    since_from lane read list (since_after lane count (told_read read text))
    ∙ ap (λ n. fold (λ m line. counts_state lane (counts_record lane m (record_in line.found)) (state_in line.found)) n (lines_read read list)) (after_same lane text count (read text))

pub since_same : (lane : Lane) (read : Reading) (list : List (List ℕ)) → lists.since lane (map (told_read read) list) ≡ since lane (lines_read read list)
since_same lane read list = since_from lane read list 0

-- ---- the account of a stream

pub record Found (Holds : StreamId → Account → Type 0) (ids : List StreamId) (id : StreamId) (accounts : List Account) : Type 0 where
  pub account : Account
  pub is : account_of ids id accounts ≡ Some account
  pub holds : Holds id account

pub by_test : {P : Type 0} (b : Bool) → (b ≡ true → P) → (b ≡ false → P) → P
by_test true yes_so no_so = yes_so refl
by_test false yes_so no_so = no_so refl

pub found_known : (Holds : StreamId → Account → Type 0) (ids : List StreamId) (id : StreamId) (accounts : List Account) → AllStreams Holds ids accounts → is_known ids id ≡ true → Found Holds ids id accounts
found_known Holds [] id accounts each known = absurd (false≢true known)
found_known Holds (own ∷ ids) id [] each known = absurd each
found_known Holds (own ∷ ids) id (account ∷ accounts) each known = by_test (is_same_stream own id)
    (λ same. record { account = account; is = ap (λ b. cond b (Some account) (account_of ids id accounts)) same; holds = subst (λ it. Holds it account) ((Decides-stream own id).0 same) each.0 })
    (λ differs.
    let rest = found_known Holds ids id accounts each.1 (sym (ap (λ b. b || is_known ids id) (sym (same_streams own id) ∙ differs)) ∙ known) in
    record { account = rest.account; is = ap (λ b. cond b (Some account) (account_of ids id accounts)) differs ∙ rest.is; holds = rest.holds })

pub found_unknown : (Holds : StreamId → Account → Type 0) (ids : List StreamId) (id : StreamId) (accounts : List Account) → AllStreams Holds ids accounts → is_known ids id ≡ false → account_of ids id accounts ≡ None
found_unknown Holds [] id accounts each unknown = refl
found_unknown Holds (own ∷ ids) id [] each unknown = refl
found_unknown Holds (own ∷ ids) id (account ∷ accounts) each unknown = by_test (is_same_stream own id)
    (λ same. absurd (false≢true (sym unknown ∙ ap (λ b. b || is_known ids id) (sym (same_streams own id) ∙ same))))
    (λ differs. ap (λ b. cond b (Some account) (account_of ids id accounts)) differs
    ∙ found_unknown Holds ids id accounts each.1 (sym (ap (λ b. b || is_known ids id) (sym (same_streams own id) ∙ differs)) ∙ unknown))
