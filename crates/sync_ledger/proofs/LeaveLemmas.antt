-- What a state takes of a lane, by the lane's place.
use Rattle.std.proofs.Common.{◌≡◌, ℕ, ◌<◌, ◌≤◌, List, length, set, get_or, Option, None, Some, option_map, Result, Ok, Err, IfOk, IfErr, OnErr, sym, ◌∙◌, ap, subst}
use Rattle.basics.specs.declared.memory.NoMemory.{NoMemory}
use Rattle.airbyte_message.specs.Lanes.{lane_of}
use Rattle.airbyte_message.specs.State.{State}
use Rattle.sync_ledger.specs.Accounts.{AllAccounts, changed_lane, left_pending, pending_of}
use Rattle.sync_ledger.specs.Judged.{IsEchoed}
use Rattle.sync_ledger.specs.Kept.{IsKept, IsPlaceOf, LeavesAt, RefusesBackTold, lane_at, taken_answer}
use Rattle.sync_ledger.specs.Noted.{Noted}
use Rattle.sync_ledger.specs.Takes.{LeavesPending}
use Rattle.sync_ledger.specs.declared.accounts.Account.{Account}
use Rattle.sync_ledger.specs.declared.accounts.LaneAccount.{LaneAccount}
use Rattle.sync_ledger.specs.declared.accounts.LanePlace.{LanePlace}
use Rattle.sync_ledger.specs.declared.accounts.LanePlace.TheVariants as place
use Rattle.sync_ledger.specs.declared.told.Told.TheVariants as told
use Rattle.sync_ledger.specs.declared.verdict.Echoed.{Echoed}
use Rattle.sync_ledger.specs.declared.verdict.LedgerFault.{LedgerFault}
use Rattle.sync_ledger.proofs.AccountLemmas.{get_is, set_is}
use Rattle.sync_ledger.proofs.JudgeLemmas.{none_left, stranger_known, taken_back}

pub leaves_stream : (old : AllAccounts) (n : ℕ) (account : Account) (lane : LaneAccount) (got : State) (r : Result (Option State) NoMemory) → n < length old.streams → account ≡ get_or old.streams n account
    → IfOk r (λ taken. LeavesPending account.lane.pending got taken lane.pending) → length lane.pending ≤ length account.lane.pending → lane.since ≡ account.lane.since
    → IfOk r (λ taken. LeavesAt old (place.Stream n) got taken (record { streams = set old.streams n (record { records = account.records; status = account.status; lane = lane }); global = old.global }))
leaves_stream old n account lane got (Err why) within is takes shorter since = tt
leaves_stream old n account lane got (Ok taken) within is takes shorter since =
    let here : lane_at old (place.Stream n) ≡ Some account.lane = ap (λ (found : Option Account). option_map (λ a. a.lane) found) (get_is old.streams n account within is) in
    let changed : lane ≡ left_pending lane.pending account.lane = ap (λ (s : ℕ). record { since = s; pending = lane.pending }) since in
    record {
      left = lane.pending;
      takes = subst (λ (found : Option LaneAccount). LeavesPending (pending_of found) got taken lane.pending) (sym here) takes;
      shorter = subst (λ (found : Option LaneAccount). length lane.pending ≤ length (pending_of found)) (sym here) shorter;
      is = ap (λ (l : LaneAccount). record { streams = set old.streams n (record { records = account.records; status = account.status; lane = l }); global = old.global }) changed
          ∙ ap (λ (found : List Account). record { streams = found; global = old.global }) (set_is (changed_lane (left_pending lane.pending)) old.streams n account within is);
    }

-- what the ledger is then
abbrev pub with_accounts : Noted → AllAccounts → Noted
with_accounts noted accounts = record { ids = noted.ids; accounts = accounts; form = noted.form; lines = noted.lines; held = noted.held }

echoes_of : (noted : Noted) (got : State) (taken : Option State) (at : LanePlace) (new : AllAccounts) → IsKept noted → IsPlaceOf noted.ids (lane_of got.kind) (Some at) → LeavesAt noted.accounts at got taken new → IfOk (taken_answer taken) (λ answer. IsEchoed noted (told.State got) answer (with_accounts noted new))
echoes_of noted got None at new kept here leaves = tt
echoes_of noted got (Some taken) at new kept here leaves = taken_back noted got taken at new kept here leaves

pub back_ok : (noted : Noted) (got : State) (taken : Option State) (at : LanePlace) (new : AllAccounts) (r : Result Echoed LedgerFault) → IsKept noted → IsPlaceOf noted.ids (lane_of got.kind) (Some at) → LeavesAt noted.accounts at got taken new → r ≡ taken_answer taken → IfOk r (λ answer. IsEchoed noted (told.State got) answer (with_accounts noted new))
back_ok noted got taken at new r kept here leaves is = subst (λ (x : Result Echoed LedgerFault). IfOk x (λ answer. IsEchoed noted (told.State got) answer (with_accounts noted new))) (sym is) (echoes_of noted got taken at new kept here leaves)

refuses_of : (noted : Noted) (got : State) (taken : Option State) (at : LanePlace) (new : AllAccounts) → IsKept noted → IsPlaceOf noted.ids (lane_of got.kind) (Some at) → LeavesAt noted.accounts at got taken new → IfErr (taken_answer taken) (λ why. RefusesBackTold noted (told.State got) why)
refuses_of noted got None at new kept here leaves = stranger_known noted got at new kept here leaves
refuses_of noted got (Some taken) at new kept here leaves = tt

pub back_refused : (noted : Noted) (got : State) (taken : Option State) (at : LanePlace) (new : AllAccounts) (r : Result Echoed LedgerFault) → IsKept noted → IsPlaceOf noted.ids (lane_of got.kind) (Some at) → LeavesAt noted.accounts at got taken new → r ≡ taken_answer taken → IfErr r (λ why. RefusesBackTold noted (told.State got) why)
back_refused noted got taken at new r kept here leaves is = subst (λ (x : Result Echoed LedgerFault). IfErr x (λ why. RefusesBackTold noted (told.State got) why)) (sym is) (refuses_of noted got taken at new kept here leaves)

stays_of : (noted : Noted) (got : State) (taken : Option State) (at : LanePlace) (new : AllAccounts) → LeavesAt noted.accounts at got taken new → OnErr (taken_answer taken) (with_accounts noted new ≡ noted)
stays_of noted got None at new leaves = ap (with_accounts noted) (none_left noted.accounts new at got leaves)
stays_of noted got (Some taken) at new leaves = tt

pub back_err : (noted : Noted) (got : State) (taken : Option State) (at : LanePlace) (new : AllAccounts) (r : Result Echoed LedgerFault) → LeavesAt noted.accounts at got taken new → r ≡ taken_answer taken → OnErr r (with_accounts noted new ≡ noted)
back_err noted got taken at new r leaves is = subst (λ (x : Result Echoed LedgerFault). OnErr x (with_accounts noted new ≡ noted)) (sym is) (stays_of noted got taken at new leaves)
