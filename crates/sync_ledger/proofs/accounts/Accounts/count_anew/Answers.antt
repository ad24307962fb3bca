use Rattle.std.proofs.Common.{◌<◌, List, length, set, sym, ◌∙◌, ap, subst}
use Rattle.sync_ledger.specs.Accounts.{AllAccounts, changed_lane, none_since}
use Rattle.sync_ledger.specs.Kept.{HasPlace, changed_at}
use Rattle.sync_ledger.specs.declared.accounts.Account.{Account}
use Rattle.sync_ledger.specs.declared.accounts.LaneAccount.{LaneAccount}
use Rattle.sync_ledger.specs.declared.accounts.LanePlace.{LanePlace}
use Rattle.sync_ledger.proofs.AccountLemmas.{set_is}
use Rattle.sync_ledger.proofs.accounts.Accounts.count_anew.Goals as goal

pub returns-in-Stream : goal.returns-in-Stream
returns-in-Stream c =
    let inside : AllAccounts = record { streams = c.self.inside.streams.items; global = c.self.inside.global } in
    let n = c.in-Stream.n in
    let change = none_since in
    let within : n < length inside.streams = subst (λ (p : LanePlace). HasPlace inside p) c.in-Stream.is (subst (λ (s : AllAccounts). HasPlace s c.args.place) (sym c.self.view_is) c.requires) in
    let is = ap (λ (l : LaneAccount). set inside.streams n (record c.index_mut.result.now { lane = l })) c.count_anew.ensures ∙ set_is (changed_lane change) inside.streams n c.index_mut.result.now within c.index_mut.ensures.value in
    ap (λ (l : List Account). record { streams = l; global = inside.global }) is
    ∙ (ap (λ (p : LanePlace). changed_at change inside p) (sym c.in-Stream.is)
    ∙ ap (λ (s : AllAccounts). changed_at change s c.args.place) c.self.view_is)
