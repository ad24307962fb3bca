use Rattle.std.proofs.Common.{◌<◌, length, set, sym, subst, IfOk}
use Rattle.sync_ledger.specs.Accounts.{AllAccounts}
use Rattle.sync_ledger.specs.Kept.{HasPlace, LeavesAt}
use Rattle.sync_ledger.specs.declared.accounts.LanePlace.{LanePlace}
use Rattle.sync_ledger.specs.declared.accounts.LanePlace.TheVariants as place
use Rattle.sync_ledger.proofs.LeaveLemmas.{leaves_stream}
use Rattle.sync_ledger.proofs.accounts.Accounts.take.Goals as goal

pub returns-in-Stream-clause-ok : goal.returns-in-Stream-clause-ok
returns-in-Stream-clause-ok c =
    let inside : AllAccounts = record { streams = c.self.inside.streams.items; global = c.self.inside.global } in
    let n = c.in-Stream.n in
    let account = c.index_mut.result.now in
    let new : AllAccounts = record { streams = set inside.streams n (record { records = account.records; status = account.status; lane = c.take.new.self }); global = inside.global } in
    let within : n < length inside.streams = subst (λ (p : LanePlace). HasPlace inside p) c.in-Stream.is (subst (λ (s : AllAccounts). HasPlace s c.args.place) (sym c.self.view_is) c.requires) in
    let leaves = leaves_stream inside n account c.take.new.self c.args.got.now c.take.result within c.index_mut.ensures.value c.take.ensures.ok c.take.ensures.shorter c.take.ensures.since in
    subst (λ (p : LanePlace). IfOk c.take.result (λ taken. LeavesAt c.args.self.now p c.args.got.now taken new)) (sym c.in-Stream.is)
    (subst (λ (s : AllAccounts). IfOk c.take.result (λ taken. LeavesAt s (place.Stream n) c.args.got.now taken new)) c.self.view_is leaves)
