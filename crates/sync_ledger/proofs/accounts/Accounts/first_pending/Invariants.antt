use Rattle.std.proofs.Common.{◌≡◌, None, take}
use Rattle.std.specs.List.{flat_map}
use Rattle.sync_ledger.specs.Noted.{least_line}
use Rattle.sync_ledger.proofs.accounts.Accounts.first_pending.Given as goal

abbrev pub invariant-loop-account : goal.invariant-loop-account
invariant-loop-account l = l.least ≡ least_line None (flat_map (λ account. account.lane.pending) (take l.account-index l.self.streams))
