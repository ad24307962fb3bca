use Rattle.std.proofs.Common.{◌≡◌, ◌+◌, ◌*◌, ◌≤◌, length, take}
use Rattle.std.specs.List.{flat_map}
use Rattle.sync_ledger.proofs.accounts.Accounts.pending.Given as goal

abbrev pub invariant-loop-account : goal.invariant-loop-account
invariant-loop-account l = record {
  bound : l.count ≤ (l.account-index + 1) * 4294967296;
  sum : l.count ≡ length l.self.global.pending + length (flat_map (λ account. account.lane.pending) (take l.account-index l.self.streams));
}
