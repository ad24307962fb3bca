use Rattle.std.proofs.Common.{◌≡◌, take}
use Rattle.catalog.specs.Reading.{ids_of}
use Rattle.sync_ledger.specs.Accounts.{new_accounts}
use Rattle.sync_ledger.proofs.notes.opened.Given as goal

abbrev pub invariant-loop-n : goal.invariant-loop-n
invariant-loop-n l = record {
  index : l.index ≡ take l.n (ids_of l.configured);
  accounts : l.accounts ≡ new_accounts (take l.n (ids_of l.configured));
}
