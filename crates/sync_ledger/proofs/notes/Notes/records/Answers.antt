use Rattle.std.proofs.Common.{◌≡◌, Some, Option, slice_get, sym, ◌∙◌, ap}
use Rattle.sync_ledger.specs.Accounts.{account_of, records_in}
use Rattle.sync_ledger.specs.Noted.{Noted}
use Rattle.sync_ledger.specs.declared.accounts.Account.{Account}
use Rattle.sync_ledger.proofs.AccountLemmas.{account_at}
use Rattle.sync_ledger.proofs.notes.Notes.records.Goals as goal

pub returns-clause-stream : goal.returns-clause-stream
returns-clause-stream c = λ id at.
    let inside : Noted = record { ids = c.self.inside.index; accounts = c.self.inside.accounts; form = c.self.inside.form; lines = c.self.inside.lines; held = c.self.inside.held } in
    let here : slice_get inside.ids c.args.stream ≡ Some id = ap (λ (noted : Noted). slice_get noted.ids c.args.stream) c.self.view_is ∙ at in
    let found = account_at inside.ids id inside.accounts.streams c.args.stream c.self.invariant.distinct c.self.invariant.streams here ∙ c.stream.ensures in
    ap (λ (account : Option Account). records_in account) (sym found) ∙ ap (λ (noted : Noted). records_in (account_of noted.ids id noted.accounts.streams)) c.self.view_is
