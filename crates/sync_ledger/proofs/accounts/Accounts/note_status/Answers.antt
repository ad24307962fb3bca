use Rattle.std.proofs.Common.{◌<◌, List, length, sym, ◌∙◌, ap, subst}
use Rattle.sync_ledger.specs.Accounts.{AllAccounts, with_status}
use Rattle.sync_ledger.specs.Kept.{changed_nth}
use Rattle.sync_ledger.specs.declared.accounts.Account.{Account}
use Rattle.sync_ledger.proofs.AccountLemmas.{set_is}
use Rattle.sync_ledger.proofs.accounts.Accounts.note_status.Goals as goal

pub returns : goal.returns
returns c =
    let inside : AllAccounts = record { streams = c.self.inside.streams.items; global = c.self.inside.global } in
    let within : c.args.place < length inside.streams = subst (λ (s : AllAccounts). c.args.place < length s.streams) (sym c.self.view_is) c.requires in
    let is = set_is (with_status c.args.status) inside.streams c.args.place c.index_mut.result.now within c.index_mut.ensures.value in
    ap (λ (l : List Account). record { streams = l; global = inside.global }) is
    ∙ ap (λ (s : AllAccounts). record { streams = changed_nth (with_status c.args.status) s.streams c.args.place; global = s.global }) c.self.view_is
