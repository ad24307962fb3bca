use Rattle.std.proofs.Common.{◌<◌, List, length, set, sym, ◌∙◌, ap, subst}
use Rattle.sync_ledger.specs.Accounts.{AllAccounts, more_since, with_record}
use Rattle.sync_ledger.specs.Kept.{changed_nth}
use Rattle.sync_ledger.specs.declared.accounts.Account.{Account}
use Rattle.sync_ledger.specs.declared.accounts.LaneAccount.{LaneAccount}
use Rattle.sync_ledger.proofs.AccountLemmas.{set_is}
use Rattle.sync_ledger.proofs.accounts.Accounts.count_record.Goals as goal

pub returns : goal.returns
returns c =
    let inside : AllAccounts = record { streams = c.self.inside.streams.items; global = c.self.inside.global } in
    let within : c.args.place < length inside.streams = subst (λ (s : AllAccounts). c.args.place < length s.streams) (sym c.self.view_is) c.requires.place in
    let is = ap (λ (a : Account). set inside.streams c.args.place a) c.count.ensures ∙ set_is with_record inside.streams c.args.place c.index_mut.result.now within c.index_mut.ensures.value in
    ap (λ (l : List Account). record { streams = l; global = c.count-2.new.self }) is
    ∙ (ap (λ (g : LaneAccount). record { streams = changed_nth with_record inside.streams c.args.place; global = g }) c.count-2.ensures
    ∙ ap (λ (s : AllAccounts). record { streams = changed_nth with_record s.streams c.args.place; global = more_since s.global }) c.self.view_is)
