use Rattle.std.proofs.Common.{◌+◌, ◌<◌, List, [], ◌∷◌, Some, sym, subst}
use Rattle.sync_ledger.specs.Accounts.{AllAccounts}
use Rattle.sync_ledger.specs.Kept.{IsKept}
use Rattle.sync_ledger.specs.Noted.{Noted}
use Rattle.sync_ledger.specs.declared.notes.TheConstants.{MOST_LINES}
use Rattle.sync_ledger.specs.declared.pending.Pending.{Pending}
use Rattle.sync_ledger.proofs.KeptLemmas.{kept_state}
use Rattle.sync_ledger.proofs.notes.Notes.note_state.Goals as goal

pub invariant_of-self : goal.invariant_of-self
invariant_of-self c =
    let inside : Noted = record { ids = c.self.inside.index; accounts = c.self.inside.accounts; form = c.self.inside.form; lines = c.self.inside.lines; held = c.self.inside.held } in
    let room : inside.lines < MOST_LINES = subst (λ (noted : Noted). noted.lines < MOST_LINES) (sym c.self.view_is) c.requires.lines in
    subst (λ (held : List Pending). IsKept (record { ids = inside.ids; accounts = c.count_anew.new.self; form = Some c.form.result; lines = inside.lines + 1; held = held })) (sym c.in_ok-held.ensures)
    (subst (λ (accounts : AllAccounts). IsKept (record { ids = inside.ids; accounts = accounts; form = Some c.form.result; lines = inside.lines + 1; held = record { state = c.args.state; line = inside.lines + 1 } ∷ [] })) (sym c.count_anew.ensures)
    (kept_state inside c.args.place (Some c.form.result) (record { state = c.args.state; line = inside.lines + 1 }) c.self.invariant room))
