use Rattle.std.proofs.Common.{List, [], sym, ◌∙◌, ap, subst}
use Rattle.sync_ledger.specs.Accounts.{AllAccounts}
use Rattle.sync_ledger.specs.Kept.{IsKept}
use Rattle.sync_ledger.specs.Noted.{Noted, gave}
use Rattle.sync_ledger.specs.declared.pending.Pending.{Pending}
use Rattle.sync_ledger.proofs.JudgeLemmas.{given_at, given_none}
use Rattle.sync_ledger.proofs.KeptLemmas.{kept_given, kept_none}
use Rattle.sync_ledger.proofs.notes.Notes.gave.Goals as goal

pub invariant_of-self : goal.invariant_of-self
invariant_of-self c =
    let inside : Noted = record { ids = c.self.inside.index; accounts = c.self.inside.accounts; form = c.self.inside.form; lines = c.self.inside.lines; held = c.self.inside.held } in
    subst (λ (held : List Pending). IsKept (record { ids = inside.ids; accounts = c.give.new.self; form = inside.form; lines = inside.lines; held = held })) (sym c.give.ensures.held)
    (subst (λ (accounts : AllAccounts). IsKept (record { ids = inside.ids; accounts = accounts; form = inside.form; lines = inside.lines; held = [] })) (sym c.give.ensures.given) (kept_given inside c.in-Some.place c.self.invariant))

pub invariant_of-self-in-None : goal.invariant_of-self-in-None
invariant_of-self-in-None c =
    let inside : Noted = record { ids = c.self.inside.index; accounts = c.self.inside.accounts; form = c.self.inside.form; lines = c.self.inside.lines; held = c.self.inside.held } in
    subst (λ (held : List Pending). IsKept (record { ids = inside.ids; accounts = inside.accounts; form = inside.form; lines = inside.lines; held = held })) (sym c.clear.ensures) (kept_none inside c.self.invariant)

pub returns-in-Some : goal.returns-in-Some
returns-in-Some c =
    let inside : Noted = record { ids = c.self.inside.index; accounts = c.self.inside.accounts; form = c.self.inside.form; lines = c.self.inside.lines; held = c.self.inside.held } in
    let is = given_at inside.ids inside.held c.in-Some.place inside.accounts c.self.invariant.distinct c.self.invariant.streams c.in-Some.ensures in
    ap (λ (held : List Pending). record { ids = inside.ids; accounts = c.give.new.self; form = inside.form; lines = inside.lines; held = held }) c.give.ensures.held
    ∙ (ap (λ (accounts : AllAccounts). record { ids = inside.ids; accounts = accounts; form = inside.form; lines = inside.lines; held = [] }) (c.give.ensures.given ∙ sym is)
    ∙ ap gave c.self.view_is)

pub returns-in-None : goal.returns-in-None
returns-in-None c =
    let inside : Noted = record { ids = c.self.inside.index; accounts = c.self.inside.accounts; form = c.self.inside.form; lines = c.self.inside.lines; held = c.self.inside.held } in
    let is = given_none inside.ids inside.held inside.accounts c.self.invariant.streams c.in-None.ensures in
    ap (λ (held : List Pending). record { ids = inside.ids; accounts = inside.accounts; form = inside.form; lines = inside.lines; held = held }) c.clear.ensures
    ∙ (ap (λ (accounts : AllAccounts). record { ids = inside.ids; accounts = accounts; form = inside.form; lines = inside.lines; held = [] }) (sym is)
    ∙ ap gave c.self.view_is)
