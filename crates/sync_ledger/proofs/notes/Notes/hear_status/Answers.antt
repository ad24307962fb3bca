use Rattle.std.proofs.Common.{◌+◌, ◌<◌, List, [], sym, ◌∙◌, refl, ap, subst}
use Rattle.sync_ledger.specs.Accounts.{AllAccounts}
use Rattle.sync_ledger.specs.Kept.{HearsTold, IsKept}
use Rattle.sync_ledger.specs.Noted.{Noted}
use Rattle.sync_ledger.specs.declared.notes.TheConstants.{MOST_LINES}
use Rattle.sync_ledger.specs.declared.pending.Pending.{Pending}
use Rattle.sync_ledger.specs.declared.told.Told.TheVariants as told
use Rattle.sync_ledger.specs.declared.verdict.Verdict.TheVariants as verdict
use Rattle.sync_ledger.proofs.JudgeLemmas.{status_heard, status_passed}
use Rattle.sync_ledger.proofs.KeptLemmas.{kept_other, kept_status}
use Rattle.sync_ledger.proofs.notes.Notes.hear_status.Goals as goal

pub invariant_of-self : goal.invariant_of-self
invariant_of-self c =
    let inside : Noted = record { ids = c.self.inside.index; accounts = c.self.inside.accounts; form = c.self.inside.form; lines = c.self.inside.lines; held = c.self.inside.held } in
    let room : inside.lines < MOST_LINES = subst (λ (noted : Noted). noted.lines < MOST_LINES) (sym c.self.view_is) c.requires in
    subst (λ (held : List Pending). IsKept (record { ids = inside.ids; accounts = c.note_status.new.self; form = inside.form; lines = inside.lines + 1; held = held })) (sym c.clear.ensures)
    (subst (λ (accounts : AllAccounts). IsKept (record { ids = inside.ids; accounts = accounts; form = inside.form; lines = inside.lines + 1; held = [] })) (sym c.note_status.ensures) (kept_status inside c.in-Some.place c.args.status c.self.invariant room))

pub invariant_of-self-in-None : goal.invariant_of-self-in-None
invariant_of-self-in-None c =
    let inside : Noted = record { ids = c.self.inside.index; accounts = c.self.inside.accounts; form = c.self.inside.form; lines = c.self.inside.lines; held = c.self.inside.held } in
    let room : inside.lines < MOST_LINES = subst (λ (noted : Noted). noted.lines < MOST_LINES) (sym c.self.view_is) c.requires in
    kept_other inside c.self.invariant room

pub returns-in-Some : goal.returns-in-Some
returns-in-Some c =
    let inside : Noted = record { ids = c.self.inside.index; accounts = c.self.inside.accounts; form = c.self.inside.form; lines = c.self.inside.lines; held = c.self.inside.held } in
    let now : Noted = record { ids = inside.ids; accounts = c.note_status.new.self; form = inside.form; lines = inside.lines + 1; held = c.clear.new.self } in
    let is = ap (λ (held : List Pending). record { ids = inside.ids; accounts = c.note_status.new.self; form = inside.form; lines = inside.lines + 1; held = held }) c.clear.ensures
    ∙ ap (λ (accounts : AllAccounts). record { ids = inside.ids; accounts = accounts; form = inside.form; lines = inside.lines + 1; held = [] }) c.note_status.ensures in
    subst (λ (noted : Noted). HearsTold noted (told.Status c.args.id.now c.args.status) verdict.Give now) c.self.view_is (status_heard inside now c.args.id.now c.args.status c.in-Some.place c.self.invariant c.in-Some.ensures.found is)

pub returns-in-None : goal.returns-in-None
returns-in-None c =
    let inside : Noted = record { ids = c.self.inside.index; accounts = c.self.inside.accounts; form = c.self.inside.form; lines = c.self.inside.lines; held = c.self.inside.held } in
    let now : Noted = record { ids = inside.ids; accounts = inside.accounts; form = inside.form; lines = inside.lines + 1; held = inside.held } in
    subst (λ (noted : Noted). HearsTold noted (told.Status c.args.id.now c.args.status) verdict.Nothing now) c.self.view_is (status_passed inside now c.args.id.now c.args.status c.in-None.ensures.none refl)
