use Rattle.std.proofs.Common.{arith, ◌≡◌, ◌+◌, ◌<◌, List, [], length, sym, ◌∙◌, ap, subst}
use Rattle.sync_ledger.specs.Accounts.{AllAccounts}
use Rattle.sync_ledger.specs.Kept.{HearsTold, IsKept}
use Rattle.sync_ledger.specs.Noted.{Noted}
use Rattle.sync_ledger.specs.declared.notes.TheConstants.{MOST_LINES}
use Rattle.sync_ledger.specs.declared.pending.Pending.{Pending}
use Rattle.sync_ledger.specs.declared.told.Told.TheVariants as told
use Rattle.sync_ledger.specs.declared.verdict.Verdict.TheVariants as verdict
use Rattle.sync_ledger.specs.Judged.{judged_told}
use Rattle.std.proofs.Common.{Err}
use Rattle.outside.specs.declared.faults.Breach.TheVariants as breach
use Rattle.sync_ledger.proofs.AccountLemmas.{stream_within}
use Rattle.sync_ledger.proofs.JudgeLemmas.{record_heard, record_unknown}
use Rattle.sync_ledger.proofs.KeptLemmas.{kept_record, same_within}
use Rattle.sync_ledger.proofs.notes.Notes.hear_record.Goals as goal

pub returns-in_default-clause-refused : goal.returns-in_default-clause-refused
returns-in_default-clause-refused c =
    let inside : Noted = record { ids = c.self.inside.index; accounts = c.self.inside.accounts; form = c.self.inside.form; lines = c.self.inside.lines; held = c.self.inside.held } in
    subst (λ (noted : Noted). judged_told noted (told.Record c.args.id.now) ≡ Err breach.UnknownStream) c.self.view_is (record_unknown inside c.args.id.now c.in_default.ensures.none)

pub count_record-requires-clause-place : goal.count_record-requires-clause-place
count_record-requires-clause-place c = stream_within c.self.inside.index c.self.inside.accounts.streams c.args.id.now c.in-Some.place c.self.invariant.streams c.in-Some.ensures.found

pub count_record-requires-clause-room : goal.count_record-requires-clause-room
count_record-requires-clause-room c = same_within c.self.inside.lines (length c.self.inside.held) MOST_LINES 0 c.self.inside.accounts c.self.invariant.lines (omega (arith, c.self.invariant.lines)) c.self.invariant.within

pub invariant_of-self : goal.invariant_of-self
invariant_of-self c =
    let inside : Noted = record { ids = c.self.inside.index; accounts = c.self.inside.accounts; form = c.self.inside.form; lines = c.self.inside.lines; held = c.self.inside.held } in
    let room : inside.lines < MOST_LINES = subst (λ (noted : Noted). noted.lines < MOST_LINES) (sym c.self.view_is) c.requires in
    subst (λ (held : List Pending). IsKept (record { ids = inside.ids; accounts = c.count_record.new.self; form = inside.form; lines = inside.lines + 1; held = held })) (sym c.clear.ensures)
    (subst (λ (accounts : AllAccounts). IsKept (record { ids = inside.ids; accounts = accounts; form = inside.form; lines = inside.lines + 1; held = [] })) (sym c.count_record.ensures) (kept_record inside c.in-Some.place c.self.invariant room))

pub returns-clause-ok : goal.returns-clause-ok
returns-clause-ok c =
    let inside : Noted = record { ids = c.self.inside.index; accounts = c.self.inside.accounts; form = c.self.inside.form; lines = c.self.inside.lines; held = c.self.inside.held } in
    let now : Noted = record { ids = inside.ids; accounts = c.count_record.new.self; form = inside.form; lines = inside.lines + 1; held = c.clear.new.self } in
    let is = ap (λ (held : List Pending). record { ids = inside.ids; accounts = c.count_record.new.self; form = inside.form; lines = inside.lines + 1; held = held }) c.clear.ensures
    ∙ ap (λ (accounts : AllAccounts). record { ids = inside.ids; accounts = accounts; form = inside.form; lines = inside.lines + 1; held = [] }) c.count_record.ensures in
    subst (λ (noted : Noted). HearsTold noted (told.Record c.args.id.now) verdict.Give now) c.self.view_is (record_heard inside now c.args.id.now c.in-Some.place c.self.invariant c.in-Some.ensures.found is)
