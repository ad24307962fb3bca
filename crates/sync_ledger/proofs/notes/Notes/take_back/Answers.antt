use Rattle.std.proofs.Common.{◌≡◌, Some, None, option_map, IfOk, IfErr, OnErr, ◌∙◌, ap, subst}
use Rattle.airbyte_message.specs.Lanes.{lane_of}
use Rattle.airbyte_message.specs.declared.message.StateKind.{StateKind}
use Rattle.sync_ledger.specs.Judged.{IsEchoed, IsStranger}
use Rattle.sync_ledger.specs.Kept.{IsPlaceOf, RefusesBackTold}
use Rattle.sync_ledger.specs.Noted.{Noted, form_of}
use Rattle.sync_ledger.specs.declared.told.Told.TheVariants as told
use Rattle.sync_ledger.proofs.AccountLemmas.{has_place}
use Rattle.sync_ledger.proofs.JudgeLemmas.{kept_back, none_not, stranger_unknown}
use Rattle.sync_ledger.proofs.LeaveLemmas.{back_err, back_ok, back_refused}
use Rattle.sync_ledger.proofs.notes.Notes.take_back.Goals as goal

pub returns-in_default-clause-refused : goal.returns-in_default-clause-refused
returns-in_default-clause-refused c =
    let inside : Noted = record { ids = c.self.inside.index; accounts = c.self.inside.accounts; form = c.self.inside.form; lines = c.self.inside.lines; held = c.self.inside.held } in
    let got = c.args.got.now in
    let here : IsPlaceOf inside.ids (lane_of got.kind) None = subst (λ (k : StateKind). IsPlaceOf inside.ids (lane_of k) None) c.kind-2.ensures c.in_default.ensures in
    let same : c.form_of.result ≡ option_map form_of (lane_of got.kind) = c.form_of.ensures ∙ ap (λ (k : StateKind). option_map form_of (lane_of k)) c.kind.ensures in
    subst (λ (noted : Noted). IsStranger noted got) c.self.view_is (stranger_unknown inside got (λ none. none_not c.form_of.result c.is_none.result c.is_none.ensures c.if-is_none.false (same ∙ none)) here)

pub take-requires : goal.take-requires
take-requires c =
    let inside : Noted = record { ids = c.self.inside.index; accounts = c.self.inside.accounts; form = c.self.inside.form; lines = c.self.inside.lines; held = c.self.inside.held } in
    let got = c.args.got.now in
    let here : IsPlaceOf inside.ids (lane_of got.kind) (Some c.in-Some.place) = subst (λ (k : StateKind). IsPlaceOf inside.ids (lane_of k) (Some c.in-Some.place)) c.kind-2.ensures c.in-Some.ensures in
    has_place inside.ids inside.accounts (lane_of got.kind) c.in-Some.place c.self.invariant.streams here

pub invariant_of-self-2 : goal.invariant_of-self-2
invariant_of-self-2 c =
    let inside : Noted = record { ids = c.self.inside.index; accounts = c.self.inside.accounts; form = c.self.inside.form; lines = c.self.inside.lines; held = c.self.inside.held } in
    kept_back inside c.take.new.self c.in-Some.place c.args.got.now c.in_ok-taken.taken c.self.invariant c.in_ok-taken.ensures.ok

pub returns-clause-ok : goal.returns-clause-ok
returns-clause-ok c =
    let inside : Noted = record { ids = c.self.inside.index; accounts = c.self.inside.accounts; form = c.self.inside.form; lines = c.self.inside.lines; held = c.self.inside.held } in
    let got = c.args.got.now in
    let here : IsPlaceOf inside.ids (lane_of got.kind) (Some c.in-Some.place) = subst (λ (k : StateKind). IsPlaceOf inside.ids (lane_of k) (Some c.in-Some.place)) c.kind-2.ensures c.in-Some.ensures in
    let now : Noted = record { ids = inside.ids; accounts = c.take.new.self; form = inside.form; lines = inside.lines; held = inside.held } in
    subst (λ (noted : Noted). IfOk c.echoed_state.result (λ answer. IsEchoed noted (told.State got) answer now)) c.self.view_is (back_ok inside got c.in_ok-taken.taken c.in-Some.place c.take.new.self c.echoed_state.result c.self.invariant here c.in_ok-taken.ensures.ok c.echoed_state.ensures)

pub returns-clause-refused : goal.returns-clause-refused
returns-clause-refused c =
    let inside : Noted = record { ids = c.self.inside.index; accounts = c.self.inside.accounts; form = c.self.inside.form; lines = c.self.inside.lines; held = c.self.inside.held } in
    let got = c.args.got.now in
    let here : IsPlaceOf inside.ids (lane_of got.kind) (Some c.in-Some.place) = subst (λ (k : StateKind). IsPlaceOf inside.ids (lane_of k) (Some c.in-Some.place)) c.kind-2.ensures c.in-Some.ensures in
    subst (λ (noted : Noted). IfErr c.echoed_state.result (λ why. RefusesBackTold noted (told.State got) why)) c.self.view_is (back_refused inside got c.in_ok-taken.taken c.in-Some.place c.take.new.self c.echoed_state.result c.self.invariant here c.in_ok-taken.ensures.ok c.echoed_state.ensures)

pub returns-clause-err : goal.returns-clause-err
returns-clause-err c =
    let inside : Noted = record { ids = c.self.inside.index; accounts = c.self.inside.accounts; form = c.self.inside.form; lines = c.self.inside.lines; held = c.self.inside.held } in
    let now : Noted = record { ids = inside.ids; accounts = c.take.new.self; form = inside.form; lines = inside.lines; held = inside.held } in
    subst (λ (noted : Noted). OnErr c.echoed_state.result (now ≡ noted)) c.self.view_is (back_err inside c.args.got.now c.in_ok-taken.taken c.in-Some.place c.take.new.self c.echoed_state.result c.in_ok-taken.ensures.ok c.echoed_state.ensures)
