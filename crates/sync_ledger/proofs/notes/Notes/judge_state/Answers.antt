use Rattle.std.proofs.Common.{◌≡◌, ℕ, Option, Some, None, option_map, Err, IfOk, sym, ◌∙◌, ap, subst}
use Rattle.outside.specs.declared.faults.Breach.TheVariants as breach
use Rattle.airbyte_message.specs.Lanes.{lane_of}
use Rattle.airbyte_message.specs.declared.message.StateKind.{StateKind}
use Rattle.sync_ledger.specs.Judged.{judged_count, judged_in}
use Rattle.sync_ledger.specs.Kept.{GivesState, IsPlaceOf}
use Rattle.sync_ledger.specs.Noted.{Noted, form_of}
use Rattle.sync_ledger.specs.declared.accounts.LanePlace.{LanePlace}
use Rattle.sync_ledger.proofs.AccountLemmas.{has_place}
use Rattle.sync_ledger.proofs.JudgeLemmas.{gives_if, gives_state, judged_known, judged_unknown, refuses_if}
use Rattle.sync_ledger.proofs.notes.Notes.judge_state.Goals as goal

pub returns-in_default-place_of-clause-err : goal.returns-in_default-place_of-clause-err
returns-in_default-place_of-clause-err c =
    let inside : Noted = record { ids = c.self.inside.index; accounts = c.self.inside.accounts; form = c.self.inside.form; lines = c.self.inside.lines; held = c.self.inside.held } in
    let state = c.args.state.now in
    let is : Some c.in-Some.form ≡ option_map form_of (lane_of state.kind) = c.in-Some.ensures ∙ ap (λ (k : StateKind). option_map form_of (lane_of k)) c.kind.ensures in
    let here : IsPlaceOf inside.ids (lane_of state.kind) None = subst (λ (k : StateKind). IsPlaceOf inside.ids (lane_of k) None) c.kind-2.ensures c.in_default-place_of.ensures in
    subst (λ (noted : Noted). judged_in noted state.source_count (lane_of state.kind) ≡ Err breach.UnknownStream) c.self.view_is (judged_unknown inside state.source_count (lane_of state.kind) c.in-Some.form is (sym c.if-is_other.ensures) here)

pub since-requires : goal.since-requires
since-requires c =
    let inside : Noted = record { ids = c.self.inside.index; accounts = c.self.inside.accounts; form = c.self.inside.form; lines = c.self.inside.lines; held = c.self.inside.held } in
    let state = c.args.state.now in
    let here : IsPlaceOf inside.ids (lane_of state.kind) (Some c.in-Some-place_of.place) = subst (λ (k : StateKind). IsPlaceOf inside.ids (lane_of k) (Some c.in-Some-place_of.place)) c.kind-2.ensures c.in-Some-place_of.ensures in
    has_place inside.ids inside.accounts (lane_of state.kind) c.in-Some-place_of.place c.self.invariant.streams here

pub returns-clause-ok : goal.returns-clause-ok
returns-clause-ok c =
    let inside : Noted = record { ids = c.self.inside.index; accounts = c.self.inside.accounts; form = c.self.inside.form; lines = c.self.inside.lines; held = c.self.inside.held } in
    let state = c.args.state.now in
    let place = c.in-Some-place_of.place in
    let is : Some c.in-Some.form ≡ option_map form_of (lane_of state.kind) = c.in-Some.ensures ∙ ap (λ (k : StateKind). option_map form_of (lane_of k)) c.kind.ensures in
    let here : IsPlaceOf inside.ids (lane_of state.kind) (Some place) = subst (λ (k : StateKind). IsPlaceOf inside.ids (lane_of k) (Some place)) c.kind-2.ensures c.in-Some-place_of.ensures in
    subst (λ (noted : Noted). IfOk c.judge_count.result (λ (found : LanePlace). GivesState noted state found)) c.self.view_is
    (gives_if inside state place c.judge_count.result c.source_count.result c.since.result c.judge_count.ensures.ok
    (λ judges. gives_state inside state c.in-Some.form place c.since.result c.self.invariant is (sym c.if-is_other.ensures) here c.since.ensures (ap (λ (said : Option ℕ). judged_count said c.since.result) (sym c.source_count.ensures) ∙ judges)))

pub returns-clause-err : goal.returns-clause-err
returns-clause-err c =
    let inside : Noted = record { ids = c.self.inside.index; accounts = c.self.inside.accounts; form = c.self.inside.form; lines = c.self.inside.lines; held = c.self.inside.held } in
    let state = c.args.state.now in
    let place = c.in-Some-place_of.place in
    let is : Some c.in-Some.form ≡ option_map form_of (lane_of state.kind) = c.in-Some.ensures ∙ ap (λ (k : StateKind). option_map form_of (lane_of k)) c.kind.ensures in
    let here : IsPlaceOf inside.ids (lane_of state.kind) (Some place) = subst (λ (k : StateKind). IsPlaceOf inside.ids (lane_of k) (Some place)) c.kind-2.ensures c.in-Some-place_of.ensures in
    let known = judged_known inside state.source_count (lane_of state.kind) c.in-Some.form place c.since.result c.self.invariant is (sym c.if-is_other.ensures) here c.since.ensures in
    refuses_if c.judge_count.result (judged_in c.args.self.now state.source_count (lane_of state.kind)) (judged_count c.source_count.result c.since.result)
    (ap (λ (noted : Noted). judged_in noted state.source_count (lane_of state.kind)) (sym c.self.view_is) ∙ (known ∙ ap (λ (said : Option ℕ). judged_count said c.since.result) (sym c.source_count.ensures))) c.judge_count.ensures.err
