use Rattle.std.proofs.Common.{List, sym, ◌∙◌, ap}
use Rattle.json_fields.proofs.AnswerLemmas.{along}
use Rattle.airbyte_message.specs.State.{State}
use Rattle.state_kinds.specs.StateLists.{AreStates, first_list_fault, repeats_lane as repeats_lane_test}
use Rattle.state_kinds.proofs.ReadLemmas.{list_first, lists_fault, lists_other, lists_states, lists_twice}
use Rattle.state_kinds.proofs.states.read_list.Goals as goal

pub returns-in_default-clause-refused : goal.returns-in_default-clause-refused
returns-in_default-clause-refused c = λ other. lists_other c.args.text.now (along (AreStates c.args.text.now) c.in_default.is c.in_ok-states.ensures)

pub returns-in-Some-first_fault_of-clause-refused : goal.returns-in-Some-first_fault_of-clause-refused
returns-in-Some-first_fault_of-clause-refused c = λ other.
    let first = ap (λ (ss : List State). first_list_fault ss) (sym c.as_slice.ensures) ∙ (sym c.first_fault_of.ensures ∙ c.in-Some-first_fault_of.is) in
    lists_fault c.args.text.now c.in-Some.states c.in-Some-first_fault_of.fault (along (AreStates c.args.text.now) c.in-Some.is c.in_ok-states.ensures) (list_first c.in-Some.states c.in-Some-first_fault_of.fault first)

pub returns-then-branch-clause-refused : goal.returns-then-branch-clause-refused
returns-then-branch-clause-refused c = λ other.
    let first = ap (λ (ss : List State). first_list_fault ss) (sym c.as_slice.ensures) ∙ (sym c.first_fault_of.ensures ∙ c.in_default-first_fault_of.is) in
    let twice = ap (λ (ss : List State). repeats_lane_test ss) (sym c.as_slice-2.ensures) ∙ (sym c.in_ok-repeats_lane.ensures ∙ c.if-branch.true) in
    lists_twice c.args.text.now c.in-Some.states (along (AreStates c.args.text.now) c.in-Some.is c.in_ok-states.ensures) first twice

pub returns-clause-read : goal.returns-clause-read
returns-clause-read c =
    let first = ap (λ (ss : List State). first_list_fault ss) (sym c.as_slice.ensures) ∙ (sym c.first_fault_of.ensures ∙ c.in_default-first_fault_of.is) in
    let once = ap (λ (ss : List State). repeats_lane_test ss) (sym c.as_slice-2.ensures) ∙ (sym c.in_ok-repeats_lane.ensures ∙ c.if-branch.false) in
    lists_states c.args.text.now c.in-Some.states (along (AreStates c.args.text.now) c.in-Some.is c.in_ok-states.ensures) first once
