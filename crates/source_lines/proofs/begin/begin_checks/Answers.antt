use Rattle.std.proofs.Common.{List, Ok, Err, refl, sym, ◌∙◌, ap, subst}
use Rattle.outside.specs.Status.{catalog_status, state_status}
use Rattle.outside.specs.declared.status.Status.TheVariants as status
use Rattle.json_fields.specs.Answer.{IsOnly}
use Rattle.json_fields.proofs.AnswerLemmas.{along}
use Rattle.outside.specs.declared.faults.CatalogFault.TheVariants as catalog
use Rattle.outside.specs.declared.faults.StateFault.TheVariants as state
use Rattle.airbyte_message.specs.State.{State}
use Rattle.state_kinds.specs.Store.{is_global_kind}
use Rattle.state_kinds.specs.StateLists.{has_kind}
use Rattle.source_lines.specs.Begins.{AreStarts, BeginsAs, BeginsStates, BeginsStreams, first_unknown}
use Rattle.source_lines.proofs.BeginLemmas.{blob_step, global_step, in_catalog, fault_told, in_states, known_step, no_catalog, no_states, single_step, starts_step, unknown_step}
use Rattle.source_lines.proofs.begin.begin_checks.Goals as goal

pub returns-in_err-streams-clause-refused : goal.returns-in_err-streams-clause-refused
returns-in_err-streams-clause-refused g c =
    let S = g.S.StreamSource in
    let is_known = (S.seen c.args.source.now).is_known in
    fault_told c.from_residual.result catalog_status c.in_err-streams.field-0.0 catalog.NoMemory (λ why. IsOnly (BeginsAs S.Starts is_known c.args.catalog.now c.args.states.now) (Err why)) c.from_residual.ensures.1 refl
    (λ other. no_catalog S.Starts is_known c.args.catalog.now c.args.states.now c.in_err-streams.field-0.0 (c.in_err-streams.ensures.refused other))

pub returns-in-Some-clause-refused : goal.returns-in-Some-clause-refused
returns-in-Some-clause-refused g c = λ other.
    let S = g.S.StreamSource in
    let is_known = (S.seen c.args.source.now).is_known in
    let streams = c.in_ok-streams.streams in
    in_catalog S.Starts is_known c.args.catalog.now c.args.states.now streams (Err (status.BadCatalog (catalog.Missing c.in-Some.stream))) c.in_ok-streams.ensures.read
    (unknown_step (first_unknown is_known 0 streams) (BeginsStates S.Starts c.args.states.now streams) c.in-Some.stream (sym c.unknown_stream.ensures ∙ c.in-Some.is))

pub returns-in_err-states-clause-refused : goal.returns-in_err-states-clause-refused
returns-in_err-states-clause-refused g c =
    let S = g.S.StreamSource in
    let is_known = (S.seen c.args.source.now).is_known in
    let streams = c.in_ok-streams.streams in
    let fault = c.in_err-states.field-0.0 in
    let unknown = sym c.unknown_stream.ensures ∙ c.in_default.is in
    fault_told c.from_residual-in_err-states.result state_status fault state.NoMemory (λ why. IsOnly (BeginsAs S.Starts is_known c.args.catalog.now c.args.states.now) (Err why)) c.from_residual-in_err-states.ensures.1 refl
    (λ other. in_catalog S.Starts is_known c.args.catalog.now c.args.states.now streams (Err (state_status fault)) c.in_ok-streams.ensures.read
    (known_step (first_unknown is_known 0 streams) (BeginsStates S.Starts c.args.states.now streams) (Err (state_status fault)) unknown
    (no_states S.Starts c.args.states.now streams fault (c.in_err-states.ensures.refused other))))

pub returns-then-has_global-clause-refused : goal.returns-then-has_global-clause-refused
returns-then-has_global-clause-refused g c = λ other.
    let S = g.S.StreamSource in
    let is_known = (S.seen c.args.source.now).is_known in
    let streams = c.in_ok-streams.streams in
    let states = c.in_ok-states.states in
    let unknown = sym c.unknown_stream.ensures ∙ c.in_default.is in
    let global = ap (has_kind is_global_kind) (sym c.as_slice.ensures) ∙ sym c.has_global.ensures ∙ c.if-has_global.true in
    in_catalog S.Starts is_known c.args.catalog.now c.args.states.now streams (Err (status.BadState state.Blob)) c.in_ok-streams.ensures.read
    (known_step (first_unknown is_known 0 streams) (BeginsStates S.Starts c.args.states.now streams) (Err (status.BadState state.Blob)) unknown
    (in_states S.Starts c.args.states.now streams states (Err (status.BadState state.Blob)) c.in_ok-states.ensures.read
    (global_step (has_kind is_global_kind states) (BeginsStreams S.Starts states streams) global)))

pub returns-in-Ok-Some-clause-read : goal.returns-in-Ok-Some-clause-read
returns-in-Ok-Some-clause-read g c =
    let S = g.S.StreamSource in
    let is_known = (S.seen c.args.source.now).is_known in
    let streams = c.in_ok-streams.streams in
    let states = c.in_ok-states.states in
    let unknown = sym c.unknown_stream.ensures ∙ c.in_default.is in
    let single = ap (has_kind is_global_kind) (sym c.as_slice.ensures) ∙ sym c.has_global.ensures ∙ c.if-has_global.false in
    let starts = subst (λ (held : List State). IsOnly (AreStarts S.Starts held streams) c.in-Ok-Some.starts) c.as_slice-2.ensures (along (AreStarts S.Starts c.as_slice-2.result.now streams) c.in-Ok-Some.field-0-is c.in-Ok-Some.ensures) in
    in_catalog S.Starts is_known c.args.catalog.now c.args.states.now streams (Ok (streams, c.in-Ok-Some.starts)) c.in_ok-streams.ensures.read
    (known_step (first_unknown is_known 0 streams) (BeginsStates S.Starts c.args.states.now streams) (Ok (streams, c.in-Ok-Some.starts)) unknown
    (in_states S.Starts c.args.states.now streams states (Ok (streams, c.in-Ok-Some.starts)) c.in_ok-states.ensures.read
    (single_step (has_kind is_global_kind states) (BeginsStreams S.Starts states streams) (Ok (streams, c.in-Ok-Some.starts)) single
    (starts_step S.Starts states streams c.in-Ok-Some.starts starts))))

pub returns-in-Ok-None-clause-refused : goal.returns-in-Ok-None-clause-refused
returns-in-Ok-None-clause-refused g c = λ other.
    let S = g.S.StreamSource in
    let is_known = (S.seen c.args.source.now).is_known in
    let streams = c.in_ok-streams.streams in
    let states = c.in_ok-states.states in
    let unknown = sym c.unknown_stream.ensures ∙ c.in_default.is in
    let single = ap (has_kind is_global_kind) (sym c.as_slice.ensures) ∙ sym c.has_global.ensures ∙ c.if-has_global.false in
    let none = subst (λ (held : List State). (starts : List g.row.S-Start.Denot) → ¬ AreStarts S.Starts held streams starts) c.as_slice-2.ensures (along (AreStarts S.Starts c.as_slice-2.result.now streams) c.in-Ok-None.field-0-is c.in-Ok-None.ensures) in
    in_catalog S.Starts is_known c.args.catalog.now c.args.states.now streams (Err (status.BadState state.Blob)) c.in_ok-streams.ensures.read
    (known_step (first_unknown is_known 0 streams) (BeginsStates S.Starts c.args.states.now streams) (Err (status.BadState state.Blob)) unknown
    (in_states S.Starts c.args.states.now streams states (Err (status.BadState state.Blob)) c.in_ok-states.ensures.read
    (single_step (has_kind is_global_kind states) (BeginsStreams S.Starts states streams) (Err (status.BadState state.Blob)) single
    (blob_step S.Starts states streams none))))
