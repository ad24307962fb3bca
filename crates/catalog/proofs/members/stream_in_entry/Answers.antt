use Rattle.std.proofs.Common.{ℕ, List, Option, None, Some, slice_index_or, refl, sym, ap, subst, ◌∙◌, codes}
use Rattle.std.specs.Option.{option_map}
use Rattle.std.proofs.lemmas.Result.{IfOk-weaker}
use Rattle.json_span.specs.Levels.{AreInside}
use Rattle.json_span.specs.Members.{text_at}
use Rattle.json_span.specs.declared.Member.{Member}
use Rattle.json_fields.specs.Fields.{IsCut, line_depth}
use Rattle.json_fields.specs.Words.{IsPlaceOf}
use Rattle.json_fields.proofs.FieldLemmas.{field_answer}
use Rattle.json_fields.proofs.PlaceLemmas.{cut_inside, field_at, inside_at}
use Rattle.catalog.proofs.EntryLemmas.{stream_absent, stream_held, stream_uncut}
use Rattle.catalog.proofs.members.stream_in_entry.Goals as goal

abbrev no_member : Member
no_member = record { key = record { start = 0; end = 0 }; value = record { start = 0; end = 0 } }

pub returns-in_default : goal.returns-in_default
returns-in_default c =
    let text = c.args.text.now in
    let members = c.outer-members.result.now in
    let cut = subst (λ (ms : List Member). IsCut text ms) (sym c.outer-members.ensures) c.requires.cut in
    let none = subst (λ (found : Option ℕ). IsPlaceOf text (codes "stream") members found) c.in_default.is c.in_ok-place.ensures in
    stream_absent text (field_answer text (codes "stream") members None cut none)

pub stream_part_of-requires : goal.stream_part_of-requires
stream_part_of-requires c =
    let text = c.args.text.now in
    let members = c.outer-members.result.now in
    let inside = subst (λ (ms : List Member). AreInside line_depth text ms c.args.levels.now.inner) (sym c.outer-members.ensures) c.requires.inside in
    let place = subst (λ (found : Option ℕ). IsPlaceOf text (codes "stream") members found) c.in-Some.is c.in_ok-place.ensures in
    let got = c.inner.ensures ∙ ap (λ o. Some (option_map (λ ms. ms.now) o)) c.in-Some-inner.is in
    cut_inside c.of.result.now c.in-Some-inner.parts.now (inside_at text (codes "stream") members c.args.levels.now.inner c.in-Some.place no_member c.of.result.now (Some c.in-Some-inner.parts.now) inside place c.of.ensures got)

pub returns-in-Some-inner : goal.returns-in-Some-inner
returns-in-Some-inner c =
    let text = c.args.text.now in
    let members = c.outer-members.result.now in
    let cut = subst (λ (ms : List Member). IsCut text ms) (sym c.outer-members.ensures) c.requires.cut in
    let place = subst (λ (found : Option ℕ). IsPlaceOf text (codes "stream") members found) c.in-Some.is c.in_ok-place.ensures in
    let field = field_at text (codes "stream") members c.in-Some.place no_member c.of.result.now cut place c.of.ensures in
    IfOk-weaker c.stream_part_of.result _ _ (λ found answer. stream_held text c.of.result.now found field answer) c.stream_part_of.ensures

pub returns-in-None : goal.returns-in-None
returns-in-None c =
    let text = c.args.text.now in
    let members = c.outer-members.result.now in
    let cut = subst (λ (ms : List Member). IsCut text ms) (sym c.outer-members.ensures) c.requires.cut in
    let inside = subst (λ (ms : List Member). AreInside line_depth text ms c.args.levels.now.inner) (sym c.outer-members.ensures) c.requires.inside in
    let place = subst (λ (found : Option ℕ). IsPlaceOf text (codes "stream") members found) c.in-Some.is c.in_ok-place.ensures in
    let value = text_at text (slice_index_or members c.in-Some.place no_member).value in
    let field = field_at text (codes "stream") members c.in-Some.place no_member value cut place refl in
    let got = c.inner.ensures ∙ ap (λ o. Some (option_map (λ ms. ms.now) o)) c.in-None.is in
    stream_held text value None field (stream_uncut value (inside_at text (codes "stream") members c.args.levels.now.inner c.in-Some.place no_member value None inside place refl got))
