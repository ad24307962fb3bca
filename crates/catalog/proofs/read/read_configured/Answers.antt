use Rattle.std.proofs.Common.{◌≡◌, ◌<◌, ◌≤◌, List, ℕ, Option, IfSome, IfNone, Ok, Err, None, Some, ap, sym, subst, codes, length, refl}
use Rattle.std.proofs.lemmas.Result.{IfOk-weaker, IfErr-weaker}
use Rattle.basics.specs.declared.limits.TheConstants.{MOST_STREAMS}
use Rattle.json_span.specs.Lists.{IsListed}
use Rattle.json_span.specs.Members.{AreMembers}
use Rattle.json_span.specs.declared.Member.{Member}
use Rattle.json_span.specs.declared.Span.{Span}
use Rattle.json_span.specs.declared.lists.ListedMembers.{ListedMembers}
use Rattle.json_fields.specs.Fields.{HasField, IsCut, line_depth}
use Rattle.json_fields.specs.Parts.{IsCutList}
use Rattle.json_fields.specs.Words.{IsPlaceOf}
use Rattle.json_fields.proofs.FieldLemmas.{field_answer}
use Rattle.json_fields.proofs.PlaceLemmas.{field_at}
use Rattle.json_fields.proofs.Keys.{get_at}
use Rattle.json_fields.proofs.ListedLemmas.{listed_at}
use Rattle.catalog.specs.Reading.{HasStreams}
use Rattle.catalog.proofs.ListLemmas.{uncut_list}
use Rattle.catalog.proofs.NestLemmas.{list_nests}
use Rattle.catalog.proofs.OneLemmas.{no_catalog, no_array, too_many, entries_read}
use Rattle.catalog.proofs.read.read_configured.Goals as goal

abbrev no_member : Member
no_member = record { key = record { start = 0; end = 0 }; value = record { start = 0; end = 0 } }

-- the members, cut
members_cut : (text : List ℕ) (found : Option ListedMembers) (cut : ListedMembers) (members : List Member) → IfSome found (λ cut. IsCut text cut.members) → found ≡ Some cut → members ≡ cut.members → IsCut text members
members_cut text found cut members some is same =
    subst (λ (ms : List Member). IsCut text ms) (sym same) (subst (λ (f : Option ListedMembers). IfSome f (λ cut. IsCut text cut.members)) is some)

-- the array, cut
has : (text list : List ℕ) (found : Option (List Span)) (spans shown : List Span) → HasField text (codes "streams") list → IfSome found (IsCutList list) → found ≡ Some spans → shown ≡ spans → HasStreams text list shown
has text list found spans shown field some is same =
    subst (λ (ss : List Span). HasStreams text list ss) (sym same) (record { field = field; elements = (subst (λ (f : Option (List Span)). IfSome f (IsCutList list)) is some).are })

pub returns-in_default-clause-refused : goal.returns-in_default-clause-refused
returns-in_default-clause-refused c = λ other.
    let none = subst (λ (f : Option ListedMembers). IfNone f ((members : List Member) → ¬ AreMembers line_depth c.args.text.now members)) c.in_default.is c.in_ok-cut.ensures.none in
    no_catalog c.args.text.now (λ list spans h. none h.field.members h.field.object)

pub returns-in_default-2-clause-refused : goal.returns-in_default-2-clause-refused
returns-in_default-2-clause-refused c = λ other.
    let text = c.args.text.now in
    let members = c.as_slice-members.result.now in
    let cut = members_cut text c.in_ok-cut.field-0 c.in-Some.cut members c.in_ok-cut.ensures.cut c.in-Some.is c.as_slice-members.ensures in
    let none = field_answer text (codes "streams") members None cut (subst (λ (found : Option ℕ). IsPlaceOf text (codes "streams") members found) c.in_default-2.is c.in_ok-place.ensures) in
    no_catalog text (λ list spans h. none list h.field)

pub elements_at-requires : goal.elements_at-requires
elements_at-requires c =
    let text = c.args.text.now in
    let members = c.as_slice-members.result.now in
    let place = subst (λ (found : Option ℕ). IsPlaceOf text (codes "streams") members found) c.in-Some-2.is c.in_ok-place.ensures in
    let list = subst (λ (ms : List Member). IsListed line_depth text ms c.in-Some.cut.listed c.in-Some.cut.elements) (sym c.as_slice-members.ensures)
    (subst (λ (f : Option ListedMembers). IfSome f (λ cut. IsListed line_depth text cut.members cut.listed cut.elements)) c.in-Some.is c.in_ok-cut.ensures.list) in
    record { kept = λ same. listed_at text members c.in-Some-2.place no_member c.of-list.result.now c.in-Some.cut.listed c.in-Some.cut.elements list (get_at members c.in-Some-2.place no_member place.below) c.of-list.ensures same }

pub returns-in_default-3-clause-refused : goal.returns-in_default-3-clause-refused
returns-in_default-3-clause-refused c = λ other.
    let members = c.as_slice-members.result.now in
    let cut = members_cut c.args.text.now c.in_ok-cut.field-0 c.in-Some.cut members c.in_ok-cut.ensures.cut c.in-Some.is c.as_slice-members.ensures in
    let place = subst (λ (found : Option ℕ). IsPlaceOf c.args.text.now (codes "streams") members found) c.in-Some-2.is c.in_ok-place.ensures in
    let field = field_at c.args.text.now (codes "streams") members c.in-Some-2.place no_member c.of-list.result.now cut place c.of-list.ensures in
    no_array c.args.text.now c.of-list.result.now field.is (uncut_list c.of-list.result.now c.in_ok-spans.field-0 c.in_default-3.is c.in_ok-spans.ensures.none)

pub returns-then-len-gt-MOST_STREAMS-clause-refused : goal.returns-then-len-gt-MOST_STREAMS-clause-refused
returns-then-len-gt-MOST_STREAMS-clause-refused c = λ other.
    let members = c.as_slice-members.result.now in
    let cut = members_cut c.args.text.now c.in_ok-cut.field-0 c.in-Some.cut members c.in_ok-cut.ensures.cut c.in-Some.is c.as_slice-members.ensures in
    let place = subst (λ (found : Option ℕ). IsPlaceOf c.args.text.now (codes "streams") members found) c.in-Some-2.is c.in_ok-place.ensures in
    let field = field_at c.args.text.now (codes "streams") members c.in-Some-2.place no_member c.of-list.result.now cut place c.of-list.ensures in
    let more : MOST_STREAMS < length c.in-Some-3.spans = subst (λ (n : ℕ). MOST_STREAMS < n) c.len.ensures c.if-len-gt-MOST_STREAMS.true in
    too_many c.args.text.now c.of-list.result.now c.in-Some-3.spans (has c.args.text.now c.of-list.result.now c.in_ok-spans.field-0 c.in-Some-3.spans c.in-Some-3.spans field.is c.in_ok-spans.ensures.cut c.in-Some-3.is refl) more

pub read_entries-requires-clause-nests : goal.read_entries-requires-clause-nests
read_entries-requires-clause-nests c =
    let members = c.as_slice-members.result.now in
    let cut = members_cut c.args.text.now c.in_ok-cut.field-0 c.in-Some.cut members c.in_ok-cut.ensures.cut c.in-Some.is c.as_slice-members.ensures in
    let place = subst (λ (found : Option ℕ). IsPlaceOf c.args.text.now (codes "streams") members found) c.in-Some-2.is c.in_ok-place.ensures in
    let field = field_at c.args.text.now (codes "streams") members c.in-Some-2.place no_member c.of-list.result.now cut place c.of-list.ensures in
    let h = has c.args.text.now c.of-list.result.now c.in_ok-spans.field-0 c.in-Some-3.spans c.as_slice.result.now field.is c.in_ok-spans.ensures.cut c.in-Some-3.is c.as_slice.ensures in
    list_nests c.args.text.now c.of-list.result.now c.as_slice.result.now h.field h.elements

pub returns-clause-read : goal.returns-clause-read
returns-clause-read c =
    let members = c.as_slice-members.result.now in
    let cut = members_cut c.args.text.now c.in_ok-cut.field-0 c.in-Some.cut members c.in_ok-cut.ensures.cut c.in-Some.is c.as_slice-members.ensures in
    let place = subst (λ (found : Option ℕ). IsPlaceOf c.args.text.now (codes "streams") members found) c.in-Some-2.is c.in_ok-place.ensures in
    let field = field_at c.args.text.now (codes "streams") members c.in-Some-2.place no_member c.of-list.result.now cut place c.of-list.ensures in
    let h = has c.args.text.now c.of-list.result.now c.in_ok-spans.field-0 c.in-Some-3.spans c.as_slice.result.now field.is c.in_ok-spans.ensures.cut c.in-Some-3.is c.as_slice.ensures in
    let few : length c.as_slice.result.now ≤ MOST_STREAMS = subst (λ (ss : List Span). length ss ≤ MOST_STREAMS) (sym c.as_slice.ensures) (subst (λ (n : ℕ). n ≤ MOST_STREAMS) c.len.ensures c.if-len-gt-MOST_STREAMS.false) in
    IfOk-weaker c.read_entries.result _ _ (λ configured reads. entries_read c.args.text.now c.of-list.result.now c.as_slice.result.now (Ok configured) h few reads) c.read_entries.ensures.read

pub returns-clause-refused : goal.returns-clause-refused
returns-clause-refused c =
    let members = c.as_slice-members.result.now in
    let cut = members_cut c.args.text.now c.in_ok-cut.field-0 c.in-Some.cut members c.in_ok-cut.ensures.cut c.in-Some.is c.as_slice-members.ensures in
    let place = subst (λ (found : Option ℕ). IsPlaceOf c.args.text.now (codes "streams") members found) c.in-Some-2.is c.in_ok-place.ensures in
    let field = field_at c.args.text.now (codes "streams") members c.in-Some-2.place no_member c.of-list.result.now cut place c.of-list.ensures in
    let h = has c.args.text.now c.of-list.result.now c.in_ok-spans.field-0 c.in-Some-3.spans c.as_slice.result.now field.is c.in_ok-spans.ensures.cut c.in-Some-3.is c.as_slice.ensures in
    let few : length c.as_slice.result.now ≤ MOST_STREAMS = subst (λ (ss : List Span). length ss ≤ MOST_STREAMS) (sym c.as_slice.ensures) (subst (λ (n : ℕ). n ≤ MOST_STREAMS) c.len.ensures c.if-len-gt-MOST_STREAMS.false) in
    IfErr-weaker c.read_entries.result _ _ (λ found reads other. entries_read c.args.text.now c.of-list.result.now c.as_slice.result.now (Err found) h few (reads other)) c.read_entries.ensures.refused
