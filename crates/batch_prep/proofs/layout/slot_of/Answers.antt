use Rattle.std.proofs.Common.{ap, sym, ◌∙◌, List, ℕ, Some, slice_get, subst, IfSome, IfNone, ◌≡◌}
use Rattle.std.specs.Option.{option_map}
use Rattle.std.proofs.lemmas.Slice.Eq.{bytes_eq-Decides}
use Rattle.json_scalar.specs.Text.{IsString}
use Rattle.json_fields.specs.Words.{viewed}
use Rattle.json_fields.proofs.AnswerLemmas.{along}
use Rattle.batch_prep.proofs.PlaceLemmas.{slot_by_label, slot_found}
use Rattle.batch_prep.proofs.layout.slot_of.Goals as goal

pub returns-then-eq : goal.returns-then-eq
returns-then-eq c =
    slot_by_label c.args.layout.now.names c.args.layout.now.labels c.args.key.now c.at.result.now c.args.next c.requires.labels c.at.ensures (sym ((bytes_eq-Decides c.as_slice.result.now c.args.key.now).0 (sym c.if-eq.ensures)) ∙ c.as_slice.ensures)

pub unreachable-requires : goal.unreachable-requires
unreachable-requires c =
    let none = along (IsString c.args.key.now) (ap (option_map viewed) c.in-None.is) c.in_ok-view.ensures in
    none c.requires.key.name c.requires.key.is

pub returns : goal.returns
returns c =
    let names = c.args.layout.now.names in
    let only = along (IsString c.args.key.now) (ap (option_map viewed) c.in-Some.is) c.in_ok-view.ensures in
    slot_found names c.args.key.now (viewed c.in-Some.view) c.find.result only
    (subst (λ (n : List ℕ). IfSome c.find.result (λ place. slice_get names place ≡ Some n)) c.as_str.ensures c.find.ensures.found)
    (subst (λ (n : List ℕ). IfNone c.find.result ((place : ℕ) → ¬ (slice_get names place ≡ Some n))) c.as_str.ensures c.find.ensures.none)
