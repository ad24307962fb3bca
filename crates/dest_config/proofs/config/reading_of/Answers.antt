use Rattle.std.proofs.Common.{List, ℕ, Option, None, IfSome, codes, option_map, ap, subst}
use Rattle.std.specs.Option.{option_copied}
use Rattle.json_span.specs.declared.Member.{Member}
use Rattle.json_fields.specs.Answer.{IsAnswer}
use Rattle.json_fields.specs.Fields.{HasText, IsCut, line_depth}
use Rattle.json_fields.specs.Parts.{HasOptionalNumber}
use Rattle.json_fields.proofs.AnswerLemmas.{along, uncut}
use Rattle.dest_config.specs.Config.{place_name}
use Rattle.dest_config.proofs.ConfigLemmas.{holds, missing, no_batch_number, no_place, no_workers_number, not_json, out_of_range, reads}
use Rattle.dest_config.proofs.config.reading_of.Goals as goal

pub returns-in_default : goal.returns-in_default
returns-in_default c = not_json c.args.kind c.args.text.now (uncut line_depth c.args.text.now c.in_ok-members.field-0 c.in_default.is c.in_ok-members.ensures.none)

pub returns-in_default-2 : goal.returns-in_default-2
returns-in_default-2 c =
    let text = c.args.text.now in
    let cut = subst (λ (found : Option (List Member)). IfSome found (IsCut text)) c.in-Some.is c.in_ok-members.ensures.cut in
    let none = along (HasText text c.place_name.result.now) c.in_default-2.is c.in_ok-place.ensures in
    missing c.args.kind text c.in-Some.members cut (no_place c.args.kind text (subst (λ (n : List ℕ). IsAnswer (HasText text n) None) c.place_name.ensures none))

pub returns-in_default-5 : goal.returns-in_default-5
returns-in_default-5 c =
    let text = c.args.text.now in
    let cut = subst (λ (found : Option (List Member)). IfSome found (IsCut text)) c.in-Some.is c.in_ok-members.ensures.cut in
    let none = along (HasOptionalNumber text (codes "batch")) (ap (option_map option_copied) c.in_default-5.is) c.in_ok-batch.ensures in
    missing c.args.kind text c.in-Some.members cut (no_batch_number c.args.kind text none)

pub returns-in_default-6 : goal.returns-in_default-6
returns-in_default-6 c =
    let text = c.args.text.now in
    let cut = subst (λ (found : Option (List Member)). IfSome found (IsCut text)) c.in-Some.is c.in_ok-members.ensures.cut in
    let none = along (HasOptionalNumber text (codes "workers")) (ap (option_map option_copied) c.in_default-6.is) c.in_ok-workers.ensures in
    missing c.args.kind text c.in-Some.members cut (no_workers_number c.args.kind text none)

pub returns-in_default-limits_of : goal.returns-in_default-limits_of
returns-in_default-limits_of c =
    let text = c.args.text.now in
    let place = along (HasText text (place_name c.args.kind)) c.in-Some-2.is (subst (λ (n : List ℕ). IsAnswer (HasText text n) c.in_ok-place.field-0) c.place_name.ensures c.in_ok-place.ensures) in
    let slots = along (HasOptionalNumber text (codes "slots")) (ap (option_map option_copied) c.in-Some-3.is) c.in_ok-slots.ensures in
    let bytes = along (HasOptionalNumber text (codes "bytes")) (ap (option_map option_copied) c.in-Some-4.is) c.in_ok-bytes.ensures in
    let batch = along (HasOptionalNumber text (codes "batch")) (ap (option_map option_copied) c.in-Some-5.is) c.in_ok-batch.ensures in
    let workers = along (HasOptionalNumber text (codes "workers")) (ap (option_map option_copied) c.in-Some-6.is) c.in_ok-workers.ensures in
    let held = holds c.args.kind text c.in-Some-2.place (option_copied c.in-Some-3.slots) (option_copied c.in-Some-4.bytes) (option_copied c.in-Some-5.batch) (option_copied c.in-Some-6.workers) place slots bytes batch workers in
    out_of_range c.args.kind text (record { place = c.in-Some-2.place; slots = option_copied c.in-Some-3.slots; bytes = option_copied c.in-Some-4.bytes; batch = option_copied c.in-Some-5.batch; workers = option_copied c.in-Some-6.workers }) held c.in_default-limits_of.ensures

pub returns : goal.returns
returns c =
    let text = c.args.text.now in
    let place = along (HasText text (place_name c.args.kind)) c.in-Some-2.is (subst (λ (n : List ℕ). IsAnswer (HasText text n) c.in_ok-place.field-0) c.place_name.ensures c.in_ok-place.ensures) in
    let slots = along (HasOptionalNumber text (codes "slots")) (ap (option_map option_copied) c.in-Some-3.is) c.in_ok-slots.ensures in
    let bytes = along (HasOptionalNumber text (codes "bytes")) (ap (option_map option_copied) c.in-Some-4.is) c.in_ok-bytes.ensures in
    let batch = along (HasOptionalNumber text (codes "batch")) (ap (option_map option_copied) c.in-Some-5.is) c.in_ok-batch.ensures in
    let workers = along (HasOptionalNumber text (codes "workers")) (ap (option_map option_copied) c.in-Some-6.is) c.in_ok-workers.ensures in
    let held = holds c.args.kind text c.in-Some-2.place (option_copied c.in-Some-3.slots) (option_copied c.in-Some-4.bytes) (option_copied c.in-Some-5.batch) (option_copied c.in-Some-6.workers) place slots bytes batch workers in
    reads c.args.kind text (record { place = c.in-Some-2.place; slots = option_copied c.in-Some-3.slots; bytes = option_copied c.in-Some-4.bytes; batch = option_copied c.in-Some-5.batch; workers = option_copied c.in-Some-6.workers }) c.in-Some-limits_of.limits held c.in-Some-limits_of.ensures
