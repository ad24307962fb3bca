use Rattle.std.proofs.Common.{◌∙◌, ℕ, List, Option, ap, subst}
use Rattle.outside.specs.Desk.{Texts, DeskSeen}
use Rattle.json_fields.specs.Answer.{IsAnswer, IsOnly}
use Rattle.worker_run.specs.Words.{TextNames}
use Rattle.worker_run.specs.Catalog.{IsCatalog}
use Rattle.worker_run.specs.Reading.{HasTextNamed}
use Rattle.worker_run.proofs.RunLemmas.{body_read_fault, body_refused, body_attempt, body_short}
use Rattle.worker_run.proofs.top.run_local.Goals as goal

pub returns-in-Ok-None-clause-says : goal.returns-in-Ok-None-clause-says
returns-in-Ok-None-clause-says g c =
    let names : TextNames = record { messages = c.args.names.messages.now; catalog = c.args.names.catalog.now } in
    let none = subst (λ (f : Option (List ℕ)). IsAnswer (IsCatalog c.as_slice.result.now) f) c.in-Ok-None.field-0-is c.in-Ok-None.ensures in
    body_refused ((g.K.Desk.seen c.args.desk.now).texts) names c.in-Ok.text ((g.K.Desk.seen c.args.desk.now).said) ((g.K.Desk.seen c.read_text.new.self).said) c.in-Ok.ensures.text (subst (λ (t : List ℕ). (stream : List ℕ) → ¬ IsCatalog t stream) c.as_slice.ensures none) (ap (λ (d : DeskSeen). d.said) c.in-Ok.ensures.others)

pub returns-in-Err-read_text-clause-says : goal.returns-in-Err-read_text-clause-says
returns-in-Err-read_text-clause-says g c =
    let names : TextNames = record { messages = c.args.names.messages.now; catalog = c.args.names.catalog.now } in
    body_read_fault ((g.K.Desk.seen c.args.desk.now).texts) names c.in-Err-read_text.fault c.read_fault-in-Err-read_text.result ((g.K.Desk.seen c.args.desk.now).said) ((g.K.Desk.seen c.read_text-2.new.self).said) c.read_fault-in-Err-read_text.ensures (ap (λ (d : DeskSeen). d.said) c.in-Err-read_text.ensures.others ∙ ap (λ (d : DeskSeen). d.said) c.in-Ok.ensures.others)

pub returns-in-Ok-run_attempt-clause-says : goal.returns-in-Ok-run_attempt-clause-says
returns-in-Ok-run_attempt-clause-says g c =
    let names : TextNames = record { messages = c.args.names.messages.now; catalog = c.args.names.catalog.now } in
    let texts = (g.K.Desk.seen c.args.desk.now).texts in
    let stream = c.in-Ok-Some.stream in
    let found = subst (λ (f : Option (List ℕ)). IsAnswer (IsCatalog c.as_slice.result.now) f) c.in-Ok-Some.field-0-is c.in-Ok-Some.ensures in
    body_attempt texts names c.in-Ok.text c.in-Ok-read_text.text stream c.in-Ok-run_attempt.end ((g.K.Desk.seen c.args.desk.now).said) ((g.K.Desk.seen c.read_text-2.new.self).said) ((g.K.Desk.seen c.run_attempt.new.desk).said) c.in-Ok.ensures.text
    (subst (λ (t : Option Texts). HasTextNamed t names.messages c.in-Ok-read_text.text) (ap (λ (d : DeskSeen). d.texts) c.in-Ok.ensures.others) c.in-Ok-read_text.ensures.text)
    (subst (λ (t : List ℕ). IsOnly (IsCatalog t) stream) c.as_slice.ensures found)
    (ap (λ (d : DeskSeen). d.said) c.in-Ok-read_text.ensures.others ∙ ap (λ (d : DeskSeen). d.said) c.in-Ok.ensures.others)
    c.in-Ok-run_attempt.ensures.attempt

pub returns-clause-says : goal.returns-clause-says
returns-clause-says g c =
    let names : TextNames = record { messages = c.args.names.messages.now; catalog = c.args.names.catalog.now } in
    let texts = (g.K.Desk.seen c.args.desk.now).texts in
    let stream = c.in-Ok-Some.stream in
    let found = subst (λ (f : Option (List ℕ)). IsAnswer (IsCatalog c.as_slice.result.now) f) c.in-Ok-Some.field-0-is c.in-Ok-Some.ensures in
    body_short texts names c.in-Ok.text c.in-Ok-read_text.text stream c.in-Err-run_attempt.fault c.say_fault.result ((g.K.Desk.seen c.args.desk.now).said) ((g.K.Desk.seen c.read_text-2.new.self).said) ((g.K.Desk.seen c.run_attempt.new.desk).said) c.in-Ok.ensures.text
    (subst (λ (t : Option Texts). HasTextNamed t names.messages c.in-Ok-read_text.text) (ap (λ (d : DeskSeen). d.texts) c.in-Ok.ensures.others) c.in-Ok-read_text.ensures.text)
    (subst (λ (t : List ℕ). IsOnly (IsCatalog t) stream) c.as_slice.ensures found)
    (ap (λ (d : DeskSeen). d.said) c.in-Ok-read_text.ensures.others ∙ ap (λ (d : DeskSeen). d.said) c.in-Ok.ensures.others)
    c.say_fault.ensures
    c.in-Err-run_attempt.ensures.fault
