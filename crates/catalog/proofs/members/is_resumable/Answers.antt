use Rattle.std.proofs.Common.{ap, codes, ◌∙◌, List, ℕ}
use Rattle.std.specs.Str.{bytes_eq}
use Rattle.std.specs.Option.{option_copied}
use Rattle.json_fields.specs.Fields.{HasField}
use Rattle.json_fields.proofs.AnswerLemmas.{along}
use Rattle.catalog.proofs.EntryLemmas.{resumable_told, resumable_absent}
use Rattle.catalog.proofs.members.is_resumable.Goals as goal

pub returns-in-Some : goal.returns-in-Some
returns-in-Some c =
    resumable_told c.args.stream.now c.in-Some.held.now c.eq.result (along (HasField c.args.stream.now (codes "is_resumable")) (ap option_copied c.in-Some.is) c.in_ok-held.ensures.field) (c.eq.ensures ∙ ap (λ (t : List ℕ). bytes_eq c.in-Some.held.now t) c.as_slice.ensures)

pub returns-in-None : goal.returns-in-None
returns-in-None c = resumable_absent c.args.stream.now (along (HasField c.args.stream.now (codes "is_resumable")) (ap option_copied c.in-None.is) c.in_ok-held.ensures.field)
