use Rattle.std.proofs.Common.{ap}
use Rattle.std.specs.Option.{option_copied}
use Rattle.json_fields.specs.Fields.{HasOptional}
use Rattle.json_fields.specs.Parts.{IsCount}
use Rattle.json_fields.proofs.AnswerLemmas.{along, along_only}
use Rattle.json_fields.proofs.PartLemmas.{count_answer, optional_count_absent, optional_count_told, optional_uncounted}
use Rattle.catalog.proofs.parts.optional_count_in.Goals as goal

pub returns-in-Some-whole_of : goal.returns-in-Some-whole_of
returns-in-Some-whole_of c =
    let known = c.whole_of.ensures in
    let count = count_answer c.in-Some.held.now c.whole_of.result known.found known.small known.only known.none in
    optional_count_told c.args.text.now c.args.name.now c.in-Some.held.now c.in-Some-whole_of.count (along_only (HasOptional c.args.text.now c.args.name.now) (ap option_copied c.in-Some.is) c.in_ok-held.ensures) (along (IsCount c.in-Some.held.now) c.in-Some-whole_of.is count)

pub returns-in-None-whole_of : goal.returns-in-None-whole_of
returns-in-None-whole_of c =
    let known = c.whole_of.ensures in
    let count = count_answer c.in-Some.held.now c.whole_of.result known.found known.small known.only known.none in
    optional_uncounted c.args.text.now c.args.name.now c.in-Some.held.now (along_only (HasOptional c.args.text.now c.args.name.now) (ap option_copied c.in-Some.is) c.in_ok-held.ensures) (along (IsCount c.in-Some.held.now) c.in-None-whole_of.is count)

pub returns-in-None : goal.returns-in-None
returns-in-None c =
    optional_count_absent c.args.text.now c.args.name.now (along_only (HasOptional c.args.text.now c.args.name.now) (ap option_copied c.in-None.is) c.in_ok-held.ensures)
