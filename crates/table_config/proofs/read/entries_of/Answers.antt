use Rattle.std.proofs.Common.{subst, sym}
use Rattle.json_fields.specs.Answer.{IsOnly}
use Rattle.json_fields.proofs.AnswerLemmas.{along}
use Rattle.catalog.proofs.ListLemmas.{loop_more, loop_none, loop_all}
use Rattle.table_config.specs.Config.{IsEntry}
use Rattle.table_config.specs.declared.read.TablePart.{TablePart}
use Rattle.table_config.proofs.read.entries_of.Goals as goal

pub loop-part-preserved : goal.loop-part-preserved
loop-part-preserved c =
    let found = along (IsEntry c.part-item.result) c.in-Some.is c.in_ok-entry.ensures in
    let here = subst (λ (p : TablePart). IsOnly (IsEntry p) c.in-Some.entry) c.part-item.is found in
    loop_more IsEntry c.args.parts.now c.loop-part.part-index c.part-item.result c.loop-part.entries c.push.new.self c.in-Some.entry c.loop-part-test.true c.in_ok-push.ensures.ok here c.loop-part.invariant

pub returns-in_default : goal.returns-in_default
returns-in_default c =
    let none = along (IsEntry c.part-item.result) c.in_default.is c.in_ok-entry.ensures in
    loop_none IsEntry c.args.parts.now c.loop-part.part-index c.part-item.result c.loop-part-test.true (λ entry is. none entry (subst (λ (p : TablePart). IsEntry p entry) (sym c.part-item.is) is))

pub returns : goal.returns
returns c = loop_all IsEntry c.args.parts.now c.loop-part.part-index c.loop-part.entries c.loop-part-test.false c.loop-part.invariant
