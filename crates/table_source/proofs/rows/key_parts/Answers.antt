use Rattle.std.proofs.Common.{◌∙◌, Bool, List, subst}
use Rattle.std.specs.List.{AllZip}
use Rattle.std.proofs.lemmas.List.{take_all}
use Rattle.catalog.specs.Entry.{PathNames}
use Rattle.table_source.specs.Keyed.{IsKeyPart, IsPartAt}
use Rattle.table_source.proofs.KeyLemmas.{zip_more}
use Rattle.table_source.proofs.rows.key_parts.Goals as goal

pub returns : goal.returns
returns c =
    let paths = c.as_slice-path-items.result.now in
    let all = take_all c.loop-path.path-index paths c.loop-path-test.false in
    subst (λ (l : List PathNames). AllZip (IsKeyPart c.args.columns.now c.args.body.now) l c.loop-path.parts) (all ∙ c.as_slice-path-items.ensures) c.loop-path.invariant

pub loop-path-preserved : goal.loop-path-preserved
loop-path-preserved c =
    let here = subst (λ (is : Bool). IsPartAt c.args.body.now c.path-item.result is c.in_ok-part.part) c.is_instant.ensures c.in_ok-part.ensures in
    zip_more (IsKeyPart c.args.columns.now c.args.body.now) c.as_slice-path-items.result.now c.loop-path.parts c.push.new.self c.loop-path.path-index c.path-item.result c.in_ok-part.part
    c.loop-path-test.true c.path-item.is c.loop-path.invariant here c.in_ok-push.ensures.ok
