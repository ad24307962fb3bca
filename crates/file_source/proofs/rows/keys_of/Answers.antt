use Rattle.std.proofs.Common.{◌∙◌, ◌∷◌, [], ◌++◌, List, ℕ, map, ap, arith}
use Rattle.std.proofs.lemmas.List.{take_all}
use Rattle.file_source.specs.Rows.{key_text}
use Rattle.file_source.proofs.ObjectLemmas.{mapped_more}
use Rattle.file_source.proofs.rows.keys_of.Goals as goal

pub loop-column-preserved : goal.loop-column-preserved
loop-column-preserved c =
    mapped_more key_text c.args.sheet.now.header c.loop-column.column c.name.result.now c.loop-column.keys c.push.new.self c.name.ensures c.loop-column.invariant
    (c.in_ok-push.ensures.ok ∙ ap (λ (key : List ℕ). c.loop-column.keys ++ key ∷ []) c.in_ok-key.ensures)

pub returns : goal.returns
returns c = c.loop-column.invariant ∙ ap (map key_text) (take_all c.loop-column.column c.args.sheet.now.header (omega (arith, c.loop-column-test.false, c.columns-column-end.ensures)))
