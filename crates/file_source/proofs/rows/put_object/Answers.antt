use Rattle.std.proofs.Common.{◌≡◌, ◌∙◌, ◌++◌, ℕ, List, Some, slice_get, length, ap, subst, arith}
use Rattle.std.proofs.lemmas.List.{length-map}
use Rattle.file_source.specs.Rows.{key_text}
use Rattle.file_source.proofs.ObjectLemmas.{column_more, columns_close, key_at, on_ok}
use Rattle.file_source.proofs.rows.put_object.Goals as goal

pub at-requires : goal.at-requires
at-requires c = omega (arith, c.loop-column-test.true, c.columns-column-end.ensures, ap length c.requires.keys, length-map c.args.sheet.now.header key_text)

pub loop-column-preserved : goal.loop-column-preserved
loop-column-preserved c = λ fields there.
    let header = c.args.sheet.now.header in
    let at = c.loop-column.column in
    let key = key_at header at c.at.result.now (subst (λ (keys : List (List ℕ)). slice_get keys at ≡ Some c.at.result.now) c.requires.keys c.at.ensures) in
    column_more header fields at key.0 c.field.result.now c.args.line.now c.loop-column.line c.put_comma.new.text c.extend.new.self c.put_string.new.text key.1 (c.field.ensures fields there)
    (c.loop-column.invariant fields there) c.in_ok-put_comma.ensures.ok
    (c.in_ok-extend.ensures.ok ∙ ap (λ (t : List ℕ). c.put_comma.new.text ++ t) (c.as_slice.ensures ∙ key.2)) c.in_ok-put_string.ensures.ok

pub returns : goal.returns
returns c =
    on_ok c.push-2.result (λ pushed fields there.
    columns_close c.args.sheet.now.header fields c.loop-column.column c.args.line.now c.loop-column.line c.push-2.new.self (omega (arith, c.loop-column-test.false, c.columns-column-end.ensures)) (c.loop-column.invariant fields there) pushed) c.push-2.ensures.ok
