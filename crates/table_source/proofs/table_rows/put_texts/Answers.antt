use Rattle.std.proofs.Common.{◌≡◌, ◌∙◌, ◌++◌, ℕ, List, [], ◌∷◌, cond, nat_eq, get_or, map, take, sym, ap, arith, append_assoc}
use Rattle.std.proofs.lemmas.List.{take_all, get_or-map, length-map}
use Rattle.json_write.specs.Objects.{open_list}
use Rattle.json_write.proofs.Texts.{list_more, list_closes}
use Rattle.table_source.specs.declared.keyed.RowPart.{RowPart}
use Rattle.table_source.proofs.RowLemmas.{on_ok}
use Rattle.table_source.proofs.table_rows.put_texts.Goals as goal

abbrev text_of : RowPart → List ℕ
text_of part = part.text

pub loop-i-preserved : goal.loop-i-preserved
loop-i-preserved c =
    let parts = c.args.parts.now in
    let i = c.loop-i.i in
    let mark = cond (nat_eq i 0) [] (44 ∷ []) in
    let part = c.index-parts-i.result in
    let here : c.as_slice.result.now ≡ get_or (map text_of parts) i [] = c.as_slice.ensures ∙ ap text_of c.index-parts-i.is ∙ sym (get_or-map text_of parts i part [] c.loop-i-test.true) in
    let put : c.extend.new.self ≡ c.loop-i.line ++ (mark ++ c.as_slice.result.now) =
    c.in_ok-extend.ensures.ok ∙ ap (λ (t : List ℕ). t ++ c.as_slice.result.now) c.in_ok-put_comma.ensures.ok ∙ append_assoc c.loop-i.line mark c.as_slice.result.now in
    list_more (map text_of parts) i [] c.args.line.now c.loop-i.line c.extend.new.self (omega (arith, c.loop-i-test.true, length-map parts text_of)) c.loop-i.invariant
    (put ∙ ap (λ (t : List ℕ). c.loop-i.line ++ (mark ++ t)) here)

pub returns : goal.returns
returns c =
    let texts = map text_of c.args.parts.now in
    let all : take c.loop-i.i texts ≡ texts = take_all c.loop-i.i texts (omega (arith, c.loop-i-test.false, length-map c.args.parts.now text_of)) in
    on_ok c.push-2.result (λ pushed. list_closes c.args.line.now c.loop-i.line c.push-2.new.self texts (c.loop-i.invariant ∙ ap (λ (l : List (List ℕ)). c.args.line.now ++ open_list l) all) pushed) c.push-2.ensures.ok
