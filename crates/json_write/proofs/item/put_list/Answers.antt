use Rattle.std.proofs.Common.{◌≡◌, ℕ, List, [], ◌∷◌, ◌++◌, cond, nat_eq, take, sym, ap, subst, ◌∙◌, append_assoc}
use Rattle.std.proofs.lemmas.List.{take_all}
use Rattle.json_write.specs.Fronts.{IsFrontOf}
use Rattle.json_write.specs.Objects.{open_list}
use Rattle.json_write.proofs.Fronts.{front_of_grown}
use Rattle.json_write.proofs.Texts.{list_more, list_closes}
use Rattle.json_write.proofs.item.put_list.Goals as goal

pub loop-i-preserved : goal.loop-i-preserved
loop-i-preserved c =
    let items = c.as_slice-item-items.result.now in
    let i = c.loop-i.i in
    let mark = cond (nat_eq i 0) [] (44 ∷ []) in
    let item = c.item-item.result in
    let put : c.extend.new.self ≡ c.loop-i.text ++ (mark ++ item) =
    c.in_ok-extend.ensures.ok ∙ (λ k. c.in_ok-put_comma.ensures.ok k ++ c.as_slice.ensures k) ∙ append_assoc c.loop-i.text mark item in
    list_more items i item c.args.text.now c.loop-i.text c.extend.new.self c.loop-i-test.true c.loop-i.invariant (put ∙ ap (λ (x : List ℕ). c.loop-i.text ++ (mark ++ x)) c.item-item.is)

pub returns-in_err-put_comma-clause-front : goal.returns-in_err-put_comma-clause-front
returns-in_err-put_comma-clause-front c =
    front_of_grown c.args.text.now c.loop-i.text (open_list (take c.loop-i.i c.as_slice-item-items.result.now)) c.put_comma.new.text c.loop-i.invariant c.in_err-put_comma.ensures.front

pub returns-in_err-extend-clause-front : goal.returns-in_err-extend-clause-front
returns-in_err-extend-clause-front c =
    subst (λ (t : List ℕ). IsFrontOf c.args.text.now t) (sym c.in_err-extend.ensures.err) (front_of_grown c.args.text.now c.loop-i.text (open_list (take c.loop-i.i c.as_slice-item-items.result.now)) c.put_comma.new.text c.loop-i.invariant c.in_ok-put_comma.ensures.front)

pub returns-clause-ok : goal.returns-clause-ok
returns-clause-ok c =
    let items = c.as_slice-item-items.result.now in
    let all : take c.loop-i.i items ≡ items = take_all c.loop-i.i items c.loop-i-test.false in
    let whole = c.loop-i.invariant ∙ ap (λ (l : List (List ℕ)). c.args.text.now ++ open_list l) (all ∙ c.as_slice-item-items.ensures) in
    list_closes c.args.text.now c.loop-i.text c.push-2.new.self c.args.items.now whole c.in_ok-push-2.ensures.ok
