use Rattle.std.proofs.Common.{List, Option, Some, ◌≡◌, subst, sym, ap, ◌∙◌}
use Rattle.std.specs.List.{slice_get}
use Rattle.json_span.specs.Levels.{IsInside}
use Rattle.json_span.specs.declared.Member.{Member}
use Rattle.json_span.proofs.Reading.{some_inside, no_inside, set_same, set_other}
use Rattle.json_span.proofs.reader.complete_at.Goals as goal

pub returns-then-is_some-clause-inside : goal.returns-then-is_some-clause-inside
returns-then-is_some-clause-inside c = λ found e.
    let same : c.at.result.now ≡ found = cc (e, c.at.ensures) in
    subst (λ (o : Option (List Member)). IsInside 127 c.args.value.now o) same
    (some_inside c.args.value.now c.requires.value c.requires.shallow c.at.result.now (sym c.is_some.ensures ∙ c.if-is_some.true) (λ members f. c.requires.alone members (c.at.ensures ∙ ap Some f)))

pub returns-then-not-is_object-clause-inside : goal.returns-then-not-is_object-clause-inside
returns-then-not-is_object-clause-inside c = λ found e.
    let same : c.at.result.now ≡ found = cc (e, c.at.ensures) in
    subst (λ (o : Option (List Member)). IsInside 127 c.args.value.now o) same
    (no_inside c.args.value.now c.at.result.now (sym c.is_some.ensures ∙ c.if-is_some.false) (λ o. let h = c.is_object.ensures.1 o in cc (h, c.if-not-is_object.true)))

pub returns-clause-inside : goal.returns-clause-inside
returns-clause-inside c = λ found e.
    let same = set_same c.args.inner.now c.args.index c.in_ok-found.found found c.requires.place (ap (λ (l : List (Option (List Member))). slice_get l c.args.index) (sym c.set.ensures) ∙ e) in
    subst (λ (o : Option (List Member)). IsInside 127 c.args.value.now o) same c.in_ok-found.ensures

pub returns-clause-others : goal.returns-clause-others
returns-clause-others c = λ k ne. ap (λ (l : List (Option (List Member))). slice_get l k) c.set.ensures ∙ set_other c.args.inner.now c.args.index c.in_ok-found.found k ne
