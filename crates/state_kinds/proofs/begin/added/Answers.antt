use Rattle.std.proofs.Common.{Vec, Global, ◌≤◌, ◌∷◌, ◌++◌, [], List, length, sym, ap, subst, ◌+◌, ◌∙◌, arith}
use Rattle.json_fields.proofs.AnswerLemmas.{true_false}
use Rattle.state_kinds.specs.declared.entry.SavedEntry.{SavedEntry}
use Rattle.state_kinds.specs.Changes.{given_of}
use Rattle.state_kinds.proofs.FindLemmas.{on_err}
use Rattle.state_kinds.proofs.BeginLemmas.{added_all, added_more, HasAdded, added_skip, front_more}
use Rattle.state_kinds.proofs.begin.added.Goals as goal
use Rattle.state_kinds.proofs.begin.added.Goals.{then-branch+in_ok-new_entry+in_ok-push, else-branch}

pub returns-in_err-push-clause-err : goal.returns-in_err-push-clause-err
returns-in_err-push-clause-err c =
    on_err c.from_residual-in_err-push.result _ (front_more (given_of c.args.configured.now c.args.gens.now) c.loop-n.n c.args.index.now c.loop-n.index c.add.new.self c.loop-n.added.items c.in_ok-copy.field-0 (c.in_ok-add.ensures.added c.if-branch.true) c.loop-n.invariant)

pub loop-n-preserved : goal.loop-n-preserved
loop-n-preserved c =
    let streams = c.args.configured.now in
    let gens = c.args.gens.now in
    elim c.if-branch.branch [
      | then-branch+in_ok-new_entry+in_ok-push w ↦
          added_more streams gens c.loop-n.n c.args.index.now c.loop-n.index c.add.new.self c.loop-n.added.items c.if-branch.added.items c.stream.result.now w.at.result.now c.in_ok-copy.field-0 c.stream.ensures.stream w.at.ensures c.in_ok-copy.ensures.copied
          (c.in_ok-add.ensures.new.0 w.if-branch.true) (c.in_ok-add.ensures.added w.if-branch.true)
          (ap (λ (v : Vec SavedEntry Global). v.items) w.added-is ∙ (w.in_ok-push.ensures.items ∙ ap (λ (e : SavedEntry). c.loop-n.added.items ++ e ∷ []) w.in_ok-new_entry.ensures)) c.loop-n.invariant
      | else-branch w ↦
          subst (λ (es : List SavedEntry). HasAdded (given_of streams gens) (c.loop-n.n + 1) c.args.index.now c.add.new.self es) (sym (ap (λ (v : Vec SavedEntry Global). v.items) w.added-is))
          (added_skip streams gens c.loop-n.n c.args.index.now c.loop-n.index c.add.new.self c.loop-n.added.items c.stream.result.now c.in_ok-copy.field-0 c.len-n-end.ensures.configured.distinct c.requires.gens c.stream.ensures.stream c.in_ok-copy.ensures.copied
          (λ none. true_false (sym (c.in_ok-add.ensures.new.1 none) ∙ w.if-branch.false)) (c.in_ok-add.ensures.there (λ is. true_false (sym is ∙ w.if-branch.false))) c.loop-n.invariant)
    ]

pub returns-clause-added : goal.returns-clause-added
returns-clause-added c =
    let done : length c.args.configured.now ≤ c.loop-n.n = let h = c.loop-n-test.false in let e = c.len-n-end.ensures.len in omega arith in
    added_all c.args.configured.now c.args.gens.now c.loop-n.n c.args.index.now c.loop-n.index c.loop-n.added.items c.requires.gens done c.loop-n.invariant
