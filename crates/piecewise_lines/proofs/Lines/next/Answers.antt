use Rattle.std.proofs.Common.{◌∙◌, ◌∷◌, ◌+◌, ◌++◌, List, ℕ, sym, ap, subst, length, drop, slice_range}
use Rattle.text_lines.specs.Lines.{lines_of}
use Rattle.piecewise_lines.specs.Found.{FindsLine, FindsNone}
use Rattle.piecewise_lines.specs.declared.NextLine.TheVariants as answer
use Rattle.piecewise_lines.proofs.Laws.{in_order_by, torn_of_found}
use Rattle.piecewise_lines.proofs.Lines.next.Goals as goal

pub returns-in_ok-line-in-Line-clause-order : goal.returns-in_ok-line-in-Line-clause-order
returns-in_ok-line-in-Line-clause-order c =
    let self = c.self.inside in
    let items = self.bytes.items in
    let end = c.in-Line.end in
    λ more.
    in_order_by self.limit items self.start c.args.self.now c.self.view_is (end + 1) (answer.Line (slice_range items c.in-Line.start end)) (subst (λ (l : List ℕ). FindsLine self.limit l self.start c.in-Line.start end) c.deref.ensures.value c.in-Line.ensures).gives more
    ∙ ap (λ (l : List ℕ). l ∷ lines_of (drop (end + 1) items ++ more)) (sym (c.in_ok-line-in-Line.ensures ∙ ap (λ (l : List ℕ). slice_range l c.in-Line.start end) c.deref-in-Line.ensures.value))

pub returns-in-TooLong-clause-order : goal.returns-in-TooLong-clause-order
returns-in-TooLong-clause-order c =
    let self = c.self.inside in
    in_order_by self.limit self.bytes.items self.start c.args.self.now c.self.view_is c.in-TooLong.start answer.TooLong
    (subst (λ (l : List ℕ). FindsNone self.limit l self.start c.in-TooLong.start c.in-TooLong.searched answer.TooLong) c.deref.ensures.value c.in-TooLong.ensures).gives

pub returns-in-More-clause-order : goal.returns-in-More-clause-order
returns-in-More-clause-order c =
    let self = c.self.inside in
    in_order_by self.limit self.bytes.items self.start c.args.self.now c.self.view_is c.in-More.start answer.More
    (subst (λ (l : List ℕ). FindsNone self.limit l self.start c.in-More.start (length l) answer.More) c.deref.ensures.value c.in-More.ensures).gives

pub returns-in-More-clause-torn : goal.returns-in-More-clause-torn
returns-in-More-clause-torn c =
    let self = c.self.inside in
    λ is. torn_of_found self.limit self.bytes.items self.start c.in-More.start
    (subst (λ (l : List ℕ). FindsNone self.limit l self.start c.in-More.start (length l) answer.More) c.deref.ensures.value c.in-More.ensures).gives
