use Rattle.std.proofs.Common.{◌≡◌, ◌∙◌, ℕ, List, Some, None, Bool, cond, sym, ap, subst, length, drop, slice_range, refl}
use Rattle.piecewise_lines.specs.Found.{IsFound, FindsNone}
use Rattle.piecewise_lines.specs.declared.NextLine.TheVariants as answer
use Rattle.text_lines.specs.Lines.{is_line}
use Rattle.piecewise_lines.proofs.Search.{range_rest}
use Rattle.piecewise_lines.proofs.Laws.{no_answer, none_torn, torn_by, torn_is_only, torn_is_blank}
use Rattle.piecewise_lines.proofs.Lines.end.Goals as goal

pub returns-in_default : goal.returns-in_default
returns-in_default c =
    let self = c.self.inside in
    let no_more = no_answer self.limit self.bytes.items self.start c.args.self.now c.self.view_is c.find.result (subst (λ (l : List ℕ). IsFound self.limit l self.start c.find.result) c.deref.ensures.value c.find.ensures) c.in_default.not-More in
    record {
      torn = sym (none_torn self.limit self.bytes.items self.start c.args.self.now c.self.view_is no_more);
      line = tt;
      taken = tt;
      none = refl;
      blank = λ more. absurd (no_more more);
    }

pub returns-then-not-is_line-clause-torn : goal.returns-then-not-is_line-clause-torn
returns-then-not-is_line-clause-torn c =
    let self = c.self.inside in
    let items = self.bytes.items in
    let start = c.in-More.start in
    let found = subst (λ (l : List ℕ). FindsNone self.limit l self.start start (length l) answer.More) c.deref.ensures.value c.in-More.ensures in
    let shown = c.is_line.ensures ∙ ap (λ (l : List ℕ). is_line (slice_range l start (length l))) c.deref-2.ensures.value ∙ ap is_line (range_rest items start found.place.ordered) in
    sym (torn_by self.limit items self.start c.args.self.now c.self.view_is start found.gives ∙ ap (λ (x : Bool). cond x (Some (drop start items)) None) (sym shown ∙ c.if-not-is_line.true))

pub returns-then-not-is_line-clause-blank : goal.returns-then-not-is_line-clause-blank
returns-then-not-is_line-clause-blank c =
    let self = c.self.inside in
    let items = self.bytes.items in
    let start = c.in-More.start in
    let found = subst (λ (l : List ℕ). FindsNone self.limit l self.start start (length l) answer.More) c.deref.ensures.value c.in-More.ensures in
    let shown = c.is_line.ensures ∙ ap (λ (l : List ℕ). is_line (slice_range l start (length l))) c.deref-2.ensures.value ∙ ap is_line (range_rest items start found.place.ordered) in
    torn_is_blank c.args.self.now (torn_by self.limit items self.start c.args.self.now c.self.view_is start found.gives ∙ ap (λ (x : Bool). cond x (Some (drop start items)) None) (sym shown ∙ c.if-not-is_line.true))

pub returns-clause-torn : goal.returns-clause-torn
returns-clause-torn c =
    let self = c.self.inside in
    let items = self.bytes.items in
    let start = c.in-More.start in
    let found = subst (λ (l : List ℕ). FindsNone self.limit l self.start start (length l) answer.More) c.deref.ensures.value c.in-More.ensures in
    let shown = c.is_line.ensures ∙ ap (λ (l : List ℕ). is_line (slice_range l start (length l))) c.deref-2.ensures.value ∙ ap is_line (range_rest items start found.place.ordered) in
    let torn : c.from_vec.result ≡ drop start items = c.from_vec.ensures ∙ c.drop_front.ensures ∙ ap (λ v. drop start v.items) c.replace-torn.ensures.value in
    ap (λ (l : List ℕ). Some l) torn
    ∙ sym (torn_by self.limit items self.start c.args.self.now c.self.view_is start found.gives ∙ ap (λ (x : Bool). cond x (Some (drop start items)) None) (sym shown ∙ c.if-not-is_line.false))

pub returns-clause-line : goal.returns-clause-line
returns-clause-line c =
    let self = c.self.inside in
    let items = self.bytes.items in
    let start = c.in-More.start in
    let found = subst (λ (l : List ℕ). FindsNone self.limit l self.start start (length l) answer.More) c.deref.ensures.value c.in-More.ensures in
    let shown = c.is_line.ensures ∙ ap (λ (l : List ℕ). is_line (slice_range l start (length l))) c.deref-2.ensures.value ∙ ap is_line (range_rest items start found.place.ordered) in
    let torn : c.from_vec.result ≡ drop start items = c.from_vec.ensures ∙ c.drop_front.ensures ∙ ap (λ v. drop start v.items) c.replace-torn.ensures.value in
    torn_is_only c.args.self.now c.from_vec.result
    (torn_by self.limit items self.start c.args.self.now c.self.view_is start found.gives
    ∙ ap (λ (x : Bool). cond x (Some (drop start items)) None) (sym shown ∙ c.if-not-is_line.false)
    ∙ ap (λ (l : List ℕ). Some l) (sym torn))
