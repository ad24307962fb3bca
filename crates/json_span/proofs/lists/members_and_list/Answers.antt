use Rattle.std.proofs.Common.{List, subst, sym}
use Rattle.std.specs.Prelude.{All}
use Rattle.json_span.specs.Members.{IsMemberOf}
use Rattle.json_span.specs.Lists.{AreShallowArrays}
use Rattle.json_span.specs.declared.Member.{Member}
use Rattle.json_span.proofs.FirstArray.{are_shallow}
use Rattle.json_span.proofs.Theorems.{finds, finds_only, finds_none, finds_deeper, read_object}
use Rattle.json_span.proofs.Parts.{are_parts}
use Rattle.json_span.proofs.lists.members_and_list.Goals as goal

pub returns-then-not-is_done-clause-not_object : goal.returns-then-not-is_done-clause-not_object
returns-then-not-is_done-clause-not_object c = λ is. finds_none c.args.text.now c.read.new.self.outside c.in_ok-read.ensures.outside (λ done. let e = c.is_done.ensures.1 done in let f = c.if-not-is_done.true in cc (e, f))

pub returns-then-reader-gt-MAX_DEPTH-clause-too_deep : goal.returns-then-reader-gt-MAX_DEPTH-clause-too_deep
returns-then-reader-gt-MAX_DEPTH-clause-too_deep c = λ is. finds_deeper c.args.text.now c.read.new.self.outside c.in_ok-read.ensures.outside (c.is_utf8.ensures.0 c.if-not-is_utf8.false) (c.is_done.ensures.0 c.if-not-is_done.false) 127 c.if-reader-gt-MAX_DEPTH.true

pub returns-clause-found : goal.returns-clause-found
returns-clause-found c = finds c.args.text.now c.read.new.self.outside c.in_ok-read.ensures.outside (c.is_utf8.ensures.0 c.if-not-is_utf8.false) (c.is_done.ensures.0 c.if-not-is_done.false) 127 c.if-reader-gt-MAX_DEPTH.false

pub returns-clause-only : goal.returns-clause-only
returns-clause-only c = finds_only c.args.text.now c.read.new.self.outside c.in_ok-read.ensures.outside 127 c.if-reader-gt-MAX_DEPTH.false

pub returns-clause-parts : goal.returns-clause-parts
returns-clause-parts c =
    let m = c.read.new.self.outside in
    are_parts c.args.text.now m.deepest m.cutter.members (read_object c.args.text.now m c.in_ok-read.ensures.outside (c.is_utf8.ensures.0 c.if-not-is_utf8.false) (c.is_done.ensures.0 c.if-not-is_done.false))

pub first_array-first-requires : goal.first_array-first-requires
first_array-first-requires c =
    let m = c.read.new.self.outside in
    subst (λ (l : List Member). All (IsMemberOf c.args.text.now) l) (sym c.as_slice.ensures)
    (are_parts c.args.text.now m.deepest m.cutter.members (read_object c.args.text.now m c.in_ok-read.ensures.outside (c.is_utf8.ensures.0 c.if-not-is_utf8.false) (c.is_done.ensures.0 c.if-not-is_done.false)))

pub array_at-requires-clause-parts : goal.array_at-requires-clause-parts
array_at-requires-clause-parts c =
    let m = c.read.new.self.outside in
    subst (λ (l : List Member). All (IsMemberOf c.args.text.now) l) (sym c.as_slice-2.ensures)
    (are_parts c.args.text.now m.deepest m.cutter.members (read_object c.args.text.now m c.in_ok-read.ensures.outside (c.is_utf8.ensures.0 c.if-not-is_utf8.false) (c.is_done.ensures.0 c.if-not-is_done.false)))

pub array_at-requires-clause-shallow : goal.array_at-requires-clause-shallow
array_at-requires-clause-shallow c =
    let m = c.read.new.self.outside in
    subst (λ (l : List Member). AreShallowArrays 127 c.args.text.now l) (sym c.as_slice-2.ensures)
    (are_shallow 127 c.args.text.now m.cutter.members (finds c.args.text.now m c.in_ok-read.ensures.outside (c.is_utf8.ensures.0 c.if-not-is_utf8.false) (c.is_done.ensures.0 c.if-not-is_done.false) 127 c.if-reader-gt-MAX_DEPTH.false))
