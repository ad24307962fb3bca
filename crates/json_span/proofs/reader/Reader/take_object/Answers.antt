use Rattle.std.proofs.Common.{ℕ, List, Some, ◌+◌, ◌-◌, ◌++◌, ◌∷◌, [], length, take, drop, refl, subst, sym, ap, ◌∙◌}
use Rattle.json_span.specs.Reading.{AreReadInside, IsPadded}
use Rattle.json_span.specs.declared.Member.{Member}
use Rattle.json_span.specs.declared.machine.Machine.{Machine}
use Rattle.json_span.proofs.Reading.{tail_inside, rest_read, object_taken, one_more_inside}
use Rattle.json_span.proofs.reader.Reader.take_object.Goals as goal

pub returns-then-not-has_read_object-clause-inner : goal.returns-then-not-has_read_object-clause-inner
returns-then-not-has_read_object-clause-inner c = tail_inside c.take.result c.args.text.now c.args.self.now.outside c.take.new.self c.args.at c.args.self.now.inner c.take.ensures.taken c.requires.inner

pub returns-clause-taken : goal.returns-clause-taken
returns-clause-taken c =
    let text = c.args.text.now in
    let m = c.args.self.now.outside in
    let n = c.read_front.new.self in
    let read = c.has_read_object.ensures c.if-not-has_read_object.false in
    let o = rest_read text (take (length text - c.args.at) (drop c.args.at text)) m n c.args.at c.in_ok-size.size refl c.requires.byte c.requires.phase c.requires.frames c.in_ok-size.ensures.read c.in_ok-size.ensures.place read.0 read.2 in
    object_taken text m c.pass_value.new.self c.args.at c.in_ok-size.size c.skip.result n.deepest o.outside c.in_ok-pass_value.ensures c.skip.ensures.range.0 c.skip.ensures.range.1 c.skip.ensures.skipped

pub returns-clause-inner : goal.returns-clause-inner
returns-clause-inner c =
    let text = c.args.text.now in
    let m = c.args.self.now.outside in
    let n = c.read_front.new.self in
    let end = c.args.at + c.in_ok-size.size in
    let read = c.has_read_object.ensures c.if-not-has_read_object.false in
    let o = rest_read text (take (length text - c.args.at) (drop c.args.at text)) m n c.args.at c.in_ok-size.size refl c.requires.byte c.requires.phase c.requires.frames c.in_ok-size.ensures.read c.in_ok-size.ensures.place read.0 read.2 in
    let padded = subst (λ (k : ℕ). IsPadded k c.args.self.now.inner c.pad.new.inner) c.len.ensures c.in_ok-pad.ensures in
    let pushed = c.in_ok-push.ensures.ok ∙ ap (λ (l : List Member). c.pad.new.inner ++ Some l ∷ []) c.replace.ensures.value in
    subst (λ (s : Machine). AreReadInside text s.cutter.members c.push.new.self) (sym c.in_ok-pass_value.ensures)
    (one_more_inside text m c.args.at end n.deepest c.args.self.now.inner c.pad.new.inner c.push.new.self n.cutter.members c.requires.frames c.requires.inner padded pushed o.alone)
