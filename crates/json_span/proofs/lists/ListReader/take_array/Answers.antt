use Rattle.std.proofs.Common.{Some, ◌+◌, ◌-◌, length, take, drop, refl, subst, sym}
use Rattle.json_span.specs.Lists.{IsListRead}
use Rattle.json_span.specs.declared.machine.Machine.{Machine}
use Rattle.json_span.proofs.Reading.{object_taken}
use Rattle.json_span.proofs.ListReading.{none_listed, rest_read, keeps_list}
use Rattle.json_span.proofs.lists.ListReader.take_array.Goals as goal

pub returns-then-not-has_read_array-clause-list : goal.returns-then-not-has_read_array-clause-list
returns-then-not-has_read_array-clause-list c = none_listed c.take.result c.args.text.now c.take.new.self.cutter.members c.args.self.now.listed c.read_front.new.self.cutter.elements c.requires.listed

pub returns-clause-taken : goal.returns-clause-taken
returns-clause-taken c =
    let text = c.args.text.now in
    let m = c.args.self.now.outside in
    let n = c.read_front.new.self in
    let read = c.has_read_array.ensures c.if-not-has_read_array.false in
    let o = rest_read text (take (length text - c.args.at) (drop c.args.at text)) m n c.args.at c.in_ok-size.size refl c.requires.byte c.requires.phase c.requires.frames c.in_ok-size.ensures.read c.in_ok-size.ensures.place read.0 read.1 read.2 in
    object_taken text m c.pass_value.new.self c.args.at c.in_ok-size.size c.skip.result n.deepest o.outside c.in_ok-pass_value.ensures c.skip.ensures.range.0 c.skip.ensures.range.1 c.skip.ensures.skipped

pub returns-clause-list : goal.returns-clause-list
returns-clause-list c =
    let text = c.args.text.now in
    let m = c.args.self.now.outside in
    let n = c.read_front.new.self in
    let end = c.args.at + c.in_ok-size.size in
    let read = c.has_read_array.ensures c.if-not-has_read_array.false in
    let o = rest_read text (take (length text - c.args.at) (drop c.args.at text)) m n c.args.at c.in_ok-size.size refl c.requires.byte c.requires.phase c.requires.frames c.in_ok-size.ensures.read c.in_ok-size.ensures.place read.0 read.1 read.2 in
    subst (λ s. IsListRead text c.pass_value.new.self.cutter.members (Some s) n.cutter.elements) (sym c.len.ensures)
    (subst (λ (s : Machine). IsListRead text s.cutter.members (Some (length m.cutter.members)) n.cutter.elements) (sym c.in_ok-pass_value.ensures)
    (keeps_list text m c.args.at end n.deepest n.cutter.elements c.requires.frames o.alone))
