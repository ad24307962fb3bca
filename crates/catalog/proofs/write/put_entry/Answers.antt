use Rattle.std.proofs.Common.{List, Option, IfSome, subst, arith}
use Rattle.json_span.specs.declared.Member.{Member}
use Rattle.json_fields.specs.Fields.{IsCut, line_depth}
use Rattle.json_fields.proofs.AnswerLemmas.{uncut}
use Rattle.catalog.specs.Written.{GrowsByKept}
use Rattle.catalog.proofs.WriteLemmas.{entry_grows}
use Rattle.catalog.proofs.write.put_entry.Goals as goal

pub unreachable-requires : goal.unreachable-requires
unreachable-requires c =
    let none = uncut line_depth c.args.entry.now c.in_ok-members.field-0 c.in_default.is c.in_ok-members.ensures.none in
    let o = c.requires.object in
    let within = o.within in
    none c.requires.members (record { deep = o.deep; within = omega arith; object = o.object })

pub returns : goal.returns
returns c =
    let cut = subst (λ (f : Option (List Member)). IfSome f (IsCut c.args.entry.now)) c.in-Some.is c.in_ok-members.ensures.cut in
    let kept = subst (λ (ms : List Member). GrowsByKept c.args.entry.now ms c.in_ok-mark.mark c.args.text.now c.put_kept.new.text) c.as_slice.ensures c.in_ok-mark.ensures in
    entry_grows c.args.entry.now c.args.numbers c.in-Some.members c.in_ok-mark.mark c.args.text.now c.put_kept.new.text c.put_number_member.new.text c.put_number_member-2.new.text c.push.new.self cut.are kept c.in_ok-put_number_member.ensures.ok c.in_ok-put_number_member-2.ensures.ok c.in_ok-push.ensures.ok
