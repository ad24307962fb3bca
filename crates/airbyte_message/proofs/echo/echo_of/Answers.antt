use Rattle.std.proofs.Common.{List, Option, ◌++◌, arith, flat_map, IfSome, subst, ap, ◌∙◌}
use Rattle.airbyte_message.specs.Echo.{member_text}
use Rattle.json_span.specs.declared.Member.{Member}
use Rattle.json_fields.specs.Fields.{IsCut, line_depth}
use Rattle.json_fields.proofs.AnswerLemmas.{uncut}
use Rattle.airbyte_message.proofs.EchoBack.{echo_back}
use Rattle.airbyte_message.proofs.EchoLemmas.{echo_is, state_is_cut}
use Rattle.airbyte_message.proofs.echo.echo_of.Goals as goal

pub unreachable-requires : goal.unreachable-requires
unreachable-requires c =
    state_is_cut c.args.state.now.object c.as_slice-object.result.now (c.as_slice-object.ensures.text ∙ c.object.ensures.object) c.object.ensures.state.nests (uncut line_depth c.as_slice-object.result.now c.in_ok-members.field-0 c.in_default.is c.in_ok-members.ensures.none)

pub returns : goal.returns
returns c =
    let object = c.args.state.now.object in
    let shown = c.as_slice-object.result.now in
    let cut : IsCut shown c.in-Some.members = subst (λ (f : Option (List Member)). IfSome f (IsCut shown)) c.in-Some.is c.in_ok-members.ensures.cut in
    let told = c.in_ok-put_raw_members.ensures ∙ ap (λ (ms : List Member). c.extend.new.self ++ flat_map (member_text shown) ms) c.as_slice.ensures in
    let echo = echo_is object shown c.in-Some.members c.in_ok-kept.kept c.args.count c.in_ok-echo.echo c.extend.new.self c.put_raw_members.new.echo c.extend-2.new.self c.put_number.new.text c.extend-3.new.self
    (c.as_slice-object.ensures.text ∙ c.object.ensures.object) cut c.in_ok-kept.ensures.kept.is c.in_ok-echo.ensures c.in_ok-extend.ensures.ok told c.in_ok-extend-2.ensures.ok c.in_ok-put_number.ensures.ok c.in_ok-extend-3.ensures.ok in
    record { echo = echo; reads_back = echo_back c.args.state.now c.args.count c.extend-3.new.self c.object.ensures.state (let small = c.ranges.count in omega arith) echo }
