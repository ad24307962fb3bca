use Rattle.std.proofs.Common.{arith, List, ℕ, ◌<◌, ◌≤◌, Option, sym, subst, length}
use Rattle.std.proofs.lemmas.Option.{get_or_from_slice_get}
use Rattle.json_fields.specs.Answer.{IsOnly}
use Rattle.json_fields.proofs.AnswerLemmas.{along}
use Rattle.catalog.proofs.ListLemmas.{loop_all, loop_more, loop_none}
use Rattle.catalog.specs.declared.stream.ConfStream.{ConfStream}
use Rattle.source_lines.specs.Begins.{blob_in}
use Rattle.source_lines.proofs.BeginLemmas.{blob_at}
use Rattle.source_lines.proofs.begin.starts_of.Goals as goal

pub returns-in_default : goal.returns-in_default
returns-in_default g c =
    let number = c.loop-number.number in
    let stream = c.stream-stream.result.now in
    let streams = c.args.streams.now in
    let R : ConfStream → g.row.S-Start.Denot → Type 0 = λ s start. g.S.StreamSource.Starts s (blob_in c.args.states.now s.id) start in
    let within : number < length streams = omega (arith, c.loop-number-test.true, c.len-number-end.ensures.len) in
    let is_blob = blob_at c.args.states.now streams c.in_ok-blobs.blobs number stream c.at.result.now c.in_ok-blobs.ensures c.stream-stream.ensures.stream c.at.ensures in
    let none = along (g.S.StreamSource.Starts stream c.at.result.now) c.in_default.is c.in_ok-start.ensures in
    let is_here = get_or_from_slice_get streams number stream stream c.stream-stream.ensures.stream in
    loop_none R streams number stream within (λ start is. none start (subst (λ (blob : Option (List ℕ)). g.S.StreamSource.Starts stream blob start) (sym is_blob) (subst (λ (s : ConfStream). R s start) is_here is)))

pub loop-number-preserved : goal.loop-number-preserved
loop-number-preserved g c =
    let number = c.loop-number.number in
    let stream = c.stream-stream.result.now in
    let streams = c.args.streams.now in
    let R : ConfStream → g.row.S-Start.Denot → Type 0 = λ s start. g.S.StreamSource.Starts s (blob_in c.args.states.now s.id) start in
    let within : number < length streams = omega (arith, c.loop-number-test.true, c.len-number-end.ensures.len) in
    let is_blob = blob_at c.args.states.now streams c.in_ok-blobs.blobs number stream c.at.result.now c.in_ok-blobs.ensures c.stream-stream.ensures.stream c.at.ensures in
    let one = along (g.S.StreamSource.Starts stream c.at.result.now) c.in-Some.is c.in_ok-start.ensures in
    let is_here = get_or_from_slice_get streams number stream stream c.stream-stream.ensures.stream in
    let here = subst (λ (s : ConfStream). IsOnly (R s) c.in-Some.start) (sym is_here) (subst (λ (blob : Option (List ℕ)). IsOnly (g.S.StreamSource.Starts stream blob) c.in-Some.start) is_blob one) in
    loop_more R streams number stream c.loop-number.starts c.push.new.self c.in-Some.start within c.in_ok-push.ensures.ok here c.loop-number.invariant

pub returns : goal.returns
returns g c =
    let R : ConfStream → g.row.S-Start.Denot → Type 0 = λ s start. g.S.StreamSource.Starts s (blob_in c.args.states.now s.id) start in
    let done : length c.args.streams.now ≤ c.loop-number.number = omega (arith, c.loop-number-test.false, c.len-number-end.ensures.len) in
    loop_all R c.args.streams.now c.loop-number.number c.loop-number.starts done c.loop-number.invariant
