use Rattle.std.proofs.Common.{Err}
use Rattle.json_fields.specs.Answer.{IsOnly}
use Rattle.source_lines.specs.Begins.{BeginsAs}
use Rattle.source_lines.proofs.FeedLemmas.{not_ready}
use Rattle.source_lines.proofs.BeginLemmas.{each_starts}
use Rattle.source_lines.proofs.feed.begun.Goals as goal

pub new-requires : goal.new-requires
new-requires g c =
    each_starts g.S.StreamSource.Starts (g.S.StreamSource.seen c.args.source.now).is_known c.args.catalog.now c.args.states.now c.in_ok-streams.streams c.in_ok-streams.starts c.in_ok-streams.ensures.read.is

pub returns-in_err-make_ready-clause-refused : goal.returns-in_err-make_ready-clause-refused
returns-in_err-make_ready-clause-refused g c =
    not_ready c.from_residual-in_err-make_ready.result c.in_err-make_ready.field-0.0 (λ why. IsOnly (BeginsAs g.S.StreamSource.Starts (g.S.StreamSource.seen c.args.source.now).is_known c.args.catalog.now c.args.states.now) (Err why)) c.from_residual-in_err-make_ready.ensures.1 c.in_err-make_ready.ensures.refused
