use Rattle.std.proofs.Common.{◌≡◌, map}
use Rattle.script_link.specs.Trace.{at_first}
use Rattle.script_link.proofs.link_trace.LinkTrace.of_events.Given as goal

-- the events so far, at which nothing was counted
abbrev pub invariant-loop-event : goal.invariant-loop-event
invariant-loop-event l = l.trace ≡ map at_first l.yielded
