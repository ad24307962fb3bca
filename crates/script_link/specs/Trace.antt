-- The trace of a link that plays scripts.
use Rattle.std.specs.Prelude.{List, [], ◌∷◌, ◌++◌, filter, map, Option, None, Some}
use Rattle.outside.specs.Event.{is_links}
use Rattle.outside.specs.Link.{Told}
use Rattle.outside.specs.declared.event.Event.{Event}
use Rattle.outside.specs.declared.link.LinkCounts.{LinkCounts}
use Rattle.script_link.specs.declared.link_trace.ToldAt.{ToldAt}

abbrev pub ToldEvent : Type 0
ToldEvent = Told Event LinkCounts

abbrev pub told : Event → LinkCounts → ToldEvent
told event counts = record { event = event; counts = counts }

-- the trace of a list of events with counts
abbrev pub trace_of : List ToldAt → List ToldEvent
trace_of list = map (λ at. told at.event at.counts) list

abbrev pub no_counts : LinkCounts
no_counts = record { state_faults = 0; link_faults = 0; quiet_source = 0; quiet_dest = 0; quiet_codes = 0; waits = 0 }

-- an event at which nothing was counted
abbrev pub at_first : Event → ToldEvent
at_first event = told event no_counts

-- the events of a trace that a link adds by itself
abbrev pub events_in : List ToldEvent → List Event
events_in trace = filter is_links (map (λ told. told.event) trace)

-- a trace with this event behind it, where there is one
abbrev pub with_event : Option Event → LinkCounts → List ToldEvent → List ToldEvent
with_event None counts trace = trace
with_event (Some event) counts trace = trace ++ told event counts ∷ []
