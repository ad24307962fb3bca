-- A link to nothing: what it counts, and what its calls leave.
use Rattle.std.specs.Prelude.{ℕ, ◌+◌, ◌-◌, ◌^◌, min, Bool, false, None}
use Rattle.outside.specs.Link.{Seen, no_codes}
use Rattle.outside.specs.declared.link.LinkCounts.{LinkCounts}
use Rattle.outside.specs.declared.link.PollKind.{PollKind}
use Rattle.outside.specs.declared.link.PollKind.TheVariants as kind

-- what contracts see of it
pub record NoLinkState : Type 0 where
  pub counts : LinkCounts
  pub running : Bool
  pub input_open : Bool
  pub source_poll : PollKind
  pub dest_poll : PollKind

-- it tells no trace, and no code is known
abbrev pub seen_of : NoLinkState → Seen
seen_of link = record {
  trace = None;
  counts = link.counts;
  face = record { running = link.running; input_open = link.input_open; codes = no_codes; source_poll = link.source_poll; dest_poll = link.dest_poll };
}

-- never started, and nothing counted
abbrev pub begun : NoLinkState
begun = record {
  counts = record { state_faults = 0; link_faults = 0; quiet_source = 0; quiet_dest = 0; quiet_codes = 0; waits = 0 };
  running = false;
  input_open = false;
  source_poll = kind.Other;
  dest_poll = kind.Other;
}

-- a count one higher; it stands still at its type's end
abbrev pub one_more : ℕ → ℕ
one_more count = min (count + 1) (2 ^ 64 - 1)

abbrev pub state_fault_counted : NoLinkState → NoLinkState
state_fault_counted link = record link { counts = record (link.counts) { state_faults = one_more link.counts.state_faults } }

abbrev pub link_fault_counted : NoLinkState → NoLinkState
link_fault_counted link = record link { counts = record (link.counts) { link_faults = one_more link.counts.link_faults } }

abbrev pub quiet_codes_counted : NoLinkState → NoLinkState
quiet_codes_counted link = record link { counts = record (link.counts) { quiet_codes = one_more link.counts.quiet_codes } }

abbrev pub wait_counted : NoLinkState → NoLinkState
wait_counted link = record link { counts = record (link.counts) { waits = one_more link.counts.waits } }

-- both children are ended
abbrev pub shut : NoLinkState → NoLinkState
shut link = record link { running = false; input_open = false }
