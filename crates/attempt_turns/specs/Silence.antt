-- What a turn brings, and how silence is counted.
use Rattle.std.specs.Prelude.{◌≡◌, ◌⊎◌, ℕ, ◌+◌, ◌-◌, ◌*◌, ◌<◌, List, [], fold, length, option_to_list, Bool, true, false, ◌&&◌, ◌||◌, not, is_none, is_some, if◌then◌else◌, Option, None, Some}
use Rattle.std.specs.List.{list_any}
use Rattle.basics.specs.Told.{RoseBy}
use Rattle.outside.specs.Desk.{DeskSeen}
use Rattle.outside.specs.Link.{Seen, Told}
use Rattle.outside.specs.declared.event.Codes.{Codes}
use Rattle.outside.specs.declared.event.Event.{Event}
use Rattle.outside.specs.declared.event.Event.TheVariants as event
use Rattle.outside.specs.declared.link.LinkCounts.{LinkCounts}
use Rattle.sync_ledger.specs.declared.notes.TheConstants.{MOST_LINES}
use Rattle.attempt_turns.specs.Acts.{Act, events_in}
use Rattle.attempt_turns.specs.History.{RanSo, State}
use Rattle.attempt_turns.specs.declared.worker.Moved.{Moved}
use Rattle.attempt_turns.specs.declared.worker.Moved.TheVariants as moved
use Rattle.attempt_turns.specs.declared.worker.Worker.{Worker}

-- the events from which silence is counted anew, and those that a turn brings
abbrev pub breaks_silence : Event → Bool
breaks_silence (event.Started plan) = true
breaks_silence (event.ReadLine text) = true
breaks_silence (event.Given text) = true
breaks_silence (event.Got text) = true
breaks_silence event = false

abbrev pub brings : Event → Bool
brings (event.ReadLine text) = true
brings event.ReadEnd = true
brings (event.Given text) = true
brings (event.Got text) = true
brings event.GotEnd = true
brings event = false

-- a code became known
abbrev pub Learned : Codes → Codes → Type 0
Learned old now = ((old.source ≡ None) × (is_some now.source ≡ true)) ⊎ ((old.dest ≡ None) × (is_some now.dest ≡ true))

-- what a turn that moved has to show
abbrev pub Brought : List Act → Codes → Codes → Type 0
Brought acts old now = (list_any brings (events_in acts) ≡ true) ⊎ Learned old now

-- What a step shows by its acts: where it moved what it brought, and where it did not that nothing was told.
abbrev pub Shows : Moved → Seen → Seen → List Act → Type 0
Shows moved.Yes old new acts = Brought acts old.face.codes new.face.codes
Shows moved.No old new acts = events_in acts ≡ []

abbrev pub Steps : Moved → State → State → Seen → Seen → DeskSeen → DeskSeen → Type 0
Steps moved A B old new desk_old desk_new = RanSo (Shows moved old new) A B old new desk_old desk_new

-- a step that did not move leaves its worker as it was
abbrev pub Rested : Moved → Worker → Worker → Type 0
Rested moved.Yes old new = Unit {0}
Rested moved.No old new = new ≡ old

-- How many steps of an attempt can still move: each line is read once and given once at most, each line comes back once, and each output
-- ends once.
abbrev pub left : Worker → ℕ
left w =
    2 * (MOST_LINES - w.ledger.lines) + (MOST_LINES + 1 - w.got_lines) + length (option_to_list w.held)
    + (if w.read_over then 0 else 1) + (if w.got_over then 0 else 1)

abbrev pub Fewer : Moved → Worker → Worker → Type 0
Fewer moved.Yes old new = left new < left old
Fewer moved.No old new = Unit {0}

-- Which counts are named in a row of quiet turns: of the source, while its output or a line for the destination is waited for; of codes,
-- where an output has ended whose code is unknown.
abbrev pub names_source : Worker → Codes → Bool
names_source w codes = not (w.read_over && (w.closed || (is_none w.held && (is_none codes.source || w.got_over))))

abbrev pub names_codes : Worker → Codes → Bool
names_codes w codes = (w.read_over && is_none codes.source) || (w.got_over && is_none codes.dest)

-- so many quiet turns stand behind these counts
pub record Waited (turns : ℕ) (w : Worker) (from : LinkCounts) (now : Seen) : Type 0 where
  pub waits : RoseBy turns from.waits now.counts.waits
  pub dest : w.got_over ≡ false → RoseBy turns from.quiet_dest now.counts.quiet_dest
  pub source : names_source w now.face.codes ≡ true → RoseBy turns from.quiet_source now.counts.quiet_source
  pub codes : names_codes w now.face.codes ≡ true → RoseBy turns from.quiet_codes now.counts.quiet_codes

-- the counts at the last event that breaks silence, and these where none is told
abbrev pub counted_from : LinkCounts → Option (List (Told Event LinkCounts)) → LinkCounts
counted_from begin None = begin
counted_from begin (Some trace) = fold (λ from told. if breaks_silence told.event then told.counts else from) begin trace
