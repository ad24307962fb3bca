-- How an attempt ends behind its turns.
use Rattle.std.proofs.Common.{arith, ◌≡◌, ◌⊎◌, inl, inr, ℕ, ◌+◌, ◌*◌, ◌-◌, ◌<◌, ◌≤◌, List, Bool, true, false, Option, None, Some, IsTrue, refl, sym, ◌∙◌, ap, subst}
use Rattle.std.proofs.lemmas.Bool.{false≢true}
use Rattle.std.proofs.Math.Nat.{mul-le-mul_left}
use Rattle.basics.specs.Told.{Rose, RoseBy}
use Rattle.basics.specs.declared.stream.StreamId.{StreamId}
use Rattle.outside.specs.Desk.{DeskSeen}
use Rattle.outside.specs.Link.{Seen, Grew, KeepsCodes, KeepsExit, NoneAbove, own_events}
use Rattle.outside.specs.declared.event.Codes.{Codes}
use Rattle.outside.specs.declared.event.Exit.{Exit}
use Rattle.outside.specs.declared.event.Exit.TheVariants.{Code}
use Rattle.outside.specs.declared.link.LinkCounts.{LinkCounts}
use Rattle.outside.specs.declared.link.LinkFace.{LinkFace}
use Rattle.outside.specs.declared.status.Status.{Status}
use Rattle.outside.specs.declared.status.Status.TheVariants as status
use Rattle.catalog.specs.Reading.{ids_of}
use Rattle.catalog.specs.declared.stream.ConfStream.{ConfStream}
use Rattle.load_rules.specs.Prefixes.{IsPrefix}
use Rattle.load_rules.specs.Lines.{Reading}
use Rattle.load_rules.specs.Attempts.{gives, passed}
use Rattle.sync_rules.specs.Calls.{Call}
use Rattle.sync_rules.specs.Sync.{Running, texts}
use Rattle.attempt_turns.specs.Acts.{Place}
use Rattle.attempt_turns.specs.Ends.{CanStop, Causes, Ends, Knows, TurnCause}
use Rattle.attempt_turns.specs.History.{KeepsDesk, Ran, State}
use Rattle.attempt_turns.specs.Worker.{Live, Stands}
use Rattle.attempt_turns.specs.declared.worker.Moved.{Moved}
use Rattle.attempt_turns.specs.declared.worker.Moved.TheVariants as moved
use Rattle.attempt_turns.specs.declared.worker.Worker.{Worker}
use Rattle.attempt_turns.proofs.EndLemmas.{clean, desk_same}
use Rattle.attempt_turns.proofs.Ways.{grew_none, grew_then, ran_then}
use Rattle.attempt_close.specs.Codes.{EndsBehind, IsFaultEnd}
use Rattle.attempt_close.specs.Ended.{Awaits, EndedBy, HasEnded}
use Rattle.attempt_close.specs.Turns.{Begins, Fits, IsSettled, Rests, SilentSince, Turned, WasSilent, quiet_after}
use Rattle.attempt_close.proofs.Counting.{Quiet, rose_to, row_begins, row_goes_on, row_is_silent}
use Rattle.attempt_close.proofs.Ending.{cause_ended, so_ended}
use Rattle.attempt_close.proofs.Ways.{end_way, idle_way}

-- ---- the codes were looked at behind a failed call

kept_code : (a b : Option Exit) → KeepsExit a b → a ≡ Some (Code 0) → b ≡ Some (Code 0)
kept_code None b keeps is = absurd (let e : None ≡ Some (Code 0) = is in cc)
kept_code (Some exit) b keeps is = keeps ∙ is

fault_state : status.LinkFault ≡ status.StateFault → ⊥
fault_state e = cc

knows_by : (streams : List ConfStream) (read : Reading) (own : Running) (w : Worker) (face now : LinkFace) → now ≡ record face { codes = now.codes } → Knows w (ids_of streams) read face own → Knows w (ids_of streams) read now own
knows_by streams read own w face now same is = record {
  read_so = is.read_so;
  got_so = is.got_so;
  closed = is.closed;
  opened = λ opened known. is.opened opened (by known);
  held = is.held;
}
  where
    by : (w.got_over ≡ true) ⊎ IsTrue now.input_open → (w.got_over ≡ true) ⊎ IsTrue face.input_open
    by (inl over) = inl over
    by (inr open_so) = inr (subst (λ (it : LinkFace). IsTrue it.input_open) same open_so)

stop_by : (streams : List ConfStream) (read : Reading) (face now : LinkFace) (here : Place) → KeepsCodes face.codes now.codes → now ≡ record face { codes = now.codes } → (face.running ≡ true → CanStop streams read face here) → now.running ≡ true → CanStop streams read now here
stop_by streams read face now here keeps same stop running =
    let is = stop (sym (ap (λ (it : LinkFace). it.running) same) ∙ running) in
    record { number = is.number; attempt = is.attempt; runs = is.runs; going = is.going; rightly = by is.attempt is.rightly }
  where
    by : (own : Running) → IsPrefix (gives own.events) (texts (passed (ids_of streams) read own.events)) ⊎ (face.codes.source ≡ Some (Code 0)) → IsPrefix (gives own.events) (texts (passed (ids_of streams) read own.events)) ⊎ (now.codes.source ≡ Some (Code 0))
    by own (inl front) = inl front
    by own (inr code) = inr (kept_code face.codes.source now.codes.source keeps.source code)

-- the end of an attempt by its link is one by the codes that are known
fault_end : (end : Status) (w : Worker) (face now : LinkFace) (call : Call) (streams : List ConfStream) (read : Reading) (here : Place) (said : List (List ℕ)) → IsFaultEnd end now.codes → KeepsCodes face.codes now.codes → now ≡ record face { codes = now.codes }
    → Ends status.LinkFault face w call streams read here said → Ends end now w call streams read here said
fault_end (status.SourceFailed exit) w face now call streams read here said is keeps same ends = record {
  begun = ends.begun;
  number = ends.number;
  ended = ends.ended;
  failed = λ failed. absurd (fault_state (ends.failed failed));
  set = ends.set;
  paid = ends.paid;
  so = λ own_number. (let own = ends.so own_number in (own.0, own.1, own.2.0));
  knows = λ again own_number. (let own = ends.knows again own_number in (own.0, own.1, knows_by streams read own.0 w face now same own.2));
  unstarted = ends.unstarted;
  can_stop = λ running. stop_by streams read face now here keeps same ends.can_stop running;
  said_so = ends.said_so;
}
fault_end (status.DestFailed exit) w face now call streams read here said is keeps same ends = record {
  begun = ends.begun;
  number = ends.number;
  ended = ends.ended;
  failed = λ failed. absurd (fault_state (ends.failed failed));
  set = ends.set;
  paid = ends.paid;
  so = λ own_number. (let own = ends.so own_number in (own.0, own.1, (own.2.0, λ through. (own.2.1 through).0)));
  knows = λ again own_number. (let own = ends.knows again own_number in (own.0, own.1, knows_by streams read own.0 w face now same own.2));
  unstarted = ends.unstarted;
  can_stop = λ running. stop_by streams read face now here keeps same ends.can_stop running;
  said_so = ends.said_so;
}
fault_end status.LinkFault w face now call streams read here said is keeps same ends = record {
  begun = ends.begun;
  number = ends.number;
  ended = ends.ended;
  failed = λ failed. absurd (fault_state (ends.failed failed));
  set = ends.set;
  paid = ends.paid;
  so = λ own_number. ends.so own_number;
  knows = λ again own_number. (let own = ends.knows again own_number in (own.0, own.1, knows_by streams read own.0 w face now same own.2));
  unstarted = ends.unstarted;
  can_stop = λ running. stop_by streams read face now here keeps same ends.can_stop running;
  said_so = ends.said_so;
}
fault_end end w face now call streams read here said is keeps same ends = absurd is

-- ---- the end of a turn is that of the attempt

pub behind_way : (before end : Status) (w now : Worker) (x y z : Seen) (d e : DeskSeen) → Ran (Stands w) (Ends before y.face now) x y d e → Grew y z → own_events z ≡ own_events y → KeepsCodes y.face.codes z.face.codes → z.face ≡ record (y.face) { codes = z.face.codes } → EndsBehind before end y z
    → Ran (Stands w) (Ends end z.face now) x z d e
behind_way status.LinkFault end w now x y z d e ran grew events keeps face is = ran_then (Stands w) (Ends status.LinkFault y.face now) (Ends end z.face now) x y z d e e ran
    (idle_way (Ends status.LinkFault y.face now) (Ends end z.face now) y z e e events grew refl (desk_same e) (λ call streams read here said ends. fault_end end now y.face z.face call streams read here said is keeps face ends))
behind_way before end w now x y z d e ran grew events keeps face is = subst (λ it. Ran (Stands w) (Ends it z.face now) x z d e) (sym is.0) (subst (λ (it : Seen). Ran (Stands w) (Ends before it.face now) x it d e) (sym is.1) ran)

pub cause_behind : (before end : Status) (w : Worker) (x y z : Seen) (d e : DeskSeen) → TurnCause before x y d e → Grew y z → EndsBehind before end y z → Causes end w x.counts d.say_faults z e.say_faults
cause_behind status.LinkFault end w x y z d e cause grew is = by end is
  where
    rose : Rose x.counts.link_faults z.counts.link_faults
    rose = rose_to 1 x.counts.link_faults y.counts.link_faults z.counts.link_faults cause grew.counts.link_faults

    by : (last : Status) → IsFaultEnd last z.face.codes → Causes last w x.counts d.say_faults z e.say_faults
    by (status.SourceFailed exit) known = (known.0, known.1, inr (inr rose))
    by (status.DestFailed exit) known = (known.0, known.1, inr rose, known.2)
    by status.LinkFault known = (rose, known.0, known.1)
    by last known = absurd known
cause_behind status.SayFault end w x y z d e cause grew is = subst (λ it. Causes it w x.counts d.say_faults z e.say_faults) (sym is.0) cause
cause_behind status.StateFault end w x y z d e cause grew is = subst (λ it. Causes it w x.counts d.say_faults z e.say_faults) (sym is.0) (rose_to 1 x.counts.state_faults y.counts.state_faults z.counts.state_faults cause grew.counts.state_faults)
cause_behind (status.SourceBreach why line) end w x y z d e cause grew is = subst (λ it. Causes it w x.counts d.say_faults z e.say_faults) (sym is.0) tt
cause_behind (status.DestBreach why line) end w x y z d e cause grew is = subst (λ it. Causes it w x.counts d.say_faults z e.say_faults) (sym is.0) tt
cause_behind (status.ConfigError from line) end w x y z d e cause grew is = subst (λ it. Causes it w x.counts d.say_faults z e.say_faults) (sym is.0) tt
cause_behind status.TooManyLines end w x y z d e cause grew is = subst (λ it. Causes it w x.counts d.say_faults z e.say_faults) (sym is.0) tt
cause_behind status.NoMemory end w x y z d e cause grew is = subst (λ it. Causes it w x.counts d.say_faults z e.say_faults) (sym is.0) tt
cause_behind before end w x y z d e cause grew is = absurd cause

-- ---- the beginning

pub fits_first : (ids : List StreamId) (w : Worker) (seen : Seen) → Begins ids w seen → Fits ids w seen.face.codes
fits_first ids w seen begins = record {
  ids_are = begins.ids_are;
  own_line = λ own. absurd (false≢true (sym begins.not_completing ∙ own));
  reads_first = λ going. begins.opened;
  closed_known = λ closed. absurd (false≢true (sym begins.opened ∙ closed));
}

pub settled_first : (ids : List StreamId) (w : Worker) (seen : Seen) → Begins ids w seen → IsSettled w seen.face.codes
settled_first ids w seen begins over empty known going = absurd (false≢true (sym begins.reads ∙ over))

-- ---- the end by what is known

pub ended_way : (end : Status) (ids : List StreamId) (w : Worker) (seen : Seen) (known : Codes) (desk : DeskSeen) → known ≡ seen.face.codes → EndedBy end w known → Fits ids w seen.face.codes → Live w seen → Ran (Stands w) (Ends end seen.face w) seen seen desk desk
ended_way end ids w seen known desk same is fits live =
    let ended : EndedBy end w seen.face.codes = subst (EndedBy end w) same is in
    end_way end w seen seen desk desk live.completed refl (grew_none seen) refl (desk_same desk) (λ streams read own on. so_ended end ids w seen ended fits live streams read own on)

pub ended_cause : (end : Status) (ids : List StreamId) (w : Worker) (from : LinkCounts) (say : ℕ) (now : Seen) (said : ℕ) (known : Codes) → known ≡ now.face.codes → EndedBy end w known → Fits ids w now.face.codes → Causes end w from say now said
ended_cause end ids w from say now said known same is fits = cause_ended end ids w from say now said (subst (EndedBy end w) same is) fits

-- ---- silence

pub silent_way : (waits : ℕ) (w : Worker) (seen : Seen) (desk : DeskSeen) → Live w seen → Ran (Stands w) (Ends (status.Silent waits) seen.face w) seen seen desk desk
silent_way waits w seen desk live = end_way (status.Silent waits) w seen seen desk desk live.completed refl (grew_none seen) refl (desk_same desk) (λ streams read own on. clean w streams read own on)

pub row_turn : (kind : Moved) (turns : ℕ) (w now : Worker) (old between new : Seen) → Grew old between → Grew between new → Quiet turns w old between → Turned kind w now between new → Quiet (quiet_after turns kind) now old new
row_turn moved.Yes turns w now old between new first then quiet turned = row_begins now old new (grew_then old between new first then)
row_turn moved.No turns w now old between new first then quiet turned = subst (λ (it : Worker). Quiet (turns + 1) it old new) (sym turned.same) (row_goes_on turns w old between new first then quiet (subst (λ (it : Worker). Rests w it between new) turned.same turned))

pub few_turns : (kind : Moved) (turns now : ℕ) → turns < 5400 → now ≡ quiet_after turns kind → (now ≡ 5400 → ⊥) → now < 5400
few_turns moved.Yes turns now few is not_all = omega (arith, is)
few_turns moved.No turns now few is not_all = omega (arith, few, is, not_all)

pub awaits_by : (found : Option Status) (w : Worker) (known : Codes) → HasEnded found w known → ((end : Status) → found ≡ Some end → ⊥) → Awaits w known
awaits_by None w known is none = is
awaits_by (Some end) w known is none = absurd (none end refl)

pub silent_so : (kind : Moved) (turns now_turns : ℕ) (w now : Worker) (old between new : Seen) (known : Codes) → now_turns ≡ quiet_after turns kind → now_turns ≡ 5400 → known ≡ between.face.codes → Awaits w known → Grew old between → Grew between new → Quiet turns w old between
    → Turned kind w now between new → Live now new → WasSilent now old new
silent_so moved.Yes turns now_turns w now old between new known is all same awaits first then quiet turned live = absurd (omega (arith, is, all))
silent_so moved.No turns now_turns w now old between new known is all same awaits first then quiet turned live = record {
  since = subst (λ n. SilentSince n now old new) (sym is ∙ all) (row_is_silent (turns + 1) now old new (row_turn moved.No turns w now old between new first then quiet turned));
  awaits = subst (λ (it : Worker). Awaits it new.face.codes) (sym turned.same) (subst (Awaits w) (same ∙ sym turned.codes) awaits);
  opened = live.input_open;
}
