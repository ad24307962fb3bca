-- A worker changes by itself, or its attempt ends where it stands.
use Rattle.std.proofs.Common.{arith, ◌≡◌, ◌⊎◌, inl, inr, ℕ, zero, suc, ◌<◌, ◌≤◌, List, [], ◌∷◌, ◌++◌, Bool, true, false, Option, None, Some, refl, sym, ◌∙◌, ap, subst, append-nil}
use Rattle.std.proofs.lemmas.Bool.{false≢true}
use Rattle.outside.specs.Desk.{DeskSeen}
use Rattle.outside.specs.Link.{Seen, Grew, own_events}
use Rattle.outside.specs.declared.event.Codes.{Codes}
use Rattle.outside.specs.declared.link.LinkFace.{LinkFace}
use Rattle.outside.specs.declared.status.Status.{Status}
use Rattle.outside.specs.declared.status.Status.TheVariants as status
use Rattle.catalog.specs.Reading.{ids_of}
use Rattle.catalog.specs.declared.stream.ConfStream.{ConfStream}
use Rattle.load_rules.specs.Prefixes.{IsPrefix}
use Rattle.load_rules.specs.Lines.{Reading}
use Rattle.load_rules.specs.Attempts.{gives, passed}
use Rattle.sync_rules.specs.Calls.{Call}
use Rattle.sync_rules.specs.Sync.{Running, texts}
use Rattle.attempt_turns.specs.Acts.{Place}
use Rattle.attempt_turns.specs.Ends.{Ends, EndsSo}
use Rattle.attempt_turns.specs.History.{KeepsDesk, Ran, State}
use Rattle.attempt_turns.specs.Silence.{Steps}
use Rattle.attempt_turns.specs.Worker.{HasCode, IsOn, Stands}
use Rattle.attempt_turns.specs.declared.worker.Moved.TheVariants as moved
use Rattle.attempt_turns.specs.declared.worker.Worker.{Worker}
use Rattle.attempt_turns.proofs.Ways.{grew_none}
use Rattle.attempt_turns.proofs.EndLemmas.{desk_same, ends_here, may_stop, no_events, none_said}

-- ---- the worker changes, and nothing is told

-- its number and its set are the same
pub record SameCall (w now : Worker) : Type 0 where
  pub number : now.number ≡ w.number
  pub set : now.set ≡ w.set

pub stands_on : (w now : Worker) (call : Call) (streams : List ConfStream) (read : Reading) (here : Place) (said : List (List ℕ)) → SameCall w now → ((own : Running) → IsOn w streams read own → IsOn now streams read own)
    → Stands w call streams read here said → Stands now call streams read here said
stands_on w now call streams read here said same on stands = record {
  is_last = record {
    begun = stands.is_last.begun ∙ sym same.number;
    number = stands.is_last.number ∙ sym same.number;
    positive = subst (λ (n : ℕ). 0 < n) (sym same.number) stands.is_last.positive;
    ended = stands.is_last.ended ∙ sym same.number;
    works = stands.is_last.works;
  };
  attempt = stands.attempt;
  runs = stands.runs;
  on = on stands.attempt stands.on;
  set = stands.set ∙ sym same.set;
  none_owed = stands.none_owed;
  said_all = stands.said_all;
}

-- nothing is told or said, and from states of the one kind this is of the other
pub idle_way : (A B : State) (old new : Seen) (desk_old desk_new : DeskSeen) → own_events new ≡ own_events old → Grew old new → desk_new.said ≡ desk_old.said → KeepsDesk desk_old desk_new
    → ((call : Call) (streams : List ConfStream) (read : Reading) (here : Place) (said : List (List ℕ)) → A call streams read here said → B call streams read here said) → Ran A B old new desk_old desk_new
idle_way A B old new desk_old desk_new events grew said_same keeps then = record {
  acts = [];
  lines = [];
  added = no_events old new events;
  said = said_same ∙ none_said desk_old;
  grew = grew;
  desk = keeps;
  leads = λ call streams read here said reading is. (here, refl, subst (λ list. B call streams read here list) (sym (append-nil said)) (then call streams read here said is));
}

pub still_step : (w : Worker) (old new : Seen) (desk_old desk_new : DeskSeen) → own_events new ≡ own_events old → Grew old new → desk_new.said ≡ desk_old.said → KeepsDesk desk_old desk_new → Steps moved.No (Stands w) (Stands w) old new desk_old desk_new
still_step w old new desk_old desk_new events grew said_same keeps = record {
  ran = record {
    acts = [];
    lines = [];
    added = no_events old new events;
    said = said_same ∙ none_said desk_old;
    grew = grew;
    desk = keeps;
    leads = λ call streams read here said reading stands. (here, refl, subst (λ list. Stands w call streams read here list) (sym (append-nil said)) stands);
  };
  are = refl;
}

pub still_way : (w : Worker) (seen : Seen) (desk : DeskSeen) → Ran (Stands w) (Stands w) seen seen desk desk
still_way w seen desk = (still_step w seen seen desk desk refl (grew_none seen) refl (desk_same desk)).ran

-- a desk of which what was said is written out
pub flushed : (old new : DeskSeen) → new ≡ record old { say_faults = new.say_faults } → old.say_faults ≤ new.say_faults → KeepsDesk old new
flushed old new same kept = record { say_faults = kept; read_faults = ap (λ (it : DeskSeen). it.read_faults) same; texts = ap (λ (it : DeskSeen). it.texts) same }

pub on_way : (w now : Worker) (old new : Seen) (desk : DeskSeen) → SameCall w now → own_events new ≡ own_events old → Grew old new → ((streams : List ConfStream) (read : Reading) (own : Running) → IsOn w streams read own → IsOn now streams read own)
    → Ran (Stands w) (Stands now) old new desk desk
on_way w now old new desk same events grew on = idle_way (Stands w) (Stands now) old new desk desk events grew refl (desk_same desk)
    (λ call streams read here said stands. stands_on w now call streams read here said same (λ own is. on streams read own is) stands)

-- ---- the attempt ends where it stands

pub ends_at : (end : Status) (w : Worker) (face : LinkFace) (call : Call) (streams : List ConfStream) (read : Reading) (here : Place) (said : List (List ℕ)) → HasCode w face → ((own : Running) → IsOn w streams read own → EndsSo end (ids_of streams) read face own)
    → Stands w call streams read here said → Ends end face w call streams read here said
ends_at end w face call streams read here said code so stands = ends_here end face w call streams read here said stands (so stands.attempt stands.on) (λ running. may_stop w call streams read face here said code stands)

pub end_way : (end : Status) (w : Worker) (old new : Seen) (desk_old desk_new : DeskSeen) → HasCode w new.face → own_events new ≡ own_events old → Grew old new → desk_new.said ≡ desk_old.said → KeepsDesk desk_old desk_new
    → ((streams : List ConfStream) (read : Reading) (own : Running) → IsOn w streams read own → EndsSo end (ids_of streams) read new.face own) → Ran (Stands w) (Ends end new.face w) old new desk_old desk_new
end_way end w old new desk_old desk_new code events grew said_same keeps so = idle_way (Stands w) (Ends end new.face w) old new desk_old desk_new events grew said_same keeps
    (λ call streams read here said stands. ends_at end w new.face call streams read here said code (λ own is. so streams read own is) stands)

pub same_code : (w : Worker) (old new : LinkFace) → new.codes ≡ old.codes → HasCode w old → HasCode w new
same_code w old new same code some = ap (λ (it : Codes). it.source) same ∙ code some
