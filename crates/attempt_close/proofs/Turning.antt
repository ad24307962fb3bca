-- Steps of a turn go on one another.
use Rattle.std.proofs.Common.{arith, ◌≡◌, ◌⊎◌, inl, inr, ℕ, ◌+◌, ◌-◌, ◌*◌, ◌^◌, min, ◌<◌, ◌≤◌, List, [], ◌∷◌, ◌++◌, Bool, true, false, cond, ◌||◌, Option, None, Some, refl, sym, ◌∙◌, ap, subst, append-nil, length}
use Rattle.std.specs.Prelude.{is_some, is_none}
use Rattle.std.specs.List.{list_any}
use Rattle.std.proofs.lemmas.Bool.{false≢true}
use Rattle.basics.specs.Told.{Rose, RoseBy, told_more}
use Rattle.basics.specs.declared.stream.StreamId.{StreamId}
use Rattle.outside.specs.Desk.{DeskSeen}
use Rattle.outside.specs.Link.{Seen, Grew, KeepsCodes, KeepsExit, own_events}
use Rattle.outside.specs.declared.event.Codes.{Codes}
use Rattle.outside.specs.declared.event.Event.{Event}
use Rattle.outside.specs.declared.event.Exit.{Exit}
use Rattle.outside.specs.declared.link.LinkFace.{LinkFace}
use Rattle.outside.specs.declared.status.Status.{Status}
use Rattle.outside.specs.declared.status.Status.TheVariants as status
use Rattle.attempt_turns.specs.Acts.{Act, events_in}
use Rattle.attempt_turns.specs.Ends.{Ends, TurnCause, WasQuietBack}
use Rattle.attempt_turns.specs.History.{KeepsDesk, Ran, RanSo, State}
use Rattle.attempt_turns.specs.Silence.{Brought, Fewer, Learned, Rested, Shows, Steps, brings, left, names_codes, names_source}
use Rattle.attempt_turns.specs.Worker.{Stands}
use Rattle.attempt_turns.specs.declared.worker.Moved.{Moved}
use Rattle.attempt_turns.specs.declared.worker.Moved.TheVariants as moved
use Rattle.attempt_turns.specs.declared.worker.Worker.{Worker}
use Rattle.outside.proofs.ToldLaws.{told_both}
use Rattle.attempt_turns.proofs.Ways.{desk_then, events_join, grew_then, leads_then, ran_then}
use Rattle.attempt_turns.proofs.EndLemmas.{desk_same, no_events, none_said}
use Rattle.attempt_close.specs.Codes.{Learns, Looked}
use Rattle.attempt_close.specs.Turns.{Fits, GoesOnSo, IsSettled, QuietSides, QuietSource, SameEnds, Settles, TellsSo, Turned, all_left, either, unknown, unless_so}
use Rattle.attempt_close.proofs.Counting.{rose_from, rose_to}
use Rattle.attempt_close.proofs.Ways.{still_step}

-- ---- codes

kept_some : (a b : Option Exit) → KeepsExit a b → is_some a ≡ true → is_some b ≡ true
kept_some None b keeps some = absurd (false≢true some)
kept_some (Some exit) b keeps some = ap is_some keeps

learned_on : (x y z : Codes) → KeepsCodes y z → Learned x y → Learned x z
learned_on x y z keeps (inl is) = inl (is.0, kept_some y.source z.source keeps.source is.1)
learned_on x y z keeps (inr is) = inr (is.0, kept_some y.dest z.dest keeps.dest is.1)

keeps_exit : (a : Option Exit) → KeepsExit a a
keeps_exit None = tt
keeps_exit (Some exit) = refl

pub keeps_same : (x y : Codes) → y ≡ x → KeepsCodes x y
keeps_same x y same = subst (λ it. KeepsCodes x it) (sym same) (record { source = keeps_exit x.source; dest = keeps_exit x.dest })

no_more : (a b : Option Exit) → KeepsExit a b → unless_so (is_some b) ≤ unless_so (is_some a)
no_more None None keeps = omega arith
no_more None (Some exit) keeps = omega arith
no_more (Some one) None keeps = absurd (none_some keeps)
  where
    none_some : {exit : Exit} → None ≡ Some exit → ⊥
    none_some e = cc
no_more (Some one) (Some exit) keeps = omega arith

fewer_exit : (a b : Option Exit) → a ≡ None → is_some b ≡ true → unless_so (is_some b) < unless_so (is_some a)
fewer_exit a b none some = subst (λ it. unless_so (is_some b) < unless_so (is_some it)) (sym none) (subst (λ it. unless_so it < 1) (sym some) (omega arith))

pub unknown_kept : (x y : Codes) → KeepsCodes x y → unknown y ≤ unknown x
unknown_kept x y keeps = (let source = no_more x.source y.source keeps.source in let dest = no_more x.dest y.dest keeps.dest in omega (arith, source, dest))

pub unknown_learned : (x y : Codes) → KeepsCodes x y → Learned x y → unknown y < unknown x
unknown_learned x y keeps (inl is) = (let source = fewer_exit x.source y.source is.0 is.1 in let dest = no_more x.dest y.dest keeps.dest in omega (arith, source, dest))
unknown_learned x y keeps (inr is) = (let source = no_more x.source y.source keeps.source in let dest = fewer_exit x.dest y.dest is.0 is.1 in omega (arith, source, dest))

-- ---- what was brought

any_join : {A : Type 0} (p : A → Bool) (xs ys : List A) → list_any p xs ≡ true → list_any p (xs ++ ys) ≡ true
any_join p [] ys any = absurd (false≢true any)
any_join p (x ∷ xs) ys any = at (p x) any (λ later. any_join p xs ys later)
  where
    at : (b : Bool) → (b || list_any p xs) ≡ true → (list_any p xs ≡ true → list_any p (xs ++ ys) ≡ true) → (b || list_any p (xs ++ ys)) ≡ true
    at true is rest = refl
    at false is rest = rest is

brought_first : (acts more : List Act) (x y z : Codes) → KeepsCodes y z → Brought acts x y → Brought (acts ++ more) x z
brought_first acts more x y z keeps (inl any) = inl (ap (list_any brings) (events_join acts more) ∙ any_join brings (events_in acts) (events_in more) any)
brought_first acts more x y z keeps (inr learned) = inr (learned_on x y z keeps learned)

brought_then : (acts more : List Act) (x y z : Codes) → events_in acts ≡ [] → y ≡ x → Brought more y z → Brought (acts ++ more) x z
brought_then acts more x y z none same (inl any) = inl (ap (list_any brings) (events_join acts more ∙ ap (λ list. list ++ events_in more) none) ∙ any)
brought_then acts more x y z none same (inr learned) = inr (subst (λ it. Learned it z) same learned)

none_then : (acts more : List Act) → events_in acts ≡ [] → events_in more ≡ [] → events_in (acts ++ more) ≡ []
none_then acts more none still = events_join acts more ∙ (ap (λ list. list ++ events_in more) none ∙ still)

-- ---- two steps

ran_so_then : (P Q R : List Act → Type 0) → ((acts more : List Act) → P acts → Q more → R (acts ++ more)) → (A B C : State) (x y z : Seen) (d e f : DeskSeen) → RanSo P A B x y d e → RanSo Q B C y z e f → RanSo R A C x z d f
ran_so_then P Q R join A B C x y z d e f first second =
    let one = first.ran in
    let two = second.ran in
    record {
      ran = record {
        acts = one.acts ++ two.acts;
        lines = one.lines ++ two.lines;
        added = told_both (events_in one.acts) (events_in two.acts) (own_events x) (own_events y) (own_events z) one.added two.added ∙ ap (λ list. told_more list (own_events x)) (sym (events_join one.acts two.acts));
        said = told_both one.lines two.lines d.said e.said f.said one.said two.said;
        grew = grew_then x y z one.grew two.grew;
        desk = desk_then d e f one.desk two.desk;
        leads = leads_then A B C one.acts two.acts one.lines two.lines one.leads two.leads;
      };
      are = join one.acts two.acts first.are second.are;
    }

pub steps_then : (first then : Moved) (A B C : State) (x y z : Seen) (d e f : DeskSeen) → KeepsCodes y.face.codes z.face.codes → y.face.codes ≡ x.face.codes → Steps first A B x y d e → Steps then B C y z e f → Steps (either first then) A C x z d f
steps_then moved.Yes then A B C x y z d e f keeps same one two = ran_so_then (Shows moved.Yes x y) (Shows then y z) (Shows moved.Yes x z)
    (λ acts more brought any. brought_first acts more x.face.codes y.face.codes z.face.codes keeps brought) A B C x y z d e f one two
steps_then moved.No moved.Yes A B C x y z d e f keeps same one two = ran_so_then (Shows moved.No x y) (Shows moved.Yes y z) (Shows moved.Yes x z)
    (λ acts more none brought. brought_then acts more x.face.codes y.face.codes z.face.codes none same brought) A B C x y z d e f one two
steps_then moved.No moved.No A B C x y z d e f keeps same one two = ran_so_then (Shows moved.No x y) (Shows moved.No y z) (Shows moved.No x z)
    (λ acts more none still. none_then acts more none still) A B C x y z d e f one two

-- behind what a turn brought
pub steps_close : (moved : Moved) (A B C : State) (x y z : Seen) (d e f : DeskSeen) → z.face.codes ≡ y.face.codes → Steps moved A B x y d e → GoesOnSo moved B C y z e f → Steps moved A C x z d f
steps_close moved.Yes A B C x y z d e f same one two = ran_so_then (Shows moved.Yes x y) (TellsSo moved.Yes) (Shows moved.Yes x z)
    (λ acts more brought any. brought_first acts more x.face.codes y.face.codes z.face.codes (keeps_same y.face.codes z.face.codes same) brought) A B C x y z d e f one two
steps_close moved.No A B C x y z d e f same one two = ran_so_then (Shows moved.No x y) (TellsSo moved.No) (Shows moved.No x z)
    (λ acts more none still. none_then acts more none still) A B C x y z d e f one two

-- ---- causes

pub cause_then : (end : Status) (x y z : Seen) (d e f : DeskSeen) → Grew x y → KeepsDesk d e → TurnCause end y z e f → TurnCause end x z d f
cause_then status.LinkFault x y z d e f grew desk cause = rose_from 1 x.counts.link_faults y.counts.link_faults z.counts.link_faults grew.counts.link_faults cause
cause_then status.SayFault x y z d e f grew desk cause = rose_from 1 d.say_faults e.say_faults f.say_faults desk.say_faults cause
cause_then status.StateFault x y z d e f grew desk cause = rose_from 1 x.counts.state_faults y.counts.state_faults z.counts.state_faults grew.counts.state_faults cause
cause_then (status.SourceBreach why line) x y z d e f grew desk cause = tt
cause_then (status.DestBreach why line) x y z d e f grew desk cause = tt
cause_then (status.ConfigError from line) x y z d e f grew desk cause = tt
cause_then status.TooManyLines x y z d e f grew desk cause = tt
cause_then status.NoMemory x y z d e f grew desk cause = tt
cause_then end x y z d e f grew desk cause = absurd cause

-- ---- both sides

pub rested_both : (got sent : Moved) (w mid now : Worker) → Rested got w mid → Rested sent mid now → Rested (either got sent) w now
rested_both moved.Yes sent w mid now first then = tt
rested_both moved.No moved.Yes w mid now first then = tt
rested_both moved.No moved.No w mid now first then = then ∙ first

pub fewer_both : (got sent : Moved) (w mid now : Worker) → Rested got w mid → Rested sent mid now → Fewer got w mid → Fewer sent mid now → Fewer (either got sent) w now
fewer_both moved.Yes moved.Yes w mid now rested_got rested_sent got sent = omega (arith, got, sent)
fewer_both moved.Yes moved.No w mid now rested_got rested_sent got sent = subst (λ (it : Worker). left it < left w) (sym rested_sent) got
fewer_both moved.No moved.Yes w mid now rested_got rested_sent got sent = subst (λ (it : Worker). left now < left it) rested_got sent
fewer_both moved.No moved.No w mid now rested_got rested_sent got sent = tt

pub quiet_both : (got sent : Moved) (w mid : Worker) (x y z : Seen) → y.face.codes ≡ x.face.codes → Grew x y → Grew y z → Rested got w mid → (w.got_over ≡ false → WasQuietBack got x y) → (IsSettled mid y.face.codes → QuietSource sent mid y z) → IsSettled w x.face.codes → QuietSides (either got sent) w x z
quiet_both moved.Yes sent w mid x y z same first then rested quiet_back quiet settled = tt
quiet_both moved.No moved.Yes w mid x y z same first then rested quiet_back quiet settled = tt
quiet_both moved.No moved.No w mid x y z same first then rested quiet_back quiet settled = record {
  dest = λ going. rose_to 1 x.counts.quiet_dest y.counts.quiet_dest z.counts.quiet_dest (quiet_back going) then.counts.quiet_dest;
  source = λ named. rose_from 1 x.counts.quiet_source y.counts.quiet_source z.counts.quiet_source first.counts.quiet_source (source_quiet named);
}
  where
    still : IsSettled mid y.face.codes
    still = subst (λ (it : Worker). IsSettled it y.face.codes) (sym rested) (subst (IsSettled w) (sym same) settled)

    source_quiet : names_source w x.face.codes ≡ true → Rose y.counts.quiet_source z.counts.quiet_source
    source_quiet named = quiet still (subst (λ (it : Worker). names_source it y.face.codes ≡ true) (sym rested) (subst (λ (it : Codes). names_source w it ≡ true) (sym same) named))

-- ---- the whole turn

pub fewer_turn : (brought learned : Moved) (w now : Worker) (x y z : Seen) → SameEnds w now → y.face.codes ≡ x.face.codes → KeepsCodes y.face.codes z.face.codes → Rested brought w now → Fewer brought w now → Learns learned now y z → either brought learned ≡ moved.Yes → all_left now z.face.codes < all_left w x.face.codes
fewer_turn moved.Yes learned w now x y z ends same keeps rested fewer learns is =
    let known = unknown_kept y.face.codes z.face.codes keeps in
    let before : unknown y.face.codes ≡ unknown x.face.codes = ap unknown same in
    let streams : 2 * (length now.ledger.ids - now.completed) ≡ 2 * (length w.ledger.ids - w.completed) = ap (λ n. 2 * (length now.ledger.ids - n)) ends.completed ∙ ap (λ list. 2 * (length list - w.completed)) ends.ids in
    let closed : unless_so now.closed ≡ unless_so w.closed = ap unless_so ends.closed in
    omega (arith, fewer, known, before, streams, closed)
fewer_turn moved.No moved.Yes w now x y z ends same keeps rested fewer learns is =
    let known = unknown_learned y.face.codes z.face.codes keeps learns in
    let before : unknown y.face.codes ≡ unknown x.face.codes = ap unknown same in
    let still : left now ≡ left w = ap left rested in
    let streams : 2 * (length now.ledger.ids - now.completed) ≡ 2 * (length w.ledger.ids - w.completed) = ap (λ (it : Worker). 2 * (length it.ledger.ids - it.completed)) rested in
    let closed : unless_so now.closed ≡ unless_so w.closed = ap unless_so ends.closed in
    omega (arith, still, known, before, streams, closed)
fewer_turn moved.No moved.No w now x y z ends same keeps rested fewer learns is = absurd (let e : moved.No ≡ moved.Yes = is in cc)

-- ---- the look for codes

pub learn_step : (learned : Moved) (w : Worker) (y z : Seen) (known : Codes) (desk : DeskSeen) → Looked y z known → Learns learned w y z → Steps learned (Stands w) (Stands w) y z desk desk
learn_step moved.Yes w y z known desk looked learns = record {
  ran = record {
    acts = [];
    lines = [];
    added = no_events y z looked.events;
    said = none_said desk;
    grew = looked.grew;
    desk = desk_same desk;
    leads = λ call streams read here said reading stands. (here, refl, subst (λ list. Stands w call streams read here list) (sym (append-nil said)) stands);
  };
  are = inr learns;
}
learn_step moved.No w y z known desk looked learns = still_step w y z desk desk looked.events looked.grew refl (desk_same desk)

none_told : {A : Type 0} (before : Option (List A)) → told_more [] before ≡ before
none_told None = refl
none_told (Some list) = ap (λ it. Some it) (append-nil list)

still_told : (A B : State) (x y : Seen) (d e : DeskSeen) → Steps moved.No A B x y d e → own_events y ≡ own_events x
still_told A B x y d e step = step.ran.added ∙ (ap (λ list. told_more list (own_events x)) step.are ∙ none_told (own_events x))

-- what a turn leaves to come, or how it rested
pub turned_so : (brought learned : Moved) (ids : List StreamId) (w mid now : Worker) (x y z v : Seen) (d e : DeskSeen) → SameEnds w mid → y.face.codes ≡ x.face.codes → KeepsCodes y.face.codes z.face.codes → v.face.codes ≡ z.face.codes → own_events z ≡ own_events y
    → Grew x y → Grew y z → Grew z v → Steps brought (Stands w) (Stands mid) x y d e → Rested brought w mid → Fewer brought w mid → QuietSides brought w x y → Learns learned mid y z → Settles (either brought learned) ids mid now z v → Turned (either brought learned) w now x v
turned_so moved.Yes learned ids w mid now x y z v d e ends same keeps after events first then last step rested fewer quiet learns settles =
    let most = fewer_turn moved.Yes learned w mid x y z ends same keeps rested fewer learns refl in
    let least = settles.fewer in
    omega (arith, most, least)
turned_so moved.No moved.Yes ids w mid now x y z v d e ends same keeps after events first then last step rested fewer quiet learns settles =
    let most = fewer_turn moved.No moved.Yes w mid x y z ends same keeps rested fewer learns refl in
    let least = settles.fewer in
    omega (arith, most, least)
turned_so moved.No moved.No ids w mid now x y z v d e ends same keeps after events first then last step rested fewer quiet learns settles = record {
  same = all_same;
  codes = codes_same;
  told_none = settles.told_none ∙ (events ∙ still_told (Stands w) (Stands mid) x y d e step);
  waited = record {
    waits = rose_from 1 x.counts.waits z.counts.waits v.counts.waits (below x.counts.waits y.counts.waits z.counts.waits first.counts.waits then.counts.waits) settles.waited;
    dest = λ named. rose_to 1 x.counts.quiet_dest y.counts.quiet_dest v.counts.quiet_dest (quiet.dest (subst (λ (it : Worker). it.got_over ≡ false) all_same named)) (below y.counts.quiet_dest z.counts.quiet_dest v.counts.quiet_dest then.counts.quiet_dest last.counts.quiet_dest);
    source = λ named. rose_to 1 x.counts.quiet_source y.counts.quiet_source v.counts.quiet_source (quiet.source (subst (λ (it : Codes). names_source w it ≡ true) codes_same (subst (λ (it : Worker). names_source it v.face.codes ≡ true) all_same named))) (below y.counts.quiet_source z.counts.quiet_source v.counts.quiet_source then.counts.quiet_source last.counts.quiet_source);
    codes = λ named. rose_from 1 x.counts.quiet_codes y.counts.quiet_codes v.counts.quiet_codes first.counts.quiet_codes (rose_to 1 y.counts.quiet_codes z.counts.quiet_codes v.counts.quiet_codes (learns.1 (subst (λ (it : Codes). names_codes mid it ≡ true) (after ∙ learns.0) (subst (λ (it : Worker). names_codes it v.face.codes ≡ true) settles.same named))) last.counts.quiet_codes);
  };
}
  where
    all_same : now ≡ w
    all_same = settles.same ∙ rested

    codes_same : v.face.codes ≡ x.face.codes
    codes_same = after ∙ (learns.0 ∙ same)

    below : (a b c : ℕ) → a ≤ b → b ≤ c → a ≤ c
    below a b c low high = omega (arith, low, high)

pub fits_learned : (ids : List StreamId) (w : Worker) (y z : Codes) → KeepsCodes y z → Fits ids w y → Fits ids w z
fits_learned ids w y z keeps fits = record { ids_are = fits.ids_are; own_line = fits.own_line; reads_first = fits.reads_first; closed_known = λ closed. kept_some y.source z.source keeps.source (fits.closed_known closed) }

-- ---- a turn, by its steps

pub looked_keeps : (y z : Seen) (known : Codes) → Looked y z known → KeepsCodes y.face.codes z.face.codes
looked_keeps y z known looked = subst (λ it. KeepsCodes y.face.codes it) (sym (ap (λ (it : LinkFace). it.codes) looked.face)) looked.keeps

pub turn_step : (brought learned moved : Moved) (w mid now : Worker) (x y z v : Seen) (d e f : DeskSeen) (known : Codes) → moved ≡ either brought learned → y.face.codes ≡ x.face.codes → v.face.codes ≡ z.face.codes → Looked y z known → Learns learned mid y z
    → Steps brought (Stands w) (Stands mid) x y d e → GoesOnSo moved (Stands mid) (Stands now) z v e f → Steps moved (Stands w) (Stands now) x v d f
turn_step brought learned moved w mid now x y z v d e f known is same after looked learns step close =
    subst (λ it. Steps it (Stands w) (Stands now) x v d f) (sym is)
    (steps_close (either brought learned) (Stands w) (Stands mid) (Stands now) x z v d e f after
    (steps_then brought learned (Stands w) (Stands mid) (Stands mid) x y z d e e (looked_keeps y z known looked) same step (learn_step learned mid y z known e looked learns))
    (subst (λ it. GoesOnSo it (Stands mid) (Stands now) z v e f) is close))

pub turn_turned : (brought learned moved : Moved) (ids : List StreamId) (w mid now : Worker) (x y z v : Seen) (d e : DeskSeen) (known : Codes) → moved ≡ either brought learned → SameEnds w mid → y.face.codes ≡ x.face.codes → v.face.codes ≡ z.face.codes → Looked y z known → Grew z v
    → Steps brought (Stands w) (Stands mid) x y d e → Rested brought w mid → Fewer brought w mid → QuietSides brought w x y → Learns learned mid y z → Settles moved ids mid now z v → Turned moved w now x v
turn_turned brought learned moved ids w mid now x y z v d e known is ends same after looked last step rested fewer quiet learns settles =
    subst (λ it. Turned it w now x v) (sym is)
    (turned_so brought learned ids w mid now x y z v d e ends same (looked_keeps y z known looked) after looked.events step.ran.grew looked.grew last step rested fewer quiet learns (subst (λ it. Settles it ids mid now z v) is settles))

pub turn_ends : (brought learned : Moved) (end : Status) (w mid now : Worker) (x y z v : Seen) (d e f : DeskSeen) (known : Codes) → Looked y z known → Learns learned mid y z → Steps brought (Stands w) (Stands mid) x y d e → Ran (Stands mid) (Ends end v.face now) z v e f → Ran (Stands w) (Ends end v.face now) x v d f
turn_ends brought learned end w mid now x y z v d e f known looked learns step ends =
    ran_then (Stands w) (Stands mid) (Ends end v.face now) x y v d e f step.ran (ran_then (Stands mid) (Stands mid) (Ends end v.face now) y z v e e f (learn_step learned mid y z known e looked learns).ran ends)

pub rests_so : (kind : Moved) (A B : State) (x y : Seen) (d e : DeskSeen) → kind ≡ moved.No → Steps moved.No A B x y d e → GoesOnSo kind A B x y d e
rests_so kind A B x y d e is step = subst (λ it. GoesOnSo it A B x y d e) (sym is) (record { ran = step.ran; are = step.are })
