-- Ways go on one another.
use Rattle.std.proofs.Common.{arith, ◌≡◌, ℕ, ◌≤◌, List, [], ◌∷◌, ◌++◌, refl, sym, ◌∙◌, ap, subst, append_assoc}
use Rattle.std.specs.List.{AllByRecursion}
use Rattle.basics.specs.Told.{told_more}
use Rattle.outside.proofs.ToldLaws.{told_none, told_both}
use Rattle.outside.specs.Desk.{DeskSeen}
use Rattle.outside.specs.Link.{Seen, Grew, NoneAbove, IsBetween, own_events}
use Rattle.outside.specs.declared.event.Event.{Event}
use Rattle.outside.specs.declared.link.LinkCounts.{LinkCounts}
use Rattle.catalog.specs.declared.stream.ConfStream.{ConfStream}
use Rattle.load_rules.specs.Lines.{Reading, IsReading, ReadsEvent}
use Rattle.sync_rules.specs.SafeSync.{nothing}
use Rattle.sync_rules.specs.Calls.{Call, CallGoes}
use Rattle.attempt_turns.specs.Acts.{Act, does, fails, ends, Place, Going, events_in, place_after, place_failed, place_ended}
use Rattle.attempt_turns.specs.History.{State, Leads, KeepsDesk, Ran}
use Rattle.attempt_turns.specs.Laws.{WaysGoOn}

-- ---- acts

pub going_join : (call : Call) (streams : List ConfStream) (read : Reading) (here between there : Place) (acts more : List Act) → Going call streams read here acts between → Going call streams read between more there → Going call streams read here (acts ++ more) there
going_join call streams read here between there [] more first then = subst (λ it. Going call streams read it more there) first then
going_join call streams read here between there (does event ∷ acts) more (middle, step, fits, order, rest) then =
    (middle, step, fits, order, going_join call streams read (place_after read here event middle) between there acts more rest then)
going_join call streams read here between there (fails event ∷ acts) more (middle, step, fits, order, save, rest) then =
    (middle, step, fits, order, save, going_join call streams read (place_failed here event middle) between there acts more rest then)
going_join call streams read here between there (ends end ∷ acts) more (can, rest) then =
    (can, going_join call streams read (place_ended here end) between there acts more rest then)

-- a way is one of a call
pub going_calls : (call : Call) (streams : List ConfStream) (read : Reading) (before : List Event) (here there : Place) (acts : List Act) → Going call streams read here acts there → CallGoes call streams read nothing before here.standing (events_in acts) there.standing
going_calls call streams read before here there [] goes = ap (λ (it : Place). it.standing) goes
going_calls call streams read before here there (does event ∷ acts) (middle, step, fits, order, rest) =
    (middle, step, fits, going_calls call streams read (before ++ event ∷ []) (place_after read here event middle) there acts rest)
going_calls call streams read before here there (fails event ∷ acts) (middle, step, fits, order, save, rest) =
    (middle, step, fits, going_calls call streams read (before ++ event ∷ []) (place_failed here event middle) there acts rest)
going_calls call streams read before here there (ends end ∷ acts) (can, rest) = going_calls call streams read before (place_ended here end) there acts rest

pub events_join : (acts more : List Act) → events_in (acts ++ more) ≡ events_in acts ++ events_in more
events_join [] more = refl
events_join (does event ∷ acts) more = ap (λ list. event ∷ list) (events_join acts more)
events_join (fails event ∷ acts) more = ap (λ list. event ∷ list) (events_join acts more)
events_join (ends end ∷ acts) more = events_join acts more

-- ---- what grew

all_split : {A : Type 0} (P : A → Type 0) (xs ys : List A) → AllByRecursion P (xs ++ ys) → AllByRecursion P xs × AllByRecursion P ys
all_split P [] ys each = (tt, each)
all_split P (x ∷ xs) ys each = let more = all_split P xs ys each.1 in ((each.0, more.0), more.1)

all_join : {A : Type 0} (P Q R : A → Type 0) (xs ys : List A) → ((x : A) → P x → R x) → ((x : A) → Q x → R x) → AllByRecursion P xs → AllByRecursion Q ys → AllByRecursion R (xs ++ ys)
all_join P Q R [] [] weak other a b = tt
all_join P Q R [] (y ∷ ys) weak other a b = (other y b.0, all_join P Q R [] ys weak other tt b.1)
all_join P Q R (x ∷ xs) ys weak other a b = (weak x a.0, all_join P Q R xs ys weak other a.1 b)

le_then : (a b c : ℕ) → a ≤ b → b ≤ c → a ≤ c
le_then a b c first second = omega (arith, first, second)

none_above : (a b c : LinkCounts) → NoneAbove a b → NoneAbove b c → NoneAbove a c
none_above a b c x y = record {
  state_faults = le_then a.state_faults b.state_faults c.state_faults x.state_faults y.state_faults;
  link_faults = le_then a.link_faults b.link_faults c.link_faults x.link_faults y.link_faults;
  quiet_source = le_then a.quiet_source b.quiet_source c.quiet_source x.quiet_source y.quiet_source;
  quiet_dest = le_then a.quiet_dest b.quiet_dest c.quiet_dest x.quiet_dest y.quiet_dest;
  quiet_codes = le_then a.quiet_codes b.quiet_codes c.quiet_codes x.quiet_codes y.quiet_codes;
  waits = le_then a.waits b.waits c.waits x.waits y.waits;
}

pub grew_then : (x y z : Seen) → Grew x y → Grew y z → Grew x z
grew_then x y z first second = record {
  counts = none_above x.counts y.counts z.counts first.counts second.counts;
  more = first.more ++ second.more;
  grew = told_both first.more second.more x.trace y.trace z.trace first.grew second.grew;
  timed = all_join (IsBetween x.counts y.counts) (IsBetween y.counts z.counts) (IsBetween x.counts z.counts) first.more second.more
      (λ told is. record { not_below = is.not_below; not_above = none_above told.counts y.counts z.counts is.not_above second.counts })
      (λ told is. record { not_below = none_above x.counts y.counts told.counts first.counts is.not_below; not_above = is.not_above }) first.timed second.timed;
}

pub grew_none : (seen : Seen) → Grew seen seen
grew_none seen = record {
  counts = record { state_faults = omega arith; link_faults = omega arith; quiet_source = omega arith; quiet_dest = omega arith; quiet_codes = omega arith; waits = omega arith };
  more = [];
  grew = sym (told_none seen.trace);
  timed = tt;
}

pub desk_then : (x y z : DeskSeen) → KeepsDesk x y → KeepsDesk y z → KeepsDesk x z
desk_then x y z first second = record {
  say_faults = le_then x.say_faults y.say_faults z.say_faults first.say_faults second.say_faults;
  read_faults = second.read_faults ∙ first.read_faults;
  texts = second.texts ∙ first.texts;
}

pub leads_then : (A B C : State) (acts more : List Act) (lines others : List (List ℕ)) → Leads A B acts lines → Leads B C more others → Leads A C (acts ++ more) (lines ++ others)
leads_then A B C acts more lines others first second call streams read here said reading a =
    let parts = all_split (ReadsEvent read) (events_in acts) (events_in more) (subst (IsReading read) (events_join acts more) reading) in
    let one = first call streams read here said parts.0 a in
    let two = second call streams read one.0 (said ++ lines) parts.1 one.2 in (
      two.0,
      going_join call streams read here one.0 two.0 acts more one.1 two.1,
      subst (C call streams read two.0) (append_assoc said lines others) two.2,
    )

pub ran_then : (A B C : State) (x y z : Seen) (d e f : DeskSeen) → Ran A B x y d e → Ran B C y z e f → Ran A C x z d f
ran_then A B C x y z d e f first second = record {
  acts = first.acts ++ second.acts;
  lines = first.lines ++ second.lines;
  added = told_both (events_in first.acts) (events_in second.acts) (own_events x) (own_events y) (own_events z) first.added second.added ∙ ap (λ list. told_more list (own_events x)) (sym (events_join first.acts second.acts));
  said = told_both first.lines second.lines d.said e.said f.said first.said second.said;
  grew = grew_then x y z first.grew second.grew;
  desk = desk_then d e f first.desk second.desk;
  leads = leads_then A B C first.acts second.acts first.lines second.lines first.leads second.leads;
}

-- its acts are those of both
pub acts_then : (A B C : State) (x y z : Seen) (d e f : DeskSeen) (first : Ran A B x y d e) (second : Ran B C y z e f) → (ran_then A B C x y z d e f first second).acts ≡ first.acts ++ second.acts
unfolding ran_then
acts_then A B C x y z d e f first second = refl

pub ways_go_on : WaysGoOn
ways_go_on = record {
  calls = λ call streams read before here there acts goes. going_calls call streams read before here there acts goes;
  join = λ call streams read here between there acts more first then. going_join call streams read here between there acts more first then;
}
