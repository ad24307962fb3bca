-- A trace as it grows.
use Rattle.std.proofs.Common.{◌≡◌, ℕ, List, [], ◌∷◌, ◌++◌, map, filter, fold, Bool, true, false, Option, None, Some, refl, sym, ◌∙◌, ap}
use Rattle.std.proofs.lemmas.List.{map-append}
use Rattle.outside.specs.Event.{got_over, got_over_after, is_links, read_over, read_over_after, saved_in, stored, stored_after}
use Rattle.outside.specs.declared.event.Event.{Event}
use Rattle.outside.specs.declared.event.Event.TheVariants as event
use Rattle.outside.specs.declared.link.LinkCounts.{LinkCounts}
use Rattle.script_link.specs.Trace.{ToldEvent, at_first, events_in, told, trace_of}
use Rattle.script_link.specs.declared.link_trace.ToldAt.{ToldAt}

pub trace_more : (list : List ToldAt) (e : Event) (counts : LinkCounts) → trace_of (list ++ record { event = e; counts = counts } ∷ []) ≡ trace_of list ++ told e counts ∷ []
trace_more list e counts = map-append (λ (at : ToldAt). told at.event at.counts) list (record { event = e; counts = counts } ∷ [])

-- one element more in front of a fold
fold_snoc : {A B : Type 0} (f : B → A → B) (b : B) (xs : List A) (x : A) → fold f b (xs ++ x ∷ []) ≡ f (fold f b xs) x
fold_snoc f b [] x = refl
fold_snoc f b (y ∷ ys) x = fold_snoc f (f b y) ys x

-- a fold over the elements that a test keeps, where it is not changed by the others
fold_step : {A B : Type 0} (f : B → A → B) (p : A → Bool) (b : B) (x : A) (xs : List A) (kept : Bool) → p x ≡ kept → (kept ≡ false → f b x ≡ b) → fold f (f b x) (filter p xs) ≡ fold f (f b x) xs → fold f b (filter p (x ∷ xs)) ≡ fold f b (x ∷ xs)
fold_step f p b x xs true e other more = rw e more
fold_step {A} {B} f p b x xs false e other more = rw e (ap (λ (v : B). fold f v (filter p xs)) (sym (other refl)) ∙ more)

fold_kept : {A B : Type 0} (f : B → A → B) (p : A → Bool) → ((b : B) (x : A) → p x ≡ false → f b x ≡ b) → (b : B) (xs : List A) → fold f b (filter p xs) ≡ fold f b xs
fold_kept f p other b [] = refl
fold_kept f p other b (x ∷ xs) = fold_step f p b x xs (p x) refl (other b x) (fold_kept f p other (f b x) xs)

-- the events of a destination change nothing of a link

read_over_other : (over : Bool) (e : Event) → is_links e ≡ false → read_over_after over e ≡ over
read_over_other over (event.Started plan) not_links = cc
read_over_other over event.ReadEnd not_links = cc
read_over_other over e not_links = refl

got_over_other : (over : Bool) (e : Event) → is_links e ≡ false → got_over_after over e ≡ over
got_over_other over (event.Started plan) not_links = cc
got_over_other over event.GotEnd not_links = cc
got_over_other over e not_links = refl

stored_other : (text : List ℕ) (e : Event) → is_links e ≡ false → stored_after text e ≡ text
stored_other text (event.Saved new) not_links = cc
stored_other text e not_links = refl

-- the events of a trace, a destination's among them
abbrev all_in : List ToldEvent → List Event
all_in trace = map (λ told. told.event) trace

all_more : (trace : List ToldEvent) (e : Event) (counts : LinkCounts) → all_in (trace ++ told e counts ∷ []) ≡ all_in trace ++ e ∷ []
all_more trace e counts = map-append (λ (t : ToldEvent). t.event) trace (told e counts ∷ [])

-- what a fold that only a link's events change makes of one event more
kept_more : {B : Type 0} (f : B → Event → B) → ((b : B) (e : Event) → is_links e ≡ false → f b e ≡ b) → (b : B) (trace : List ToldEvent) (e : Event) (counts : LinkCounts) → fold f b (events_in (trace ++ told e counts ∷ [])) ≡ f (fold f b (events_in trace)) e
kept_more {B} f other b trace e counts =
    fold_kept f is_links other b (all_in (trace ++ told e counts ∷ []))
    ∙ (ap (λ (es : List Event). fold f b es) (all_more trace e counts)
    ∙ (fold_snoc f b (all_in trace) e
    ∙ ap (λ (v : B). f v e) (sym (fold_kept f is_links other b (all_in trace)))))

pub read_over_more : (trace : List ToldEvent) (e : Event) (counts : LinkCounts) → read_over (events_in (trace ++ told e counts ∷ [])) ≡ read_over_after (read_over (events_in trace)) e
read_over_more trace e counts = kept_more read_over_after read_over_other false trace e counts

pub got_over_more : (trace : List ToldEvent) (e : Event) (counts : LinkCounts) → got_over (events_in (trace ++ told e counts ∷ [])) ≡ got_over_after (got_over (events_in trace)) e
got_over_more trace e counts = kept_more got_over_after got_over_other false trace e counts

pub stored_more : (trace : List ToldEvent) (e : Event) (counts : LinkCounts) → stored (events_in (trace ++ told e counts ∷ [])) ≡ stored_after (stored (events_in trace)) e
stored_more trace e counts = kept_more stored_after stored_other [] trace e counts

-- what a list of events adds to the end of a trace, held with its flags
pub read_over_list : (list : List ToldAt) (e : Event) (counts : LinkCounts) (over behind : Bool) → over ≡ read_over (events_in (trace_of list)) → behind ≡ read_over_after over e → behind ≡ read_over (events_in (trace_of (list ++ record { event = e; counts = counts } ∷ [])))
read_over_list list e counts over behind known is =
    is ∙ (ap (λ (b : Bool). read_over_after b e) known ∙ (sym (read_over_more (trace_of list) e counts) ∙ ap (λ (t : List ToldEvent). read_over (events_in t)) (sym (trace_more list e counts))))

pub got_over_list : (list : List ToldAt) (e : Event) (counts : LinkCounts) (over behind : Bool) → over ≡ got_over (events_in (trace_of list)) → behind ≡ got_over_after over e → behind ≡ got_over (events_in (trace_of (list ++ record { event = e; counts = counts } ∷ [])))
got_over_list list e counts over behind known is =
    is ∙ (ap (λ (b : Bool). got_over_after b e) known ∙ (sym (got_over_more (trace_of list) e counts) ∙ ap (λ (t : List ToldEvent). got_over (events_in t)) (sym (trace_more list e counts))))

-- the text that was saved last

abbrev pub text_or_none : Option (List ℕ) → List ℕ
text_or_none None = []
text_or_none (Some text) = text

abbrev later : Option (List ℕ) → Option (List ℕ) → Option (List ℕ)
later before None = before
later before (Some text) = Some text

-- the text that was saved last in these events, where one was
pub record IsSaved (list : List ToldAt) (last : Option (List ℕ)) : Type 0 where
  pub is : text_or_none last ≡ stored (events_in (trace_of list))

saved_behind : (last : Option (List ℕ)) (e : Event) → text_or_none (later last (saved_in e)) ≡ stored_after (text_or_none last) e
saved_behind last (event.Saved text) = refl
saved_behind last e = refl

saved_next : (list : List ToldAt) (at : ToldAt) (last : Option (List ℕ)) → IsSaved list last → IsSaved (list ++ at ∷ []) (later last (saved_in at.event))
saved_next list at last saved = record {
  is = saved_behind last at.event
      ∙ (ap (λ (t : List ℕ). stored_after t at.event) saved.is
      ∙ (sym (stored_more (trace_of list) at.event at.counts) ∙ ap (λ (t : List ToldEvent). stored (events_in t)) (sym (trace_more list at.event at.counts))));
}

pub saved_yes : (list : List ToldAt) (at : ToldAt) (last : Option (List ℕ)) (text : List ℕ) → IsSaved list last → saved_in at.event ≡ Some text → IsSaved (list ++ at ∷ []) (Some text)
saved_yes list at last text saved is = record { is = ap (λ (l : Option (List ℕ)). text_or_none (later last l)) (sym is) ∙ (saved_next list at last saved).is }

pub saved_no : (list : List ToldAt) (at : ToldAt) (last : Option (List ℕ)) → IsSaved list last → saved_in at.event ≡ None → IsSaved (list ++ at ∷ []) last
saved_no list at last saved is = record { is = ap (λ (l : Option (List ℕ)). text_or_none (later last l)) (sym is) ∙ (saved_next list at last saved).is }

pub saved_none : IsSaved [] None
saved_none = record { is = refl }

-- a list of first events with one more

pub at_first_more : (events : List Event) (e : Event) → map at_first (events ++ e ∷ []) ≡ map at_first events ++ at_first e ∷ []
at_first_more events e = map-append at_first events (e ∷ [])
