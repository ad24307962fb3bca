-- What an attempt has committed stays so.
use Rattle.std.proofs.Common.{◌≡◌, inl, inr, ℕ, List, [], ◌∷◌, ◌++◌, slice_get, Some, refl, sym, ◌∙◌, ap, subst}
use Rattle.std.specs.Prelude.{Contains}
use Rattle.std.proofs.lemmas.List.Elements.{Contains-append_left}
use Rattle.outside.specs.Event.{is_links}
use Rattle.outside.specs.declared.event.Event.{Event}
use Rattle.outside.specs.declared.event.Event.TheVariants.{Opened, Took, TookEnd, Committed, Emitted, Merged, Shown, Started, ReadLine, ReadEnd, Given, Closed, Got, GotEnd, Saved, Ended}
use Rattle.outside.specs.declared.event.RawRow.{RawRow}
use Rattle.airbyte_message.specs.Lanes.{Lane}
use Rattle.catalog.specs.Reading.{ids_of}
use Rattle.catalog.specs.declared.stream.ConfStream.{ConfStream}
use Rattle.dedup_merge.proofs.SameRowLemmas.{Has, has_from, has_to}
use Rattle.load_rules.specs.Prefixes.{with_first}
use Rattle.load_rules.specs.Lines.{Reading}
use Rattle.load_rules.specs.Taken.{Entry}
use Rattle.load_rules.specs.Rows.{IsRowOf}
use Rattle.load_rules.specs.Loads.{Load, loads, loads_after, with_event}
use Rattle.load_rules.specs.Attempts.{passed}
use Rattle.load_rules.specs.Honest.{IsCommitted}
use Rattle.load_rules.proofs.SafeAttempts.{loads_link, loads_own}
use Rattle.sync_rules.proofs.KindLemmas.{by_bool}
use Rattle.replay_rules.proofs.Lines.{lane_entries, nth_front, passed-append}

-- a load is among these behind one event more, where it was before, perhaps with that event
pub record GoneOn (list : List Load) (event : Event) (load : Load) : Type 0 where
  pub now : Load
  pub among : Has now list
  pub opening : now.opening ≡ load.opening
  pub keeps : (number : ℕ) (rows : List RawRow) → Contains load.events (Committed number rows) → Contains now.events (Committed number rows)

first_on : (list : List Load) (event : Event) (load : Load) → Has load list → GoneOn (with_first (with_event event) list) event load
first_on [] event load has = absurd has
first_on (first ∷ older) event load (inl is) = record {
  now = with_event event first;
  among = inl refl;
  opening = ap (λ (it : Load). it.opening) is;
  keeps = λ number rows there. Contains-append_left first.events (event ∷ []) (Committed number rows) (subst (λ (it : Load). Contains it.events (Committed number rows)) (sym is) there);
}
first_on (first ∷ older) event load (inr has) = record { now = load; among = inr has; opening = refl; keeps = λ number rows there. there }

after_on : (list : List Load) (event : Event) (load : Load) → Has load list → GoneOn (loads_after list event) event load
after_on list (Opened x y z) load has = record { now = load; among = inr has; opening = refl; keeps = λ number rows there. there }
after_on list (Took x) load has = first_on list (Took x) load has
after_on list TookEnd load has = first_on list TookEnd load has
after_on list (Committed x y) load has = first_on list (Committed x y) load has
after_on list (Emitted x) load has = first_on list (Emitted x) load has
after_on list (Merged x y z) load has = first_on list (Merged x y z) load has
after_on list (Shown x y z) load has = first_on list (Shown x y z) load has
after_on list (Started x) load has = first_on list (Started x) load has
after_on list (ReadLine x) load has = first_on list (ReadLine x) load has
after_on list ReadEnd load has = first_on list ReadEnd load has
after_on list (Given x) load has = first_on list (Given x) load has
after_on list Closed load has = first_on list Closed load has
after_on list (Got x) load has = first_on list (Got x) load has
after_on list GotEnd load has = first_on list GotEnd load has
after_on list (Saved x) load has = first_on list (Saved x) load has
after_on list (Ended x) load has = first_on list (Ended x) load has

pub loads_on : (events : List Event) (event : Event) (load : Load) → Has load (loads events) → GoneOn (loads (events ++ event ∷ [])) event load
loads_on events event load has =
    by_bool (is_links event)
    (λ link. subst (λ list. GoneOn list event load) (sym (loads_link events event link)) (record { now = load; among = has; opening = refl; keeps = λ number rows there. there }))
    (λ own. subst (λ list. GoneOn list event load) (sym (loads_own events event own)) (after_on (loads events) event load has))

pub committed_on : (streams : List ConfStream) (events : List Event) (event : Event) (entry : Entry) → IsCommitted streams events entry → IsCommitted streams (events ++ event ∷ []) entry
committed_on streams events event entry is =
    let gone = loads_on events event is.load (has_from (loads events) is.load is.among) in
    record {
      load = gone.now;
      among = has_to (loads (events ++ event ∷ [])) gone.now gone.among;
      stands = record {
        number = is.stands.number;
        rows = is.stands.rows;
        commit = gone.keeps is.stands.number is.stands.rows is.stands.commit;
        row = is.stands.row;
        among = is.stands.among;
        is = subst (λ opening. IsRowOf streams opening is.stands.number entry is.stands.row) (sym gone.opening) is.stands.is;
      };
    }

-- the n-th record of a lane among the lines that an attempt passed on stands committed in it
pub record Stands (streams : List ConfStream) (read : Reading) (lane : Lane) (events : List Event) (n : ℕ) : Type 0 where
  pub entry : Entry
  pub is : slice_get (lane_entries lane (passed (ids_of streams) read events)) n ≡ Some entry
  pub committed : IsCommitted streams events entry

pub stands_on : (streams : List ConfStream) (read : Reading) (lane : Lane) (events : List Event) (event : Event) (n : ℕ) → Stands streams read lane events n → Stands streams read lane (events ++ event ∷ []) n
stands_on streams read lane events event n stands = record {
  entry = stands.entry;
  is = ap (λ lines. slice_get (lane_entries lane lines) n) (passed-append (ids_of streams) read events (event ∷ [])) ∙ nth_front lane (passed (ids_of streams) read events) (passed (ids_of streams) read (event ∷ [])) n stands.entry stands.is;
  committed = committed_on streams events event stands.entry stands.committed;
}
