-- A text of the state store, and an array of states, have one reading each.
use Rattle.std.proofs.Common.{◌≡◌, ◌≢◌, inl, inr, ℕ, List, [], ◌∷◌, Option, None, Some, Result, Ok, Err, Bool, true, false, cond, ◌||◌, ◌&&◌, ◌==◌, refl, sym, ◌∙◌, ap, subst, map, length, is_some}
use Rattle.std.specs.List.{list_any}
use Rattle.std.specs.Option.{option_map}
use Rattle.json_fields.specs.Answer.{IsAnswer, IsOnly}
use Rattle.basics.specs.declared.stream.StreamId.{StreamId}
use Rattle.stream_index.specs.Distinct.{AreDistinct}
use Rattle.airbyte_message.specs.State.{State}
use Rattle.outside.specs.declared.faults.StateFault.{StateFault}
use Rattle.outside.specs.declared.faults.StateFault.TheVariants as fault
use Rattle.catalog.specs.Checks.{unless}
use Rattle.state_kinds.specs.declared.entry.SavedEntry.{SavedEntry}
use Rattle.state_kinds.specs.declared.stored.Stored.{Stored}
use Rattle.state_kinds.specs.declared.stored.StoredEntry.{StoredEntry}
use Rattle.state_kinds.specs.Saved.{Saved, IsIndexOf, entry_ids, has_states}
use Rattle.state_kinds.specs.Store.{IsIndexOfStored, IsStored, ReadsStore, first_fault, is_global_kind, is_legacy, is_legacy_kind, is_mixed, is_stray, is_stream_kind, is_too_large, is_twice, repeats_stream, saved_entry, set_of, store_fault, stored_ids}
use Rattle.state_kinds.specs.StateLists.{AreStates, ReadsStates, first_list_fault, has_kind, list_fault, repeats_lane}

-- ---- the checks before the last, and the last

earlier : (a b c : Bool) (last : Option StateFault) (found : StateFault) → cond a (Some fault.TooLarge) (cond b (Some fault.Legacy) (cond c (Some fault.Mixed) None)) ≡ Some found → cond a (Some fault.TooLarge) (cond b (Some fault.Legacy) (cond c (Some fault.Mixed) last)) ≡ Some found
earlier true b c last found e = e
earlier false true c last found e = e
earlier false false true last found e = e
earlier false false false last found e = absurd (cc)

later : (a b c : Bool) (last : Option StateFault) → cond a (Some fault.TooLarge) (cond b (Some fault.Legacy) (cond c (Some fault.Mixed) None)) ≡ None → cond a (Some fault.TooLarge) (cond b (Some fault.Legacy) (cond c (Some fault.Mixed) last)) ≡ last
later true b c last e = absurd (cc)
later false true c last e = absurd (cc)
later false false true last e = absurd (cc)
later false false false last e = refl

third : (a b c : Bool) (last : Option StateFault) → cond a (Some fault.TooLarge) (cond b (Some fault.Legacy) (cond c (Some fault.Mixed) last)) ≡ None → c ≡ false
third true b c last e = absurd (cc)
third false true c last e = absurd (cc)
third false false true last e = absurd (cc)
third false false false last e = refl

pub first_found : (stored : Stored) (found : StateFault) → first_fault stored ≡ Some found → store_fault stored ≡ Some found
first_found stored found e = earlier (is_too_large stored) (is_legacy stored) (is_mixed stored) (cond (is_twice stored) (Some fault.Twice) None) found e

pub twice_found : (stored : Stored) → first_fault stored ≡ None → is_twice stored ≡ true → store_fault stored ≡ Some fault.Twice
twice_found stored none twice =
    later (is_too_large stored) (is_legacy stored) (is_mixed stored) (cond (is_twice stored) (Some fault.Twice) None) none ∙ ap (λ (b : Bool). cond b (Some fault.Twice) None) twice

pub none_found : (stored : Stored) → first_fault stored ≡ None → is_twice stored ≡ false → store_fault stored ≡ None
none_found stored none once =
    later (is_too_large stored) (is_legacy stored) (is_mixed stored) (cond (is_twice stored) (Some fault.Twice) None) none ∙ ap (λ (b : Bool). cond b (Some fault.Twice) None) once

pub repeated_twice : (stored : Stored) → repeats_stream (stored_ids stored.entries) ≡ true → is_twice stored ≡ true
repeated_twice stored e = ap (λ (b : Bool). b || list_any is_stray stored.entries) e

pub stray_twice : (stored : Stored) → list_any is_stray stored.entries ≡ true → is_twice stored ≡ true
stray_twice stored e = ap (λ (b : Bool). repeats_stream (stored_ids stored.entries) || b) e ∙ or_true (repeats_stream (stored_ids stored.entries))
  where
    or_true : (b : Bool) → (b || true) ≡ true
    or_true true = refl
    or_true false = refl

pub not_twice : (stored : Stored) → repeats_stream (stored_ids stored.entries) ≡ false → list_any is_stray stored.entries ≡ false → is_twice stored ≡ false
not_twice stored e f = ap (λ (b : Bool). b || list_any is_stray stored.entries) e ∙ f

-- ---- the set

saved_ids : (entries : List StoredEntry) → entry_ids (map saved_entry entries) ≡ stored_ids entries
saved_ids [] = refl
saved_ids (entry ∷ entries) = ap (λ (ids : List StreamId). entry.id ∷ ids) (saved_ids entries)

object_there : (state : Option State) → is_some (option_map (λ (s : State). s.object) state) ≡ is_some state
object_there None = refl
object_there (Some state) = refl

saved_states : (entries : List StoredEntry) → has_states (map saved_entry entries) ≡ list_any (λ (entry : StoredEntry). is_some entry.state) entries
saved_states [] = refl
saved_states (entry ∷ entries) =
    ap (λ (b : Bool). b || has_states (map saved_entry entries)) (object_there entry.state) ∙ ap (λ (b : Bool). is_some entry.state || b) (saved_states entries)

pub saved_index : (entries : List StoredEntry) (saved : List SavedEntry) (index : List StreamId) → saved ≡ map saved_entry entries → IsIndexOfStored (stored_ids entries) (Some index) → IsIndexOf saved index
saved_index entries saved index is h = record {
  ids = h.1 ∙ (sym (saved_ids entries) ∙ ap entry_ids (sym is));
  distinct = subst (λ (ids : List StreamId). AreDistinct ids) (sym (saved_ids entries) ∙ ap entry_ids (sym is)) h.2;
}

or_first : (a b : Bool) → (a || b) ≡ false → a ≡ false
or_first true b e = e
or_first false b e = refl

and_second : (a b : Bool) → a ≡ true → (a && b) ≡ false → b ≡ false
and_second true b t e = e
and_second false b t e = absurd (let h : false ≡ true = t in cc)

pub saved_one_kind : (stored : Stored) (saved : List SavedEntry) (global : Option (List ℕ)) → store_fault stored ≡ None → saved ≡ map saved_entry stored.entries → global ≡ option_map (λ (s : State). s.object) stored.global → is_some global ≡ true → has_states saved ≡ false
saved_one_kind stored saved global sound is all some =
    let one : is_mixed stored ≡ false = third (is_too_large stored) (is_legacy stored) (is_mixed stored) (cond (is_twice stored) (Some fault.Twice) None) sound in
    let stated : Bool = list_any (λ (entry : StoredEntry). is_some entry.state) stored.entries in
    let both : (is_some stored.global && stated) ≡ false = or_first (is_some stored.global && stated) _ one in
    let there : is_some stored.global ≡ true = sym (object_there stored.global) ∙ (ap is_some (sym all) ∙ some) in
    ap has_states is ∙ (saved_states stored.entries ∙ and_second (is_some stored.global) stated there both)

-- ---- readings of the store

pub some_text : (text : List ℕ) (b : Bool) → b ≡ (length text == 0) → b ≡ false → text ≢ []
some_text [] b e is = λ same. let h : true ≡ false = sym e ∙ is in cc
some_text (byte ∷ text) b e is = λ same. cc

pub reads_other : (text : List ℕ) → text ≢ [] → IsAnswer (IsStored text) None → IsOnly (ReadsStore text) (Err fault.NotJson)
reads_other [] some none = absurd (some refl)
reads_other (byte ∷ text) some none = record {
  is = inl (none, refl);
  only = λ other r. elim r [ inl p ↦ p.1 | inr q ↦ absurd (none q.0 q.1) ];
}

pub reads_stored : (text : List ℕ) (stored : Stored) (reading : Result Saved StateFault) → text ≢ [] → IsOnly (IsStored text) stored → reading ≡ unless (store_fault stored) (set_of stored) → IsOnly (ReadsStore text) reading
reads_stored [] stored reading some only e = absurd (some refl)
reads_stored (byte ∷ text) stored reading some only e = record {
  is = inr (stored, only.is, e);
  only = λ other r. elim r [ inl p ↦ absurd (p.0 stored only.is) | inr q ↦ q.2 ∙ (ap (λ (s : Stored). unless (store_fault s) (set_of s)) (only.only q.0 q.1) ∙ sym e) ];
}

pub reads_set : (text : List ℕ) (stored : Stored) (saved : Saved) → text ≢ [] → IsOnly (IsStored text) stored → store_fault stored ≡ None → saved ≡ set_of stored → IsOnly (ReadsStore text) (Ok saved)
reads_set text stored saved some only sound is =
    reads_stored text stored (Ok saved) some only (ap (λ (s : Saved). Ok s) is ∙ sym (ap (λ (o : Option StateFault). unless o (set_of stored)) sound))

pub reads_fault : (text : List ℕ) (stored : Stored) (found : StateFault) → text ≢ [] → IsOnly (IsStored text) stored → store_fault stored ≡ Some found → IsOnly (ReadsStore text) (Err found)
reads_fault text stored found some only is =
    reads_stored text stored (Err found) some only (sym (ap (λ (o : Option StateFault). unless o (set_of stored)) is))

-- ---- readings of an array of states

earlier_two : (a b : Bool) (last : Option StateFault) (found : StateFault) → cond a (Some fault.Legacy) (cond b (Some fault.Mixed) None) ≡ Some found → cond a (Some fault.Legacy) (cond b (Some fault.Mixed) last) ≡ Some found
earlier_two true b last found e = e
earlier_two false true last found e = e
earlier_two false false last found e = absurd (cc)

later_two : (a b : Bool) (last : Option StateFault) → cond a (Some fault.Legacy) (cond b (Some fault.Mixed) None) ≡ None → cond a (Some fault.Legacy) (cond b (Some fault.Mixed) last) ≡ last
later_two true b last e = absurd (cc)
later_two false true last e = absurd (cc)
later_two false false last e = refl

abbrev mixed : List State → Bool
mixed states = has_kind is_stream_kind states && has_kind is_global_kind states

pub list_first : (states : List State) (found : StateFault) → first_list_fault states ≡ Some found → list_fault states ≡ Some found
list_first states found e = earlier_two (has_kind is_legacy_kind states) (mixed states) (cond (repeats_lane states) (Some fault.Twice) None) found e

pub list_last : (states : List State) → first_list_fault states ≡ None → list_fault states ≡ cond (repeats_lane states) (Some fault.Twice) None
list_last states e = later_two (has_kind is_legacy_kind states) (mixed states) (cond (repeats_lane states) (Some fault.Twice) None) e

pub lists_other : (text : List ℕ) → IsAnswer (AreStates text) None → IsOnly (ReadsStates text) (Err fault.NotJson)
lists_other text none = record {
  is = inl (none, refl);
  only = λ other r. elim r [ inl p ↦ p.1 | inr q ↦ absurd (none q.0 q.1) ];
}

lists_stored : (text : List ℕ) (states : List State) (reading : Result (List State) StateFault) → IsOnly (AreStates text) states → reading ≡ unless (list_fault states) states → IsOnly (ReadsStates text) reading
lists_stored text states reading only e = record {
  is = inr (states, only.is, e);
  only = λ other r. elim r [ inl p ↦ absurd (p.0 states only.is) | inr q ↦ q.2 ∙ (ap (λ (s : List State). unless (list_fault s) s) (only.only q.0 q.1) ∙ sym e) ];
}

pub lists_states : (text : List ℕ) (states : List State) → IsOnly (AreStates text) states → first_list_fault states ≡ None → repeats_lane states ≡ false → IsOnly (ReadsStates text) (Ok states)
lists_states text states only first once =
    lists_stored text states (Ok states) only (sym (ap (λ (o : Option StateFault). unless o states) (list_last states first ∙ ap (λ (b : Bool). cond b (Some fault.Twice) None) once)))

pub lists_fault : (text : List ℕ) (states : List State) (found : StateFault) → IsOnly (AreStates text) states → list_fault states ≡ Some found → IsOnly (ReadsStates text) (Err found)
lists_fault text states found only is = lists_stored text states (Err found) only (sym (ap (λ (o : Option StateFault). unless o states) is))

pub lists_twice : (text : List ℕ) (states : List State) → IsOnly (AreStates text) states → first_list_fault states ≡ None → repeats_lane states ≡ true → IsOnly (ReadsStates text) (Err fault.Twice)
lists_twice text states only first twice = lists_fault text states fault.Twice only (list_last states first ∙ ap (λ (b : Bool). cond b (Some fault.Twice) None) twice)
