-- A state is put in the place of that of its stream.
use Rattle.std.proofs.Common.{◌≡◌, ℕ, List, [], ◌∷◌, Some, zero, suc, Result, Ok, Err, Bool, true, false, cond, ◌||◌, refl, sym, ◌∙◌, ap, subst, map, set, slice_get, get_or, is_some}
use Rattle.basics.specs.declared.stream.StreamId.{StreamId}
use Rattle.stream_index.specs.Distinct.{AreDistinct}
use Rattle.stream_index.specs.Same.{is_same_stream}
use Rattle.stream_index.proofs.IndexLemmas.{Decides-stream, list_any-at, same_absent}
use Rattle.outside.specs.declared.faults.StateFault.{StateFault}
use Rattle.outside.specs.declared.faults.StateFault.TheVariants as fault
use Rattle.state_kinds.specs.declared.entry.SavedEntry.{SavedEntry}
use Rattle.state_kinds.specs.Saved.{Saved, IsIndexOf, IsKept, entry_ids, has_states, has_stream}
use Rattle.state_kinds.specs.Changes.{put_stream, with_state}
use Rattle.state_kinds.proofs.FindLemmas.{None-is_Some, by_cases, map_one, one_value}
use Rattle.state_kinds.proofs.BeginLemmas.{entry_read, id_at, same_id}

pub indexed : (set : Saved) (index : List StreamId) (b : Bool) → IsKept set index b → IsIndexOf set.entries index
indexed set index b k = record { ids = k.ids; distinct = k.saved.distinct }

-- the entry with this state in place of its own
abbrev pub stated : SavedEntry → List ℕ → SavedEntry
stated entry object = record { id = entry.id; generation = entry.generation; state = Some object }

with_state_is : (id : StreamId) (object : List ℕ) (entry : SavedEntry) → is_same_stream id entry.id ≡ true → with_state id object entry ≡ stated entry object
with_state_is id object entry e = ap (λ (b : Bool). cond b (stated entry object) entry) e

put_at : (entries : List SavedEntry) (index : List StreamId) (place : ℕ) (id : StreamId) (object : List ℕ) (entry : SavedEntry) → IsIndexOf entries index → slice_get index place ≡ Some id → slice_get entries place ≡ Some entry → map (with_state id object) entries ≡ set entries place (stated entry object)
put_at entries index place id object entry h at here =
    let there : slice_get (entry_ids entries) place ≡ Some id = ap (λ (ids : List StreamId). slice_get ids place) (sym h.ids) ∙ at in
    let same : is_same_stream id entry.id ≡ true = (Decides-stream id entry.id).1 (one_value id entry.id (sym there ∙ id_at entries place entry here)) in
    map_one (with_state id object) entries place entry here
    (λ j y p q. ap (λ (b : Bool). cond b (stated y object) y) (by_cases (is_same_stream id y.id) (λ e. absurd (q (h.distinct j place id (id_at entries j y p ∙ same_id id y e) there))) (λ e. e)))
    ∙ ap (λ (e : SavedEntry). set entries place e) (with_state_is id object entry same)

has_at : (entries : List SavedEntry) (index : List StreamId) (place : ℕ) (id : StreamId) → index ≡ entry_ids entries → slice_get index place ≡ Some id → has_stream (entry_ids entries) id ≡ true
has_at entries index place id ids at = list_any-at (is_same_stream id) (entry_ids entries) place id (ap (λ (i : List StreamId). slice_get i place) (sym ids) ∙ at) ((Decides-stream id id).1 refl)

pub stream_put : (set_is : Saved) (index : List StreamId) (b : Bool) (place : ℕ) (id : StreamId) (object : List ℕ) (entry : SavedEntry) → IsKept set_is index b → is_some set_is.global ≡ false → slice_get index place ≡ Some id → entry ≡ get_or set_is.entries place entry → put_stream id object set_is ≡ Ok (record { entries = set set_is.entries place (stated entry object); global = set_is.global })
stream_put set_is index b place id object entry k none at is =
    let entries = set_is.entries in
    let here = entry_read entries index place id entry k.ids at is in
    let known : Result Saved StateFault = Ok (record { entries = map (with_state id object) entries; global = set_is.global }) in
    ap (λ (c : Bool). cond c (Err fault.Mixed) (cond (has_stream (entry_ids entries) id) known (Err fault.Unknown))) none
    ∙ (ap (λ (c : Bool). cond c known (Err fault.Unknown)) (has_at entries index place id k.ids at)
    ∙ ap (λ (es : List SavedEntry). Ok (record { entries = es; global = set_is.global })) (put_at entries index place id object entry (indexed set_is index b k) at here))

pub stream_unknown : (set_is : Saved) (index : List StreamId) (b : Bool) (id : StreamId) (object : List ℕ) → IsKept set_is index b → is_some set_is.global ≡ false → ((place : ℕ) → ¬ (slice_get index place ≡ Some id)) → put_stream id object set_is ≡ Err fault.Unknown
stream_unknown set_is index b id object k none absent =
    let entries = set_is.entries in
    let known : Result Saved StateFault = Ok (record { entries = map (with_state id object) entries; global = set_is.global }) in
    ap (λ (c : Bool). cond c (Err fault.Mixed) (cond (has_stream (entry_ids entries) id) known (Err fault.Unknown))) none
    ∙ ap (λ (c : Bool). cond c known (Err fault.Unknown)) (same_absent (entry_ids entries) id (λ place there. absent place (ap (λ (i : List StreamId). slice_get i place) k.ids ∙ there)))

pub stated_ids : (id : StreamId) (object : List ℕ) (entries : List SavedEntry) → entry_ids (map (with_state id object) entries) ≡ entry_ids entries
stated_ids id object [] = refl
stated_ids id object (entry ∷ entries) =
    ap (λ (i : StreamId). i ∷ entry_ids (map (with_state id object) entries)) (by_cases (is_same_stream id entry.id) (λ e. ap (λ (b : Bool). (cond b (stated entry object) entry).id) e) (λ e. ap (λ (b : Bool). (cond b (stated entry object) entry).id) e))
    ∙ ap (λ (is : List StreamId). entry.id ∷ is) (stated_ids id object entries)

set_states : (entries : List SavedEntry) (place : ℕ) (entry : SavedEntry) (object : List ℕ) → slice_get entries place ≡ Some entry → has_states (set entries place (stated entry object)) ≡ true
set_states [] place entry object at = absurd (None-is_Some entry at)
set_states (e ∷ entries) zero entry object at = refl
set_states (e ∷ entries) (suc place) entry object at = by_cases (is_some e.state)
    (λ p. ap (λ (b : Bool). b || has_states (set entries place (stated entry object))) p)
    (λ p. ap (λ (b : Bool). b || has_states (set entries place (stated entry object))) p ∙ set_states entries place entry object at)

pub put_kept : (set_is : Saved) (index : List StreamId) (b : Bool) (place : ℕ) (id : StreamId) (object : List ℕ) (entry : SavedEntry) → IsKept set_is index b → is_some set_is.global ≡ false → slice_get index place ≡ Some id → entry ≡ get_or set_is.entries place entry → IsKept (record { entries = set set_is.entries place (stated entry object); global = set_is.global }) index true
put_kept set_is index b place id object entry k none at is =
    let entries = set_is.entries in
    let here = entry_read entries index place id entry k.ids at is in
    let ids : entry_ids entries ≡ entry_ids (set entries place (stated entry object)) =
    sym (stated_ids id object entries) ∙ ap entry_ids (put_at entries index place id object entry (indexed set_is index b k) at here) in
    record {
      ids = k.ids ∙ ids;
      by_stream = sym (set_states entries place entry object here);
      saved = record {
        distinct = subst (λ (i : List StreamId). AreDistinct i) ids k.saved.distinct;
        one_kind = λ some. absurd (let h : false ≡ true = sym none ∙ some in cc);
      };
    }
