-- What the beginning of an attempt makes of the entries of a set.
use Rattle.std.proofs.Common.{◌≡◌, ◌⊎◌, inl, inr, ℕ, zero, suc, List, [], ◌∷◌, ◌++◌, Option, None, Some, Bool, true, false, cond, not, ◌||◌, ◌==◌, refl, sym, ◌∙◌, ap, subst, arith, ◌<◌, ◌≤◌, ◌+◌, length, take, drop, map, filter, slice_get, get_or, set, is_some, option_map, append_assoc, append-nil}
use Rattle.std.specs.List.{list_any}
use Rattle.std.proofs.lemmas.List.{take_all, map_push}
use Rattle.std.proofs.lemmas.List.Elements.{filter-append}
use Rattle.std.proofs.lemmas.List.Folds.{list_any-append}
use Rattle.std.proofs.lemmas.Option.{slice_get-map, slice_get_within}
use Rattle.std.proofs.Math.Seq.{take-append_seam}
use Rattle.std.proofs.Math.ListN.{length-set}
use Rattle.std.proofs.lemmas.List.{length-map}
use Rattle.std.proofs.lemmas.Option.{slice_get_read}
use Rattle.json_fields.specs.Answer.{IsOnly}
use Rattle.basics.specs.declared.stream.StreamId.{StreamId}
use Rattle.stream_index.specs.Distinct.{AreDistinct}
use Rattle.stream_index.specs.Same.{is_same_stream}
use Rattle.stream_index.proofs.DistinctLemmas.{distinct_more}
use Rattle.stream_index.proofs.IndexLemmas.{Decides-stream, list_any-at, same_absent, same_present}
use Rattle.catalog.specs.declared.stream.ConfStream.{ConfStream}
use Rattle.catalog.specs.declared.stream.Gen.{Gen}
use Rattle.catalog.specs.Reading.{ids_of}
use Rattle.state_kinds.specs.declared.entry.SavedEntry.{SavedEntry}
use Rattle.state_kinds.specs.Saved.{Saved, IsIndexOf, IsKept, entry_ids, entry_of, has_states, has_stream}
use Rattle.state_kinds.specs.Changes.{Given, added, generation_of, given_of, is_changed, is_of, new_entry, renewed, renewed_to}
use Rattle.state_kinds.proofs.FindLemmas.{None-is_Some, one_value, by_cases, find_first, find_no, taken, taken_place, absent_append, present_append, map_step}

-- ---- entries by their streams

pub id_at : (entries : List SavedEntry) (place : ℕ) (entry : SavedEntry) → slice_get entries place ≡ Some entry → slice_get (entry_ids entries) place ≡ Some entry.id
id_at entries place entry at = slice_get-map (λ (e : SavedEntry). e.id) entries place ∙ ap (λ (o : Option SavedEntry). option_map (λ (e : SavedEntry). e.id) o) at

pub same_id : (id : StreamId) (entry : SavedEntry) → is_same_stream id entry.id ≡ true → Some entry.id ≡ Some id
same_id id entry e = ap (λ (i : StreamId). Some i) (sym ((Decides-stream id entry.id).0 e))

pub entry_found : (entries : List SavedEntry) (index : List StreamId) (place : ℕ) (id : StreamId) (entry : SavedEntry) → IsIndexOf entries index → slice_get index place ≡ Some id → slice_get entries place ≡ Some entry → entry_of entries id ≡ Some entry
entry_found entries index place id entry h at here =
    let there : slice_get (entry_ids entries) place ≡ Some id = ap (λ (ids : List StreamId). slice_get ids place) (sym h.ids) ∙ at in
    let same : id ≡ entry.id = one_value id entry.id (sym there ∙ id_at entries place entry here) in
    find_first (λ (e : SavedEntry). is_same_stream id e.id) entries place entry here ((Decides-stream id entry.id).1 same)
    (λ j y p q. h.distinct j place id (id_at entries j y p ∙ same_id id y q) there)

pub entry_absent : (entries : List SavedEntry) (index : List StreamId) (id : StreamId) → IsIndexOf entries index → ((place : ℕ) → ¬ (slice_get index place ≡ Some id)) → entry_of entries id ≡ None
entry_absent entries index id h none =
    find_no (λ (e : SavedEntry). is_same_stream id e.id) entries
    (λ j y p q. none j (ap (λ (ids : List StreamId). slice_get ids j) h.ids ∙ (id_at entries j y p ∙ same_id id y q)))

-- ---- what streams are given

pub given_at : (streams : List ConfStream) (gens : List Gen) (n : ℕ) (stream : ConfStream) (gen : Gen) → slice_get streams n ≡ Some stream → slice_get gens n ≡ Some gen → slice_get (given_of streams gens) n ≡ Some (stream.id, gen.generation)
given_at [] gens n stream gen a b = absurd (None-is_Some stream a)
given_at (s ∷ streams) [] n stream gen a b = absurd (None-is_Some gen b)
given_at (s ∷ streams) (g ∷ gens) zero stream gen a b =
    ap (λ (v : ConfStream). Some (v.id, g.generation)) (one_value s stream a) ∙ ap (λ (w : Gen). Some (stream.id, w.generation)) (one_value g gen b)
given_at (s ∷ streams) (g ∷ gens) (suc n) stream gen a b = given_at streams gens n stream gen a b

given_back : (streams : List ConfStream) (gens : List Gen) (j : ℕ) (pair : StreamId × ℕ) → slice_get (given_of streams gens) j ≡ Some pair → slice_get (ids_of streams) j ≡ Some pair.0
given_back [] gens j pair at = absurd (None-is_Some pair at)
given_back (s ∷ streams) [] j pair at = absurd (None-is_Some pair at)
given_back (s ∷ streams) (g ∷ gens) zero pair at = ap (λ (o : Option (StreamId × ℕ)). option_map (λ (p : StreamId × ℕ). p.0) o) at
given_back (s ∷ streams) (g ∷ gens) (suc j) pair at = given_back streams gens j pair at

pub given_length : (streams : List ConfStream) (gens : List Gen) → length gens ≡ length streams → length (given_of streams gens) ≡ length streams
given_length [] gens e = refl
given_length (s ∷ streams) [] e = e
given_length (s ∷ streams) (g ∷ gens) e = ap suc (given_length streams gens (let h : length gens ≡ length streams = omega arith in h))

stream_at : (streams : List ConfStream) (n : ℕ) (id : StreamId) → slice_get (ids_of streams) n ≡ Some id → (stream : ConfStream) × (slice_get streams n ≡ Some stream) × (stream.id ≡ id)
stream_at [] n id at = absurd (None-is_Some id at)
stream_at (s ∷ streams) zero id at = (s, refl, one_value s.id id at)
stream_at (s ∷ streams) (suc n) id at = stream_at streams n id at

pub given_found : (streams : List ConfStream) (gens : List Gen) (n : ℕ) (id : StreamId) (gen : Gen) → IsOnly (λ (k : ℕ). slice_get (ids_of streams) k ≡ Some id) n → slice_get gens n ≡ Some gen → generation_of (given_of streams gens) id ≡ Some gen.generation
given_found streams gens n id gen only at =
    let s = stream_at streams n id only.is in
    ap (λ (o : Option (StreamId × ℕ)). option_map (λ (p : StreamId × ℕ). p.1) o)
    (find_first (λ (p : StreamId × ℕ). is_same_stream id p.0) (given_of streams gens) n (s.0.id, gen.generation) (given_at streams gens n s.0 gen s.1 at) ((Decides-stream id s.0.id).1 (sym s.2))
    (λ j y p q. only.only j (given_back streams gens j y p ∙ ap (λ (i : StreamId). Some i) (sym ((Decides-stream id y.0).0 q)))))

pub given_absent : (streams : List ConfStream) (gens : List Gen) (id : StreamId) → ((n : ℕ) → ¬ (slice_get (ids_of streams) n ≡ Some id)) → generation_of (given_of streams gens) id ≡ None
given_absent streams gens id none =
    ap (λ (o : Option (StreamId × ℕ)). option_map (λ (p : StreamId × ℕ). p.1) o)
    (find_no (λ (p : StreamId × ℕ). is_same_stream id p.0) (given_of streams gens)
    (λ j y p q. none j (given_back streams gens j y p ∙ ap (λ (i : StreamId). Some i) (sym ((Decides-stream id y.0).0 q)))))

-- ---- whether one is changed

pub unchanged_more : (entries : List SavedEntry) (given : Given) (n : ℕ) (id : StreamId) (generation : ℕ) → slice_get given n ≡ Some (id, generation) → is_of generation (entry_of entries id) ≡ true → list_any (is_changed entries) (take n given) ≡ false → list_any (is_changed entries) (take (n + 1) given) ≡ false
unchanged_more entries given n id generation at same so_far =
    let pair : StreamId × ℕ = (id, generation) in
    ap (λ (ps : Given). list_any (is_changed entries) ps) (taken given n pair at)
    ∙ (list_any-append (is_changed entries) (take n given) (pair ∷ [])
    ∙ (ap (λ (b : Bool). b || list_any (is_changed entries) (pair ∷ [])) so_far ∙ ap (λ (b : Bool). not b || false) same))

pub changed_at : (entries : List SavedEntry) (given : Given) (n : ℕ) (id : StreamId) (generation : ℕ) → slice_get given n ≡ Some (id, generation) → is_of generation (entry_of entries id) ≡ false → list_any (is_changed entries) given ≡ true
changed_at entries given n id generation at other = list_any-at (is_changed entries) given n (id, generation) at (ap not other)

pub unchanged_all : (entries : List SavedEntry) (given : Given) (n : ℕ) → length given ≤ n → list_any (is_changed entries) (take n given) ≡ false → list_any (is_changed entries) given ≡ false
unchanged_all entries given n done so_far = ap (λ (ps : Given). list_any (is_changed entries) ps) (sym (take_all n given done)) ∙ so_far

-- ---- what is added

-- the pairs of streams that are not among these
abbrev pub new_pairs : Given → List StreamId → Given
new_pairs given ids = filter (λ (p : StreamId × ℕ). not (has_stream ids p.0)) given

added_last : (given : Given) (ids : List StreamId) (pair : StreamId × ℕ) → has_stream ids pair.0 ≡ false → added (given ++ pair ∷ []) ids ≡ added given ids ++ new_entry pair ∷ []
added_last given ids pair absent =
    ap (λ (ps : Given). map new_entry ps) (filter-append (λ (p : StreamId × ℕ). not (has_stream ids p.0)) given (pair ∷ []) ∙ ap (λ (b : Bool). new_pairs given ids ++ cond (not b) (pair ∷ []) []) absent)
    ∙ map_push new_entry (new_pairs given ids) pair

added_not : (given : Given) (ids : List StreamId) (pair : StreamId × ℕ) → has_stream ids pair.0 ≡ true → added (given ++ pair ∷ []) ids ≡ added given ids
added_not given ids pair there =
    ap (λ (ps : Given). map new_entry ps) (filter-append (λ (p : StreamId × ℕ). not (has_stream ids p.0)) given (pair ∷ []) ∙ (ap (λ (b : Bool). new_pairs given ids ++ cond (not b) (pair ∷ []) []) there ∙ append-nil (new_pairs given ids)))

-- an added entry is of a stream that is given a generation
added_member : (b : Bool) (pair : StreamId × ℕ) (pairs : Given) (p : ℕ) (id : StreamId) → slice_get (entry_ids (map new_entry (cond b (pair ∷ pairs) pairs))) p ≡ Some id → (pair.0 ≡ id) ⊎ ((i : ℕ) × (slice_get (entry_ids (map new_entry pairs)) i ≡ Some id))
added_member true pair pairs zero id at = inl (one_value pair.0 id at)
added_member true pair pairs (suc p) id at = inr (p, at)
added_member false pair pairs p id at = inr (p, at)

added_back : (given : Given) (ids : List StreamId) (p : ℕ) (id : StreamId) → slice_get (entry_ids (added given ids)) p ≡ Some id → (j : ℕ) × (generation : ℕ) × (slice_get given j ≡ Some (id, generation))
added_back [] ids p id at = absurd (None-is_Some id at)
added_back (pair ∷ given) ids p id at =
    elim (added_member (not (has_stream ids pair.0)) pair (new_pairs given ids) p id at) [
      | inl here ↦ (0, pair.1, ap (λ (i : StreamId). Some (i, pair.1)) here)
      | inr there ↦ (let r = added_back given ids there.0 id there.1 in (suc r.0, r.1, r.2))
    ]

-- what the loop has found: the entries so far, and the index with their streams
pub record HasAdded (given : Given) (n : ℕ) (old now : List StreamId) (found : List SavedEntry) : Type 0 where
  pub entries : found ≡ added (take n given) old
  pub index : now ≡ old ++ entry_ids found
  pub distinct : AreDistinct now

pub added_first : (given : Given) (old index : List StreamId) (entries : List SavedEntry) → AreDistinct old → index ≡ old → entries ≡ [] → HasAdded given 0 old index entries
added_first given old index entries distinct same empty = record {
  entries = empty;
  index = same ∙ (sym (append-nil old) ∙ ap (λ (es : List SavedEntry). old ++ entry_ids es) (sym empty));
  distinct = subst (λ (ids : List StreamId). AreDistinct ids) (sym same) distinct;
}

-- the stream at hand is in the index exactly where it was there before
earlier_absent : (streams : List ConfStream) (gens : List Gen) (n : ℕ) (old index : List StreamId) (entries : List SavedEntry) (stream : ConfStream) → AreDistinct (ids_of streams) → slice_get (ids_of streams) n ≡ Some stream.id → HasAdded (given_of streams gens) n old index entries → ((p : ℕ) → ¬ (slice_get old p ≡ Some stream.id)) → (p : ℕ) → ¬ (slice_get index p ≡ Some stream.id)
earlier_absent streams gens n old index entries stream distinct at h none = λ p there.
    let given = given_of streams gens in
    let new : (q : ℕ) → ¬ (slice_get (entry_ids entries) q ≡ Some stream.id) = λ q here.
    (let r = added_back (take n given) old q stream.id (ap (λ (es : List SavedEntry). slice_get (entry_ids es) q) (sym h.entries) ∙ here) in
    let s = taken_place given n r.0 (stream.id, r.1) r.2 in
    let e : r.0 ≡ n = distinct r.0 n stream.id (given_back streams gens r.0 (stream.id, r.1) s.0) at in
    let lt : r.0 < n = s.1 in
    absurd (omega arith)) in
    absent_append old (entry_ids entries) stream.id none new p (ap (λ (ids : List StreamId). slice_get ids p) (sym h.index) ∙ there)

pub added_more : (streams : List ConfStream) (gens : List Gen) (n : ℕ) (old index now_index : List StreamId) (entries now : List SavedEntry) (stream : ConfStream) (gen : Gen) (id : StreamId) → slice_get streams n ≡ Some stream → slice_get gens n ≡ Some gen → id ≡ stream.id → ((p : ℕ) → ¬ (slice_get index p ≡ Some id)) → now_index ≡ index ++ id ∷ [] → now ≡ entries ++ new_entry (stream.id, gen.generation) ∷ [] → HasAdded (given_of streams gens) n old index entries → HasAdded (given_of streams gens) (n + 1) old now_index now
added_more streams gens n old index now_index entries now stream gen id at gen_at same none grew pushed h =
    let given = given_of streams gens in
    let pair : StreamId × ℕ = (stream.id, gen.generation) in
    let none_old : (p : ℕ) → ¬ (slice_get old p ≡ Some stream.id) = λ p there. none p (ap (λ (ids : List StreamId). slice_get ids p) h.index ∙ (present_append old (entry_ids entries) stream.id p there ∙ ap (λ (i : StreamId). Some i) (sym same))) in
    record {
      entries = pushed ∙ (ap (λ (es : List SavedEntry). es ++ new_entry pair ∷ []) h.entries ∙ (sym (added_last (take n given) old pair (same_absent old stream.id none_old)) ∙ ap (λ (ps : Given). added ps old) (sym (taken given n pair (given_at streams gens n stream gen at gen_at)))));
      index = grew ∙ (ap (λ (i : StreamId). index ++ i ∷ []) same ∙ (ap (λ (ids : List StreamId). ids ++ stream.id ∷ []) h.index ∙ (append_assoc old (entry_ids entries) (stream.id ∷ []) ∙ ap (λ (ids : List StreamId). old ++ ids) (sym (ap entry_ids pushed ∙ map_push (λ (e : SavedEntry). e.id) entries (new_entry pair))))));
      distinct = subst (λ (ids : List StreamId). AreDistinct ids) (sym grew) (distinct_more index id h.distinct none);
    }

-- each stream has its generation
gen_at : (gens : List Gen) (n : ℕ) → n < length gens → (gen : Gen) × (slice_get gens n ≡ Some gen)
gen_at [] n lt = absurd (omega arith)
gen_at (g ∷ gens) zero lt = (g, refl)
gen_at (g ∷ gens) (suc n) lt = gen_at gens n (omega arith)

pub added_skip : (streams : List ConfStream) (gens : List Gen) (n : ℕ) (old index now_index : List StreamId) (entries : List SavedEntry) (stream : ConfStream) (id : StreamId) → AreDistinct (ids_of streams) → length gens ≡ length streams → slice_get streams n ≡ Some stream → id ≡ stream.id → (((p : ℕ) → ¬ (slice_get index p ≡ Some id)) → ⊥) → now_index ≡ index → HasAdded (given_of streams gens) n old index entries → HasAdded (given_of streams gens) (n + 1) old now_index entries
added_skip streams gens n old index now_index entries stream id distinct many at same there kept h =
    let given = given_of streams gens in
    let within : n < length streams = slice_get_within streams n stream at in
    let g = gen_at gens n (omega arith) in
    let pair : StreamId × ℕ = (stream.id, g.0.generation) in
    let place : slice_get (ids_of streams) n ≡ Some stream.id = slice_get-map (λ (s : ConfStream). s.id) streams n ∙ ap (λ (o : Option ConfStream). option_map (λ (s : ConfStream). s.id) o) at in
    let known : has_stream old stream.id ≡ true = same_present old stream.id (λ none. there (subst (λ (i : StreamId). (p : ℕ) → ¬ (slice_get index p ≡ Some i)) (sym same) (earlier_absent streams gens n old index entries stream distinct place h none))) in
    record {
      entries = h.entries ∙ (sym (added_not (take n given) old pair known) ∙ ap (λ (ps : Given). added ps old) (sym (taken given n pair (given_at streams gens n stream g.0 at g.1))));
      index = kept ∙ h.index;
      distinct = subst (λ (ids : List StreamId). AreDistinct ids) (sym kept) h.distinct;
    }

pub added_all : (streams : List ConfStream) (gens : List Gen) (n : ℕ) (old index : List StreamId) (entries : List SavedEntry) → length gens ≡ length streams → length streams ≤ n → HasAdded (given_of streams gens) n old index entries → entries ≡ added (given_of streams gens) old
added_all streams gens n old index entries many done h =
    let long = given_length streams gens many in
    h.entries ∙ ap (λ (ps : Given). added ps old) (take_all n (given_of streams gens) (omega arith))

-- the index that may have more streams still begins with those that it had
pub front_kept : (given : Given) (n : ℕ) (old index now : List StreamId) (entries : List SavedEntry) → now ≡ index → HasAdded given n old index entries → take (length old) now ≡ old
front_kept given n old index now entries same h = ap (λ (ids : List StreamId). take (length old) ids) (same ∙ h.index) ∙ take-append_seam old (entry_ids entries)

pub front_more : (given : Given) (n : ℕ) (old index now : List StreamId) (entries : List SavedEntry) (id : StreamId) → now ≡ index ++ id ∷ [] → HasAdded given n old index entries → take (length old) now ≡ old
front_more given n old index now entries id grew h =
    ap (λ (ids : List StreamId). take (length old) ids) (grew ∙ (ap (λ (ids : List StreamId). ids ++ id ∷ []) h.index ∙ append_assoc old (entry_ids entries) (id ∷ []))) ∙ take-append_seam old (entry_ids entries ++ id ∷ [])

-- ---- the whole

-- entries that had no state have none afterwards
renewed_none : (entry : SavedEntry) (generation : Option ℕ) → is_some entry.state ≡ false → is_some (renewed_to entry generation).state ≡ false
renewed_none entry None none = none
renewed_none entry (Some generation) none = by_cases (entry.generation == generation)
    (λ e. ap (λ (b : Bool). is_some (cond b entry (record entry { generation = generation; state = None })).state) e ∙ none)
    (λ e. ap (λ (b : Bool). is_some (cond b entry (record entry { generation = generation; state = None })).state) e)

or_false : (a b : Bool) → (a || b) ≡ false → (a ≡ false) × (b ≡ false)
or_false true b e = absurd (let h : true ≡ false = e in cc)
or_false false b e = (refl, e)

pub renewed_stateless : (given : Given) (entries : List SavedEntry) → has_states entries ≡ false → has_states (map (renewed given) entries) ≡ false
renewed_stateless given [] none = refl
renewed_stateless given (entry ∷ entries) none =
    let o = or_false (is_some entry.state) (has_states entries) none in
    ap (λ (b : Bool). b || has_states (map (renewed given) entries)) (renewed_none entry (generation_of given entry.id) o.0) ∙ renewed_stateless given entries o.1

pub new_stateless : (pairs : Given) → has_states (map new_entry pairs) ≡ false
new_stateless [] = refl
new_stateless (pair ∷ pairs) = new_stateless pairs

renewed_id : (entry : SavedEntry) (generation : Option ℕ) → (renewed_to entry generation).id ≡ entry.id
renewed_id entry None = refl
renewed_id entry (Some generation) = by_cases (entry.generation == generation)
    (λ e. ap (λ (b : Bool). (cond b entry (record entry { generation = generation; state = None })).id) e)
    (λ e. ap (λ (b : Bool). (cond b entry (record entry { generation = generation; state = None })).id) e)

pub renewed_ids : (given : Given) (entries : List SavedEntry) → entry_ids (map (renewed given) entries) ≡ entry_ids entries
renewed_ids given [] = refl
renewed_ids given (entry ∷ entries) = ap (λ (i : StreamId). i ∷ entry_ids (map (renewed given) entries)) (renewed_id entry (generation_of given entry.id)) ∙ ap (λ (is : List StreamId). entry.id ∷ is) (renewed_ids given entries)

pub ids_append : (xs ys : List SavedEntry) → entry_ids (xs ++ ys) ≡ entry_ids xs ++ entry_ids ys
ids_append [] ys = refl
ids_append (x ∷ xs) ys = ap (λ (is : List StreamId). x.id ∷ is) (ids_append xs ys)

-- the entries of a set that has begun
pub begun_entries : (given : Given) (old : List SavedEntry) (grown next : List SavedEntry) (count : ℕ) (index : List StreamId) → count ≡ length old → index ≡ entry_ids old → grown ≡ old ++ added given index → next ≡ map (renewed given) (take count grown) ++ drop count grown → next ≡ map (renewed given) old ++ added given (entry_ids old)
begun_entries given old grown next count index long ids grew renews =
    let more : List SavedEntry = added given index in
    renews ∙ (ap (λ (k : ℕ). map (renewed given) (take k grown) ++ drop k grown) long ∙ (ap (λ (es : List SavedEntry). map (renewed given) (take (length old) es) ++ drop (length old) es) grew
    ∙ (ap (λ (es : List SavedEntry). map (renewed given) es ++ drop (length old) (old ++ more)) (take-append_seam old more) ∙ (ap (λ (es : List SavedEntry). map (renewed given) old ++ es) (drop_seam old more) ∙ ap (λ (is : List StreamId). map (renewed given) old ++ added given is) ids))))
  where
    drop_seam : (xs ys : List SavedEntry) → drop (length xs) (xs ++ ys) ≡ ys
    drop_seam [] ys = refl
    drop_seam (x ∷ xs) ys = drop_seam xs ys

pub global_kept : (b : Bool) (global : Option (List ℕ)) → is_some (cond b None global) ≡ true → is_some global ≡ true
global_kept true global e = absurd (let h : false ≡ true = e in cc)
global_kept false global e = e

pub begun_kept : (given : Given) (set : Saved) (index now_index : List StreamId) (by_stream now_by_stream : Bool) (next : List SavedEntry) (global : Option (List ℕ)) → IsKept set index by_stream → AreDistinct now_index → now_index ≡ index ++ entry_ids (added given index) → next ≡ map (renewed given) set.entries ++ added given (entry_ids set.entries) → global ≡ cond (list_any (is_changed set.entries) given) None set.global → now_by_stream ≡ has_states next → IsKept (record { entries = next; global = global }) now_index now_by_stream
begun_kept given set index now_index by_stream now_by_stream next global was distinct grew is all states =
    let more : List SavedEntry = added given (entry_ids set.entries) in
    let ids : now_index ≡ entry_ids next =
    grew ∙ (ap (λ (i : List StreamId). i ++ entry_ids (added given i)) was.ids ∙ (ap (λ (i : List StreamId). i ++ entry_ids more) (sym (renewed_ids given set.entries)) ∙ (sym (ids_append (map (renewed given) set.entries) more) ∙ ap entry_ids (sym is)))) in
    record {
      ids = ids;
      by_stream = states;
      saved = record {
        distinct = subst (λ (i : List StreamId). AreDistinct i) ids distinct;
        one_kind = λ some.
            let was_some = global_kept (list_any (is_changed set.entries) given) set.global (ap is_some (sym all) ∙ some) in
            ap has_states is ∙ (list_any-append (λ (e : SavedEntry). is_some e.state) (map (renewed given) set.entries) more
            ∙ (ap (λ (b : Bool). b || has_states more) (renewed_stateless given set.entries (was.saved.one_kind was_some)) ∙ new_stateless (new_pairs given (entry_ids set.entries))));
      };
    }

-- ---- a loop that renews

pub record HasRenewed (given : Given) (i : ℕ) (old now : List SavedEntry) : Type 0 where
  pub is : now ≡ map (renewed given) (take i old) ++ drop i old
  pub many : length now ≡ length old

pub renewed_first : (given : Given) (old : List SavedEntry) → HasRenewed given 0 old old
renewed_first given old = record { is = refl; many = refl }

pub renewed_more : (given : Given) (i : ℕ) (old now next : List SavedEntry) (read item : SavedEntry) (generation : Option ℕ) → i < length old → read ≡ get_or now i read → item ≡ get_or now i item → generation ≡ generation_of given read.id → next ≡ set now i (renewed_to item generation) → HasRenewed given i old now → HasRenewed given (i + 1) old next
renewed_more given i old now next read item generation lt reads same is changed h =
    let here : SavedEntry = get_or now i item in
    let within : i < length now = let m = h.many in omega arith in
    let read_is : read ≡ here = reads ∙ get_or_any now i read item within in
    let value : renewed_to item generation ≡ renewed given here =
    ap (λ (e : SavedEntry). renewed_to e generation) same ∙ ap (λ (g : Option ℕ). renewed_to here g) (is ∙ ap (λ (e : SavedEntry). generation_of given e.id) read_is) in
    let set_is : next ≡ set now i (renewed given here) = changed ∙ ap (λ (e : SavedEntry). set now i e) value in
    record {
      is = map_step (renewed given) old now next i item lt h.is set_is;
      many = ap length changed ∙ (length-set {A = SavedEntry} now i (renewed_to item generation) ∙ h.many);
    }
  where
    get_or_any : (xs : List SavedEntry) (i : ℕ) (a b : SavedEntry) → i < length xs → get_or xs i a ≡ get_or xs i b
    get_or_any [] i a b lt = absurd (omega arith)
    get_or_any (x ∷ xs) zero a b lt = refl
    get_or_any (x ∷ xs) (suc i) a b lt = get_or_any xs i a b (omega arith)

pub renewed_all : (given : Given) (i count : ℕ) (old now : List SavedEntry) → count ≤ i → i ≤ count → HasRenewed given i old now → now ≡ map (renewed given) (take count old) ++ drop count old
renewed_all given i count old now done within h = h.is ∙ ap (λ (k : ℕ). map (renewed given) (take k old) ++ drop k old) (let e : i ≡ count = omega arith in e)

-- the entry at the place that the index has
pub entry_read : (entries : List SavedEntry) (index : List StreamId) (place : ℕ) (id : StreamId) (entry : SavedEntry) → index ≡ entry_ids entries → slice_get index place ≡ Some id → entry ≡ get_or entries place entry → slice_get entries place ≡ Some entry
entry_read entries index place id entry ids at is =
    let lt : place < length (entry_ids entries) = slice_get_within (entry_ids entries) place id (ap (λ (i : List StreamId). slice_get i place) (sym ids) ∙ at) in
    let size : length (entry_ids entries) ≡ length entries = length-map entries (λ (e : SavedEntry). e.id) in
    slice_get_read entries (length entries) place entry refl (omega arith) is

pub begun_global : (given : Given) (set_is : Saved) (entries : List SavedEntry) (b : Bool) (global : Option (List ℕ)) → entries ≡ set_is.entries → b ≡ list_any (is_changed entries) given → global ≡ cond b None set_is.global → global ≡ cond (list_any (is_changed set_is.entries) given) None set_is.global
begun_global given set_is entries b global same tested is =
    is ∙ ap (λ (c : Bool). cond c None set_is.global) (tested ∙ ap (λ (es : List SavedEntry). list_any (is_changed es) given) same)
