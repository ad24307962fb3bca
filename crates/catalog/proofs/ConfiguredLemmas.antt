-- A catalog's streams and its index grow together; the streams of a lane.
use Rattle.std.proofs.Common.{◌≡◌, ◌⊎◌, inl, inr, ℕ, zero, suc, List, [], ◌∷◌, ◌++◌, None, Some, refl, sym, ◌∙◌, ap, subst, arith, ◌<◌, ◌≤◌, ◌+◌, ◌%◌, length, take, map, filter, slice_get, slice_index_or, Bool, true, false, cond, if◌then◌else◌, ◌==◌, All, length-append, eq-eqb}
use Rattle.std.specs.List.{enumerate_from}
use Rattle.std.specs.Option.{option_map}
use Rattle.std.proofs.lemmas.Bool.Decides.{Decides-eqb}
use Rattle.std.proofs.lemmas.Option.{get_or_from_slice_get, slice_get-map, slice_get_within}
use Rattle.std.proofs.lemmas.List.{take_more, take_all}
use Rattle.std.proofs.lemmas.List.Elements.{All-append, All-cons}
use Rattle.basics.specs.declared.limits.TheConstants.{MOST_STREAMS}
use Rattle.basics.specs.declared.stream.StreamId.{StreamId}
use Rattle.stream_index.specs.Distinct.{AreDistinct}
use Rattle.stream_index.proofs.DistinctLemmas.{distinct_more, Some-injective}
use Rattle.catalog.specs.declared.stream.ConfStream.{ConfStream}
use Rattle.catalog.specs.Configured.{AreConfigured, IsConfigured}
use Rattle.catalog.specs.Indexed.{IsIndexed}
use Rattle.catalog.specs.Parts.{part_of}
use Rattle.catalog.specs.Reading.{ids_of}

-- the ids of one more stream
pub ids_more : (streams : List ConfStream) (stream : ConfStream) → ids_of (streams ++ stream ∷ []) ≡ ids_of streams ++ stream.id ∷ []
ids_more [] stream = refl
ids_more (s ∷ streams) stream = ap (λ (ids : List StreamId). s.id ∷ ids) (ids_more streams stream)

pub ids_length : (streams : List ConfStream) → length (ids_of streams) ≡ length streams
ids_length [] = refl
ids_length (s ∷ streams) = ap suc (ids_length streams)

all_one : (P : ConfStream → Type 0) (stream : ConfStream) → P stream → All P (stream ∷ [])
all_one P stream p = All-cons P stream [] p (λ k d h. absurd (omega arith))

pub configured_more : (streams : List ConfStream) (stream : ConfStream) → AreConfigured streams → IsConfigured stream → length streams < MOST_STREAMS → ((place : ℕ) → ¬ (slice_get (ids_of streams) place ≡ Some stream.id)) → AreConfigured (streams ++ stream ∷ [])
configured_more streams stream are is room new = record {
  few = let e = length-append streams (stream ∷ []) in omega arith;
  distinct = subst (λ (ids : List StreamId). AreDistinct ids) (sym (ids_more streams stream)) (distinct_more (ids_of streams) stream.id are.distinct new);
  each = All-append IsConfigured streams (stream ∷ []) are.each (all_one IsConfigured stream is);
}

-- both have grown
pub indexed_more : (streams now : List ConfStream) (index now_index : List StreamId) (stream : ConfStream) (id : StreamId) → IsIndexed streams index → IsConfigured stream → length streams < MOST_STREAMS → id ≡ stream.id → ((place : ℕ) → ¬ (slice_get index place ≡ Some id)) → now ≡ streams ++ stream ∷ [] → now_index ≡ index ++ id ∷ [] → IsIndexed now now_index
indexed_more streams now index now_index stream id was is room same new grew also =
    subst (λ (ss : List ConfStream). IsIndexed ss now_index) (sym grew) (record {
      ids = also ∙ (ap (λ (ids : List StreamId). ids ++ id ∷ []) was.ids ∙ (ap (λ (x : StreamId). ids_of streams ++ x ∷ []) same ∙ sym (ids_more streams stream)));
      are = configured_more streams stream was.are is room (λ place at. new place (ap (λ (ids : List StreamId). slice_get ids place) was.ids ∙ (at ∙ ap (λ (x : StreamId). Some x) (sym same))));
    })

take_front : {A : Type 0} (xs ys : List A) → take (length xs) (xs ++ ys) ≡ xs
take_front [] ys = refl
take_front {A} (x ∷ xs) ys = ap (λ (zs : List A). x ∷ zs) (take_front xs ys)

-- the index has grown and was cut again
pub indexed_again : (streams now : List ConfStream) (index grown cut_index : List StreamId) (id : StreamId) (n : ℕ) → IsIndexed streams index → now ≡ streams → grown ≡ index ++ id ∷ [] → n ≡ length now → cut_index ≡ take n grown → IsIndexed now cut_index
indexed_again streams now index grown cut_index id n was same grew long is =
    subst (λ (ss : List ConfStream). IsIndexed ss cut_index) (sym same) (record {
      ids = is ∙ (ap (λ (ids : List StreamId). take n ids) grew ∙ (ap (λ (k : ℕ). take k (index ++ id ∷ [])) (long ∙ (ap length same ∙ (sym (ids_length streams) ∙ ap length (sym was.ids)))) ∙ (take_front index (id ∷ []) ∙ was.ids)));
      are = was.are;
    })

-- ---- lanes

-- the streams of a lane, where the first has this number
abbrev lane_from : ℕ → ℕ → ℕ → List ConfStream → List ConfStream
lane_from lanes lane n streams = map (λ numbered. numbered.1) (filter (λ numbered. numbered.0 % lanes == lane) (enumerate_from n streams))

by_cases : {P : Type 0} (b : Bool) → (b ≡ true → P) → (b ≡ false → P) → P
by_cases true passed failed = passed refl
by_cases false passed failed = failed refl

-- what a lane has behind one stream
abbrev put_if : Bool → ConfStream → List ConfStream → List ConfStream
put_if b stream streams = if b then stream ∷ streams else streams

lane_first : (lanes lane n : ℕ) (stream : ConfStream) (streams : List ConfStream) → lane_from lanes lane n (stream ∷ streams) ≡ put_if (n % lanes == lane) stream (lane_from lanes lane (n + 1) streams)
lane_first lanes lane n stream streams = by_cases (n % lanes == lane) here there
  where
    here : (n % lanes == lane) ≡ true → lane_from lanes lane n (stream ∷ streams) ≡ put_if (n % lanes == lane) stream (lane_from lanes lane (n + 1) streams)
    here e = ap (λ (b : Bool). map (λ (numbered : ℕ × ConfStream). numbered.1) (cond b ((n, stream) ∷ filter (λ numbered. numbered.0 % lanes == lane) (enumerate_from (n + 1) streams)) (filter (λ numbered. numbered.0 % lanes == lane) (enumerate_from (n + 1) streams)))) e ∙ sym (ap (λ (b : Bool). put_if b stream (lane_from lanes lane (n + 1) streams)) e)

    there : (n % lanes == lane) ≡ false → lane_from lanes lane n (stream ∷ streams) ≡ put_if (n % lanes == lane) stream (lane_from lanes lane (n + 1) streams)
    there e = ap (λ (b : Bool). map (λ (numbered : ℕ × ConfStream). numbered.1) (cond b ((n, stream) ∷ filter (λ numbered. numbered.0 % lanes == lane) (enumerate_from (n + 1) streams)) (filter (λ numbered. numbered.0 % lanes == lane) (enumerate_from (n + 1) streams)))) e ∙ sym (ap (λ (b : Bool). put_if b stream (lane_from lanes lane (n + 1) streams)) e)

put_append : (b : Bool) (stream last : ConfStream) (streams : List ConfStream) → put_if b stream (streams ++ last ∷ []) ≡ put_if b stream streams ++ last ∷ []
put_append true stream last streams = refl
put_append false stream last streams = refl

-- one more stream, of the lane or of another
lane_last : (lanes lane n : ℕ) (streams : List ConfStream) (last : ConfStream) → ((n + length streams) % lanes == lane) ≡ true → lane_from lanes lane n (streams ++ last ∷ []) ≡ lane_from lanes lane n streams ++ last ∷ []
lane_last lanes lane n [] last is = lane_first lanes lane n last [] ∙ ap (λ (b : Bool). put_if b last []) (ap (λ (k : ℕ). k % lanes == lane) (let h : n ≡ n + 0 = omega arith in h) ∙ is)
lane_last lanes lane n (stream ∷ streams) last is =
    lane_first lanes lane n stream (streams ++ last ∷ [])
    ∙ (ap (λ (ss : List ConfStream). put_if (n % lanes == lane) stream ss) (lane_last lanes lane (n + 1) streams last (ap (λ (k : ℕ). k % lanes == lane) (let h : n + 1 + length streams ≡ n + length (stream ∷ streams) = omega arith in h) ∙ is))
    ∙ (put_append (n % lanes == lane) stream last (lane_from lanes lane (n + 1) streams)
    ∙ ap (λ (ss : List ConfStream). ss ++ last ∷ []) (sym (lane_first lanes lane n stream streams))))

lane_other : (lanes lane n : ℕ) (streams : List ConfStream) (last : ConfStream) → ((n + length streams) % lanes == lane) ≡ false → lane_from lanes lane n (streams ++ last ∷ []) ≡ lane_from lanes lane n streams
lane_other lanes lane n [] last is = lane_first lanes lane n last [] ∙ ap (λ (b : Bool). put_if b last []) (ap (λ (k : ℕ). k % lanes == lane) (let h : n ≡ n + 0 = omega arith in h) ∙ is)
lane_other lanes lane n (stream ∷ streams) last is =
    lane_first lanes lane n stream (streams ++ last ∷ [])
    ∙ (ap (λ (ss : List ConfStream). put_if (n % lanes == lane) stream ss) (lane_other lanes lane (n + 1) streams last (ap (λ (k : ℕ). k % lanes == lane) (let h : n + 1 + length streams ≡ n + length (stream ∷ streams) = omega arith in h) ∙ is))
    ∙ sym (lane_first lanes lane n stream streams))

length-take : {A : Type 0} (xs : List A) (n : ℕ) → n ≤ length xs → length (take n xs) ≡ n
length-take xs zero le = refl
length-take [] (suc n) le = absurd (omega arith)
length-take (x ∷ xs) (suc n) le = ap suc (length-take xs n (omega arith))

tested : (a b : ℕ) → a ≡ b → (a == b) ≡ true
tested a b e = eq-eqb a b e

untested : (a b : ℕ) → (a ≡ b → ⊥) → (a == b) ≡ false
untested a b differ = by_cases (a == b) (λ same. absurd (differ ((Decides-eqb a b).0 same))) (λ other. other)

taken : (streams : List ConfStream) (n : ℕ) (stream : ConfStream) → n < length streams → slice_get streams n ≡ Some stream → take (n + 1) streams ≡ take n streams ++ stream ∷ []
taken streams n stream lt at = take_more streams n stream lt ∙ ap (λ (s : ConfStream). take n streams ++ s ∷ []) (get_or_from_slice_get streams n stream stream at)

-- a loop over the streams goes on by one
pub lane_step : (lanes lane n : ℕ) (streams part now : List ConfStream) (stream : ConfStream) → n < length streams → n % lanes ≡ lane → slice_get streams n ≡ Some stream → part ≡ part_of lanes lane (take n streams) → now ≡ part ++ stream ∷ [] → now ≡ part_of lanes lane (take (n + 1) streams)
lane_step lanes lane n streams part now stream lt is at so_far grew =
    let test = ap (λ (k : ℕ). k % lanes == lane) (length-take streams n (omega arith)) ∙ tested (n % lanes) lane is in
    grew ∙ (ap (λ (ss : List ConfStream). ss ++ stream ∷ []) so_far ∙ (sym (lane_last lanes lane 0 (take n streams) stream (ap (λ (k : ℕ). k % lanes == lane) (let h : 0 + length (take n streams) ≡ length (take n streams) = omega arith in h) ∙ test)) ∙ ap (λ (ss : List ConfStream). part_of lanes lane ss) (sym (taken streams n stream lt at))))

lane_skip_at : (lanes lane n : ℕ) (streams part : List ConfStream) (d : ConfStream) → n < length streams → (n % lanes ≡ lane → ⊥) → part ≡ part_of lanes lane (take n streams) → part ≡ part_of lanes lane (take (n + 1) streams)
lane_skip_at lanes lane n streams part d lt other so_far =
    let test = ap (λ (k : ℕ). k % lanes == lane) (length-take streams n (omega arith)) ∙ untested (n % lanes) lane other in
    so_far ∙ (sym (lane_other lanes lane 0 (take n streams) (slice_index_or streams n d) (ap (λ (k : ℕ). k % lanes == lane) (let h : 0 + length (take n streams) ≡ length (take n streams) = omega arith in h) ∙ test)) ∙ ap (λ (ss : List ConfStream). part_of lanes lane ss) (sym (take_more streams n d lt)))

pub lane_skip : (lanes lane n : ℕ) (streams part : List ConfStream) → n < length streams → (n % lanes ≡ lane → ⊥) → part ≡ part_of lanes lane (take n streams) → part ≡ part_of lanes lane (take (n + 1) streams)
lane_skip lanes lane n [] part lt other so_far = absurd (omega arith)
lane_skip lanes lane n (stream ∷ streams) part lt other so_far = lane_skip_at lanes lane n (stream ∷ streams) part stream lt other so_far

pub lane_done : (lanes lane n : ℕ) (streams part : List ConfStream) → length streams ≤ n → part ≡ part_of lanes lane (take n streams) → part ≡ part_of lanes lane streams
lane_done lanes lane n streams part done so_far = so_far ∙ ap (λ (ss : List ConfStream). part_of lanes lane ss) (take_all n streams done)

put_length : (b : Bool) (stream : ConfStream) (streams : List ConfStream) → length (put_if b stream streams) ≤ length streams + 1
put_length true stream streams = omega arith
put_length false stream streams = omega arith

-- a lane has no more streams than the catalog
lane_few : (lanes lane n : ℕ) (streams : List ConfStream) → length (lane_from lanes lane n streams) ≤ length streams
lane_few lanes lane n [] = omega arith
lane_few lanes lane n (stream ∷ streams) =
    let e = ap length (lane_first lanes lane n stream streams) in
    let few = put_length (n % lanes == lane) stream (lane_from lanes lane (n + 1) streams) in
    let rest = lane_few lanes lane (n + 1) streams in
    omega arith

pub lane_room : (lanes lane n : ℕ) (streams part : List ConfStream) → n < length streams → length streams ≤ MOST_STREAMS → part ≡ part_of lanes lane (take n streams) → length part < MOST_STREAMS
lane_room lanes lane n streams part lt few is =
    let e = ap length is in
    let within = lane_few lanes lane 0 (take n streams) in
    let long = length-take streams n (omega arith) in
    omega arith

-- and none but the catalog's
member_put : (b : Bool) (stream : ConfStream) (streams : List ConfStream) (place : ℕ) (id : StreamId) → slice_get (ids_of (put_if b stream streams)) place ≡ Some id → (stream.id ≡ id) ⊎ ((i : ℕ) × (slice_get (ids_of streams) i ≡ Some id))
member_put true stream streams zero id at = inl (Some-injective stream.id id at)
member_put true stream streams (suc place) id at = inr (place, at)
member_put false stream streams place id at = inr (place, at)

lane_member : (lanes lane n : ℕ) (streams : List ConfStream) (place : ℕ) (id : StreamId) → slice_get (ids_of (lane_from lanes lane n streams)) place ≡ Some id → (i : ℕ) × (slice_get (ids_of streams) i ≡ Some id)
lane_member lanes lane n [] place id at = (place, at)
lane_member lanes lane n (stream ∷ streams) place id at =
    elim (member_put (n % lanes == lane) stream (lane_from lanes lane (n + 1) streams) place id (ap (λ (ss : List ConfStream). slice_get (ids_of ss) place) (sym (lane_first lanes lane n stream streams)) ∙ at)) [
      | inl here ↦ (0, ap (λ (x : StreamId). Some x) here)
      | inr there ↦ (let m = lane_member lanes lane (n + 1) streams there.0 id there.1 in (suc m.0, m.1))
    ]

None-is_Some : {A : Type 0} (a : A) → None ≡ Some a → ⊥
None-is_Some a e = cc

taken_place : (streams : List ConfStream) (n i : ℕ) (id : StreamId) → slice_get (ids_of (take n streams)) i ≡ Some id → (slice_get (ids_of streams) i ≡ Some id) × (i < n)
taken_place streams zero i id at = absurd (None-is_Some id at)
taken_place [] (suc n) i id at = absurd (None-is_Some id at)
taken_place (stream ∷ streams) (suc n) zero id at = (at, omega arith)
taken_place (stream ∷ streams) (suc n) (suc i) id at = let r = taken_place streams n i id at in (r.0, let h = r.1 in omega arith)

pub lane_absent : (lanes lane n : ℕ) (streams part : List ConfStream) (stream : ConfStream) → AreDistinct (ids_of streams) → slice_get streams n ≡ Some stream → part ≡ part_of lanes lane (take n streams) → (place : ℕ) → ¬ (slice_get (ids_of part) place ≡ Some stream.id)
lane_absent lanes lane n streams part stream distinct at is = λ place there.
    let m = lane_member lanes lane 0 (take n streams) place stream.id (ap (λ (ss : List ConfStream). slice_get (ids_of ss) place) (sym is) ∙ there) in
    let r = taken_place streams n m.0 stream.id m.1 in
    let here : slice_get (ids_of streams) n ≡ Some stream.id = slice_get-map (λ (s : ConfStream). s.id) streams n ∙ ap (option_map (λ (s : ConfStream). s.id)) at in
    let same = distinct m.0 n stream.id r.0 here in
    let before = r.1 in
    omega arith

pub configured_at : (streams : List ConfStream) (n : ℕ) (stream : ConfStream) → All IsConfigured streams → slice_get streams n ≡ Some stream → IsConfigured stream
configured_at streams n stream all at = subst IsConfigured (get_or_from_slice_get streams n stream stream at) (all n stream (slice_get_within streams n stream at))
