-- A catalog that is written with generations that fit reads as its streams with these generations.
use Rattle.std.proofs.Common.{◌≡◌, ℕ, zero, suc, ◌<◌, ◌≤◌, List, [], ◌∷◌, ◌++◌, map, length, slice_get, Some, Ok, All, codes, refl, sym, ap, subst, arith, append_assoc, append-nil}
use Rattle.std.proofs.lemmas.List.Elements.{All-tail}
use Rattle.json_span.specs.Members.{text_at}
use Rattle.json_span.specs.Elements.{AreElements}
use Rattle.json_span.specs.declared.Span.{Span}
use Rattle.json_fields.specs.Answer.{IsOnly}
use Rattle.json_fields.specs.Fields.{line_depth}
use Rattle.json_write.specs.Objects.{named, object_text, list_text}
use Rattle.json_write.specs.Laws.{AreWithin}
use Rattle.json_write.proofs.Fields.{AreWritten, are_named, has_field, reads, word_part}
use Rattle.json_write.proofs.Lists.{list_of}
use Rattle.json_write.proofs.Names.{by_name}
use Rattle.stream_index.specs.Distinct.{AreDistinct}
use Rattle.stream_index.proofs.IndexLemmas.{same_absent}
use Rattle.basics.specs.declared.limits.TheConstants.{MOST_STREAMS}
use Rattle.basics.specs.declared.stream.StreamId.{StreamId}
use Rattle.catalog.specs.declared.stream.ConfStream.{ConfStream}
use Rattle.catalog.specs.declared.stream.Gen.{Gen}
use Rattle.catalog.specs.Configured.{IsConfigured, entry_depth, list_depth}
use Rattle.catalog.specs.Reading.{HasStreams, ReadsAs, ReadsEntries, ReadsEntry, ids_of}
use Rattle.catalog.specs.Written.{AreEntryTexts, CatalogsReadBack, IsFit, with_gen, with_gens}
use Rattle.catalog.proofs.EntryBack.{entry_reads, entry_within}
use Rattle.catalog.proofs.OneLemmas.{entries_read}

-- ---- the array of the entries

entries_within : (streams : List ConfStream) (gens : List Gen) (entries : List (List ℕ)) → length gens ≡ length streams → All IsConfigured streams → All IsFit gens → AreEntryTexts streams gens entries → AreWithin entry_depth entries
entries_within [] [] [] many configured fit are = tt
entries_within [] [] (entry ∷ entries) many configured fit are = absurd are
entries_within [] (gen ∷ gens) entries many configured fit are = absurd (omega arith)
entries_within (stream ∷ streams) [] entries many configured fit are = absurd (omega arith)
entries_within (stream ∷ streams) (gen ∷ gens) [] many configured fit are = absurd are
entries_within (stream ∷ streams) (gen ∷ gens) (entry ∷ entries) many configured fit are = (
  entry_within stream gen entry (configured 0 stream (omega arith)) (fit 0 gen (omega arith)) are.0,
  entries_within streams gens entries (omega arith) (All-tail IsConfigured stream streams configured) (All-tail IsFit gen gens fit) are.1,
)

entries_long : (streams : List ConfStream) (gens : List Gen) (entries : List (List ℕ)) → length gens ≡ length streams → AreEntryTexts streams gens entries → length entries ≡ length streams
entries_long [] [] [] many are = refl
entries_long [] [] (entry ∷ entries) many are = absurd are
entries_long [] (gen ∷ gens) entries many are = absurd (omega arith)
entries_long (stream ∷ streams) [] entries many are = absurd (omega arith)
entries_long (stream ∷ streams) (gen ∷ gens) [] many are = absurd are
entries_long (stream ∷ streams) (gen ∷ gens) (entry ∷ entries) many are = ap suc (entries_long streams gens entries (omega arith) are.1)

length-map : {A B : Type 0} (f : A → B) (xs : List A) → length (map f xs) ≡ length xs
length-map f [] = refl
length-map f (x ∷ xs) = ap suc (length-map f xs)

-- ---- ids that stand once

at_front : {A : Type 0} (xs ys : List A) (i : ℕ) (x : A) → slice_get xs i ≡ Some x → slice_get (xs ++ ys) i ≡ Some x
at_front {A} [] ys i x e = absurd (nothing e)
  where
    nothing : slice_get (let none : List A = [] in none) i ≡ Some x → ⊥
    nothing e = cc
at_front (y ∷ xs) ys zero x e = e
at_front (y ∷ xs) ys (suc i) x e = at_front xs ys i x e

at_seam : {A : Type 0} (xs ys : List A) (x : A) → slice_get (xs ++ x ∷ ys) (length xs) ≡ Some x
at_seam [] ys x = refl
at_seam (y ∷ xs) ys x = at_seam xs ys x

below : {A : Type 0} (xs : List A) (i : ℕ) (x : A) → slice_get xs i ≡ Some x → i < length xs
below {A} [] i x e = absurd (nothing e)
  where
    nothing : slice_get (let none : List A = [] in none) i ≡ Some x → ⊥
    nothing e = cc
below (y ∷ xs) zero x e = omega arith
below (y ∷ xs) (suc i) x e = let h = below xs i x e in omega arith

absent_in_front : {A : Type 0} (xs ys : List A) (x : A) → AreDistinct (xs ++ x ∷ ys) → (place : ℕ) → ¬ (slice_get xs place ≡ Some x)
absent_in_front xs ys x distinct place at =
    let same = distinct place (length xs) x (at_front xs (x ∷ ys) place x at) (at_seam xs ys x) in
    let less = below xs place x at in
    omega arith

ids_more : (before : List ConfStream) (stream : ConfStream) → ids_of (before ++ stream ∷ []) ≡ ids_of before ++ stream.id ∷ []
ids_more [] stream = refl
ids_more (first ∷ before) stream = ap (λ (ids : List StreamId). first.id ∷ ids) (ids_more before stream)

-- ---- the entries one by one

head_is : (list : List ℕ) (span : Span) (spans : List Span) (entry : List ℕ) (entries : List (List ℕ)) → map (text_at list) (span ∷ spans) ≡ entry ∷ entries → text_at list span ≡ entry
head_is list span spans entry entries e = ap head e
  where
    head : List (List ℕ) → List ℕ
    head [] = []
    head (x ∷ xs) = x

tail_is : (list : List ℕ) (span : Span) (spans : List Span) (entry : List ℕ) (entries : List (List ℕ)) → map (text_at list) (span ∷ spans) ≡ entry ∷ entries → map (text_at list) spans ≡ entries
tail_is list span spans entry entries e = ap tail e
  where
    tail : List (List ℕ) → List (List ℕ)
    tail [] = []
    tail (x ∷ xs) = xs

no_spans : (list : List ℕ) (span : Span) (spans : List Span) → map (text_at list) (span ∷ spans) ≡ [] → ⊥
no_spans list span spans e = cc

no_entries : (list entry : List ℕ) (entries : List (List ℕ)) → map (text_at list) [] ≡ entry ∷ entries → ⊥
no_entries list entry entries e = cc

read_back : (list : List ℕ) (before streams : List ConfStream) (gens : List Gen) (entries : List (List ℕ)) (spans : List Span) → length gens ≡ length streams → All IsConfigured streams → All IsFit gens → AreEntryTexts streams gens entries → map (text_at list) spans ≡ entries → AreDistinct (ids_of before ++ ids_of streams) → ReadsEntries list before spans (Ok (before ++ with_gens streams gens entries))
read_back list before [] [] [] [] many configured fit are cut distinct = ap (λ (ss : List ConfStream). Ok ss) (append-nil before)
read_back list before [] [] [] (span ∷ spans) many configured fit are cut distinct = absurd (no_spans list span spans cut)
read_back list before [] [] (entry ∷ entries) spans many configured fit are cut distinct = absurd are
read_back list before [] (gen ∷ gens) entries spans many configured fit are cut distinct = absurd (omega arith)
read_back list before (stream ∷ streams) [] entries spans many configured fit are cut distinct = absurd (omega arith)
read_back list before (stream ∷ streams) (gen ∷ gens) [] spans many configured fit are cut distinct = absurd are
read_back list before (stream ∷ streams) (gen ∷ gens) (entry ∷ entries) [] many configured fit are cut distinct = absurd (no_entries list entry entries cut)
read_back list before (stream ∷ streams) (gen ∷ gens) (entry ∷ entries) (span ∷ spans) many configured fit are cut distinct =
    let now = with_gen (stream, gen) entry in
    let absent = same_absent (ids_of before) stream.id (absent_in_front (ids_of before) (ids_of streams) stream.id distinct) in
    let reads = entry_reads before stream gen entry (configured 0 stream (omega arith)) (fit 0 gen (omega arith)) are.0 absent in
    let ids = append_assoc (ids_of before) (stream.id ∷ []) (ids_of streams) in
    let behind : AreDistinct (ids_of (before ++ now ∷ []) ++ ids_of streams) = subst (λ (xs : List StreamId). AreDistinct (xs ++ ids_of streams)) (sym (ids_more before now)) (subst (λ (xs : List StreamId). AreDistinct xs) (sym ids) distinct) in
    let rest = read_back list (before ++ now ∷ []) streams gens entries spans (omega arith) (All-tail IsConfigured stream streams configured) (All-tail IsFit gen gens fit) are.1 (tail_is list span spans entry entries cut) behind in (
      Ok now,
      subst (λ (text : List ℕ). ReadsEntry before text (Ok now)) (sym (head_is list span spans entry entries cut)) reads,
      subst (λ (all : List ConfStream). ReadsEntries list (before ++ now ∷ []) spans (Ok all)) (append_assoc before (now ∷ []) (with_gens streams gens entries)) rest,
    )

-- ---- the catalog

pub catalogs_read_back : CatalogsReadBack
catalogs_read_back streams gens text are is fit =
    let list = list_text is.entries in
    let written = list_of entry_depth is.entries (entries_within streams gens is.entries is.many are.each fit is.are) in
    let array = written.are in
    let elements : AreElements line_depth list written.spans = record { deep = array.deep; within = (let w = array.within in omega arith); array = array.array } in
    let parts = named (codes "streams") list ∷ [] in
    let named_list : AreWritten list_depth parts = (word_part list_depth (codes "streams") list refl written.value, tt) in
    let object = reads list_depth parts named_list line_depth (omega arith) (omega arith) in
    let streams_is : HasStreams (object_text parts) list written.spans = record { field = has_field line_depth (object_text parts) parts object (codes "streams") list (by_name (codes "streams") ((codes "streams", list) ∷ []) (are_named list_depth parts named_list)); elements = elements } in
    let long = entries_long streams gens is.entries is.many is.are in
    let spans_long = ap length written.cut in
    let mapped = length-map (text_at list) written.spans in
    let few : length written.spans ≤ MOST_STREAMS = let h = are.few in omega arith in
    let back = read_back list [] streams gens is.entries written.spans is.many are.each fit is.are written.cut are.distinct in
    subst (λ (t : List ℕ). IsOnly (ReadsAs t) (Ok (with_gens streams gens is.entries))) (sym is.is) (entries_read (object_text parts) list written.spans (Ok (with_gens streams gens is.entries)) streams_is few back)
