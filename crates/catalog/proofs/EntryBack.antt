-- An entry that is written with other generations reads as the stream with these generations.
use Rattle.std.proofs.Common.{◌≡◌, inl, inr, ℕ, ◌<◌, ◌≤◌, ◌^◌, List, [], ◌∷◌, length, Option, None, Some, Result, Ok, Err, Bool, true, false, cond, ◌||◌, bytes_eq, codes, decimal, refl, sym, ap, ◌∙◌, subst, arith}
use Rattle.std.specs.List.{list_any}
use Rattle.std.proofs.lemmas.Bool.{le-ltb}
use Rattle.std.proofs.lemmas.Slice.Eq.{bytes_eq-Decides}
use Rattle.json_scalar.specs.Text.{IsString}
use Rattle.json_span.specs.Members.{AreMembers}
use Rattle.json_span.specs.declared.Member.{Member}
use Rattle.json_fields.specs.Fields.{HasField, HasText, line_depth}
use Rattle.json_fields.specs.Parts.{HasOptionalCount, IsCount, IsNumber}
use Rattle.json_fields.proofs.AnswerLemmas.{true_false}
use Rattle.json_fields.proofs.OnlyLemmas.{members_same}
use Rattle.json_write.specs.Values.{IsValueWithin}
use Rattle.json_write.specs.Laws.{or_here}
use Rattle.json_write.proofs.Fields.{AreWritten, are_named, are_sound, number_present, word_part}
use Rattle.json_write.proofs.KeptParts.{ReadsKept, Stays, reads_kept, unlike}
use Rattle.json_write.proofs.Names.{PartsHold, last_by_name, pairs_hold}
use Rattle.json_write.proofs.Numerals.{decimal_literal}
use Rattle.json_write.proofs.Values.{decimal_within}
use Rattle.stream_index.specs.Same.{is_same_stream}
use Rattle.basics.specs.declared.limits.TheConstants.{GREATEST_GENERATION}
use Rattle.outside.specs.declared.faults.CatalogFault.{CatalogFault}
use Rattle.outside.specs.declared.faults.CatalogFault.TheVariants as fault
use Rattle.catalog.specs.declared.stream.ConfStream.{ConfStream}
use Rattle.catalog.specs.declared.stream.Gen.{Gen}
use Rattle.catalog.specs.declared.entry.Entry.{Entry}
use Rattle.catalog.specs.Entry.{HasOptionalList, IsEntry}
use Rattle.catalog.specs.Checks.{is_above, judged_alone, once}
use Rattle.catalog.specs.Configured.{IsConfigured, entry_depth}
use Rattle.catalog.specs.Reading.{ReadsEntry, ids_of}
use Rattle.catalog.specs.Written.{IsEntryText, IsFit, IsGenerationKey, gen_parts, with_gen}
use Rattle.catalog.proofs.ReadLemmas.{IsJudged, judged_again, judged_parts}

-- ---- the generations, as members

abbrev generation_name : List ℕ
generation_name = codes "generation_id"

abbrev minimum_name : List ℕ
minimum_name = codes "minimum_generation_id"

small : (gen : Gen) → IsFit gen → gen.generation < 2 ^ 63
small gen fit = let h = fit.within in omega arith

small_minimum : (gen : Gen) → IsFit gen → gen.minimum < 2 ^ 63
small_minimum gen fit = let h = fit.within in let m = fit.minimum in omega arith

gens_written : (limit : ℕ) (gen : Gen) → IsFit gen → AreWritten limit (gen_parts gen)
gens_written limit gen fit =
    let g = small gen fit in
    let m = small_minimum gen fit in (
      word_part limit generation_name (decimal gen.generation) refl (decimal_within limit gen.generation (omega arith)),
      (word_part limit minimum_name (decimal gen.minimum) refl (decimal_within limit gen.minimum (omega arith)), tt),
    )

-- the generations by name
gen_pairs : Gen → List (List ℕ × List ℕ)
gen_pairs gen = (generation_name, decimal gen.generation) ∷ (minimum_name, decimal gen.minimum) ∷ []

gens_hold : (name : List ℕ) (gen : Gen) → IsFit gen → PartsHold name (gen_parts gen) (last_by_name name (gen_pairs gen))
unfolding gen_pairs
gens_hold name gen fit = pairs_hold name (gen_pairs gen) (are_named 0 (gen_parts gen) (gens_written 0 gen fit))

differs : (name other : List ℕ) → bytes_eq name other ≡ false → name ≡ other → ⊥
differs name other unequal e = true_false (sym ((bytes_eq-Decides name other).1 e) ∙ unequal)

count_of : (n : ℕ) → n < 2 ^ 63 → IsCount (decimal n) n
count_of n small = record { whole = decimal_literal n (omega arith); small = small }

number_of : (n : ℕ) → n < 2 ^ 63 → IsNumber (decimal n)
number_of n small = let w = decimal_literal n (omega arith) in record { literal = w.literal; spelled = w.spelled }

-- a count that is written is there
has_optional_count : (text name : List ℕ) (n : ℕ) → n < 2 ^ 63 → HasField text name (decimal n) → HasOptionalCount text name (Some n)
has_optional_count text name n small f = record {
  held = Some (decimal n);
  optional = record { members = f.members; object = f.object; held = Some (decimal n); holds = f.holds; is = number_present (Some (decimal n)) (number_of n small) };
  is = count_of n small;
}

-- ---- one entry

-- an entry with other generations
with_ids : Entry → Gen → Entry
with_ids entry gen = record entry { ids = record entry.ids { generation = Some gen.generation; minimum = Some gen.minimum } }

module _ (raw : List ℕ) (gen : Gen) (text : List ℕ) (kept : List Member) (fit : IsFit gen) (k : ReadsKept IsGenerationKey entry_depth raw kept (gen_parts gen) text) where
  -- a name that is no generation's stays
  stays : (name : List ℕ) → bytes_eq generation_name name ≡ false → bytes_eq minimum_name name ≡ false → Stays IsGenerationKey (gen_parts gen) name
  unfolding gen_pairs
  stays name no_generation no_minimum = record {
    kept = kept_key;
    none = subst (λ (found : Option (List ℕ)). PartsHold name (gen_parts gen) found) none (gens_hold name gen fit);
  }
    where
      kept_key : (key : List ℕ) → IsGenerationKey key → ¬ IsString key name
      kept_key key (inl is) = unlike key generation_name name (differs generation_name name no_generation) is
      kept_key key (inr is) = unlike key minimum_name name (differs minimum_name name no_minimum) is

      none : last_by_name name (gen_pairs gen) ≡ None
      none = λ i. or_here (or_here None (no_minimum i) (decimal gen.minimum)) (no_generation i) (decimal gen.generation)

  text_back : (name meaning : List ℕ) → Stays IsGenerationKey (gen_parts gen) name → HasText raw name meaning → HasText text name meaning
  text_back name meaning s h = record { held = h.held; field = k.field name h.held s h.field; string = h.string }

  list_back : {A : Type 0} (Form : List ℕ → List A → Type 0) (name : List ℕ) (items : List A) → Stays IsGenerationKey (gen_parts gen) name → HasOptionalList Form raw name items → HasOptionalList Form text name items
  list_back Form name items s h = record { held = h.held; optional = k.optional name h.held s h.optional; list = h.list }

  count_back : (name : List ℕ) (count : Option ℕ) → Stays IsGenerationKey (gen_parts gen) name → HasOptionalCount raw name count → HasOptionalCount text name count
  count_back name count s h = record { held = h.held; optional = k.optional name h.held s h.optional; is = h.is }

  gen_written : (name value : List ℕ) → last_by_name name (gen_pairs gen) ≡ Some value → HasField text name value
  gen_written name value e = k.written name value (subst (λ (found : Option (List ℕ)). PartsHold name (gen_parts gen) found) e (gens_hold name gen fit))

  entry_is : (entry : Entry) → IsEntry raw entry → IsEntry text (with_ids entry gen)
  unfolding gen_pairs with_ids
  entry_is entry is = record {
    stream = record { held = is.stream.held; field = k.field (codes "stream") is.stream.held (stays (codes "stream") refl refl) is.stream.field; is = is.stream.is };
    sync = text_back (codes "sync_mode") entry.sync (stays (codes "sync_mode") refl refl) is.sync;
    dest = text_back (codes "destination_sync_mode") entry.dest (stays (codes "destination_sync_mode") refl refl) is.dest;
    cursor = list_back _ (codes "cursor_field") entry.cursor (stays (codes "cursor_field") refl refl) is.cursor;
    key = list_back _ (codes "primary_key") entry.key (stays (codes "primary_key") refl refl) is.key;
    ids = record {
      generation = has_optional_count text generation_name gen.generation (small gen fit) (gen_written generation_name (decimal gen.generation) refl);
      minimum = has_optional_count text minimum_name gen.minimum (small_minimum gen fit) (gen_written minimum_name (decimal gen.minimum) refl);
      sync_id = count_back (codes "sync_id") entry.ids.sync_id (stays (codes "sync_id") refl refl) is.ids.sync_id;
    };
  }

-- ---- its checks

or_last : (a b c : Bool) → (a || (b || (c || false))) ≡ false → c ≡ false
or_last true b c e = absurd (true_false e)
or_last false true c e = absurd (true_false e)
or_last false false true e = absurd (true_false e)
or_last false false false e = refl

three_false : (a b c : Bool) → a ≡ false → b ≡ false → c ≡ false → (a || (b || (c || false))) ≡ false
three_false a b c x y z = λ i. x i || (y i || (z i || false))

judged_back : (raw text : List ℕ) (gen : Gen) (entry : Entry) (stream : ConfStream) → IsFit gen → IsJudged raw entry stream → IsJudged text (with_ids entry gen) (with_gen (stream, gen) text)
unfolding with_ids
judged_back raw text gen entry stream fit j = record {
  sync = j.sync;
  dest = j.dest;
  sync_is = j.sync_is;
  dest_is = j.dest_is;
  is = ap (λ (s : ConfStream). with_gen (s, gen) text) j.is;
  small =
      let ids = entry.ids in
      let limit : gen.minimum ≤ GREATEST_GENERATION = let h = fit.within in let m = fit.minimum in omega arith in
      three_false (is_above (Some gen.generation)) (is_above (Some gen.minimum)) (is_above ids.sync_id) (le-ltb GREATEST_GENERATION gen.generation fit.within) (le-ltb GREATEST_GENERATION gen.minimum limit) (or_last (is_above ids.generation) (is_above ids.minimum) (is_above ids.sync_id) j.small);
  minimum = le-ltb gen.generation gen.minimum fit.minimum;
  keyed = j.keyed;
}

-- ---- its reading

-- what a stream's entry says
record Says (raw : List ℕ) (stream : ConfStream) : Type 0 where
  entry : Entry
  is : IsEntry raw entry
  judged : judged_alone 0 raw entry ≡ Ok stream

says : (stream : ConfStream) → IsConfigured stream → Says stream.raw_entry stream
says stream c = go c.reads
  where
    raw : List ℕ
    raw = stream.raw_entry

    differ : (found : CatalogFault) → (let r : Result ConfStream CatalogFault = Ok stream in r) ≡ Err found → ⊥
    differ found e = cc

    first : (r : Result ConfStream CatalogFault) → Ok stream ≡ once [] 0 r → r ≡ Ok stream
    first (Ok other) e = sym e
    first (Err found) e = absurd (differ found e)

    go : ReadsEntry [] raw (Ok stream) → Says raw stream
    go (inl none) = absurd (differ (fault.Missing 0) none.1)
    go (inr h) = record { entry = h.0; is = h.1; judged = first (judged_alone 0 raw h.0) h.2 }

-- the object that is written
entry_kept : (stream : ConfStream) (gen : Gen) (text : List ℕ) → IsConfigured stream → IsFit gen → (t : IsEntryText stream.raw_entry gen text) → ReadsKept IsGenerationKey entry_depth stream.raw_entry t.kept (gen_parts gen) text
entry_kept stream gen text c fit t =
    let raw = stream.raw_entry in
    let n = c.nests in
    let of = subst (λ (ms : List Member). AreMembers entry_depth raw ms) (members_same line_depth entry_depth raw t.members n.members t.are n.object) n.object in
    subst (λ (written : List ℕ). ReadsKept IsGenerationKey entry_depth raw t.kept (gen_parts gen) written) (sym t.is) (reads_kept IsGenerationKey 124 raw t.members t.kept (gen_parts gen) (omega arith) of t.keeps (are_sound 124 (gen_parts gen) (gens_written 124 gen fit)))

pub entry_within : (stream : ConfStream) (gen : Gen) (text : List ℕ) → IsConfigured stream → IsFit gen → IsEntryText stream.raw_entry gen text → IsValueWithin entry_depth text
entry_within stream gen text c fit t = (entry_kept stream gen text c fit t).object.value

pub entry_reads : (before : List ConfStream) (stream : ConfStream) (gen : Gen) (text : List ℕ) → IsConfigured stream → IsFit gen → IsEntryText stream.raw_entry gen text → list_any (is_same_stream stream.id) (ids_of before) ≡ false → ReadsEntry before text (Ok (with_gen (stream, gen) text))
entry_reads before stream gen text c fit t absent =
    let s = says stream c in
    let now = with_gen (stream, gen) text in
    let j = judged_back stream.raw_entry text gen s.entry stream fit (judged_parts 0 stream.raw_entry s.entry stream s.judged) in
    inr (
      with_ids s.entry gen,
      entry_is stream.raw_entry gen text t.kept fit (entry_kept stream gen text c fit t) s.entry s.is,
      sym (ap (λ (r : Result ConfStream CatalogFault). once (ids_of before) (length before) r) (judged_again (length before) text (with_ids s.entry gen) now j) ∙ ap (λ (b : Bool). cond b (Err (fault.Twice (length before))) (Ok now)) absent),
    )
