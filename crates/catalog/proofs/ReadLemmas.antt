-- What a text reads as is one thing; a loop over the entries goes on by one.
use Rattle.std.proofs.Common.{◌≡◌, ◌≢◌, inl, inr, ℕ, suc, List, [], ◌∷◌, ◌++◌, Option, None, Some, refl, sym, ◌∙◌, ap, subst, arith, ◌<◌, ◌≤◌, ◌+◌, length, drop, slice_index_or, Result, Ok, Err, Bool, true, false, cond, ◌||◌, unwrap_or, length-append}
use Rattle.std.specs.Result.{IfErr, IsErrAnd}
use Rattle.json_span.specs.Members.{text_at}
use Rattle.json_span.specs.declared.Span.{Span}
use Rattle.json_fields.specs.Answer.{IsAnswer, IsOnly}
use Rattle.outside.specs.declared.faults.CatalogFault.{CatalogFault}
use Rattle.outside.specs.declared.faults.CatalogFault.TheVariants as fault
use Rattle.catalog.specs.declared.stream.ConfStream.{ConfStream}
use Rattle.catalog.specs.declared.entry.Entry.{Entry}
use Rattle.std.specs.List.{list_any}
use Rattle.std.proofs.lemmas.Bool.{ltb-false}
use Rattle.std.proofs.Math.Seq.{drop-cons}
use Rattle.std.proofs.Math.ListN.{drop_of_length-le}
use Rattle.json_span.specs.Members.{IsValue}
use Rattle.json_fields.proofs.AnswerLemmas.{true_false}
use Rattle.stream_index.specs.Same.{is_same_stream}
use Rattle.basics.specs.declared.limits.TheConstants.{GREATEST_GENERATION}
use Rattle.catalog.specs.declared.modes.SyncMode.{SyncMode}
use Rattle.catalog.specs.declared.modes.DestMode.{DestMode}
use Rattle.catalog.specs.Modes.{sync_mode_of, dest_mode_of}
use Rattle.catalog.specs.Configured.{IsConfigured, IsWithinLimit, NestsAtMost, entry_depth}
use Rattle.catalog.specs.Checks.{fault_of, first_failing, is_above, is_minimum_above, is_too_large, judged, judged_alone, judged_in, lacks_key, once, or_else, stream_with, unless}
use Rattle.catalog.specs.Entry.{IsEntry}
use Rattle.catalog.specs.Reading.{Reading, ReadsEntries, ReadsEntry, TakesEntry, ids_of}

-- an entry has one reading, given that its members say one thing
pub entry_missing : (before : List ConfStream) (text : List ℕ) → IsAnswer (IsEntry text) None → IsOnly (ReadsEntry before text) (Err (fault.Missing (length before)))
entry_missing before text none = record {
  is = inl (none, refl);
  only = λ found reads. elim reads [ inl missing ↦ missing.1 | inr is ↦ absurd (none is.0 is.1) ];
}

pub entry_judged : (before : List ConfStream) (text : List ℕ) (entry : Entry) → IsOnly (IsEntry text) entry → IsOnly (ReadsEntry before text) (judged (ids_of before) (length before) text entry)
entry_judged before text entry only = record {
  is = inr (entry, only.is, refl);
  only = λ found reads. elim reads [ inl missing ↦ absurd (missing.0 entry only.is) | inr is ↦ is.2 ∙ ap (λ (e : Entry). judged (ids_of before) (length before) text e) (only.only is.0 is.1) ];
}

-- ---- one entry

Some-None : {A : Type 0} (a : A) → Some a ≡ None → ⊥
Some-None a e = cc

Ok-Err : {A F : Type 0} (a : A) (f : F) → (let r : Result A F = Err f in r) ≡ Ok a → ⊥
Ok-Err a f e = cc

Ok-injective : {A F : Type 0} (a b : A) (r : Result A F) → r ≡ Ok a → r ≡ Ok b → a ≡ b
Ok-injective a b r p q = cc

by_cases : {P : Type 0} (b : Bool) → (b ≡ true → P) → (b ≡ false → P) → P
by_cases true passed failed = passed refl
by_cases false passed failed = failed refl

unless_ok : {A F : Type 0} (found : Option F) (value other : A) → unless found value ≡ Ok other → (found ≡ None) × (other ≡ value)
unless_ok {A} {F} None value other e = (refl, Ok-injective other value (unless {F = F} None value) e refl)
unless_ok (Some f) value other e = absurd (Ok-Err other f e)

three_fail : {F : Type 0} (a b c : Bool) (x y z : F) → first_failing ((a, x) ∷ (b, y) ∷ (c, z) ∷ []) ≡ None → (a ≡ false) × (b ≡ false) × (c ≡ false)
three_fail true b c x y z e = absurd (Some-None x e)
three_fail false true c x y z e = absurd (Some-None y e)
three_fail false false true x y z e = absurd (Some-None z e)
three_fail false false false x y z e = (refl, refl, refl)

three_pass : {F : Type 0} (a b c : Bool) (x y z : F) → a ≡ false → b ≡ false → c ≡ false → first_failing ((a, x) ∷ (b, y) ∷ (c, z) ∷ []) ≡ None
three_pass true b c x y z p q r = absurd (cc)
three_pass false true c x y z p q r = absurd (cc)
three_pass false false true x y z p q r = absurd (cc)
three_pass false false false x y z p q r = refl

-- what is known of an entry that is a stream
pub record IsJudged (text : List ℕ) (entry : Entry) (stream : ConfStream) : Type 0 where
  pub sync : SyncMode
  pub dest : DestMode
  pub sync_is : sync_mode_of entry.sync ≡ Some sync
  pub dest_is : dest_mode_of entry.dest ≡ Some dest
  pub is : stream ≡ stream_with text entry sync dest
  pub small : is_too_large entry.ids ≡ false
  pub minimum : is_minimum_above entry.ids ≡ false
  pub keyed : lacks_key dest (or_else entry.key entry.stream.key) ≡ false

judged_in_parts : (n : ℕ) (text : List ℕ) (entry : Entry) (stream : ConfStream) (sync : Option SyncMode) (dest : Option DestMode) → sync_mode_of entry.sync ≡ sync → dest_mode_of entry.dest ≡ dest → judged_in n text entry sync dest ≡ Ok stream → IsJudged text entry stream
judged_in_parts n text entry stream None None s d e = absurd (Ok-Err stream (fault.BadMode n) e)
judged_in_parts n text entry stream None (Some dest) s d e = absurd (Ok-Err stream (fault.BadMode n) e)
judged_in_parts n text entry stream (Some sync) None s d e = absurd (Ok-Err stream (fault.BadMode n) e)
judged_in_parts n text entry stream (Some sync) (Some dest) s d e =
    let key = or_else entry.key entry.stream.key in
    let r = unless_ok (fault_of n entry.ids dest key) (stream_with text entry sync dest) stream e in
    let none = three_fail (is_too_large entry.ids) (is_minimum_above entry.ids) (lacks_key dest key) (fault.TooLarge n) (fault.MinimumAboveGeneration n) (fault.NoKey n) r.0 in
    record { sync = sync; dest = dest; sync_is = s; dest_is = d; is = r.1; small = none.0; minimum = none.1; keyed = none.2 }

pub judged_parts : (n : ℕ) (text : List ℕ) (entry : Entry) (stream : ConfStream) → judged_alone n text entry ≡ Ok stream → IsJudged text entry stream
judged_parts n text entry stream e = judged_in_parts n text entry stream (sync_mode_of entry.sync) (dest_mode_of entry.dest) refl refl e

pub judged_again : (n : ℕ) (text : List ℕ) (entry : Entry) (stream : ConfStream) → IsJudged text entry stream → judged_alone n text entry ≡ Ok stream
judged_again n text entry stream j =
    let key = or_else entry.key entry.stream.key in
    let none = three_pass (is_too_large entry.ids) (is_minimum_above entry.ids) (lacks_key j.dest key) (fault.TooLarge n) (fault.MinimumAboveGeneration n) (fault.NoKey n) j.small j.minimum j.keyed in
    ap (λ (s : Option SyncMode). judged_in n text entry s (dest_mode_of entry.dest)) j.sync_is
    ∙ (ap (λ (d : Option DestMode). judged_in n text entry (Some j.sync) d) j.dest_is
    ∙ (ap (λ (f : Option CatalogFault). unless f (stream_with text entry j.sync j.dest)) none
    ∙ ap (λ (s : ConfStream). Ok s) (sym j.is)))

or_false : (a b : Bool) → (a || b) ≡ false → (a ≡ false) × (b ≡ false)
or_false true b e = absurd (true_false e)
or_false false b e = (refl, e)

within_limit : (id : Option ℕ) → is_above id ≡ false → IsWithinLimit id
within_limit None e = tt
within_limit (Some id) e = ltb-false GREATEST_GENERATION id e

-- a stream that its entry reads as is one of a catalog
pub stream_configured : (n : ℕ) (text : List ℕ) (entry : Entry) (stream : ConfStream) → IsEntry text entry → judged_alone n text entry ≡ Ok stream → IsValue text → NestsAtMost entry_depth text → IsConfigured stream
stream_configured n text entry stream is e value nests =
    let j = judged_parts n text entry stream e in
    let o = is.stream.field.object in
    let a = or_false (is_above entry.ids.generation) (is_above entry.ids.minimum || (is_above entry.ids.sync_id || false)) j.small in
    let b = or_false (is_above entry.ids.minimum) (is_above entry.ids.sync_id || false) a.1 in
    let d = or_false (is_above entry.ids.sync_id) false b.1 in
    subst IsConfigured (sym j.is) (record {
      reads = inr (entry, is, sym (ap (λ (r : Result ConfStream CatalogFault). once [] 0 r) (judged_again 0 text entry stream j) ∙ ap (λ (s : ConfStream). Ok s) j.is));
      value = value;
      nests = record { members = is.stream.field.members; object = record { deep = o.deep; within = nests o.deep is.stream.field.members o.object; object = o.object } };
      generation = within_limit entry.ids.generation a.0;
      minimum = ltb-false (unwrap_or entry.ids.generation 0) (unwrap_or entry.ids.minimum 0) j.minimum;
      sync_id = within_limit entry.ids.sync_id d.0;
      keyed = j.keyed;
    })

-- an entry that fails by itself
pub entry_fails : (before : List ConfStream) (n : ℕ) (text : List ℕ) (entry : Entry) (found : CatalogFault) → n ≡ length before → IsEntry text entry → judged_alone n text entry ≡ Err found → ReadsEntry before text (Err found)
entry_fails before n text entry found long is e = inr (entry, is, sym (ap (λ (r : Result ConfStream CatalogFault). once (ids_of before) (length before) r) (ap (λ (k : ℕ). judged_alone k text entry) (sym long) ∙ e)))

-- one whose id stands earlier, and one whose id does not
pub entry_twice : (before : List ConfStream) (n : ℕ) (text : List ℕ) (entry : Entry) (stream : ConfStream) → n ≡ length before → IsEntry text entry → judged_alone n text entry ≡ Ok stream → list_any (is_same_stream stream.id) (ids_of before) ≡ true → ReadsEntry before text (Err (fault.Twice n))
entry_twice before n text entry stream long is e there =
    subst (λ (k : ℕ). ReadsEntry before text (Err (fault.Twice k))) (sym long) (inr (entry, is, sym (ap (λ (r : Result ConfStream CatalogFault). once (ids_of before) (length before) r) (ap (λ (k : ℕ). judged_alone k text entry) (sym long) ∙ e) ∙ ap (λ (b : Bool). cond b (Err (fault.Twice (length before))) (Ok stream)) there)))

pub entry_taken : (before now : List ConfStream) (n : ℕ) (text : List ℕ) (entry : Entry) (stream : ConfStream) → n ≡ length before → IsEntry text entry → judged_alone n text entry ≡ Ok stream → list_any (is_same_stream stream.id) (ids_of before) ≡ false → now ≡ before ++ stream ∷ [] → TakesEntry before text now
entry_taken before now n text entry stream long is e absent grew = record {
  stream = stream;
  reads = inr (entry, is, sym (ap (λ (r : Result ConfStream CatalogFault). once (ids_of before) (length before) r) (ap (λ (k : ℕ). judged_alone k text entry) (sym long) ∙ e) ∙ ap (λ (b : Bool). cond b (Err (fault.Twice (length before))) (Ok stream)) absent));
  is = grew;
}

-- ---- what a `?` hands on

-- want of memory says nothing
pub wanting : {A : Type 0} (result : Result A CatalogFault) (P : CatalogFault → Type 0) → IsErrAnd result (λ found. found ≡ fault.NoMemory) → IfErr result (λ found. found ≢ fault.NoMemory → P found)
wanting (Ok value) P e = tt
wanting (Err found) P e = λ other. absurd (other e)

-- a fault is handed on
pub handed_on : {A : Type 0} (result : Result A CatalogFault) (told : CatalogFault) (P : CatalogFault → Type 0) → IsErrAnd result (λ found. found ≡ told) → P told → IfErr result P
handed_on (Ok value) told P e p = tt
handed_on (Err found) told P e p = subst P (sym e) p

-- ---- the entries one by one

-- whatever the entries that are left read as behind these streams, all read as
pub record GoesOn (list : List ℕ) (spans : List Span) (i : ℕ) (streams : List ConfStream) : Type 0 where
  pub reads : (reading : Reading) → ReadsEntries list streams (drop i spans) reading → ReadsEntries list [] spans reading
  pub long : length streams ≡ i

pub goes_first : (list : List ℕ) (spans : List Span) (streams : List ConfStream) → streams ≡ [] → GoesOn list spans 0 streams
goes_first list spans streams e = subst (λ (ss : List ConfStream). GoesOn list spans 0 ss) (sym e) (record { reads = λ reading h. h; long = refl })

left : (spans : List Span) (i : ℕ) (d : Span) → i < length spans → drop i spans ≡ slice_index_or spans i d ∷ drop (i + 1) spans
left spans i d lt = drop-cons spans i d lt ∙ ap (λ (n : ℕ). slice_index_or spans i d ∷ drop n spans) (let h : suc i ≡ i + 1 = omega arith in h)

pub goes_next : (list : List ℕ) (spans : List Span) (i : ℕ) (d : Span) (streams now : List ConfStream) (element : List ℕ) → i < length spans → element ≡ text_at list (slice_index_or spans i d) → TakesEntry streams element now → GoesOn list spans i streams → GoesOn list spans (i + 1) now
goes_next list spans i d streams now element lt is takes goes = record {
  reads = λ reading rest. goes.reads reading (subst (λ (ss : List Span). ReadsEntries list streams ss reading) (sym (left spans i d lt)) (
    Ok takes.stream,
    subst (λ (t : List ℕ). ReadsEntry streams t (Ok takes.stream)) is takes.reads,
    subst (λ (ss : List ConfStream). ReadsEntries list ss (drop (i + 1) spans) reading) takes.is rest,
  ));
  long = let e = ap length takes.is in let more = length-append streams (takes.stream ∷ []) in let was = goes.long in omega arith;
}

pub goes_wrong : (list : List ℕ) (spans : List Span) (i : ℕ) (d : Span) (streams : List ConfStream) (element : List ℕ) (found : CatalogFault) → i < length spans → element ≡ text_at list (slice_index_or spans i d) → ReadsEntry streams element (Err found) → GoesOn list spans i streams → ReadsEntries list [] spans (Err found)
goes_wrong list spans i d streams element found lt is fails goes =
    goes.reads (Err found) (subst (λ (ss : List Span). ReadsEntries list streams ss (Err found)) (sym (left spans i d lt)) (Err found, subst (λ (t : List ℕ). ReadsEntry streams t (Err found)) is fails, refl))

pub goes_through : (list : List ℕ) (spans : List Span) (i : ℕ) (streams : List ConfStream) → length spans ≤ i → GoesOn list spans i streams → ReadsEntries list [] spans (Ok streams)
goes_through list spans i streams done goes = goes.reads (Ok streams) (subst (λ (ss : List Span). ReadsEntries list streams ss (Ok streams)) (sym (drop_of_length-le spans done)) refl)
