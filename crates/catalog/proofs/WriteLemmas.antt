-- A catalog's text grows by one member, and by one entry, after another.
use Rattle.std.proofs.Common.{◌≡◌, ℕ, zero, suc, List, [], ◌∷◌, ◌++◌, refl, sym, ◌∙◌, ap, subst, arith, ◌<◌, ◌≤◌, ◌+◌, length, take, map, slice_get, slice_index_or, codes, Bool, cond, nat_eq, append_assoc, append-nil, Some, decimal, length-append}
use Rattle.std.specs.List.{AllZip, zip}
use Rattle.std.proofs.lemmas.List.{take_more, take_all}
use Rattle.std.proofs.lemmas.Bool.{ne_eqb}
use Rattle.std.proofs.lemmas.Option.{get_or_from_slice_get}
use Rattle.json_span.specs.Members.{AreMembers, text_at}
use Rattle.json_span.specs.declared.Member.{Member}
use Rattle.json_fields.specs.Answer.{IsOnly}
use Rattle.json_fields.specs.Fields.{line_depth}
use Rattle.json_fields.specs.Parts.{Keeps}
use Rattle.json_fields.proofs.KeepsLemmas.{keeps_only, step_added, step_dropped}
use Rattle.json_write.specs.Laws.{part_at}
use Rattle.json_write.specs.Objects.{Part, named, part_before, object_text, list_text, open_list, more_items}
use Rattle.json_write.proofs.Texts.{grows, closes, list_closes, more_items-append}
use Rattle.catalog.specs.declared.stream.ConfStream.{ConfStream}
use Rattle.catalog.specs.declared.stream.Gen.{Gen}
use Rattle.catalog.specs.Written.{IsGenerationKey, IsEntryText, AreEntryTexts, IsCatalogText, GrowsByKept, GrowsByEntry, mark_behind, begun_object, gen_parts, OneCatalogText}
use Rattle.catalog.proofs.OneLemmas.{one_members, all_one}

-- ---- the members that are kept

-- one member more, with the mark before it
part_more : (parts : List Part) (part : Part) (mark : ℕ) (old text next : List ℕ) → mark ≡ mark_behind parts → text ≡ old ++ begun_object parts → next ≡ text ++ mark ∷ part_before part [] → next ≡ old ++ begun_object (parts ++ part ∷ [])
part_more [] part mark old text next m e f = f ∙ (ap (λ (t : List ℕ). t ++ mark ∷ part_before part []) (e ∙ append-nil old) ∙ ap (λ (k : ℕ). old ++ k ∷ part_before part []) m)
part_more (first ∷ parts) part mark old text next m e f = grows old text next first parts (part ∷ []) e (f ∙ ap (λ (k : ℕ). text ++ k ∷ part_before part []) m)

behind_more : (parts : List Part) (part : Part) → 44 ≡ mark_behind (parts ++ part ∷ [])
behind_more [] part = refl
behind_more (first ∷ parts) part = refl

map_more : (entry : List ℕ) (kept : List Member) (m : Member) → map (part_at entry) (kept ++ m ∷ []) ≡ map (part_at entry) kept ++ part_at entry m ∷ []
map_more entry [] m = refl
map_more entry (k ∷ kept) m = ap (λ (ps : List Part). part_at entry k ∷ ps) (map_more entry kept m)

pub kept_first : (entry : List ℕ) (mark : ℕ) (old : List ℕ) → mark ≡ 123 → GrowsByKept entry [] mark old old
kept_first entry mark old m = record { kept = []; keeps = refl; marked = m; grew = sym (append-nil old) }

pub kept_skip : (entry : List ℕ) (members : List Member) (i : ℕ) (d : Member) (key : List ℕ) (mark next_mark : ℕ) (old text next : List ℕ) → i < length members → key ≡ text_at entry (slice_index_or members i d).key → IsGenerationKey key → next_mark ≡ mark → next ≡ text → GrowsByKept entry (take i members) mark old text → GrowsByKept entry (take (i + 1) members) next_mark old next
kept_skip entry members i d key mark next_mark old text next lt at is m e g = record {
  kept = g.kept;
  keeps = step_dropped IsGenerationKey entry members i d key g.kept lt at is g.keeps;
  marked = m ∙ g.marked;
  grew = e ∙ g.grew;
}

pub kept_more : (entry : List ℕ) (members : List Member) (i : ℕ) (d : Member) (key : List ℕ) (mark next_mark : ℕ) (old text next : List ℕ) → i < length members → key ≡ text_at entry (slice_index_or members i d).key → ¬ IsGenerationKey key → next_mark ≡ 44 → next ≡ text ++ mark ∷ part_before (part_at entry (slice_index_or members i d)) [] → GrowsByKept entry (take i members) mark old text → GrowsByKept entry (take (i + 1) members) next_mark old next
kept_more entry members i d key mark next_mark old text next lt at other m e g =
    let member = slice_index_or members i d in
    let parts = map (part_at entry) g.kept in
    record {
      kept = g.kept ++ member ∷ [];
      keeps = step_added IsGenerationKey entry members i d key g.kept lt at other g.keeps;
      marked = m ∙ (behind_more parts (part_at entry member) ∙ ap mark_behind (sym (map_more entry g.kept member)));
      grew = part_more parts (part_at entry member) mark old text next g.marked g.grew e ∙ ap (λ (ps : List Part). old ++ begun_object ps) (sym (map_more entry g.kept member));
    }

pub kept_all : (entry : List ℕ) (members : List Member) (i : ℕ) (mark : ℕ) (old text : List ℕ) → length members ≤ i → GrowsByKept entry (take i members) mark old text → GrowsByKept entry members mark old text
kept_all entry members i mark old text done g = subst (λ (ms : List Member). GrowsByKept entry ms mark old text) (take_all i members done) g

-- ---- one entry

closed_object : (parts : List Part) (part : Part) (old text next : List ℕ) → text ≡ old ++ begun_object (parts ++ part ∷ []) → next ≡ text ++ 125 ∷ [] → next ≡ old ++ object_text (parts ++ part ∷ [])
closed_object [] part old text next e f = closes old text next part [] e f
closed_object (first ∷ parts) part old text next e f = closes old text next first (parts ++ part ∷ []) e f

two_more : (parts : List Part) (a b : Part) → (parts ++ a ∷ []) ++ b ∷ [] ≡ parts ++ a ∷ b ∷ []
two_more parts a b = append_assoc parts (a ∷ []) (b ∷ [])

pub entry_grows : (entry : List ℕ) (gen : Gen) (members : List Member) (mark : ℕ) (old kept_text first second next : List ℕ) → AreMembers line_depth entry members → GrowsByKept entry members mark old kept_text → first ≡ kept_text ++ mark ∷ part_before (named (codes "generation_id") (decimal gen.generation)) [] → second ≡ first ++ 44 ∷ part_before (named (codes "minimum_generation_id") (decimal gen.minimum)) [] → next ≡ second ++ 125 ∷ [] → GrowsByEntry entry gen old next
entry_grows entry gen members mark old kept_text first second next are g e f h =
    let parts = map (part_at entry) g.kept in
    let generation = named (codes "generation_id") (decimal gen.generation) in
    let minimum = named (codes "minimum_generation_id") (decimal gen.minimum) in
    let one = part_more parts generation mark old kept_text first g.marked g.grew e in
    let two = part_more (parts ++ generation ∷ []) minimum 44 old first second (behind_more parts generation) one f in
    record {
      text = object_text (parts ++ gen_parts gen);
      is = record { members = members; are = are; kept = g.kept; keeps = g.keeps; is = refl };
      grew = closed_object (parts ++ generation ∷ []) minimum old second next two h ∙ ap (λ (ps : List Part). old ++ object_text ps) (two_more parts generation minimum);
    }

-- ---- the entries

-- the key of the only member, as it is written
abbrev pub streams_key : List ℕ
streams_key = (named (codes "streams") []).0

abbrev pub front : List ℕ
front = 123 ∷ (streams_key ++ 58 ∷ [])

-- the entries so far
pub record GrowsByEntries (streams : List ConfStream) (gens : List Gen) (n : ℕ) (text : List ℕ) : Type 0 where
  pub entries : List (List ℕ)
  pub are : AreEntryTexts (take n streams) (take n gens) entries
  pub many : length entries ≡ n
  pub grew : text ≡ front ++ open_list entries

open_more : (items : List (List ℕ)) (item : List ℕ) (n : ℕ) → length items ≡ n → open_list items ++ (cond (nat_eq n 0) [] (44 ∷ []) ++ item) ≡ open_list (items ++ item ∷ [])
open_more [] item n e = ap (λ (k : ℕ). 91 ∷ (cond (nat_eq k 0) [] (44 ∷ []) ++ item)) (sym e) ∙ ap (λ (t : List ℕ). 91 ∷ t) (sym (append-nil item))
open_more (first ∷ items) item n e =
    ap (λ (b : Bool). open_list (first ∷ items) ++ (cond b [] (44 ∷ []) ++ item)) (ne_eqb n 0 (λ z. omega (arith, e, z)))
    ∙ ap (λ (t : List ℕ). 91 ∷ t) (append_assoc first (more_items items) (44 ∷ item) ∙ ap (λ (t : List ℕ). first ++ t) (ap (λ (t : List ℕ). more_items items ++ 44 ∷ t) (sym (append-nil item)) ∙ more_items-append items (item ∷ [])))

zip_more : {A B : Type 0} (xs : List A) (ys : List B) (x : A) (y : B) → length ys ≡ length xs → zip (xs ++ x ∷ []) (ys ++ y ∷ []) ≡ zip xs ys ++ (x, y) ∷ []
zip_more [] [] x y e = refl
zip_more [] (b ∷ ys) x y e = absurd (omega arith)
zip_more (a ∷ xs) [] x y e = absurd (omega arith)
zip_more {A} {B} (a ∷ xs) (b ∷ ys) x y e = ap (λ (ps : List (A × B)). (a, b) ∷ ps) (zip_more xs ys x y (omega arith))

zip_push : {A B : Type 0} (R : A → B → Type 0) (xs : List A) (ys : List B) (x : A) (y : B) → AllZip R xs ys → R x y → AllZip R (xs ++ x ∷ []) (ys ++ y ∷ [])
zip_push R [] [] x y h r = (r, tt)
zip_push R [] (b ∷ ys) x y h r = absurd h
zip_push R (a ∷ xs) [] x y h r = absurd h
zip_push R (a ∷ xs) (b ∷ ys) x y h r = (h.0, zip_push R xs ys x y h.1 r)

length-take : {A : Type 0} (xs : List A) (n : ℕ) → n ≤ length xs → length (take n xs) ≡ n
length-take xs zero le = refl
length-take [] (suc n) le = absurd (omega arith)
length-take (x ∷ xs) (suc n) le = ap suc (length-take xs n (omega arith))

taken : {A : Type 0} (xs : List A) (n : ℕ) (x : A) → n < length xs → slice_get xs n ≡ Some x → take (n + 1) xs ≡ take n xs ++ x ∷ []
taken {A} xs n x lt at = take_more xs n x lt ∙ ap (λ (y : A). take n xs ++ y ∷ []) (get_or_from_slice_get xs n x x at)

abbrev pub IsPairText : ConfStream × Gen → List ℕ → Type 0
IsPairText pair entry = IsEntryText pair.0.raw_entry pair.1 entry

pub entries_first : (streams : List ConfStream) (gens : List Gen) (text : List ℕ) → text ≡ front ++ 91 ∷ [] → GrowsByEntries streams gens 0 text
entries_first streams gens text e = record { entries = []; are = tt; many = refl; grew = e }

pub entries_more : (streams : List ConfStream) (gens : List Gen) (n : ℕ) (stream : ConfStream) (gen : Gen) (text marked next : List ℕ) → length gens ≡ length streams → n < length streams → slice_get streams n ≡ Some stream → slice_get gens n ≡ Some gen → marked ≡ text ++ cond (nat_eq n 0) [] (44 ∷ []) → GrowsByEntry stream.raw_entry gen marked next → GrowsByEntries streams gens n text → GrowsByEntries streams gens (n + 1) next
entries_more streams gens n stream gen text marked next same lt at gen_at mark g was = record {
  entries = was.entries ++ g.text ∷ [];
  are =
      let pairs = zip_more (take n streams) (take n gens) stream gen (length-take gens n (omega arith) ∙ sym (length-take streams n (omega arith))) in
      let all = zip_push IsPairText (zip (take n streams) (take n gens)) was.entries (stream, gen) g.text was.are g.is in
      subst (λ (ss : List ConfStream). AreEntryTexts ss (take (n + 1) gens) (was.entries ++ g.text ∷ [])) (sym (taken streams n stream lt at))
      (subst (λ (gs : List Gen). AreEntryTexts (take n streams ++ stream ∷ []) gs (was.entries ++ g.text ∷ [])) (sym (taken gens n gen (omega arith) gen_at))
      (subst (λ (ps : List (ConfStream × Gen)). AllZip IsPairText ps (was.entries ++ g.text ∷ [])) (sym pairs) all));
  many = let e = length-append was.entries (g.text ∷ []) in let m = was.many in omega arith;
  grew =
      let comma = cond (nat_eq n 0) [] (44 ∷ []) in
      g.grew ∙ (ap (λ (t : List ℕ). t ++ g.text) (mark ∙ ap (λ (t : List ℕ). t ++ comma) was.grew) ∙ (append_assoc (front ++ open_list was.entries) comma g.text ∙ (append_assoc front (open_list was.entries) (comma ++ g.text) ∙ ap (λ (t : List ℕ). front ++ t) (open_more was.entries g.text n was.many))));
}

-- the whole text
pub entries_close : (streams : List ConfStream) (gens : List Gen) (n : ℕ) (text closed next : List ℕ) → length gens ≡ length streams → length streams ≤ n → closed ≡ text ++ 93 ∷ [] → next ≡ closed ++ 125 ∷ [] → GrowsByEntries streams gens n text → IsCatalogText streams gens next
entries_close streams gens n text closed next same done e f was = record {
  many = same;
  entries = was.entries;
  are = subst (λ (ss : List ConfStream). AreEntryTexts ss gens was.entries) (take_all n streams done) (subst (λ (gs : List Gen). AreEntryTexts (take n streams) gs was.entries) (take_all n gens (omega arith)) was.are);
  is = f ∙ (ap (λ (t : List ℕ). t ++ 125 ∷ []) (list_closes front text closed was.entries was.grew e) ∙ (append_assoc front (list_text was.entries) (125 ∷ []) ∙ ap (λ (t : List ℕ). 123 ∷ t) (append_assoc streams_key (58 ∷ []) (list_text was.entries ++ 125 ∷ []))));
}

-- ---- one text

one_entry_text : (pair : ConfStream × Gen) (text other : List ℕ) → IsPairText pair text → IsPairText pair other → other ≡ text
one_entry_text pair text other a b =
    let entry = pair.0.raw_entry in
    let members = one_members line_depth entry a.members b.members a.are b.are in
    let kept = keeps_only IsGenerationKey entry a.members a.kept b.kept a.keeps (subst (λ (ms : List Member). Keeps IsGenerationKey entry ms b.kept) members b.keeps) in
    b.is ∙ (ap (λ (ms : List Member). object_text (map (part_at entry) ms ++ gen_parts pair.1)) kept ∙ sym a.is)

pub one_text : OneCatalogText
one_text streams gens text other a b =
    let entries = all_one IsPairText one_entry_text (zip streams gens) a.entries b.entries a.are b.are in
    b.is ∙ (ap (λ (es : List (List ℕ)). object_text (named (codes "streams") (list_text es) ∷ [])) entries ∙ sym a.is)

pub only_text : (streams : List ConfStream) (gens : List Gen) (text : List ℕ) → IsCatalogText streams gens text → IsOnly (IsCatalogText streams gens) text
only_text streams gens text h = record { is = h; only = λ other o. one_text streams gens text other h o }
