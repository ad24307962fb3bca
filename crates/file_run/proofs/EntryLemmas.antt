-- The files of a configuration, one by one.
use Rattle.std.proofs.Common.{◌≡◌, ◌⊎◌, inl, inr, ◌∙◌, ◌||◌, ℕ, zero, suc, ◌+◌, ◌<◌, ◌≤◌, List, [], ◌∷◌, ◌++◌, slice_get, Bool, true, false, cond, Result, Ok, Err, length, take, drop, get_or, refl, sym, ap, subst, arith}
use Rattle.std.proofs.Math.Seq.{drop-cons}
use Rattle.std.specs.List.{AllZip, list_any}
use Rattle.std.specs.Str.{bytes_eq}
use Rattle.std.proofs.lemmas.Slice.Eq.{bytes_eq-Decides}
use Rattle.name_index.specs.Named.{with_name}
use Rattle.std.proofs.lemmas.List.{drop_all, take_all, take_more}
use Rattle.std.proofs.lemmas.List.Elements.{All-more}
use Rattle.std.specs.Prelude.{All, IsSome, None, Option, Some}
use Rattle.outside.specs.Desk.{Texts}
use Rattle.outside.specs.declared.status.Status.{Status}
use Rattle.outside.specs.declared.status.Status.TheVariants as status
use Rattle.csv_sheet.specs.Sheet.{sheet_in}
use Rattle.file_config.specs.declared.config.FileEntry.{FileEntry}
use Rattle.file_source.specs.declared.source.FileText.{FileText}
use Rattle.file_run.specs.Runs.{Added, AddsStream, HasText, IsText, Passed, RefusesStream, shown_place, stream_behind, stream_of, streams_behind, streams_from, streams_in}

-- ---- a relation place by place

zip-push : {A B : Type 0} (R : A → B → Type 0) (xs : List A) (ys : List B) (x : A) (y : B) → AllZip R xs ys → R x y → AllZip R (xs ++ x ∷ []) (ys ++ y ∷ [])
zip-push R [] [] x y are is = (is, tt)
zip-push R [] (z ∷ ys) x y are is = absurd are
zip-push R (w ∷ xs) [] x y are is = absurd are
zip-push R (w ∷ xs) (z ∷ ys) x y are is = (are.0, zip-push R xs ys x y are.1 is)

pub zip-more : {A B : Type 0} (R : A → B → Type 0) (xs : List A) (at : ℕ) (x : A) (ys now : List B) (y : B) → at < length xs → x ≡ get_or xs at x → now ≡ ys ++ y ∷ [] → R x y → AllZip R (take at xs) ys → AllZip R (take (at + 1) xs) now
zip-more {A} {B} R xs at x ys now y within here pushed is are =
    subst (λ (vs : List B). AllZip R (take (at + 1) xs) vs) (sym pushed)
    (subst (λ (us : List A). AllZip R us (ys ++ y ∷ [])) (sym (take_more xs at x within))
    (subst (λ (v : A). AllZip R (take at xs ++ v ∷ []) (ys ++ y ∷ [])) here (zip-push R (take at xs) ys x y are is)))

pub zip-all : {A B : Type 0} (R : A → B → Type 0) (xs : List A) (at : ℕ) (ys : List B) → length xs ≤ at → AllZip R (take at xs) ys → AllZip R xs ys
zip-all {A} {B} R xs at ys over are = subst (λ (us : List A). AllZip R us ys) (take_all at xs over) are

-- ---- the files that there are

pub has_text : (texts : Option Texts) (name text : List ℕ) → IsText texts name text → HasText texts name
has_text None name text is = tt
has_text (Some by_name) name text is = subst IsSome (sym is) refl

abbrev pub HasFile : Option Texts → FileEntry → Type 0
HasFile texts entry = HasText texts entry.path

pub has-more : (entries : List FileEntry) (at : ℕ) (entry : FileEntry) (path text : List ℕ) (texts now : Option Texts) → at < length entries → entry ≡ get_or entries at entry → path ≡ entry.path → now ≡ texts → IsText now path text
    → All (HasFile texts) (take at entries) → All (HasFile texts) (take (at + 1) entries)
has-more entries at entry path text texts now within here named same is all =
    let told : IsText texts path text = subst (λ (t : Option Texts). IsText t path text) same is in
    let found : HasText texts entry.path = subst (λ (p : List ℕ). HasText texts p) named (has_text texts path text told) in
    All-more (HasFile texts) entries at entry within all (subst (HasFile texts) here found)

pub has-all : (entries : List FileEntry) (at : ℕ) (texts : Option Texts) → length entries ≤ at → All (HasFile texts) (take at entries) → All (HasFile texts) entries
has-all entries at texts over all = subst (All (HasFile texts)) (take_all at entries over) all

-- ---- the streams of files

behind-push : (texts : List (List ℕ)) (text : List ℕ) (others : Result (List (List ℕ)) Status) → streams_behind texts (stream_behind (Ok text) others) ≡ streams_behind (texts ++ text ∷ []) others
behind-push [] text others = refl
behind-push (first ∷ texts) text others = ap (stream_behind (Ok first)) (behind-push texts text others)

behind-ok : (texts : List (List ℕ)) → streams_behind texts (Ok []) ≡ Ok texts
behind-ok [] = refl
behind-ok (first ∷ texts) = ap (stream_behind (Ok first)) (behind-ok texts)

behind-err : (texts : List (List ℕ)) (why : Status) → streams_behind texts (Err why) ≡ Err why
behind-err [] why = refl
behind-err (first ∷ texts) why = ap (stream_behind (Ok first)) (behind-err texts why)

-- ---- names in front

none_some : {A : Type 0} (a : A) → None ≡ Some a → ⊥
none_some a e = cc

some_is : {A : Type 0} (a b : A) → Some a ≡ Some b → a ≡ b
some_is a b e = cc

by_cases : {P : Type 0} (b : Bool) → (b ≡ true → P) → (b ≡ false → P) → P
by_cases true passed failed = passed refl
by_cases false passed failed = failed refl

-- a name that stands at a place is there
some_any : (name : List ℕ) (names : List (List ℕ)) (place : ℕ) → slice_get names place ≡ Some name → list_any (bytes_eq name) names ≡ true
some_any name [] place at = absurd (none_some name at)
some_any name (first ∷ names) zero at = ap (λ (b : Bool). b || list_any (bytes_eq name) names) ((bytes_eq-Decides name first).1 (sym (some_is first name at)))
some_any name (first ∷ names) (suc place) at =
    by_cases (bytes_eq name first) (λ e. ap (λ (b : Bool). b || list_any (bytes_eq name) names) e) (λ e. ap (λ (b : Bool). b || list_any (bytes_eq name) names) e ∙ some_any name names place at)

-- and one that stands nowhere is not
none_any : (name : List ℕ) (names : List (List ℕ)) → ((place : ℕ) → ¬ (slice_get names place ≡ Some name)) → list_any (bytes_eq name) names ≡ false
none_any name [] none = refl
none_any name (first ∷ names) none =
    by_cases (bytes_eq name first)
    (λ e. absurd (none zero (ap (λ (n : List ℕ). Some n) (sym ((bytes_eq-Decides name first).0 e)))))
    (λ e. ap (λ (b : Bool). b || list_any (bytes_eq name) names) e ∙ none_any name names (λ place. none (suc place)))

none_has : (names : List (List ℕ)) (file : FileText) (name : List ℕ) → name ≡ file.name → ((at : ℕ) → ¬ (slice_get names at ≡ Some name)) → list_any (bytes_eq file.name) names ≡ false
none_has names file name same none = ap (λ (n : List ℕ). list_any (bytes_eq n) names) (sym same) ∙ none_any name names none

pub passes : (place at : ℕ) (file : FileText) (names texts : List (List ℕ)) (name : List ℕ) → name ≡ file.name → slice_get names at ≡ Some name → AddsStream place file names texts names texts
passes place at file names texts name same there = Passed (ap (λ (n : List ℕ). list_any (bytes_eq n) names) (sym same) ∙ some_any name names at there) refl refl

pub adds : (place : ℕ) (file : FileText) (names texts names_now texts_now : List (List ℕ)) (name put text : List ℕ) → name ≡ file.name → put ≡ file.name → ((at : ℕ) → ¬ (slice_get names at ≡ Some name)) → stream_of place file (sheet_in file.text) ≡ Ok text
    → (names_now ≡ with_name names put) × (texts_now ≡ texts ++ text ∷ []) → AddsStream place file names texts names_now texts_now
adds place file names texts names_now texts_now name put text same also none is now =
    let apart : list_any (bytes_eq file.name) names ≡ false = none_has names file name same none in
    Added apart (now.0 ∙ ap (with_name names) also ∙ ap (λ (b : Bool). cond b names (names ++ file.name ∷ [])) apart) text is now.1

pub refuses : (place : ℕ) (file : FileText) (names : List (List ℕ)) (name : List ℕ) (why : Status) → name ≡ file.name → ((at : ℕ) → ¬ (slice_get names at ≡ Some name)) → (why ≡ status.NoMemory) ⊎ (stream_of place file (sheet_in file.text) ≡ Err why) → RefusesStream place file names why
refuses place file names name why same none (inl memory) = inl memory
refuses place file names name why same none (inr is) = inr (none_has names file name same none, is)

-- ---- the file at a place

-- it stands before the others
streams-at : (files : List FileText) (place : ℕ) (names : List (List ℕ)) (file : FileText) → place < length files → file ≡ get_or files place file
    → streams_from place names (drop place files) ≡ streams_from place names (file ∷ drop (place + 1) files)
streams-at files place names file within here =
    let more : suc place ≡ place + 1 = omega arith in
    ap (streams_from place names) (drop-cons files place file within ∙ ap (λ (n : ℕ). get_or files place file ∷ drop n files) more ∙ ap (λ (f : FileText). f ∷ drop (place + 1) files) (sym here))

-- it is passed over
passed_over : (files : List FileText) (place : ℕ) (names : List (List ℕ)) (file : FileText) → list_any (bytes_eq file.name) names ≡ true → streams_from place names (file ∷ files) ≡ streams_from (place + 1) names files
passed_over files place names file there =
    ap (λ (b : Bool). cond b (streams_from (place + 1) names files) (stream_behind (stream_of (shown_place place) file (sheet_in file.text)) (streams_from (place + 1) (names ++ file.name ∷ []) files))) there

-- it counts
counted : (files : List FileText) (place : ℕ) (names : List (List ℕ)) (file : FileText) → list_any (bytes_eq file.name) names ≡ false
    → streams_from place names (file ∷ files) ≡ stream_behind (stream_of (shown_place place) file (sheet_in file.text)) (streams_from (place + 1) (names ++ file.name ∷ []) files)
counted files place names file none =
    ap (λ (b : Bool). cond b (streams_from (place + 1) names files) (stream_behind (stream_of (shown_place place) file (sheet_in file.text)) (streams_from (place + 1) (names ++ file.name ∷ []) files))) none

pub streams-more : (files : List FileText) (place number : ℕ) (file : FileText) (names names_now texts texts_now : List (List ℕ)) → number ≡ shown_place place → place < length files → file ≡ get_or files place file
    → AddsStream number file names texts names_now texts_now → streams_in files ≡ streams_behind texts (streams_from place names (drop place files)) → streams_in files ≡ streams_behind texts_now (streams_from (place + 1) names_now (drop (place + 1) files))
streams-more files place number file names names_now texts texts_now shown within here step so_far =
    so_far ∙ ap (streams_behind texts) (streams-at files place names file within here) ∙ by step
  where
    rest : List FileText
    rest = drop (place + 1) files

    by : AddsStream number file names texts names_now texts_now → streams_behind texts (streams_from place names (file ∷ rest)) ≡ streams_behind texts_now (streams_from (place + 1) names_now rest)
    by (Passed there same kept) =
        ap (streams_behind texts) (passed_over rest place names file there)
        ∙ sym (ap (λ (ns : List (List ℕ)). streams_behind texts_now (streams_from (place + 1) ns rest)) same ∙ ap (λ (ts : List (List ℕ)). streams_behind ts (streams_from (place + 1) names rest)) kept)
    by (Added none more text is pushed) =
        let others = streams_from (place + 1) (names ++ file.name ∷ []) rest in
        let own = ap (λ (n : ℕ). stream_of n file (sheet_in file.text)) (sym shown) ∙ is in
        ap (streams_behind texts) (counted rest place names file none ∙ ap (λ (r : Result (List ℕ) Status). stream_behind r others) own)
        ∙ behind-push texts text others
        ∙ sym (ap (λ (ns : List (List ℕ)). streams_behind texts_now (streams_from (place + 1) ns rest)) more ∙ ap (λ (ts : List (List ℕ)). streams_behind ts others) pushed)

pub streams-refused : (files : List FileText) (place number : ℕ) (file : FileText) (names texts : List (List ℕ)) (why : Status) → number ≡ shown_place place → place < length files → file ≡ get_or files place file
    → RefusesStream number file names why → streams_in files ≡ streams_behind texts (streams_from place names (drop place files)) → (why ≡ status.NoMemory) ⊎ (streams_in files ≡ Err why)
streams-refused files place number file names texts why shown within here (inl memory) so_far = inl memory
streams-refused files place number file names texts why shown within here (inr is) so_far =
    let rest = drop (place + 1) files in
    let others = streams_from (place + 1) (names ++ file.name ∷ []) rest in
    let own = ap (λ (n : ℕ). stream_of n file (sheet_in file.text)) (sym shown) ∙ is.1 in
    inr (so_far ∙ ap (streams_behind texts) (streams-at files place names file within here ∙ counted rest place names file is.0 ∙ ap (λ (r : Result (List ℕ) Status). stream_behind r others) own) ∙ behind-err texts why)

pub streams-all : (files : List FileText) (place : ℕ) (names texts : List (List ℕ)) → length files ≤ place → streams_in files ≡ streams_behind texts (streams_from place names (drop place files)) → streams_in files ≡ Ok texts
streams-all files place names texts over so_far = so_far ∙ ap (λ (fs : List FileText). streams_behind texts (streams_from place names fs)) (drop_all place files over) ∙ behind-ok texts
