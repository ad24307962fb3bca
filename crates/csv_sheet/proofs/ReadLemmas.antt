-- A reader of a text, from record to record.
use Rattle.std.proofs.Common.{◌≡◌, ◌∙◌, Bor, ℕ, ◌+◌, ◌*◌, List, [], ◌∷◌, ◌++◌, length, true, false, Option, None, Some, Result, Ok, Err, nat_eq, inl, inr, refl, sym, ap, subst, arith}
use Rattle.std.specs.Result.{IfErr, IsErrAnd}
use Rattle.std.proofs.lemmas.List.{append_assoc, length-append}
use Rattle.csv.specs.Machine.{Read, next_record}
use Rattle.csv.specs.Reading.{ExplainsRead, NextIs, Reached, ReadRecord, ReadsNext, Ready, default_config, names_headers, pending_of, reader_config, reader_headers, reader_state, reader_trim, source_of, strip_bom, took_first}
use Rattle.csv.specs.Records.{AllText}
use Rattle.csv.specs.declared.reader.Reader.{Reader}
use Rattle.csv.specs.declared.reader.Trim.TheVariants as trim
use Rattle.csv.specs.declared.parser.State.{State}
use Rattle.csv.specs.declared.parser.State.TheVariants as st
use Rattle.csv.specs.declared.error.ErrorKind.{ErrorKind}
use Rattle.csv.specs.declared.error.ErrorKind.TheVariants as kind
use Rattle.csv.proofs.ReadFacts.{rows-end, rows-more}
use Rattle.csv_sheet.specs.Sheet.{Fields, Sheet, first_misfit, sheet_in, sheet_of}
use Rattle.csv_sheet.specs.Cells.{records_cut}
use Rattle.csv_sheet.specs.Reads.{IsBehind, ReadsRow, RowsSoFar, fault_at}
use Rattle.csv_sheet.specs.declared.read.SheetFault.{SheetFault}
use Rattle.csv_sheet.specs.declared.read.SheetFault.TheVariants as fault
use Rattle.csv_sheet.proofs.SheetLemmas.{all_records, front_of_all, one_behind}
use Rattle.csv_sheet.proofs.FitLemmas.{all_fit, fit_behind, fit_whole, header_unfit, misfit_behind, no_texts, one_unfit, texts_are, unfit_count, unfit_text}
use Rattle.csv_sheet.proofs.CellLemmas.{cut_length, cut_more, size_more}

abbrev Slices : Type 0
Slices = Reader (Bor (List ℕ))

abbrev pub left : Bor (List ℕ) → Option (List ℕ)
left s = Some s.now

pub reads_more : (number : ℕ) (old new : Slices) (row : Fields) → (reader_trim old ≡ trim.None → Ready old → ReadRecord left old new true row) → (reader_trim old ≡ trim.None → AllText row) → (reader_trim old ≡ trim.None → took_first new ≡ true)
    → ReadsRow number (Ok true) old row new
reads_more number old new row reads texts took text rows is =
    let r = reads is.plain is.ready in
    let more = rows-more left old new row default_config st.StartRecord (strip_bom text) is.rest rows is.config is.source is.reached r in
    record {
      behind = record { plain = r.3 ∙ is.plain; ready = inl (took is.plain); config = r.2 ∙ is.config; rest = more.0; source = more.1; reached = more.2 };
      texts = texts_are row (texts is.plain);
    }

pub reads_none : (number : ℕ) (old new : Slices) (row : Fields) → (reader_trim old ≡ trim.None → Ready old → ReadRecord left old new false row) → ReadsRow number (Ok false) old row new
reads_none number old new row reads text rows is =
    let r = reads is.plain is.ready in
    all_records (strip_bom text) rows (old.state, is.rest, is.reached, rows-end left old new row default_config is.rest is.config is.source r)

next_of : (found : Option Read) (fields : Fields) (s : State) (ys : List ℕ) → NextIs found true fields s ys → (p : Read) × (found ≡ Some p) × (fields ≡ p.0)
next_of None fields s ys is = absurd (cc)
next_of (Some p) fields s ys is = (p, refl, is.1)

took_next : (s s2 : State) (xs : List ℕ) (after : Option (List ℕ)) (fields : Fields) → ReadsNext default_config s (Some xs) after true fields s2 → (p : Read) × (next_record default_config s [] [] xs ≡ Some p) × (fields ≡ p.0)
took_next s s2 xs None fields is = absurd is
took_next s s2 xs (Some ys) fields is = next_of (next_record default_config s [] [] xs) fields s2 ys is

pub reads_unfit : (number : ℕ) (old new : Slices) (row : Fields) (why : ErrorKind) → (reader_trim old ≡ trim.None → Ready old → ExplainsRead left old new true why) → ReadsRow number (Err (fault_at number why)) old row new
reads_unfit number old new row (kind.Io e) explains = tt
reads_unfit number old new row (kind.Utf8 pos err) explains = (
  refl,
  λ text rows is.
      let why = explains is.plain is.ready in
      let next = took_next old.state new.state is.rest (pending_of (left new.rdr) new) why.1 (rw (is.config, is.source) at why.2) in
      let all = one_behind (strip_bom text) rows old.state is.rest next.0 is.reached next.1 in
      record { fields = why.1; others = all.0; are = all.1 ∙ ap (λ (f : Fields). rows ++ f ∷ all.0) (sym next.2); unfit = no_texts why.1 why.3 },
)
reads_unfit number old new row (kind.UnequalLengths pos expected len) explains = tt
reads_unfit number old new row kind.OutOfMemory explains = tt
reads_unfit number old new row (kind.Serialize text) explains = tt
reads_unfit number old new row (kind.Deserialize pos err) explains = tt

-- ---- records under the header, so far

pub starts : (number : ℕ) (text : List ℕ) (header cells : Fields) (old new : Slices) → IsBehind text [] old → ReadsRow number (Ok true) old header new → cells ≡ [] → RowsSoFar text header 0 cells new
starts number text header cells old new first reads none =
    let one = reads text [] first in
    let size : length cells ≡ 0 * length header = ap length none ∙ omega arith in
    record { size = size; behind = one.behind; texts = one.texts; fit = refl }

pub no_header : (number : ℕ) (text : List ℕ) (row : Fields) (old new : Slices) → IsBehind text [] old → ReadsRow number (Ok false) old row new → sheet_in text ≡ Ok (record { header = []; records = [] })
no_header number text row old new first reads = ap sheet_of (reads text [] first)

pub unfit_header : (text : List ℕ) (row : Fields) (why : SheetFault) (old new : Slices) → IsBehind text [] old → ReadsRow 0 (Err why) old row new → (at : ℕ) → why ≡ fault.Misfit at → sheet_in text ≡ Err at
unfit_header text row (fault.Misfit number) old new first reads at is =
    let breaks = reads.1 text [] first in
    ap sheet_of breaks.are ∙ header_unfit breaks.fields breaks.others breaks.unfit ∙ ap (λ (n : ℕ). Err n) (sym reads.0) ∙ ap number_of is
  where
    number_of : SheetFault → Result Sheet ℕ
    number_of (fault.Misfit n) = Err n
    number_of fault.NoMemory = Err 0
unfit_header text row fault.NoMemory old new first reads at is = absurd (other at is)
  where
    other : (n : ℕ) → ¬ (fault.NoMemory ≡ fault.Misfit n)
    other n same = cc

pub one_more : (number : ℕ) (text : List ℕ) (header : Fields) (count : ℕ) (cells now row : Fields) (old new : Slices) → RowsSoFar text header count cells old → ReadsRow number (Ok true) old row new
    → nat_eq (length row) (length header) ≡ true → length row ≡ length header → now ≡ cells ++ row → RowsSoFar text header (count + 1) now new
one_more number text header count cells now row old new so_far reads whole same is =
    let cut = records_cut (length header) count cells in
    let one = reads text (header ∷ cut) so_far.behind in
    let grown : cut ++ row ∷ [] ≡ records_cut (length header) (count + 1) now =
    sym (cut_more (length header) count cells row so_far.size same) ∙ ap (records_cut (length header) (count + 1)) (sym is) in
    record {
      size = ap length is ∙ length-append cells row ∙ size_more (length header) count cells row so_far.size same;
      behind = subst (λ (rs : List Fields). IsBehind text (header ∷ rs) new) grown one.behind;
      texts = so_far.texts;
      fit = subst (λ (rs : List Fields). first_misfit header 1 rs ≡ None) grown (fit_behind header 1 cut row so_far.fit (fit_whole header row whole one.texts));
    }

pub ends : (number : ℕ) (text : List ℕ) (header : Fields) (count : ℕ) (cells row : Fields) (old new : Slices) → RowsSoFar text header count cells old → ReadsRow number (Ok false) old row new
    → sheet_in text ≡ Ok (record { header = header; records = records_cut (length header) count cells })
ends number text header count cells row old new so_far reads =
    let cut = records_cut (length header) count cells in
    ap sheet_of (reads text (header ∷ cut) so_far.behind) ∙ all_fit header cut so_far.texts so_far.fit

at_count : (header : Fields) (count : ℕ) (cells : Fields) → 1 + length (records_cut (length header) count cells) ≡ count + 1
at_count header count cells = omega (arith, cut_length (length header) count cells)

pub unfit_row : (text : List ℕ) (header : Fields) (count : ℕ) (cells row : Fields) (why : SheetFault) (old new : Slices) → RowsSoFar text header count cells old → ReadsRow (count + 1) (Err why) old row new
    → (at : ℕ) → why ≡ fault.Misfit at → sheet_in text ≡ Err at
unfit_row text header count cells row (fault.Misfit number) old new so_far reads at is =
    let cut = records_cut (length header) count cells in
    let breaks = reads.1 text (header ∷ cut) so_far.behind in
    let unfit = misfit_behind header 1 cut breaks.fields breaks.others so_far.fit (unfit_text header breaks.fields breaks.unfit) in
    ap sheet_of breaks.are ∙ one_unfit header (cut ++ breaks.fields ∷ breaks.others) (1 + length cut) so_far.texts unfit
    ∙ ap (λ (n : ℕ). Err n) (at_count header count cells ∙ sym reads.0) ∙ ap number_of is
  where
    number_of : SheetFault → Result Sheet ℕ
    number_of (fault.Misfit n) = Err n
    number_of fault.NoMemory = Err 0
unfit_row text header count cells row fault.NoMemory old new so_far reads at is = absurd (other at is)
  where
    other : (n : ℕ) → ¬ (fault.NoMemory ≡ fault.Misfit n)
    other n same = cc

pub short_row : (number : ℕ) (text : List ℕ) (header : Fields) (count : ℕ) (cells row : Fields) (old new : Slices) → RowsSoFar text header count cells old → ReadsRow number (Ok true) old row new
    → nat_eq (length row) (length header) ≡ false → sheet_in text ≡ Err (count + 1)
short_row number text header count cells row old new so_far reads short =
    let cut = records_cut (length header) count cells in
    let one = (reads text (header ∷ cut) so_far.behind).behind in
    let all = front_of_all (strip_bom text) (header ∷ (cut ++ row ∷ [])) new.state one.rest one.reached in
    let unfit = misfit_behind header 1 cut row all.0 so_far.fit (unfit_count header row short) in
    ap sheet_of (all.1 ∙ ap (λ (rs : List Fields). header ∷ rs) (append_assoc cut (row ∷ []) all.0))
    ∙ one_unfit header (cut ++ row ∷ all.0) (1 + length cut) so_far.texts unfit ∙ ap (λ (n : ℕ). Err n) (at_count header count cells)

-- before the first record
pub starts_behind : (text : List ℕ) (reader : Slices) → reader_trim reader ≡ trim.None → names_headers reader ≡ false → reader_headers reader ≡ None → reader_config reader ≡ default_config → reader_state reader ≡ st.StartRecord → source_of left reader ≡ Some (strip_bom text)
    → IsBehind text [] reader
unfolding Reached
starts_behind text reader plain headers none config state source =
    record { plain = plain; ready = inr (inr (headers, none)); config = config; rest = strip_bom text; source = source; reached = (sym state, refl) }

-- an error that is handed on
pub handed_on : {A E : Type 0} (result : Result A E) (why : E) (P : E → Type 0) → IsErrAnd result (λ found. found ≡ why) → P why → IfErr result P
handed_on (Ok value) why P same is = tt
handed_on (Err found) why P same is = subst P (sym same) is

-- the answer of a fault that names a record
abbrev pub answer_of : SheetFault → Result Sheet ℕ
answer_of (fault.Misfit number) = Err number
answer_of fault.NoMemory = Err 0
