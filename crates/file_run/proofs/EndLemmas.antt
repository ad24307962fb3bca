-- How what a source may say ends.
use Rattle.std.proofs.Common.{◌≡◌, ◌∙◌, inl, inr, ℕ, ◌+◌, nat_lt, if◌then◌else◌, List, [], ◌∷◌, Bool, true, false, Option, None, Some, Result, Ok, Err, MatchResult, is_some, length, refl, sym, ap, subst}
use Rattle.std.specs.Bool.{⊤}
use Rattle.outside.specs.Desk.{Texts}
use Rattle.outside.specs.Feed.{Left}
use Rattle.outside.specs.Status.{catalog_status, config_status, state_status}
use Rattle.outside.specs.declared.faults.CatalogFault.{CatalogFault}
use Rattle.outside.specs.declared.faults.CatalogFault.TheVariants as catalog
use Rattle.outside.specs.declared.faults.ConfigFault.{ConfigFault}
use Rattle.outside.specs.declared.faults.ConfigFault.TheVariants as config
use Rattle.outside.specs.declared.faults.StateFault.{StateFault}
use Rattle.outside.specs.declared.faults.StateFault.TheVariants as state
use Rattle.outside.specs.declared.status.Status.{Status}
use Rattle.outside.specs.declared.status.Status.TheVariants as status
use Rattle.basics.specs.declared.stream.StreamId.{StreamId}
use Rattle.airbyte_message.specs.State.{State}
use Rattle.catalog.specs.declared.stream.ConfStream.{ConfStream}
use Rattle.state_kinds.specs.Store.{is_global_kind}
use Rattle.state_kinds.specs.StateLists.{has_kind}
use Rattle.source_lines.specs.Begins.{Begun, BeginsKnown, BeginsStates, BeginsStreams, BeginsUnless, first_unknown}
use Rattle.source_lines.specs.Giving.{MayGiveLines, MayGiveStream, MayGiveStreams, listed_lines}
use Rattle.source_lines.specs.Giving.{Untold, Refused, Opened}
use Rattle.source_lines.specs.SourceFeeds.{MayBeginBy}
use Rattle.source_lines.specs.Sources.{Listed}
use Rattle.csv_sheet.specs.Sheet.{Sheet, sheet_in}
use Rattle.file_source.specs.Files.{StartsAt, file_named, opened_file, opened_sheet, opening}
use Rattle.file_source.specs.declared.source.FileStart.{FileStart}
use Rattle.file_source.specs.declared.source.FileText.{FileText}
use Rattle.file_run.specs.Runs.{BadConfig, BeginsFiles, Files, IsTold, MayByConfig, MaySayFiles}
use Rattle.file_run.specs.declared.run.Given.{Given}

-- a status that the texts of a source may end it with
abbrev pub is_source_end : Status → Bool
is_source_end status.Ok = true
is_source_end status.NoMemory = true
is_source_end (status.BadRow stream row) = true
is_source_end (status.BadConfig fault) = true
is_source_end (status.BadCatalog fault) = true
is_source_end (status.BadState fault) = true
is_source_end other = false

-- where this ends, it ends so
abbrev pub EndsSo : (Status → Type 0) → Left → Type 0
EndsSo P told = (why : Status) → told.ends ≡ Some why → P why

pub never_ends : (P : Status → Type 0) (told : Left) → told.ends ≡ None → EndsSo P told
never_ends P told none why is = absurd (cc)

pub ends_as : (P : Status → Type 0) (told : Left) (last : Status) → told.ends ≡ Some last → P last → EndsSo P told
ends_as P told last ends p why is = subst P (by last why (sym ends ∙ is)) p
  where
    by : (a b : Status) → ◌≡◌ {A = Option Status} (Some a) (Some b) → a ≡ b
    by a b e = cc

-- ---- the lines of streams

lines_end : (P : Status → Type 0) (lines : List (List ℕ)) (Behind : Left → Type 0) → ((told : Left) → Behind told → EndsSo P told) → (told : Left) → MayGiveLines lines Behind told → EndsSo P told
lines_end P [] Behind from told may = from told may
lines_end P (line ∷ lines) Behind from told (inl none) = never_ends P told (ap (λ (l : Left). l.ends) none)
lines_end P (line ∷ lines) Behind from told (inr may) = λ why is. lines_end P lines Behind from may.0 may.2 why (sym (ap (λ (l : Left). l.ends) may.1) ∙ is)

stream_end : (P : Status → Type 0) (moment : ℕ) (id : StreamId) (Opens : Result Listed Status → Type 0) (Behind : Left → Type 0) → ((why : Status) → Opens (Err why) → P why) → ((told : Left) → Behind told → EndsSo P told)
    → (told : Left) → MayGiveStream moment id Opens Behind told → EndsSo P told
stream_end P moment id Opens Behind refused from told (Untold none) = never_ends P told (ap (λ (l : Left). l.ends) none)
stream_end P moment id Opens Behind refused from told (Refused why opens over) = ends_as P told why (ap (λ (l : Left). l.ends) over) (refused why opens)
stream_end P moment id Opens Behind refused from told (Opened listed opens lines) = lines_end P (listed_lines moment id listed) Behind from told lines

-- wherever one of these streams is refused, it is so
abbrev pub RefusedSo : (Status → Type 0) → (ℕ → ConfStream → FileStart → Result Listed Status → Type 0) → ℕ → List ConfStream → List FileStart → Type 0
RefusedSo P Opens number [] starts = ⊤
RefusedSo P Opens number (stream ∷ streams) [] = ⊤
RefusedSo P Opens number (stream ∷ streams) (start ∷ starts) = ((why : Status) → Opens number stream start (Err why) → P why) × RefusedSo P Opens (number + 1) streams starts

pub streams_end : (P : Status → Type 0) (Opens : ℕ → ConfStream → FileStart → Result Listed Status → Type 0) (moment number : ℕ) (streams : List ConfStream) (starts : List FileStart) → P status.Ok
    → RefusedSo P Opens number streams starts → (told : Left) → MayGiveStreams Opens moment number streams starts told → EndsSo P told
streams_end P Opens moment number [] starts ok refused told (inl none) = never_ends P told (ap (λ (l : Left). l.ends) none)
streams_end P Opens moment number [] starts ok refused told (inr over) = ends_as P told status.Ok (ap (λ (l : Left). l.ends) over) ok
streams_end P Opens moment number (stream ∷ streams) [] ok refused told none = never_ends P told (ap (λ (l : Left). l.ends) none)
streams_end P Opens moment number (stream ∷ streams) (start ∷ starts) ok refused told may =
    stream_end P moment stream.id (Opens number stream start) (MayGiveStreams Opens moment (number + 1) streams starts) refused.0 (streams_end P Opens moment (number + 1) streams starts ok refused.1) told may

-- ---- the statuses that streams of files are refused with

ok_not_err : {A : Type 0} (a : A) (why : Status) → ◌≡◌ {A = Result A Status} (Err why) (Ok a) → ⊥
ok_not_err a why e = cc

is_end : {A : Type 0} (why last : Status) → ◌≡◌ {A = Result A Status} (Err why) (Err last) → is_source_end last ≡ true → is_source_end why ≡ true
is_end why last e own = let same : why ≡ last = cc in ap is_source_end same ∙ own

listed_end : (out : Bool) (listed : Listed) (why : Status) → Err why ≡ (if out then Err (status.BadState state.OutOfRange) else Ok listed) → is_source_end why ≡ true
listed_end true listed why e = is_end why (status.BadState state.OutOfRange) e refl
listed_end false listed why e = absurd (ok_not_err listed why e)

sheet_end : (every number : ℕ) (start : FileStart) (sheet : Result Sheet ℕ) (why : Status) → Err why ≡ opened_sheet every number start sheet → is_source_end why ≡ true
sheet_end every number start (Err row) why e = is_end why (status.BadRow number row) e refl
sheet_end every number start (Ok sheet) why e = listed_end (nat_lt (length sheet.records) start.behind) _ why e

file_end : (number : ℕ) (start : FileStart) (found : Option FileText) (why : Status) → Err why ≡ opened_file number start found → is_source_end why ≡ true
file_end number start None why e = is_end why (status.BadCatalog (catalog.Missing number)) e refl
file_end number start (Some file) why e = sheet_end file.every number start (sheet_in file.text) why e

abbrev pub OpensOf : List FileText → ℕ → ConfStream → FileStart → Result Listed Status → Type 0
OpensOf files number stream start listed = listed ≡ opening files number stream start

all_end : (files : List FileText) (number : ℕ) (streams : List ConfStream) (starts : List FileStart) → RefusedSo (λ why. is_source_end why ≡ true) (OpensOf files) number streams starts
all_end files number [] starts = tt
all_end files number (stream ∷ streams) [] = tt
all_end files number (stream ∷ streams) (start ∷ starts) = (λ why e. file_end number start (file_named stream.id.name files) why e, all_end files (number + 1) streams starts)

-- ---- the statuses that texts are refused with

catalog_end : (fault : CatalogFault) → is_source_end (catalog_status fault) ≡ true
catalog_end catalog.NoMemory = refl
catalog_end other = refl

state_end : (fault : StateFault) → is_source_end (state_status fault) ≡ true
state_end state.NoMemory = refl
state_end other = refl

pub config_end : (fault : ConfigFault) → is_source_end (config_status fault) ≡ true
config_end config.NoMemory = refl
config_end other = refl

pub begins_end : (files : List FileText) (given : Given) (why : Status) → BeginsFiles files given (Err why) → is_source_end why ≡ true
begins_end files given why begins = in_catalog begins.0 begins.2
  where
    is_known : List ℕ → Bool
    is_known name = is_some (file_named name files)

    in_streams : (states : List State) (streams : List ConfStream) → BeginsStreams StartsAt states streams (Err why) → is_source_end why ≡ true
    in_streams states streams (inl blob) = is_end why (status.BadState state.Blob) blob.1 refl
    in_streams states streams (inr found) = absurd (ok_not_err _ why found.2)

    in_kinds : (is_global : Bool) (states : List State) (streams : List ConfStream) → BeginsUnless is_global (BeginsStreams StartsAt states streams) (Err why) → is_source_end why ≡ true
    in_kinds true states streams e = is_end why (status.BadState state.Blob) e refl
    in_kinds false states streams found = in_streams states streams found

    in_states : (streams : List ConfStream) (reading : Result (List State) StateFault) → MatchResult reading (λ states. BeginsUnless (has_kind is_global_kind states) (BeginsStreams StartsAt states streams) (Err why)) (λ fault. ◌≡◌ {A = Begun FileStart} (Err why) (Err (state_status fault))) → is_source_end why ≡ true
    in_states streams (Err fault) e = is_end why (state_status fault) e (state_end fault)
    in_states streams (Ok states) found = in_kinds (has_kind is_global_kind states) states streams found

    in_known : (unknown : Option ℕ) (streams : List ConfStream) → BeginsKnown unknown (BeginsStates StartsAt given.states streams) (Err why) → is_source_end why ≡ true
    in_known (Some number) streams e = is_end why (status.BadCatalog (catalog.Missing number)) e refl
    in_known None streams found = in_states streams found.0 found.2

    in_catalog : (reading : Result (List ConfStream) CatalogFault) → MatchResult reading (λ streams. BeginsKnown (first_unknown is_known 0 streams) (BeginsStates StartsAt given.states streams) (Err why)) (λ fault. ◌≡◌ {A = Begun FileStart} (Err why) (Err (catalog_status fault))) → is_source_end why ≡ true
    in_catalog (Err fault) e = is_end why (catalog_status fault) e (catalog_end fault)
    in_catalog (Ok streams) found = in_known (first_unknown is_known 0 streams) streams found

-- ---- what the command `read` may say

pub files_end : (moment : ℕ) (files : List FileText) (given : Given) (told : Left) → MaySayFiles moment files given told → EndsSo (λ why. is_source_end why ≡ true) told
files_end moment files given told may = by may.0 may.1 may.2
  where
    by : (found : Result Left Status) → MayBeginBy (BeginsFiles files given) (OpensOf files) moment found → IsTold found told → EndsSo (λ why. is_source_end why ≡ true) told
    by (Err why) begins over = ends_as (λ w. is_source_end w ≡ true) told why (ap (λ (l : Left). l.ends) over) (begins_end files given why begins.is)
    by (Ok left) begins same = λ why is. streams_end (λ w. is_source_end w ≡ true) (OpensOf files) moment 0 begins.streams begins.starts refl (all_end files 0 begins.streams begins.starts) left begins.gives why (sym (ap (λ (l : Left). l.ends) same) ∙ is)

pub config_ends : (P : Status → Type 0) (texts : Option Texts) (text : List ℕ) (MayFiles : List FileText → Left → Type 0) (told : Left) → ((fault : ConfigFault) → P (config_status fault)) → ((files : List FileText) → MayFiles files told → EndsSo P told) → MayByConfig texts text MayFiles told → EndsSo P told
config_ends P texts text MayFiles told bad from may = by may
  where
    by : MayByConfig texts text MayFiles told → EndsSo P told
    by (BadConfig why reads over) = ends_as P told (config_status why) (ap (λ (l : Left). l.ends) over) (bad why)
    by (Files files has found) = from files found
