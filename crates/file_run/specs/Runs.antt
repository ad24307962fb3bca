-- What a source of files may say, and how it ends, by its words, the texts of its desk, and the moment.
use Rattle.std.specs.Prelude.{◌≡◌, ◌≢◌, ◌⊎◌, ⊤, ℕ, ◌+◌, ◌-◌, ◌^◌, min, List, [], ◌∷◌, ◌++◌, if◌then◌else◌, All, Bool, true, false, Option, None, Some, IfSome, IsSome, Result, Ok, Err, codes, is_some}
use Rattle.std.specs.List.{AllZip, list_any}
use Rattle.std.specs.Str.{bytes_eq}
use Rattle.basics.specs.Told.{Rose, RoseIf, told_more}
use Rattle.json_fields.specs.Answer.{IsOnly}
use Rattle.outside.specs.Desk.{DeskSeen, Texts}
use Rattle.outside.specs.Feed.{Left, anything, behind_line, nothing_left}
use Rattle.outside.specs.Status.{config_status}
use Rattle.outside.specs.declared.fault.Fault.{Fault}
use Rattle.outside.specs.declared.fault.Fault.TheVariants as fault
use Rattle.outside.specs.declared.faults.ConfigFault.{ConfigFault}
use Rattle.outside.specs.declared.status.Status.{Status}
use Rattle.outside.specs.declared.status.Status.TheVariants as status
use Rattle.catalog.specs.declared.stream.ConfStream.{ConfStream}
use Rattle.cli_words.specs.Connectors.{SourceAsked}
use Rattle.cli_words.specs.Connectors as asked
use Rattle.csv_sheet.specs.Sheet.{Sheet, sheet_in}
use Rattle.source_lines.specs.Begins.{Begun, BeginsAs}
use Rattle.source_lines.specs.SourceFeeds.{MayBeginBy}
use Rattle.source_lines.specs.Sources.{Listed}
use Rattle.file_config.specs.Config.{ReadsConfig}
use Rattle.file_config.specs.declared.config.FileConfig.{FileConfig}
use Rattle.file_config.specs.declared.config.FileEntry.{FileEntry}
use Rattle.file_source.specs.Discovered.{discover_line, failed_line, file_text, spec_line, succeeded_line}
use Rattle.file_source.specs.Files.{StartsAt, file_named, opening}
use Rattle.file_source.specs.declared.source.FileStart.{FileStart}
use Rattle.file_source.specs.declared.source.FileText.{FileText}
use Rattle.file_run.specs.declared.run.Given.{Given}

-- ---- the texts

-- the text of that name is this, where the texts are told
abbrev pub IsText : Option Texts → List ℕ → List ℕ → Type 0
IsText texts name text = IfSome texts (λ by_name. by_name name ≡ Some text)

-- there is a text of that name, where the texts are told
abbrev pub HasText : Option Texts → List ℕ → Type 0
HasText texts name = IfSome texts (λ by_name. IsSome (by_name name))

-- the text of a file of the configuration
pub record IsFile (texts : Option Texts) (entry : FileEntry) (file : FileText) : Type 0 where
  pub name : file.name ≡ entry.name
  pub every : file.every ≡ entry.every
  pub text : IsText texts entry.path file.text

abbrev pub AreFiles : Option Texts → List FileEntry → List FileText → Type 0
AreFiles texts entries files = AllZip (IsFile texts) entries files

-- without a name there are no states
abbrev pub AreStates : Option Texts → Option (List ℕ) → List ℕ → Type 0
AreStates texts None states = states ≡ codes "[]"
AreStates texts (Some name) states = IsText texts name states

-- what the command `read` is given
pub record IsGiven (texts : Option Texts) (config catalog : List ℕ) (state : Option (List ℕ)) (given : Given) : Type 0 where
  pub config_text : IsText texts config given.config
  pub catalog_text : IsText texts catalog given.catalog
  pub states_text : AreStates texts state given.states

-- ---- the command `read`

-- a feed that begins may give this; one that is refused ends at once
abbrev pub IsTold : Result Left Status → Left → Type 0
IsTold (Ok left) told = told ≡ left
IsTold (Err why) told = told ≡ nothing_left why

-- what the streams of these files are begun with, by what the catalog and the states say
abbrev pub BeginsFiles : List FileText → Given → Begun FileStart → Type 0
BeginsFiles files given = BeginsAs StartsAt (λ name. is_some (file_named name files)) given.catalog given.states

-- the lines of these files' streams, or that they are refused
abbrev pub MaySayFiles : ℕ → List FileText → Given → Left → Type 0
MaySayFiles moment files given told =
    (found : Result Left Status)
    × MayBeginBy (BeginsFiles files given) (λ number stream start listed. listed ≡ opening files number stream start) moment found
    × IsTold found told

-- the text is of a configuration, which names these files
pub record HasFiles (texts : Option Texts) (text : List ℕ) (files : List FileText) : Type 0 where
  pub config : FileConfig
  pub reads : IsOnly (ReadsConfig text) (Ok config)
  pub are : AreFiles texts config.files files

-- A configuration's text is none, which ends the run; or it names files.
pub data MayByConfig (texts : Option Texts) (text : List ℕ) (MayFiles : List FileText → Left → Type 0) (told : Left) : Type 0 where
  BadConfig : (why : ConfigFault) → IsOnly (ReadsConfig text) (Err why) → told ≡ nothing_left (config_status why) → MayByConfig texts text MayFiles told
  Files : (files : List FileText) → HasFiles texts text files → MayFiles files told → MayByConfig texts text MayFiles told

-- the configuration is read first, and then the files
abbrev pub MayRead : Option Texts → ℕ → Given → Left → Type 0
MayRead texts moment given told = MayByConfig texts given.config (λ files. MaySayFiles moment files given) told

-- ---- the command `discover`

-- the stream of a file with this place in the configuration, or the first of its records that is refused
abbrev pub stream_of : ℕ → FileText → Result Sheet ℕ → Result (List ℕ) Status
stream_of place file (Ok sheet) = Ok (file_text file.name sheet.header)
stream_of place file (Err row) = Err (status.BadRow place row)

-- a number of 32 bits
abbrev pub shown_place : ℕ → ℕ
shown_place place = min place (2 ^ 32 - 1)

abbrev pub stream_behind : Result (List ℕ) Status → Result (List (List ℕ)) Status → Result (List (List ℕ)) Status
stream_behind (Ok text) (Ok texts) = Ok (text ∷ texts)
stream_behind (Ok text) (Err why) = Err why
stream_behind (Err why) others = Err why

-- The streams of files that stand behind ones of these names, of which the first has this place; or the first that is refused. Of two
-- files of one name the first counts: the other is no stream, whatever its text.
abbrev pub streams_from : ℕ → List (List ℕ) → List FileText → Result (List (List ℕ)) Status
streams_from place names [] = Ok []
streams_from place names (file ∷ files) =
    if list_any (bytes_eq file.name) names then streams_from (place + 1) names files
    else stream_behind (stream_of (shown_place place) file (sheet_in file.text)) (streams_from (place + 1) (names ++ file.name ∷ []) files)

-- the streams of a configuration's files
abbrev pub streams_in : List FileText → Result (List (List ℕ)) Status
streams_in files = streams_from 0 [] files

-- one line, and then all is well, or nothing is said of what comes
abbrev pub MaySayOne : List ℕ → Left → Type 0
MaySayOne line told = (told ≡ behind_line line anything) ⊎ (told ≡ behind_line line (nothing_left status.Ok))

abbrev pub MaySayStreams : Result (List (List ℕ)) Status → Left → Type 0
MaySayStreams (Ok texts) told = MaySayOne (discover_line texts) told
MaySayStreams (Err why) told = told ≡ nothing_left why

abbrev pub MayDiscover : Option Texts → List ℕ → Left → Type 0
MayDiscover texts text told = MayByConfig texts text (λ files. MaySayStreams (streams_in files)) told

-- ---- the command `check`

-- The line of `check`: a text could not be read; or the configuration's text is none; or each file has a text.
pub data IsChecked (failed : Type 0) (texts : Option Texts) (config : List ℕ) (line : List ℕ) : Type 0 where
  CannotOpen : failed → line ≡ failed_line (codes "cannot open") → IsChecked failed texts config line
  NoConfig : (text : List ℕ) → IsText texts config text → (why : ConfigFault) → IsOnly (ReadsConfig text) (Err why) → line ≡ failed_line (codes "bad config") → IsChecked failed texts config line
  Succeeded : (text : List ℕ) → IsText texts config text → (read : FileConfig) → IsOnly (ReadsConfig text) (Ok read) → All (λ entry. HasText texts entry.path) read.files → line ≡ succeeded_line → IsChecked failed texts config line

abbrev pub MayCheck : Type 0 → Option Texts → List ℕ → Left → Type 0
MayCheck failed texts config told = (line : List ℕ) × IsChecked failed texts config line × MaySayOne line told

-- ---- all commands

abbrev pub MayDiscoverBy : Option Texts → List ℕ → Left → Type 0
MayDiscoverBy texts config told = (text : List ℕ) × IsText texts config text × MayDiscover texts text told

abbrev pub MayReadBy : Option Texts → ℕ → List ℕ → List ℕ → Option (List ℕ) → Left → Type 0
MayReadBy texts moment config catalog state told = (given : Given) × IsGiven texts config catalog state given × MayRead texts moment given told

-- what may be said, where reads of texts failed or not
abbrev pub MaySay : ℕ → Option SourceAsked → Type 0 → Option Texts → Left → Type 0
MaySay moment None failed texts told = told ≡ nothing_left status.Usage
MaySay moment (Some asked.Spec) failed texts told = MaySayOne spec_line told
MaySay moment (Some (asked.Check config)) failed texts told = MayCheck failed texts config told
MaySay moment (Some (asked.Discover config)) failed texts told = MayDiscoverBy texts config told
MaySay moment (Some (asked.Read config catalog state)) failed texts told = MayReadBy texts moment config catalog state told

-- Why a run answers this: its words and texts end it so, or memory was wanting, or a text could not be read, or a line could not be
-- said or written out.
abbrev pub EndsBy : Status → Option Status → DeskSeen → DeskSeen → Type 0
EndsBy result ends old new =
    (ends ≡ Some result) ⊎ (result ≡ status.NoMemory) ⊎ ((result ≡ status.FileFault) × Rose old.read_faults new.read_faults) ⊎ ((result ≡ status.WriteFault) × Rose old.say_faults new.say_faults)

-- What was said is what may be said, up to the end that is answered; or nothing was said, and so it ended before.
pub record SaysRun (result : Status) (May : Left → Type 0) (old new : DeskSeen) : Type 0 where
  pub left : Left
  pub may : (left ≡ anything) ⊎ May left
  pub said : new.said ≡ told_more left.lines old.said
  pub ends : EndsBy result left.ends old new

-- what a fault of reading a text makes of a run
abbrev pub read_status : Fault → Status
read_status fault.Failed = status.FileFault
read_status fault.NoMemory = status.NoMemory

-- nothing of a desk has changed but its count of faults of reading, which rose where reading failed
pub record ReadsOnly (failed : Type 0) (old new : DeskSeen) : Type 0 where
  pub faults : RoseIf failed old.read_faults new.read_faults
  pub others : new ≡ record old { read_faults = new.read_faults }

-- What a command does to a desk: it says what it may, by the texts as far as they are told; each answer has its cause; and the texts
-- stay.
pub record RunsAs (result : Status) (May : Type 0 → Option Texts → Left → Type 0) (old new : DeskSeen) : Type 0 where
  pub says : SaysRun result (May (Rose old.read_faults new.read_faults) old.texts) old new
  pub read_faults : RoseIf (result ≡ status.FileFault) old.read_faults new.read_faults
  pub say_faults : RoseIf (result ≡ status.WriteFault) old.say_faults new.say_faults
  pub say_stays : result ≢ status.WriteFault → new.say_faults ≡ old.say_faults
  pub texts : new.texts ≡ old.texts

-- the commands that end where a text cannot be read
abbrev pub EndsUnread : Option SourceAsked → Type 0
EndsUnread (Some (asked.Discover config)) = Unit {0}
EndsUnread (Some (asked.Read config catalog state)) = Unit {0}
EndsUnread (Some asked.Spec) = ⊥
EndsUnread (Some (asked.Check config)) = ⊥
EndsUnread None = ⊥

-- whether the words ask for `check`, which answers also where a text could not be read
abbrev pub is_check : Option SourceAsked → Bool
is_check (Some (asked.Check config)) = true
is_check other = false

-- ---- texts that are valid

-- the streams that start at these places have their rows, of which the first has this number
abbrev pub AllOpen : List FileText → ℕ → List ConfStream → List FileStart → Type 0
AllOpen files number [] starts = ⊤
AllOpen files number (stream ∷ streams) [] = ⊤
AllOpen files number (stream ∷ streams) (start ∷ starts) = ((listed : Listed) × (opening files number stream start ≡ Ok listed)) × AllOpen files (number + 1) streams starts

-- The catalog and the states are ones of these files, and each stream has its rows.
pub record IsValidRead (files : List FileText) (given : Given) : Type 0 where
  pub streams : List ConfStream
  pub starts : List FileStart
  pub begins : BeginsFiles files given (Ok (streams, starts))
  pub open_all : AllOpen files 0 streams starts

-- The words are a command's, and its texts are valid. A `check` says so of any.
abbrev pub AreValid : Texts → Option SourceAsked → Type 0
AreValid by_name None = ⊥
AreValid by_name (Some asked.Spec) = ⊤
AreValid by_name (Some (asked.Check config)) = ⊤
AreValid by_name (Some (asked.Discover config)) =
    (text : List ℕ) × (by_name config ≡ Some text) × (files : List FileText) × HasFiles (Some by_name) text files
    × (streams : List (List ℕ)) × (streams_in files ≡ Ok streams)
AreValid by_name (Some (asked.Read config catalog state)) =
    (given : Given) × IsGiven (Some by_name) config catalog state given × (files : List FileText) × HasFiles (Some by_name) given.config files × IsValidRead files given

abbrev pub IsOkOrNoMemory : Status → Type 0
IsOkOrNoMemory result = (result ≡ status.Ok) ⊎ (result ≡ status.NoMemory)

-- For private clauses: it answers Ok, or memory was wanting, or a line could not be said or written out.
abbrev pub EndsSaid : Status → Type 0
EndsSaid result = (result ≡ status.Ok) ⊎ (result ≡ status.NoMemory) ⊎ (result ≡ status.WriteFault)

-- For private clauses: why the files of a configuration with this text were not read.
abbrev pub RefusesFiles : Status → List ℕ → DeskSeen → DeskSeen → Type 0
RefusesFiles why text old new =
    (why ≡ status.NoMemory) ⊎ ((why ≡ status.FileFault) × Rose old.read_faults new.read_faults) ⊎ ((fault : ConfigFault) × IsOnly (ReadsConfig text) (Err fault) × (why ≡ config_status fault))

-- For private clauses: these streams before others.
abbrev pub streams_behind : List (List ℕ) → Result (List (List ℕ)) Status → Result (List (List ℕ)) Status
streams_behind [] others = others
streams_behind (text ∷ texts) others = stream_behind (Ok text) (streams_behind texts others)

-- For private clauses: the stream of the file with this place was put behind others; or a file in front has its name, and nothing was.
pub data AddsStream (place : ℕ) (file : FileText) (names texts names_now texts_now : List (List ℕ)) : Type 0 where
  Passed : list_any (bytes_eq file.name) names ≡ true → names_now ≡ names → texts_now ≡ texts → AddsStream place file names texts names_now texts_now
  Added : list_any (bytes_eq file.name) names ≡ false → names_now ≡ names ++ file.name ∷ [] → (text : List ℕ) → stream_of place file (sheet_in file.text) ≡ Ok text → texts_now ≡ texts ++ text ∷ [] → AddsStream place file names texts names_now texts_now

-- For private clauses: memory was wanting, or the first file of a name is refused.
abbrev pub RefusesStream : ℕ → FileText → List (List ℕ) → Status → Type 0
RefusesStream place file names why = (why ≡ status.NoMemory) ⊎ ((list_any (bytes_eq file.name) names ≡ false) × (stream_of place file (sheet_in file.text) ≡ Err why))
