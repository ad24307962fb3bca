-- What a source of tables may say, and how it ends, by its words, the texts of its desk, the rows of its store, and the moment.
use Rattle.std.specs.Prelude.{◌≡◌, ◌≢◌, ◌⊎◌, ℕ, List, All, Bool, true, false, Option, None, Some, IfSome, Result, Ok, Err, codes}
use Rattle.std.specs.List.{AllByRecursion}
use Rattle.basics.specs.Told.{Rose, RoseIf, told_more}
use Rattle.json_fields.specs.Answer.{IsOnly}
use Rattle.outside.specs.Desk.{DeskSeen, Texts}
use Rattle.outside.specs.Feed.{Left, anything, behind_line, nothing_left}
use Rattle.outside.specs.Rows.{RowsByTable, RowsSeen}
use Rattle.outside.specs.Status.{config_status}
use Rattle.outside.specs.declared.fault.Fault.{Fault}
use Rattle.outside.specs.declared.fault.Fault.TheVariants as fault
use Rattle.outside.specs.declared.faults.ConfigFault.{ConfigFault}
use Rattle.outside.specs.declared.faults.ConfigFault.TheVariants as config
use Rattle.outside.specs.declared.status.Status.{Status}
use Rattle.outside.specs.declared.status.Status.TheVariants as status
use Rattle.catalog.specs.declared.stream.ConfStream.{ConfStream}
use Rattle.cli_words.specs.Connectors.{SourceAsked}
use Rattle.cli_words.specs.Connectors as asked
use Rattle.source_lines.specs.Begins.{BeginsAs}
use Rattle.source_lines.specs.SourceFeeds.{MayBeginBy}
use Rattle.table_config.specs.Config.{ReadsConfig}
use Rattle.table_config.specs.Tables.{is_table}
use Rattle.table_config.specs.declared.config.TableConfig.{TableConfig}
use Rattle.table_source.specs.Discovered.{discover_line, failed_line, spec_line, succeeded_line}
use Rattle.table_source.specs.Keyed.{IsRowBody}
use Rattle.table_feed.specs.Source.{OpensTable, StartsWith}
use Rattle.table_run.specs.Begun.{MaySayBegun}
use Rattle.table_run.specs.declared.run.Given.{Given}

-- ---- the texts

-- the text of this name, where the desk tells its texts
abbrev pub IsTextUnder : Option Texts → List ℕ → List ℕ → Type 0
IsTextUnder texts name text = IfSome texts (λ by_name. by_name name ≡ Some text)

-- the saved states: the text of this name, and the empty array where there is no name
abbrev pub AreStatesUnder : Option Texts → Option (List ℕ) → List ℕ → Type 0
AreStatesUnder texts None states = states ≡ codes "[]"
AreStatesUnder texts (Some name) states = IsTextUnder texts name states

-- what the command `read` is given
pub record IsGiven (texts : Option Texts) (config catalog : List ℕ) (state : Option (List ℕ)) (given : Given) : Type 0 where
  pub config_text : IsTextUnder texts config given.config
  pub catalog_text : IsTextUnder texts catalog given.catalog
  pub states_text : AreStatesUnder texts state given.states

-- what the text of this name reads as
pub record ReadsUnder (texts : Option Texts) (name : List ℕ) (reading : Result TableConfig ConfigFault) : Type 0 where
  pub text : List ℕ
  pub under : IsTextUnder texts name text
  pub reads : IsOnly (ReadsConfig text) reading

-- ---- what each command may say

-- one line, and then all is well, or nothing is said of what comes
abbrev pub MaySayOne : List ℕ → Left → Type 0
MaySayOne line left = (left ≡ behind_line line anything) ⊎ (left ≡ behind_line line (nothing_left status.Ok))

-- The line of `check`: the configuration could not be read, or the store not be opened; or the configuration's text is none; or the
-- store was opened.
pub data IsChecked (opened failed : Type 0) (texts : Option Texts) (config line : List ℕ) : Type 0 where
  CannotOpen : failed → line ≡ failed_line (codes "cannot open") → IsChecked opened failed texts config line
  NoConfig : (why : ConfigFault) → ReadsUnder texts config (Err why) → line ≡ failed_line (codes "bad config") → IsChecked opened failed texts config line
  Succeeded : (read : TableConfig) → ReadsUnder texts config (Ok read) → opened → line ≡ succeeded_line → IsChecked opened failed texts config line

abbrev pub MayCheck : Type 0 → Type 0 → Option Texts → List ℕ → Left → Type 0
MayCheck opened failed texts config left = (line : List ℕ) × IsChecked opened failed texts config line × MaySayOne line left

-- A configuration's text is none, which ends the run; or it is this.
pub data MayByConfig (text : List ℕ) (MayBy : TableConfig → Left → Type 0) (left : Left) : Type 0 where
  BadConfig : (why : ConfigFault) → IsOnly (ReadsConfig text) (Err why) → left ≡ nothing_left (config_status why) → MayByConfig text MayBy left
  Config : (config : TableConfig) → IsOnly (ReadsConfig text) (Ok config) → MayBy config left → MayByConfig text MayBy left

abbrev pub MayDiscover : List ℕ → Left → Type 0
MayDiscover text left = MayByConfig text (λ config. MaySayOne (discover_line config)) left

abbrev pub MayDiscoverBy : Option Texts → List ℕ → Left → Type 0
MayDiscoverBy texts config left = (text : List ℕ) × IsTextUnder texts config text × MayDiscover text left

-- the lines of the configured streams, from where the saved states say
abbrev pub MayReadTables : Option RowsByTable → ℕ → TableConfig → List ℕ → List ℕ → Left → Type 0
MayReadTables rows moment config catalog states left =
    MaySayBegun (MayBeginBy (BeginsAs StartsWith (is_table config.tables) catalog states) (OpensTable rows config.tables) moment) left

-- all texts are read first, and then the configuration's is judged
abbrev pub MayRead : Option RowsByTable → ℕ → Given → Left → Type 0
MayRead rows moment given left = MayByConfig given.config (λ config. MayReadTables rows moment config given.catalog given.states) left

abbrev pub MayReadBy : Option Texts → Option RowsByTable → ℕ → List ℕ → List ℕ → Option (List ℕ) → Left → Type 0
MayReadBy texts rows moment config catalog state left = (given : Given) × IsGiven texts config catalog state given × MayRead rows moment given left

-- what a run may say, by its words; the first two say whether the store was opened, and whether a text could not be read or the store
-- not be opened
abbrev pub MaySay : Type 0 → Type 0 → Option Texts → Option RowsByTable → ℕ → Option SourceAsked → Left → Type 0
MaySay opened failed texts rows moment None left = left ≡ nothing_left status.Usage
MaySay opened failed texts rows moment (Some asked.Spec) left = MaySayOne spec_line left
MaySay opened failed texts rows moment (Some (asked.Check config)) left = MayCheck opened failed texts config left
MaySay opened failed texts rows moment (Some (asked.Discover config)) left = MayDiscoverBy texts config left
MaySay opened failed texts rows moment (Some (asked.Read config catalog state)) left = MayReadBy texts rows moment config catalog state left

-- ---- how a run ends

-- What is seen of the desk and of the store of rows.
pub record Outside : Type 0 where
  pub desk : DeskSeen
  pub rows : RowsSeen

-- Why a run answers this: its words, texts and rows end it so, or memory was wanting, or a text or the rows could not be read, or a
-- line could not be said or written out.
abbrev pub EndsBy : Status → Option Status → Outside → Outside → Type 0
EndsBy result ends old new =
    (ends ≡ Some result) ⊎ (result ≡ status.NoMemory) ⊎ ((result ≡ status.FileFault) × Rose old.desk.read_faults new.desk.read_faults) ⊎ ((result ≡ status.RowFault) × Rose old.rows.faults new.rows.faults)
    ⊎ ((result ≡ status.WriteFault) × Rose old.desk.say_faults new.desk.say_faults)

-- What was said is what may be said, up to the end that is answered; or nothing was said, and so it ended before.
pub record SaysRun (result : Status) (May : Left → Type 0) (old new : Outside) : Type 0 where
  pub left : Left
  pub may : (left ≡ anything) ⊎ May left
  pub said : new.desk.said ≡ told_more left.lines old.desk.said
  pub ends : EndsBy result left.ends old new

-- the store was opened
abbrev pub WasOpened : Outside → Outside → Type 0
WasOpened old new = Rose old.rows.opens new.rows.opens

-- a text could not be read, or the store not be opened
abbrev pub CouldNotOpen : Outside → Outside → Type 0
CouldNotOpen old new = Rose old.desk.read_faults new.desk.read_faults ⊎ Rose old.rows.faults new.rows.faults

-- What a command does: it says what it may, by the texts and rows as far as they are told; each answer has its cause, no count falls,
-- and the texts stay.
pub record RunsAs (result : Status) (May : Type 0 → Type 0 → Left → Type 0) (old new : Outside) : Type 0 where
  pub says : SaysRun result (May (WasOpened old new) (CouldNotOpen old new)) old new
  pub read_faults : RoseIf (result ≡ status.FileFault) old.desk.read_faults new.desk.read_faults
  pub row_faults : RoseIf (result ≡ status.RowFault) old.rows.faults new.rows.faults
  pub say_faults : RoseIf (result ≡ status.WriteFault) old.desk.say_faults new.desk.say_faults
  pub say_stays : ¬ (result ≡ status.WriteFault) → new.desk.say_faults ≡ old.desk.say_faults
  pub texts : new.desk.texts ≡ old.desk.texts

-- the commands that end where a text cannot be read
abbrev pub EndsUnread : Option SourceAsked → Type 0
EndsUnread (Some (asked.Discover config)) = Unit {0}
EndsUnread (Some (asked.Read config catalog state)) = Unit {0}
EndsUnread (Some asked.Spec) = ⊥
EndsUnread (Some (asked.Check config)) = ⊥
EndsUnread None = ⊥

-- the command that ends where rows cannot be read
abbrev pub IsRead : Option SourceAsked → Type 0
IsRead (Some (asked.Read config catalog state)) = Unit {0}
IsRead (Some (asked.Discover config)) = ⊥
IsRead (Some asked.Spec) = ⊥
IsRead (Some (asked.Check config)) = ⊥
IsRead None = ⊥

-- the answers that a command `read` gives before its catalog is judged
abbrev pub IsEarly : Status → Type 0
IsEarly status.FileFault = Unit {0}
IsEarly (status.BadConfig fault) = Unit {0}
IsEarly other = ⊥

-- the runs that leave the store of rows alone: `check` and `read` alone open it, and `read` only behind its texts and its configuration
abbrev pub LeavesRows : Option SourceAsked → Status → Type 0
LeavesRows None result = Unit {0}
LeavesRows (Some asked.Spec) result = Unit {0}
LeavesRows (Some (asked.Discover config)) result = Unit {0}
LeavesRows (Some (asked.Check config)) result = ⊥
LeavesRows (Some (asked.Read config catalog state)) result = IsEarly result

-- ---- a run that its words, its texts and the rows let end well

-- the tables of these streams have rows only that are rows
abbrev pub AllFit : RowsByTable → List ConfStream → Type 0
AllFit by_table streams = AllByRecursion (λ stream. All (λ row. IsRowBody row.body) (by_table stream.id.name)) streams

-- The text is of this configuration, the catalog and the states begin its streams, and their rows are rows.
pub record IsValidRead (by_table : RowsByTable) (given : Given) : Type 0 where
  pub config : TableConfig
  pub reads : ReadsConfig given.config (Ok config)
  pub streams : List ConfStream
  pub starts : List (Option (List ℕ))
  pub begins : BeginsAs StartsWith (is_table config.tables) given.catalog given.states (Ok (streams, starts))
  pub fit : AllFit by_table streams

abbrev pub AreValid : Texts → RowsByTable → Option SourceAsked → Type 0
AreValid by_name by_table None = ⊥
AreValid by_name by_table (Some asked.Spec) = Unit {0}
AreValid by_name by_table (Some (asked.Check config)) = Unit {0}
AreValid by_name by_table (Some (asked.Discover config)) = (text : List ℕ) × (by_name config ≡ Some text) × (read : TableConfig) × ReadsConfig text (Ok read)
AreValid by_name by_table (Some (asked.Read config catalog state)) = (given : Given) × IsGiven (Some by_name) config catalog state given × IsValidRead by_table given

-- no fault was counted
pub record NoneRose (old new : Outside) : Type 0 where
  pub reads : ¬ Rose old.desk.read_faults new.desk.read_faults
  pub rows : ¬ Rose old.rows.faults new.rows.faults
  pub says : ¬ Rose old.desk.say_faults new.desk.say_faults

-- where the texts and rows are told, valid ones give Ok, but for want of memory
abbrev pub IsComplete : Status → Option SourceAsked → Outside → Outside → Type 0
IsComplete result words old new =
    IfSome old.desk.texts (λ by_name. IfSome old.rows.rows (λ by_table. AreValid by_name by_table words → NoneRose old new → (result ≡ status.Ok) ⊎ (result ≡ status.NoMemory)))

-- ---- for private clauses

-- what a fault of reading a text makes of a run
abbrev pub read_status : Fault → Status
read_status fault.Failed = status.FileFault
read_status fault.NoMemory = status.NoMemory

-- nothing of a desk has changed but its count of faults of reading, which rose where reading failed
pub record ReadsOnly (failed : Type 0) (old new : DeskSeen) : Type 0 where
  pub faults : RoseIf failed old.read_faults new.read_faults
  pub others : new ≡ record old { read_faults = new.read_faults }

-- it answers Ok, or memory was wanting, or a line could not be said or written out
abbrev pub EndsSaid : Status → Type 0
EndsSaid result = (result ≡ status.Ok) ⊎ (result ≡ status.NoMemory) ⊎ (result ≡ status.WriteFault)

-- the same, or a text could not be read, or a configuration's text is none
abbrev pub EndsRead : Status → Type 0
EndsRead result = EndsSaid result ⊎ ((result ≡ status.FileFault) ⊎ ((why : ConfigFault) × (result ≡ config_status why)))

-- the line of `check` where the configuration was read
abbrev pub IsOpened : Type 0 → Type 0 → List ℕ → Type 0
IsOpened opened failed line = (opened × (line ≡ succeeded_line)) ⊎ (failed × (line ≡ failed_line (codes "cannot open")))

-- the line of `check` where the configuration's text is none
abbrev pub IsRefused : ConfigFault → List ℕ → Type 0
IsRefused why line = (why ≢ config.NoMemory) × (line ≡ failed_line (codes "bad config"))

-- a status that the texts and rows of a source may end a run with
abbrev pub is_source_end : Status → Bool
is_source_end status.Ok = true
is_source_end status.NoMemory = true
is_source_end (status.BadRow stream row) = true
is_source_end (status.BadConfig fault) = true
is_source_end (status.BadCatalog fault) = true
is_source_end (status.BadState fault) = true
is_source_end other = false

-- a status that the catalog, the states and the rows of a source may end a run with
abbrev pub is_lines_end : Status → Bool
is_lines_end status.Ok = true
is_lines_end status.NoMemory = true
is_lines_end (status.BadRow stream row) = true
is_lines_end (status.BadCatalog fault) = true
is_lines_end (status.BadState fault) = true
is_lines_end other = false

-- an answer of the command `read` behind its texts and its configuration
abbrev pub EndsLate : Status → Type 0
EndsLate result = (is_lines_end result ≡ true) ⊎ ((result ≡ status.RowFault) ⊎ (result ≡ status.WriteFault))

abbrev pub outside_of : DeskSeen → RowsSeen → Outside
outside_of desk rows = record { desk = desk; rows = rows }
