-- A whole run: where its texts are valid and no fault was counted it ends well; and it answers `Usage` by its words alone.
use Rattle.std.proofs.Common.{◌≡◌, ◌⊎◌, ◌↔◌, ◌∙◌, inl, inr, ℕ, ◌+◌, List, [], ◌∷◌, ◌++◌, if◌then◌else◌, Bool, true, false, Option, None, Some, IfSome, Result, Ok, Err, is_some, refl, sym, ap, subst, arith}
use Rattle.std.specs.List.{list_any}
use Rattle.std.specs.Str.{bytes_eq}
use Rattle.basics.specs.Told.{Rose, RoseIf}
use Rattle.outside.specs.Desk.{DeskSeen, SaysOnly, Texts}
use Rattle.outside.specs.Feed.{Left, anything, nothing_left}
use Rattle.outside.specs.declared.faults.ConfigFault.{ConfigFault}
use Rattle.outside.specs.declared.status.Status.{Status}
use Rattle.outside.specs.declared.status.Status.TheVariants as status
use Rattle.catalog.specs.declared.stream.ConfStream.{ConfStream}
use Rattle.cli_words.specs.Connectors.{SourceAsked}
use Rattle.cli_words.specs.Connectors as asked
use Rattle.say_feed.specs.Said.{SaysFeed}
use Rattle.source_lines.specs.Begins.{BeginsAs}
use Rattle.source_lines.specs.Sources.{Listed}
use Rattle.source_lines.specs.SourceFeeds.{MayBeginBy}
use Rattle.file_config.specs.declared.config.FileConfig.{FileConfig}
use Rattle.file_config.specs.declared.config.FileEntry.{FileEntry}
use Rattle.csv_sheet.specs.Sheet.{Sheet, sheet_in}
use Rattle.file_source.specs.Discovered.{discover_line}
use Rattle.file_source.specs.Files.{StartsAt, file_named, opening}
use Rattle.file_source.specs.declared.source.FileStart.{FileStart}
use Rattle.file_source.specs.declared.source.FileText.{FileText}
use Rattle.file_run.specs.Runs.{AllOpen, AreFiles, AreStates, AreValid, BadConfig, BeginsFiles, EndsBy, Files, HasFiles, IsFile, IsGiven, IsOkOrNoMemory, IsTold, IsValidRead, MayByConfig, MayDiscover, MayRead, MaySay, MaySayFiles, MaySayOne, MaySayStreams, RunsAs, shown_place, stream_behind, stream_of, streams_from, streams_in}
use Rattle.file_run.specs.declared.run.Given.{Given}
use Rattle.file_run.proofs.RunLemmas.{ends_now, feed_said, no_memory}
use Rattle.file_run.proofs.EndLemmas.{EndsSo, OpensOf, RefusedSo, begins_end, config_end, config_ends, ends_as, files_end, is_source_end, never_ends, streams_end}

abbrev IsOk : Status → Type 0
IsOk why = why ≡ status.Ok

-- ---- texts that are told are the only ones

same_some : {A : Type 0} (held : Option A) (a b : A) → held ≡ Some a → held ≡ Some b → a ≡ b
same_some held a b is other = cc

same_file : (by_name : Texts) (entry : FileEntry) (file other : FileText) → IsFile (Some by_name) entry file → IsFile (Some by_name) entry other → file ≡ other
same_file by_name entry file other is same = λ k. record {
  name = (is.name ∙ sym same.name) k;
  every = (is.every ∙ sym same.every) k;
  text = same_some (by_name entry.path) file.text other.text is.text same.text k;
}

same_files : (by_name : Texts) (entries : List FileEntry) (files others : List FileText) → AreFiles (Some by_name) entries files → AreFiles (Some by_name) entries others → files ≡ others
same_files by_name [] [] [] are same = refl
same_files by_name [] [] (other ∷ others) are same = absurd same
same_files by_name [] (file ∷ files) others are same = absurd are
same_files by_name (entry ∷ entries) [] others are same = absurd are
same_files by_name (entry ∷ entries) (file ∷ files) [] are same = absurd same
same_files by_name (entry ∷ entries) (file ∷ files) (other ∷ others) are same =
    ap (λ (f : FileText). f ∷ files) (same_file by_name entry file other are.0 same.0) ∙ ap (λ (fs : List FileText). other ∷ fs) (same_files by_name entries files others are.1 same.1)

same_states : (by_name : Texts) (state : Option (List ℕ)) (states others : List ℕ) → AreStates (Some by_name) state states → AreStates (Some by_name) state others → states ≡ others
same_states by_name None states others are same = are ∙ sym same
same_states by_name (Some name) states others are same = same_some (by_name name) states others are same

same_given : (by_name : Texts) (config catalog : List ℕ) (state : Option (List ℕ)) (given other : Given) → IsGiven (Some by_name) config catalog state given → IsGiven (Some by_name) config catalog state other → given ≡ other
same_given by_name config catalog state given other is same = λ k. record {
  config = same_some (by_name config) given.config other.config is.config_text same.config_text k;
  catalog = same_some (by_name catalog) given.catalog other.catalog is.catalog_text same.catalog_text k;
  states = same_states by_name state given.states other.states is.states_text same.states_text k;
}

-- ---- valid texts

one_ends : (P : Status → Type 0) (line : List ℕ) (told : Left) → P status.Ok → MaySayOne line told → EndsSo P told
one_ends P line told ok (inl open_end) = never_ends P told (ap (λ (l : Left). l.ends) open_end)
one_ends P line told ok (inr over) = ends_as P told status.Ok (ap (λ (l : Left). l.ends) over) ok

-- by a configuration that names files
by_files : (by_name : Texts) (text : List ℕ) (files : List FileText) (MayFiles : List FileText → Left → Type 0) (told : Left) → HasFiles (Some by_name) text files → MayByConfig (Some by_name) text MayFiles told → MayFiles files told
by_files by_name text files MayFiles told valid may = by may
  where
    no_config : (why : ConfigFault) → ◌≡◌ {A = Result FileConfig ConfigFault} (Ok valid.config) (Err why) → ⊥
    no_config why e = cc

    same_config : (config : FileConfig) → ◌≡◌ {A = Result FileConfig ConfigFault} (Ok valid.config) (Ok config) → valid.config ≡ config
    same_config config e = cc

    by : MayByConfig (Some by_name) text MayFiles told → MayFiles files told
    by (BadConfig why reads over) = absurd (no_config why (reads.only (Ok valid.config) valid.reads.is))
    by (Files others has found) =
        let same = same_config has.config (has.reads.only (Ok valid.config) valid.reads.is) in
        let of_config : AreFiles (Some by_name) has.config.files files = subst (λ (c : FileConfig). AreFiles (Some by_name) c.files files) same valid.are in
        subst (λ (fs : List FileText). MayFiles fs told) (same_files by_name has.config.files others files has.are of_config) found

none_refused : (files : List FileText) (number : ℕ) (streams : List ConfStream) (starts : List FileStart) → AllOpen files number streams starts → RefusedSo IsOk (OpensOf files) number streams starts
none_refused files number [] starts all = tt
none_refused files number (stream ∷ streams) [] all = tt
none_refused files number (stream ∷ streams) (start ∷ starts) all = (λ why e. absurd (open_not why all.0.0 e all.0.1), none_refused files (number + 1) streams starts all.1)
  where
    open_not : (why : Status) (listed : Listed) → Err why ≡ opening files number stream start → opening files number stream start ≡ Ok listed → ⊥
    open_not why listed e is = let both : ◌≡◌ {A = Result Listed Status} (Err why) (Ok listed) = e ∙ is in cc

read_ends : (moment : ℕ) (files : List FileText) (given : Given) (told : Left) → IsValidRead files given → MaySayFiles moment files given told → EndsSo IsOk told
read_ends moment files given told valid may = by may.0 may.1 may.2
  where
    no_status : (why : Status) → ◌≡◌ {A = Result (List ConfStream × List FileStart) Status} (Ok (valid.streams, valid.starts)) (Err why) → ⊥
    no_status why e = cc

    same_streams : (streams : List ConfStream) (starts : List FileStart) → ◌≡◌ {A = Result (List ConfStream × List FileStart) Status} (Ok (valid.streams, valid.starts)) (Ok (streams, starts)) → AllOpen files 0 streams starts
    same_streams streams starts e =
        let first : valid.streams ≡ streams = ap (λ (p : List ConfStream × List FileStart). p.0) (the_ok _ _ e) in
        let second : valid.starts ≡ starts = ap (λ (p : List ConfStream × List FileStart). p.1) (the_ok _ _ e) in
        subst (λ (ss : List ConfStream). AllOpen files 0 ss starts) first (subst (λ (ts : List FileStart). AllOpen files 0 valid.streams ts) second valid.open_all)
      where
        the_ok : (a b : List ConfStream × List FileStart) → ◌≡◌ {A = Result (List ConfStream × List FileStart) Status} (Ok a) (Ok b) → a ≡ b
        the_ok a b is = cc

    by : (found : Result Left Status) → MayBeginBy (BeginsFiles files given) (OpensOf files) moment found → IsTold found told → EndsSo IsOk told
    by (Err why) begins over = absurd (no_status why (begins.only (Ok (valid.streams, valid.starts)) valid.begins))
    by (Ok left) begins same = λ why is.
        let all = same_streams begins.streams begins.starts (begins.read.only (Ok (valid.streams, valid.starts)) valid.begins) in
        streams_end IsOk (OpensOf files) moment 0 begins.streams begins.starts refl (none_refused files 0 begins.streams begins.starts all) left begins.gives why (sym (ap (λ (l : Left). l.ends) same) ∙ is)

streams_ok : (files : List FileText) (texts : List (List ℕ)) (told : Left) → streams_in files ≡ Ok texts → MaySayStreams (streams_in files) told → EndsSo IsOk told
streams_ok files texts told is may = one_ends IsOk (discover_line texts) told refl (subst (λ (r : Result (List (List ℕ)) Status). MaySayStreams r told) is may)

ends_well : (moment : ℕ) (words : Option SourceAsked) (failed : Type 0) (by_name : Texts) (told : Left) → AreValid by_name words → MaySay moment words failed (Some by_name) told → EndsSo IsOk told
ends_well moment None failed by_name told valid may = absurd valid
ends_well moment (Some asked.Spec) failed by_name told valid may = one_ends IsOk _ told refl may
ends_well moment (Some (asked.Check config)) failed by_name told valid may = one_ends IsOk may.0 told refl may.2
ends_well moment (Some (asked.Discover config)) failed by_name told valid may =
    let same : valid.0 ≡ may.0 = same_some (by_name config) valid.0 may.0 valid.1 may.1 in
    let found : MayDiscover (Some by_name) valid.0 told = subst (λ (t : List ℕ). MayDiscover (Some by_name) t told) (sym same) may.2 in
    streams_ok valid.2 valid.4 told valid.5 (by_files by_name valid.0 valid.2 (λ files. MaySayStreams (streams_in files)) told valid.3 found)
ends_well moment (Some (asked.Read config catalog state)) failed by_name told valid may =
    let same : valid.0 ≡ may.0 = same_given by_name config catalog state valid.0 may.0 valid.1 may.1 in
    let found : MayRead (Some by_name) moment valid.0 told = subst (λ (g : Given). MayRead (Some by_name) moment g told) (sym same) may.2 in
    read_ends moment valid.2 valid.0 told valid.4 (by_files by_name valid.0.config valid.2 (λ files. MaySayFiles moment files valid.0) told valid.3 found)

if_some : {A : Type 0} (held : Option A) (P : A → Type 0) → ((a : A) → held ≡ Some a → P a) → IfSome held P
if_some None P all = tt
if_some (Some a) P all = all a refl

-- Where the texts are valid and no fault was counted, a run ends well, but for want of memory.
pub complete : (moment : ℕ) (words : Option SourceAsked) (result : Status) (old new : DeskSeen) → RunsAs result (MaySay moment words) old new
    → IfSome old.texts (λ by_name. AreValid by_name words → ¬ Rose old.read_faults new.read_faults → ¬ Rose old.say_faults new.say_faults → IsOkOrNoMemory result)
complete moment words result old new runs = if_some old.texts _ (λ by_name told valid reads says. by by_name told valid reads says runs.says.may runs.says.ends)
  where
    left : Left
    left = runs.says.left

    by : (by_name : Texts) → old.texts ≡ Some by_name → AreValid by_name words → ¬ Rose old.read_faults new.read_faults → ¬ Rose old.say_faults new.say_faults
        → (left ≡ anything) ⊎ MaySay moment words (Rose old.read_faults new.read_faults) old.texts left → EndsBy result left.ends old new → IsOkOrNoMemory result
    by by_name told valid reads says may (inr (inl memory)) = inr memory
    by by_name told valid reads says may (inr (inr (inl file))) = absurd (reads file.1)
    by by_name told valid reads says may (inr (inr (inr write))) = absurd (says write.1)
    by by_name told valid reads says (inl none) (inl is) = absurd (never_ends (λ why. ⊥) left (ap (λ (l : Left). l.ends) none) result is)
    by by_name told valid reads says (inr may) (inl is) =
        inl (ends_well moment words (Rose old.read_faults new.read_faults) by_name left valid (subst (λ (t : Option Texts). MaySay moment words (Rose old.read_faults new.read_faults) t left) told may) result is)

-- ---- `Usage`

stream_end : (place : ℕ) (file : FileText) (sheet : Result Sheet ℕ) (why : Status) → stream_of place file sheet ≡ Err why → is_source_end why ≡ true
stream_end place file (Ok sheet) why e = absurd (cc)
stream_end place file (Err row) why e = let same : status.BadRow place row ≡ why = cc in ap is_source_end (sym same)

both_end : (first : Result (List ℕ) Status) (others : Result (List (List ℕ)) Status) (why : Status) → ((w : Status) → first ≡ Err w → is_source_end w ≡ true) → ((w : Status) → others ≡ Err w → is_source_end w ≡ true)
    → stream_behind first others ≡ Err why → is_source_end why ≡ true
both_end (Ok text) (Ok texts) why of_first of_others e = absurd (cc)
both_end (Ok text) (Err w) why of_first of_others e = of_others why e
both_end (Err w) others why of_first of_others e = of_first why (let same : w ≡ why = cc in ap Err same)

one_of : (passed : Bool) (those these : Result (List (List ℕ)) Status) (why : Status) → (those ≡ Err why → is_source_end why ≡ true) → (these ≡ Err why → is_source_end why ≡ true) → (if passed then those else these) ≡ Err why → is_source_end why ≡ true
one_of true those these why of_those of_these e = of_those e
one_of false those these why of_those of_these e = of_these e

streams_err : (files : List FileText) (place : ℕ) (names : List (List ℕ)) (why : Status) → streams_from place names files ≡ Err why → is_source_end why ≡ true
streams_err [] place names why e = absurd (cc)
streams_err (file ∷ files) place names why e =
    let others = streams_from (place + 1) (names ++ file.name ∷ []) files in
    one_of (list_any (bytes_eq file.name) names) (streams_from (place + 1) names files) (stream_behind (stream_of (shown_place place) file (sheet_in file.text)) others) why
    (λ is. streams_err files (place + 1) names why is)
    (λ is. both_end (stream_of (shown_place place) file (sheet_in file.text)) others why (λ w it. stream_end (shown_place place) file (sheet_in file.text) w it) (λ w it. streams_err files (place + 1) (names ++ file.name ∷ []) w it) is) e

-- the streams of files are refused
pub streams_not_said : (why : Status) (files : List FileText) (seen : DeskSeen) → (why ≡ status.NoMemory) ⊎ (streams_in files ≡ Err why) → RunsAs why (λ failed texts. MaySayStreams (streams_in files)) seen seen
streams_not_said why files seen (inl memory) = subst (λ (s : Status). RunsAs s (λ failed texts. MaySayStreams (streams_in files)) seen seen) (sym memory) (no_memory (λ failed texts. MaySayStreams (streams_in files)) seen)
streams_not_said why files seen (inr is) =
    ends_now why (λ failed texts. MaySayStreams (streams_in files)) seen (λ e. not_own status.FileFault e refl) (λ e. not_own status.WriteFault e refl) (subst (λ (r : Result (List (List ℕ)) Status). MaySayStreams r (nothing_left why)) (sym is) refl)
  where
    not_own : (other : Status) → why ≡ other → is_source_end other ≡ false → ⊥
    not_own other e none = let own = streams_err files 0 [] why is in let same = ap is_source_end e in cc

streams_source : (streams : Result (List (List ℕ)) Status) (files : List FileText) (told : Left) → streams_in files ≡ streams → MaySayStreams streams told → EndsSo (λ why. is_source_end why ≡ true) told
streams_source (Ok texts) files told is may = one_ends (λ why. is_source_end why ≡ true) (discover_line texts) told refl may
streams_source (Err why) files told is over = ends_as (λ w. is_source_end w ≡ true) told why (ap (λ (l : Left). l.ends) over) (streams_err files 0 [] why is)

ends_by_source : (moment : ℕ) (command : SourceAsked) (failed : Type 0) (texts : Option Texts) (told : Left) → MaySay moment (Some command) failed texts told → EndsSo (λ why. is_source_end why ≡ true) told
ends_by_source moment asked.Spec failed texts told may = one_ends (λ why. is_source_end why ≡ true) _ told refl may
ends_by_source moment (asked.Check config) failed texts told may = one_ends (λ why. is_source_end why ≡ true) may.0 told refl may.2
ends_by_source moment (asked.Discover config) failed texts told may =
    config_ends (λ why. is_source_end why ≡ true) texts may.0 (λ files. MaySayStreams (streams_in files)) told config_end (λ files found. streams_source (streams_in files) files told refl found) may.2
ends_by_source moment (asked.Read config catalog state) failed texts told may =
    config_ends (λ why. is_source_end why ≡ true) texts may.0.config (λ files. MaySayFiles moment files may.0) told config_end (λ files found. files_end moment files may.0 told found) may.2

pub usage_only : (moment : ℕ) (words : Option SourceAsked) (result : Status) (old new : DeskSeen) → RunsAs result (MaySay moment words) old new → result ≡ status.Usage → words ≡ None
usage_only moment None result old new runs usage = refl
usage_only moment (Some command) result old new runs usage = absurd (by runs.says.may runs.says.ends)
  where
    left : Left
    left = runs.says.left

    ended : (left.ends ≡ Some result) → is_source_end result ≡ true → ⊥
    ended is own = let same = ap is_source_end usage in cc

    by : (left ≡ anything) ⊎ MaySay moment (Some command) (Rose old.read_faults new.read_faults) old.texts left → EndsBy result left.ends old new → ⊥
    by may (inr (inl memory)) = cc
    by may (inr (inr (inl file))) = let f = file.0 in cc
    by may (inr (inr (inr write))) = let w = write.0 in cc
    by (inl none) (inl is) = never_ends (λ why. ⊥) left (ap (λ (l : Left). l.ends) none) result is
    by (inr may) (inl is) = ended is (ends_by_source moment command (Rose old.read_faults new.read_faults) old.texts left may result is)

-- ---- by the words

pub whole_of : (moment : ℕ) (words : Option SourceAsked) (command : SourceAsked) (result : Status) (old new : DeskSeen) → Some command ≡ words → RunsAs result (MaySay moment (Some command)) old new → RunsAs result (MaySay moment words) old new
whole_of moment words command result old new e runs = subst (λ (w : Option SourceAsked). RunsAs result (MaySay moment w) old new) e runs

pub usage_as : (moment : ℕ) (words : Option SourceAsked) (command : SourceAsked) (result : Status) (old new : DeskSeen) → Some command ≡ words → RunsAs result (MaySay moment (Some command)) old new → (result ≡ status.Usage) ↔ (words ≡ None)
usage_as moment words command result old new e runs = (λ usage. usage_only moment words result old new (whole_of moment words command result old new e runs) usage, λ none. absurd (no_command none))
  where
    no_command : words ≡ None → ⊥
    no_command none = let both : ◌≡◌ {A = Option SourceAsked} (Some command) None = e ∙ none in cc

-- no command is asked for
pub no_words : (moment : ℕ) (words : Option SourceAsked) (seen : DeskSeen) → None ≡ words → RunsAs status.Usage (MaySay moment words) seen seen
no_words moment words seen e = subst (λ (w : Option SourceAsked). RunsAs status.Usage (MaySay moment w) seen seen) e (ends_now status.Usage (MaySay moment None) seen (λ f. not_file f) (λ w. not_write w) refl)
  where
    not_file : status.Usage ≡ status.FileFault → ⊥
    not_file f = cc

    not_write : status.Usage ≡ status.WriteFault → ⊥
    not_write w = cc

-- ---- a feed over files

-- what a feed over these files may begin with
abbrev pub FilesBegin : List FileText → ℕ → List ℕ → List ℕ → Result Left Status → Type 0
FilesBegin files moment catalog states found = MayBeginBy (BeginsAs StartsAt (λ name. is_some (file_named name files)) catalog states) (OpensOf files) moment found

pub begin_alike : (files others : List FileText) (moment at : ℕ) (given : Given) (catalog states : List ℕ) (found : Result Left Status) → others ≡ files → at ≡ moment → catalog ≡ given.catalog → states ≡ given.states → FilesBegin others at catalog states found → FilesBegin files moment given.catalog given.states found
begin_alike files others moment at given catalog states found same now text saved begins =
    subst (λ (s : List ℕ). FilesBegin files moment given.catalog s found) saved
    (subst (λ (t : List ℕ). FilesBegin files moment t states found) text
    (subst (λ (n : ℕ). FilesBegin files n catalog states found) now
    (subst (λ (fs : List FileText). FilesBegin fs at catalog states found) same begins)))

-- the lines of a feed that has begun
pub files_said : (result : Status) (Gives : Left → Type 0) (moment : ℕ) (files : List FileText) (given : Given) (old new : DeskSeen) → ((told : Left) → Gives told → FilesBegin files moment given.catalog given.states (Ok told))
    → SaysFeed result Gives 0 0 old new → SaysOnly ⊥ old new → (¬ (result ≡ status.WriteFault) → new.say_faults ≡ old.say_faults) → RunsAs result (λ failed texts. MaySayFiles moment files given) old new
files_said result Gives moment files given old new begins says only stays =
    feed_said result Gives (λ failed texts. MaySayFiles moment files given) old new (λ told gives. may told gives) (λ told gives. files_end moment files given told (may told gives)) says only stays
  where
    may : (told : Left) → Gives told → MaySayFiles moment files given told
    may told gives = (Ok told, begins told gives, refl)

-- a feed that did not begin
pub files_refused : (why : Status) (moment : ℕ) (files : List FileText) (given : Given) (lost : Type 0) (seen : DeskSeen) → (why ≡ status.RowFault → lost) → RoseIf lost 0 0
    → (why ≡ status.NoMemory) ⊎ (why ≡ status.RowFault) ⊎ FilesBegin files moment given.catalog given.states (Err why) → RunsAs why (λ failed texts. MaySayFiles moment files given) seen seen
files_refused why moment files given lost seen loses faults (inl memory) =
    subst (λ (s : Status). RunsAs s (λ failed texts. MaySayFiles moment files given) seen seen) (sym memory) (no_memory (λ failed texts. MaySayFiles moment files given) seen)
files_refused why moment files given lost seen loses faults (inr (inl rows)) = absurd (omega (arith, faults.rose (loses rows)))
files_refused why moment files given lost seen loses faults (inr (inr begins)) =
    ends_now why (λ failed texts. MaySayFiles moment files given) seen (λ e. not_own status.FileFault e refl) (λ e. not_own status.WriteFault e refl) (Err why, begins, refl)
  where
    not_own : (other : Status) → why ≡ other → is_source_end other ≡ false → ⊥
    not_own other e none = let own = begins_end files given why begins.is in let same = ap is_source_end e in cc

pub fault_of_row : {A : Type 0} {why : Status} → why ≡ status.RowFault → ◌≡◌ {A = Result A Status} (Err why) (Err status.RowFault)
fault_of_row e = ap (λ (s : Status). Err s) e
