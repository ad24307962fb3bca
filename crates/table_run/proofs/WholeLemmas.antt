-- A run that its words, its texts and the rows let end well.
use Rattle.std.proofs.Common.{◌≡◌, ◌⊎◌, ◌∙◌, inl, inr, ℕ, ◌+◌, List, [], ◌∷◌, ◌++◌, All, length, Bool, true, false, cond, Option, None, Some, IfSome, Result, Ok, Err, MatchResult, refl, sym, ap, subst}
use Rattle.std.specs.List.{AllByRecursion}
use Rattle.std.proofs.lemmas.List.Elements.{recursion_from_All}
use Rattle.outside.specs.Desk.{Texts}
use Rattle.outside.specs.Feed.{Left, anything}
use Rattle.outside.specs.Rows.{RowsByTable}
use Rattle.outside.specs.Status.{catalog_status, state_status}
use Rattle.outside.specs.declared.faults.CatalogFault.{CatalogFault}
use Rattle.outside.specs.declared.faults.CatalogFault.TheVariants as catalogs
use Rattle.outside.specs.declared.faults.ConfigFault.{ConfigFault}
use Rattle.outside.specs.declared.faults.StateFault.{StateFault}
use Rattle.outside.specs.declared.faults.StateFault.TheVariants as state
use Rattle.outside.specs.declared.line.NumberedRow.{NumberedRow}
use Rattle.outside.specs.declared.status.Status.{Status}
use Rattle.outside.specs.declared.status.Status.TheVariants as status
use Rattle.airbyte_message.specs.State.{State}
use Rattle.catalog.specs.declared.stream.ConfStream.{ConfStream}
use Rattle.cli_words.specs.Connectors.{SourceAsked}
use Rattle.cli_words.specs.Connectors as asked
use Rattle.state_kinds.specs.Store.{is_global_kind}
use Rattle.state_kinds.specs.StateLists.{has_kind}
use Rattle.source_lines.specs.Begins.{AreStarts, BeginsAs, BeginsKnown, BeginsStates, BeginsStreams, BeginsUnless, first_unknown, knows_name, knows_stream}
use Rattle.source_lines.specs.SourceFeeds.{MayBeginBy}
use Rattle.table_config.specs.Config.{ReadsConfig}
use Rattle.table_config.specs.Tables.{is_table}
use Rattle.table_config.specs.declared.config.TableConfig.{TableConfig}
use Rattle.table_config.specs.declared.config.TableEntry.{TableEntry}
use Rattle.table_source.specs.Keyed.{IsRowBody}
use Rattle.table_source.specs.Table.{IsFirstUnfit}
use Rattle.table_feed.specs.Source.{NoRow, NoStart, NoTable, OpensTable, StartsWith}
use Rattle.table_feed.specs.Start.{IsStartBlob}
use Rattle.table_run.specs.Begun.{IsTold}
use Rattle.table_run.specs.Runs.{AllFit, AreStatesUnder, AreValid, BadConfig, Config, CouldNotOpen, EndsBy, IsComplete, IsGiven, MayByConfig, MayDiscover, MayRead, MayReadTables, MaySay, MaySayOne, NoneRose, Outside, RunsAs, WasOpened}
use Rattle.table_run.specs.declared.run.Given.{Given}
use Rattle.table_run.proofs.EndLemmas.{EndsSo, RefusedSo, ends_as, never_ends, streams_end}

abbrev IsOk : Status → Type 0
IsOk why = why ≡ status.Ok

true_false : true ≡ false → ⊥
true_false e = cc

-- ---- streams that a source begins with are its own, and can start so

abbrev AllOpen : List TableEntry → List ConfStream → List (Option (List ℕ)) → Type 0
AllOpen tables [] [] = Unit {0}
AllOpen tables [] (start ∷ starts) = ⊥
AllOpen tables (stream ∷ streams) [] = ⊥
AllOpen tables (stream ∷ streams) (start ∷ starts) = (is_table tables stream.id.name ≡ true) × IsStartBlob (length stream.key) start × AllOpen tables streams starts

known_name : (known : List ℕ → Bool) (namespace : Option (List ℕ)) (name : List ℕ) → knows_name known namespace name ≡ true → known name ≡ true
known_name known None name is = is
known_name known (Some namespace) name is = absurd (true_false (sym is))

known_next : (known : List ℕ → Bool) (number : ℕ) (stream : ConfStream) (streams : List ConfStream) (is : Bool) → knows_stream known stream.id ≡ is → first_unknown known number (stream ∷ streams) ≡ None
    → (knows_stream known stream.id ≡ true) × (first_unknown known (number + 1) streams ≡ None)
known_next known number stream streams true e none = (e, sym (ap (λ (b : Bool). cond b (first_unknown known (number + 1) streams) (Some number)) e) ∙ none)
known_next known number stream streams false e none = absurd (some_none (sym (ap (λ (b : Bool). cond b (first_unknown known (number + 1) streams) (Some number)) e) ∙ none))
  where
    some_none : ¬ (◌≡◌ {A = Option ℕ} (Some number) None)
    some_none h = cc

all_open : (tables : List TableEntry) (list : List State) (number : ℕ) (streams : List ConfStream) (starts : List (Option (List ℕ))) → first_unknown (is_table tables) number streams ≡ None → AreStarts StartsWith list streams starts → AllOpen tables streams starts
all_open tables list number [] [] none are = tt
all_open tables list number [] (start ∷ starts) none are = absurd are
all_open tables list number (stream ∷ streams) [] none are = absurd are
all_open tables list number (stream ∷ streams) (start ∷ starts) none are =
    let known = known_next (is_table tables) number stream streams (knows_stream (is_table tables) stream.id) refl none in
    (known_name (is_table tables) stream.id.namespace stream.id.name known.0, subst (IsStartBlob (length stream.key)) (sym are.0.0) are.0.1, all_open tables list (number + 1) streams starts known.1 are.1)

abbrev Both : Type 0
Both = List ConfStream × List (Option (List ℕ))

ok_not : (pair : Both) (why : Status) → ◌≡◌ {A = Result Both Status} (Ok pair) (Err why) → ⊥
ok_not pair why e = cc

same_ok : (a b : Both) → ◌≡◌ {A = Result Both Status} (Ok a) (Ok b) → a ≡ b
same_ok a b e = cc

begins_open : (tables : List TableEntry) (catalog states : List ℕ) (streams : List ConfStream) (starts : List (Option (List ℕ))) → BeginsAs StartsWith (is_table tables) catalog states (Ok (streams, starts)) → AllOpen tables streams starts
begins_open tables catalog states streams starts begins = in_catalog begins.0 begins.2
  where
    pair : Both
    pair = (streams, starts)

    in_streams : (list : List State) (all : List ConfStream) → first_unknown (is_table tables) 0 all ≡ None → BeginsStreams StartsWith list all (Ok pair) → AllOpen tables streams starts
    in_streams list all none (inl blob) = absurd (ok_not pair (status.BadState state.Blob) blob.1)
    in_streams list all none (inr found) =
        let same : pair ≡ (all, found.0) = same_ok pair (all, found.0) found.2 in
        let open_all : AllOpen tables all found.0 = all_open tables list 0 all found.0 none found.1 in
        subst (λ (p : Both). AllOpen tables p.0 p.1) (sym same) open_all

    in_kinds : (is_global : Bool) (list : List State) (all : List ConfStream) → first_unknown (is_table tables) 0 all ≡ None → BeginsUnless is_global (BeginsStreams StartsWith list all) (Ok pair) → AllOpen tables streams starts
    in_kinds true list all none e = absurd (ok_not pair (status.BadState state.Blob) e)
    in_kinds false list all none found = in_streams list all none found

    in_states : (all : List ConfStream) → first_unknown (is_table tables) 0 all ≡ None → (reading : Result (List State) StateFault)
        → MatchResult reading (λ list. BeginsUnless (has_kind is_global_kind list) (BeginsStreams StartsWith list all) (Ok pair)) (λ fault. ◌≡◌ {A = Result Both Status} (Ok pair) (Err (state_status fault))) → AllOpen tables streams starts
    in_states all none (Err fault) e = absurd (ok_not pair (state_status fault) e)
    in_states all none (Ok list) found = in_kinds (has_kind is_global_kind list) list all none found

    in_known : (unknown : Option ℕ) (all : List ConfStream) → first_unknown (is_table tables) 0 all ≡ unknown → BeginsKnown unknown (BeginsStates StartsWith states all) (Ok pair) → AllOpen tables streams starts
    in_known (Some number) all none e = absurd (ok_not pair (status.BadCatalog (catalogs.Missing number)) e)
    in_known None all none found = in_states all none found.0 found.2

    in_catalog : (reading : Result (List ConfStream) CatalogFault) → MatchResult reading (λ all. BeginsKnown (first_unknown (is_table tables) 0 all) (BeginsStates StartsWith states all) (Ok pair)) (λ fault. ◌≡◌ {A = Result Both Status} (Ok pair) (Err (catalog_status fault))) → AllOpen tables streams starts
    in_catalog (Err fault) e = absurd (ok_not pair (catalog_status fault) e)
    in_catalog (Ok all) found = in_known (first_unknown (is_table tables) 0 all) all refl found

-- ---- a stream whose rows are rows is not refused

middle : {A : Type 0} (P : A → Type 0) (before behind : List A) (x : A) → AllByRecursion P (before ++ x ∷ behind) → P x
middle P [] behind x all = all.0
middle P (y ∷ before) behind x all = middle P before behind x all.1

no_unfit : (rows : List NumberedRow) (id : ℕ) → All (λ (row : NumberedRow). IsRowBody row.body) rows → IsFirstUnfit rows id → ⊥
no_unfit rows id all unfit =
    unfit.unfit (middle (λ (row : NumberedRow). IsRowBody row.body) unfit.before unfit.behind unfit.row
    (subst (AllByRecursion (λ (row : NumberedRow). IsRowBody row.body)) unfit.splits (recursion_from_All (λ (row : NumberedRow). IsRowBody row.body) rows all)))

not_refused : (by_table : RowsByTable) (tables : List TableEntry) (number : ℕ) (stream : ConfStream) (start : Option (List ℕ)) (why : Status) → is_table tables stream.id.name ≡ true → IsStartBlob (length stream.key) start
    → All (λ (row : NumberedRow). IsRowBody row.body) (by_table stream.id.name) → OpensTable (Some by_table) tables number stream start (Err why) → ⊥
not_refused by_table tables number stream start why known starts fit (NoTable none is) = true_false (sym known ∙ none)
not_refused by_table tables number stream start why known starts fit (NoStart none is) = none starts
not_refused by_table tables number stream start why known starts fit (NoRow id unfit is) =
    no_unfit (by_table stream.id.name) id fit (subst (λ (rows : List NumberedRow). IsFirstUnfit rows id) unfit.of_table.are unfit.first)

none_refused : (by_table : RowsByTable) (tables : List TableEntry) (number : ℕ) (streams : List ConfStream) (starts : List (Option (List ℕ))) → AllOpen tables streams starts → AllFit by_table streams
    → RefusedSo IsOk (OpensTable (Some by_table) tables) number streams starts
none_refused by_table tables number [] starts opens fit = tt
none_refused by_table tables number (stream ∷ streams) [] opens fit = tt
none_refused by_table tables number (stream ∷ streams) (start ∷ starts) opens fit =
    (λ why refused. absurd (not_refused by_table tables number stream start why opens.0 opens.1 fit.0 refused), none_refused by_table tables (number + 1) streams starts opens.2 fit.1)

tables_well : (by_table : RowsByTable) (moment : ℕ) (config : TableConfig) (catalog states : List ℕ) (streams : List ConfStream) (starts : List (Option (List ℕ))) (left : Left)
    → BeginsAs StartsWith (is_table config.tables) catalog states (Ok (streams, starts)) → AllFit by_table streams → MayReadTables (Some by_table) moment config catalog states left → EndsSo IsOk left
tables_well by_table moment config catalog states streams starts left valid fit may = by may.0 may.1 may.2
  where
    pair : Both
    pair = (streams, starts)

    opens : (all : List ConfStream) (others : List (Option (List ℕ))) → ◌≡◌ {A = Result Both Status} (Ok pair) (Ok (all, others)) → RefusedSo IsOk (OpensTable (Some by_table) config.tables) 0 all others
    opens all others e =
        let same : pair ≡ (all, others) = same_ok pair (all, others) e in
        subst (λ (p : Both). RefusedSo IsOk (OpensTable (Some by_table) config.tables) 0 p.0 p.1) same (none_refused by_table config.tables 0 streams starts (begins_open config.tables catalog states streams starts valid) fit)

    by : (found : Result Left Status) → MayBeginBy (BeginsAs StartsWith (is_table config.tables) catalog states) (OpensTable (Some by_table) config.tables) moment found → IsTold found left → EndsSo IsOk left
    by (Err why) begins over = absurd (ok_not pair why (begins.only (Ok pair) valid))
    by (Ok begun) begins same = λ why is.
        streams_end IsOk (OpensTable (Some by_table) config.tables) moment 0 begins.streams begins.starts refl (opens begins.streams begins.starts (begins.read.only (Ok pair) valid)) begun begins.gives why (sym (ap (λ (l : Left). l.ends) same) ∙ is)

-- ---- texts that are told are the only ones

same_some : {A : Type 0} (held : Option A) (a b : A) → held ≡ Some a → held ≡ Some b → a ≡ b
same_some held a b is other = cc

same_states : (by_name : Texts) (asked_for : Option (List ℕ)) (states others : List ℕ) → AreStatesUnder (Some by_name) asked_for states → AreStatesUnder (Some by_name) asked_for others → states ≡ others
same_states by_name None states others are same = are ∙ sym same
same_states by_name (Some name) states others are same = same_some (by_name name) states others are same

same_given : (by_name : Texts) (config catalog : List ℕ) (asked_for : Option (List ℕ)) (given other : Given) → IsGiven (Some by_name) config catalog asked_for given → IsGiven (Some by_name) config catalog asked_for other → given ≡ other
same_given by_name config catalog asked_for given other is same = λ k. record {
  config = same_some (by_name config) given.config other.config is.config_text same.config_text k;
  catalog = same_some (by_name catalog) given.catalog other.catalog is.catalog_text same.catalog_text k;
  states = same_states by_name asked_for given.states other.states is.states_text same.states_text k;
}

by_config : (text : List ℕ) (config : TableConfig) (MayBy : TableConfig → Left → Type 0) (left : Left) → ReadsConfig text (Ok config) → MayByConfig text MayBy left → MayBy config left
by_config text config MayBy left reads (BadConfig why only over) = absurd (differ (only.only (Ok config) reads))
  where
    differ : ¬ (◌≡◌ {A = Result TableConfig ConfigFault} (Ok config) (Err why))
    differ e = cc
by_config text config MayBy left reads (Config found only may) = subst (λ (c : TableConfig). MayBy c left) (sym (same_config (only.only (Ok config) reads))) may
  where
    same_config : ◌≡◌ {A = Result TableConfig ConfigFault} (Ok config) (Ok found) → config ≡ found
    same_config e = cc

-- ---- all commands

one_ends : (line : List ℕ) (left : Left) → MaySayOne line left → EndsSo IsOk left
one_ends line left (inl open_end) = never_ends IsOk left (ap (λ (l : Left). l.ends) open_end)
one_ends line left (inr over) = ends_as IsOk left status.Ok (ap (λ (l : Left). l.ends) over) refl

ends_well : (opened failed : Type 0) (moment : ℕ) (words : Option SourceAsked) (by_name : Texts) (by_table : RowsByTable) (left : Left) → AreValid by_name by_table words → MaySay opened failed (Some by_name) (Some by_table) moment words left → EndsSo IsOk left
ends_well opened failed moment None by_name by_table left valid may = absurd valid
ends_well opened failed moment (Some asked.Spec) by_name by_table left valid may = one_ends _ left may
ends_well opened failed moment (Some (asked.Check config)) by_name by_table left valid may = one_ends may.0 left may.2
ends_well opened failed moment (Some (asked.Discover config)) by_name by_table left valid may =
    let same : valid.0 ≡ may.0 = same_some (by_name config) valid.0 may.0 valid.1 may.1 in
    let found : MayDiscover valid.0 left = subst (λ (t : List ℕ). MayDiscover t left) (sym same) may.2 in
    one_ends _ left (by_config valid.0 valid.2 _ left valid.3 found)
ends_well opened failed moment (Some (asked.Read config catalog asked_for)) by_name by_table left valid may =
    let v = valid.2 in
    let same : valid.0 ≡ may.0 = same_given by_name config catalog asked_for valid.0 may.0 valid.1 may.1 in
    let found : MayRead (Some by_table) moment valid.0 left = subst (λ (g : Given). MayRead (Some by_table) moment g left) (sym same) may.2 in
    tables_well by_table moment v.config valid.0.catalog valid.0.states v.streams v.starts left v.begins v.fit
    (by_config valid.0.config v.config (λ c. MayReadTables (Some by_table) moment c valid.0.catalog valid.0.states) left v.reads found)

if_some : {A : Type 0} (held : Option A) (P : A → Type 0) → ((a : A) → held ≡ Some a → P a) → IfSome held P
if_some None P all = tt
if_some (Some a) P all = all a refl

-- Where the texts and rows are valid and no fault was counted, a run ends well, but for want of memory.
pub complete : (moment : ℕ) (words : Option SourceAsked) (result : Status) (old new : Outside) → RunsAs result (λ opened failed. MaySay opened failed old.desk.texts old.rows.rows moment words) old new → IsComplete result words old new
complete moment words result old new runs =
    if_some old.desk.texts _ (λ by_name told. if_some old.rows.rows _ (λ by_table rows_told valid none. by by_name by_table told rows_told valid none runs.says.may runs.says.ends))
  where
    left : Left
    left = runs.says.left

    by : (by_name : Texts) (by_table : RowsByTable) → old.desk.texts ≡ Some by_name → old.rows.rows ≡ Some by_table → AreValid by_name by_table words → NoneRose old new
        → (left ≡ anything) ⊎ MaySay (WasOpened old new) (CouldNotOpen old new) old.desk.texts old.rows.rows moment words left → EndsBy result left.ends old new → (result ≡ status.Ok) ⊎ (result ≡ status.NoMemory)
    by by_name by_table told rows_told valid none may (inr (inl memory)) = inr memory
    by by_name by_table told rows_told valid none may (inr (inr (inl file))) = absurd (none.reads file.1)
    by by_name by_table told rows_told valid none may (inr (inr (inr (inl row)))) = absurd (none.rows row.1)
    by by_name by_table told rows_told valid none may (inr (inr (inr (inr write)))) = absurd (none.says write.1)
    by by_name by_table told rows_told valid none (inl open_end) (inl is) = absurd (never_ends (λ why. ⊥) left (ap (λ (l : Left). l.ends) open_end) result is)
    by by_name by_table told rows_told valid none (inr may) (inl is) =
        inl (ends_well (WasOpened old new) (CouldNotOpen old new) moment words by_name by_table left valid
        (subst (λ (t : Option Texts). MaySay (WasOpened old new) (CouldNotOpen old new) t (Some by_table) moment words left) told (subst (λ (r : Option RowsByTable). MaySay (WasOpened old new) (CouldNotOpen old new) old.desk.texts r moment words left) rows_told may)) result is)
