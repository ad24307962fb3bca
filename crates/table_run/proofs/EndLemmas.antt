-- How what a source of tables may say ends.
use Rattle.std.proofs.Common.{◌≡◌, ◌∙◌, inl, inr, ℕ, ◌+◌, List, [], ◌∷◌, Bool, true, false, Option, None, Some, Result, Ok, Err, MatchResult, refl, sym, ap, subst}
use Rattle.basics.specs.declared.stream.StreamId.{StreamId}
use Rattle.outside.specs.Feed.{Left}
use Rattle.outside.specs.Rows.{RowsByTable}
use Rattle.outside.specs.Status.{catalog_status, config_status, state_status}
use Rattle.outside.specs.declared.faults.CatalogFault.{CatalogFault}
use Rattle.outside.specs.declared.faults.CatalogFault.TheVariants as catalogs
use Rattle.outside.specs.declared.faults.ConfigFault.{ConfigFault}
use Rattle.outside.specs.declared.faults.ConfigFault.TheVariants as config
use Rattle.outside.specs.declared.faults.StateFault.{StateFault}
use Rattle.outside.specs.declared.faults.StateFault.TheVariants as state
use Rattle.outside.specs.declared.status.Status.{Status}
use Rattle.outside.specs.declared.status.Status.TheVariants as status
use Rattle.airbyte_message.specs.State.{State}
use Rattle.catalog.specs.declared.stream.ConfStream.{ConfStream}
use Rattle.state_kinds.specs.Store.{is_global_kind}
use Rattle.state_kinds.specs.StateLists.{has_kind}
use Rattle.source_lines.specs.Begins.{Begun, BeginsAs, BeginsKnown, BeginsStates, BeginsStreams, BeginsUnless, first_unknown}
use Rattle.source_lines.specs.Giving.{MayGiveLines, MayGiveStream, MayGiveStreams, listed_lines}
use Rattle.source_lines.specs.Giving.{Untold, Refused, Opened}
use Rattle.source_lines.specs.SourceFeeds.{MayBeginBy}
use Rattle.source_lines.specs.Sources.{Listed}
use Rattle.table_config.specs.Tables.{is_table}
use Rattle.table_config.specs.declared.config.TableConfig.{TableConfig}
use Rattle.table_config.specs.declared.config.TableEntry.{TableEntry}
use Rattle.table_feed.specs.Source.{NoRow, NoStart, NoTable, OpensTable, StartsWith}
use Rattle.table_run.specs.Begun.{IsTold}
use Rattle.table_run.specs.Runs.{BadConfig, Config, MayByConfig, MayReadTables, is_lines_end, is_source_end}

-- where this ends, it ends so
abbrev pub EndsSo : (Status → Type 0) → Left → Type 0
EndsSo P told = (why : Status) → told.ends ≡ Some why → P why

pub never_ends : (P : Status → Type 0) (told : Left) → told.ends ≡ None → EndsSo P told
never_ends P told none why is = absurd (cc)

pub ends_as : (P : Status → Type 0) (told : Left) (last : Status) → told.ends ≡ Some last → P last → EndsSo P told
ends_as P told last ends p why is = subst P (by last why (sym ends ∙ is)) p
  where
    by : (a b : Status) → ◌≡◌ {A = Option Status} (Some a) (Some b) → a ≡ b
    by a b e = cc

-- ---- the lines of streams

lines_end : (P : Status → Type 0) (lines : List (List ℕ)) (Behind : Left → Type 0) → ((told : Left) → Behind told → EndsSo P told) → (told : Left) → MayGiveLines lines Behind told → EndsSo P told
lines_end P [] Behind from told may = from told may
lines_end P (line ∷ lines) Behind from told (inl none) = never_ends P told (ap (λ (l : Left). l.ends) none)
lines_end P (line ∷ lines) Behind from told (inr may) = λ why is. lines_end P lines Behind from may.0 may.2 why (sym (ap (λ (l : Left). l.ends) may.1) ∙ is)

stream_end : (P : Status → Type 0) (moment : ℕ) (id : StreamId) (Opens : Result Listed Status → Type 0) (Behind : Left → Type 0) → ((why : Status) → Opens (Err why) → P why) → ((told : Left) → Behind told → EndsSo P told)
    → (told : Left) → MayGiveStream moment id Opens Behind told → EndsSo P told
stream_end P moment id Opens Behind refused from told (Untold none) = never_ends P told (ap (λ (l : Left). l.ends) none)
stream_end P moment id Opens Behind refused from told (Refused why opens over) = ends_as P told why (ap (λ (l : Left). l.ends) over) (refused why opens)
stream_end P moment id Opens Behind refused from told (Opened listed opens lines) = lines_end P (listed_lines moment id listed) Behind from told lines

-- wherever one of these streams is refused, it is so
abbrev pub RefusedSo : (Status → Type 0) → (ℕ → ConfStream → (Option (List ℕ)) → Result Listed Status → Type 0) → ℕ → List ConfStream → List (Option (List ℕ)) → Type 0
RefusedSo P Opens number [] starts = Unit {0}
RefusedSo P Opens number (stream ∷ streams) [] = Unit {0}
RefusedSo P Opens number (stream ∷ streams) (start ∷ starts) = ((why : Status) → Opens number stream start (Err why) → P why) × RefusedSo P Opens (number + 1) streams starts

pub streams_end : (P : Status → Type 0) (Opens : ℕ → ConfStream → (Option (List ℕ)) → Result Listed Status → Type 0) (moment number : ℕ) (streams : List ConfStream) (starts : List (Option (List ℕ))) → P status.Ok
    → RefusedSo P Opens number streams starts → (told : Left) → MayGiveStreams Opens moment number streams starts told → EndsSo P told
streams_end P Opens moment number [] starts ok refused told (inl none) = never_ends P told (ap (λ (l : Left). l.ends) none)
streams_end P Opens moment number [] starts ok refused told (inr over) = ends_as P told status.Ok (ap (λ (l : Left). l.ends) over) ok
streams_end P Opens moment number (stream ∷ streams) [] ok refused told none = never_ends P told (ap (λ (l : Left). l.ends) none)
streams_end P Opens moment number (stream ∷ streams) (start ∷ starts) ok refused told may =
    stream_end P moment stream.id (Opens number stream start) (MayGiveStreams Opens moment (number + 1) streams starts) refused.0 (streams_end P Opens moment (number + 1) streams starts ok refused.1) told may

-- ---- the statuses that streams of tables are refused with

ok_not_err : {A : Type 0} (a : A) (why : Status) → ◌≡◌ {A = Result A Status} (Err why) (Ok a) → ⊥
ok_not_err a why e = cc

is_end : {A : Type 0} (why last : Status) → ◌≡◌ {A = Result A Status} (Err why) (Err last) → is_lines_end last ≡ true → is_lines_end why ≡ true
is_end why last e own = let same : why ≡ last = cc in ap is_lines_end same ∙ own

refused_end : (told : Option RowsByTable) (tables : List TableEntry) (number : ℕ) (stream : ConfStream) (start : Option (List ℕ)) (why : Status) → OpensTable told tables number stream start (Err why) → is_lines_end why ≡ true
refused_end told tables number stream start why (NoTable none is) = ap is_lines_end is
refused_end told tables number stream start why (NoStart none is) = ap is_lines_end is
refused_end told tables number stream start why (NoRow id unfit is) = ap is_lines_end is

all_end : (told : Option RowsByTable) (tables : List TableEntry) (number : ℕ) (streams : List ConfStream) (starts : List (Option (List ℕ))) → RefusedSo (λ why. is_lines_end why ≡ true) (OpensTable told tables) number streams starts
all_end told tables number [] starts = tt
all_end told tables number (stream ∷ streams) [] = tt
all_end told tables number (stream ∷ streams) (start ∷ starts) = (λ why e. refused_end told tables number stream start why e, all_end told tables (number + 1) streams starts)

-- ---- the statuses that texts are refused with

catalog_end : (fault : CatalogFault) → is_lines_end (catalog_status fault) ≡ true
catalog_end catalogs.NoMemory = refl
catalog_end other = refl

state_end : (fault : StateFault) → is_lines_end (state_status fault) ≡ true
state_end state.NoMemory = refl
state_end other = refl

pub config_end : (fault : ConfigFault) → is_source_end (config_status fault) ≡ true
config_end config.NoMemory = refl
config_end other = refl

begins_end : (tables : List TableEntry) (catalog states : List ℕ) (why : Status) → BeginsAs StartsWith (is_table tables) catalog states (Err why) → is_lines_end why ≡ true
begins_end tables catalog states why begins = in_catalog begins.0 begins.2
  where
    in_streams : (list : List State) (streams : List ConfStream) → BeginsStreams StartsWith list streams (Err why) → is_lines_end why ≡ true
    in_streams list streams (inl blob) = is_end why (status.BadState state.Blob) blob.1 refl
    in_streams list streams (inr found) = absurd (ok_not_err _ why found.2)

    in_kinds : (is_global : Bool) (list : List State) (streams : List ConfStream) → BeginsUnless is_global (BeginsStreams StartsWith list streams) (Err why) → is_lines_end why ≡ true
    in_kinds true list streams e = is_end why (status.BadState state.Blob) e refl
    in_kinds false list streams found = in_streams list streams found

    in_states : (streams : List ConfStream) (reading : Result (List State) StateFault) → MatchResult reading (λ list. BeginsUnless (has_kind is_global_kind list) (BeginsStreams StartsWith list streams) (Err why)) (λ fault. ◌≡◌ {A = Begun (Option (List ℕ))} (Err why) (Err (state_status fault))) → is_lines_end why ≡ true
    in_states streams (Err fault) e = is_end why (state_status fault) e (state_end fault)
    in_states streams (Ok list) found = in_kinds (has_kind is_global_kind list) list streams found

    in_known : (unknown : Option ℕ) (streams : List ConfStream) → BeginsKnown unknown (BeginsStates StartsWith states streams) (Err why) → is_lines_end why ≡ true
    in_known (Some number) streams e = is_end why (status.BadCatalog (catalogs.Missing number)) e refl
    in_known None streams found = in_states streams found.0 found.2

    in_catalog : (reading : Result (List ConfStream) CatalogFault) → MatchResult reading (λ streams. BeginsKnown (first_unknown (is_table tables) 0 streams) (BeginsStates StartsWith states streams) (Err why)) (λ fault. ◌≡◌ {A = Begun (Option (List ℕ))} (Err why) (Err (catalog_status fault))) → is_lines_end why ≡ true
    in_catalog (Err fault) e = is_end why (catalog_status fault) e (catalog_end fault)
    in_catalog (Ok streams) found = in_known (first_unknown (is_table tables) 0 streams) streams found

-- ---- what the command `read` may say

abbrev pub IsEnd : Status → Type 0
IsEnd why = is_lines_end why ≡ true

pub tables_end : (told : Option RowsByTable) (moment : ℕ) (config : TableConfig) (catalog states : List ℕ) (left : Left) → MayReadTables told moment config catalog states left → EndsSo IsEnd left
tables_end told moment config catalog states left may = by may.0 may.1 may.2
  where
    by : (found : Result Left Status) → MayBeginBy (BeginsAs StartsWith (is_table config.tables) catalog states) (OpensTable told config.tables) moment found → IsTold found left → EndsSo IsEnd left
    by (Err why) begins over = ends_as IsEnd left why (ap (λ (l : Left). l.ends) over) (begins_end config.tables catalog states why begins.is)
    by (Ok begun) begins same = λ why is.
        streams_end IsEnd (OpensTable told config.tables) moment 0 begins.streams begins.starts refl (all_end told config.tables 0 begins.streams begins.starts) begun begins.gives why (sym (ap (λ (l : Left). l.ends) same) ∙ is)

pub config_ends : (P : Status → Type 0) (text : List ℕ) (MayBy : TableConfig → Left → Type 0) (left : Left) → ((fault : ConfigFault) → P (config_status fault)) → ((config : TableConfig) → MayBy config left → EndsSo P left)
    → MayByConfig text MayBy left → EndsSo P left
config_ends P text MayBy left bad from may = by may
  where
    by : MayByConfig text MayBy left → EndsSo P left
    by (BadConfig why reads over) = ends_as P left (config_status why) (ap (λ (l : Left). l.ends) over) (bad why)
    by (Config config reads found) = from config found
