-- What a source of tables has of a stream, from its parts.
use Rattle.std.proofs.Common.{◌≡◌, ◌≢◌, ◌∙◌, inl, inr, ℕ, List, length, Option, None, Some, IfSome, is_some, refl, sym, ap, subst}
use Rattle.outside.specs.Rows.{AreRising, RowsByTable}
use Rattle.outside.specs.declared.line.NumberedRow.{NumberedRow}
use Rattle.outside.specs.declared.status.Status.{Status}
use Rattle.outside.specs.declared.status.Status.TheVariants as status
use Rattle.outside.specs.declared.faults.CatalogFault.TheVariants as catalog
use Rattle.outside.specs.declared.faults.StateFault.TheVariants as state
use Rattle.catalog.specs.declared.stream.ConfStream.{ConfStream}
use Rattle.source_lines.specs.Sources.{Listed, OpensAlike, OpensNot}
use Rattle.table_config.specs.Tables.{table_named}
use Rattle.table_config.specs.declared.config.TableEntry.{TableEntry}
use Rattle.table_feed.specs.Source.{AreRowsOf, IsStartOf, ListsRows, ListsStream, OpensTable, RefusesStream, UnfitIn}
use Rattle.table_feed.specs.Source as source
use Rattle.table_feed.specs.Start.{IsStartBlob}
use Rattle.table_feed.specs.declared.source.Start.{Start}

-- a store that tells the same rows
pub alike : (told now : Option RowsByTable) (tables tables_now : List TableEntry) → now ≡ told → tables_now ≡ tables → OpensAlike (OpensTable told tables) (OpensTable now tables_now)
alike told now tables tables_now same same_tables =
    λ number stream start found opens. subst (λ (r : Option RowsByTable). OpensTable r tables number stream start found) same (subst (λ (t : List TableEntry). OpensTable now t number stream start found) same_tables opens)

pub lists : (told : Option RowsByTable) (tables : List TableEntry) (stream : ConfStream) (blob : Option (List ℕ)) (entry : TableEntry) (every : ℕ) (start : Start) (rows : List NumberedRow) (listed : Listed)
    → table_named stream.id.name tables ≡ Some entry → every ≡ entry.every → IsStartOf stream blob start → AreRising rows 0 → IfSome told (λ by_table. rows ≡ by_table stream.id.name)
    → ListsRows every start rows listed → ListsStream told tables stream blob listed
lists told tables stream blob entry every start rows listed of every_is starts rising are found = record {
  entry = entry;
  of = of;
  every = found.every_is ∙ every_is;
  blob = found.blob ∙ starts.blob;
  keying = start.keying;
  ordered_by = starts.keying;
  behind = start.behind;
  starts = starts.behind;
  rows = rows;
  of_table = record { rising = rising; are = are };
  keyed = found.keyed;
  in_order = found.in_order;
  are = found.are;
}

-- a stream that is refused
pub no_table : (told : Option RowsByTable) (tables : List TableEntry) (number : ℕ) (stream : ConfStream) (start : Option (List ℕ)) → table_named stream.id.name tables ≡ None
    → OpensNot (OpensTable told tables number stream start) (status.BadCatalog (catalog.Missing number))
no_table told tables number stream start none = (not_ok, inr (inr (source.NoTable (ap is_some none) refl)))
  where
    not_ok : status.BadCatalog (catalog.Missing number) ≢ status.Ok
    not_ok e = cc

pub no_start : (told : Option RowsByTable) (tables : List TableEntry) (number : ℕ) (stream : ConfStream) (start : Option (List ℕ)) → ¬ IsStartBlob (length stream.key) start
    → OpensNot (OpensTable told tables number stream start) (status.BadState state.Blob)
no_start told tables number stream start none = (not_ok, inr (inr (source.NoStart none refl)))
  where
    not_ok : status.BadState state.Blob ≢ status.Ok
    not_ok e = cc

pub no_row : (told : Option RowsByTable) (tables : List TableEntry) (number : ℕ) (stream : ConfStream) (start : Option (List ℕ)) (rows : List NumberedRow) (why : Status)
    → AreRising rows 0 → IfSome told (λ by_table. rows ≡ by_table stream.id.name) → UnfitIn number rows why → OpensNot (OpensTable told tables number stream start) why
no_row told tables number stream start rows why rising are (inl memory) = (λ ok. not_ok (sym memory ∙ ok), inl memory)
  where
    not_ok : status.NoMemory ≢ status.Ok
    not_ok e = cc
no_row told tables number stream start rows why rising are (inr unfit) =
    (λ ok. not_ok (sym unfit.2 ∙ ok), inr (inr (source.NoRow unfit.0 (record { rows = rows; of_table = record { rising = rising; are = are }; first = unfit.1 }) unfit.2)))
  where
    not_ok : status.BadRow number unfit.0 ≢ status.Ok
    not_ok e = cc

pub row_fails : (told : Option RowsByTable) (tables : List TableEntry) (number : ℕ) (stream : ConfStream) (start : Option (List ℕ)) → OpensNot (OpensTable told tables number stream start) status.RowFault
row_fails told tables number stream start = (not_ok, inr (inl refl))
  where
    not_ok : status.RowFault ≢ status.Ok
    not_ok e = cc

pub wants_memory : (told : Option RowsByTable) (tables : List TableEntry) (number : ℕ) (stream : ConfStream) (start : Option (List ℕ)) → OpensNot (OpensTable told tables number stream start) status.NoMemory
wants_memory told tables number stream start = (not_ok, inl refl)
  where
    not_ok : status.NoMemory ≢ status.Ok
    not_ok e = cc
