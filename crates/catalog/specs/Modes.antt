-- The modes of a configured stream (Airbyte Protocol: SyncMode, DestinationSyncMode), by their words.
use Rattle.std.specs.Prelude.{ℕ, List, Option, None, Some, codes, if◌then◌else◌}
use Rattle.std.specs.Str.{bytes_eq}
use Rattle.catalog.specs.declared.modes.SyncMode.{SyncMode}
use Rattle.catalog.specs.declared.modes.SyncMode.TheVariants as sync
use Rattle.catalog.specs.declared.modes.DestMode.{DestMode}
use Rattle.catalog.specs.declared.modes.DestMode.TheVariants as dest

-- how the source reads the stream
abbrev pub sync_mode_of : List ℕ → Option SyncMode
sync_mode_of word =
    if bytes_eq word (codes "full_refresh") then Some sync.FullRefresh else (if bytes_eq word (codes "incremental") then Some sync.Incremental else None)

-- how the destination writes it
abbrev pub dest_mode_of : List ℕ → Option DestMode
dest_mode_of word =
    if bytes_eq word (codes "overwrite") then Some dest.Overwrite else (if bytes_eq word (codes "append") then Some dest.Append else (if bytes_eq word (codes "append_dedup") then Some dest.AppendDedup else None))
