use Rattle.std.proofs.Common.{◌≤◌, List, ℕ, Option, subst, sym}
use Rattle.source_lines.specs.Begins.{BeginsAs}
use Rattle.source_lines.specs.SourceFeeds.{MayBeginBy, SourceFeedSeen}
use Rattle.table_config.specs.Tables.{is_table}
use Rattle.table_feed.specs.Source.{OpensTable, StartsWith}
use Rattle.table_feed.specs.declared.source.TableSource.{TableSource}
use Rattle.table_run.specs.Begun.{SaysBegun}
use Rattle.table_run.specs.Runs.{outside_of}
use Rattle.table_run.proofs.RunLemmas.{tables_said}
use Rattle.table_run.proofs.run.say_tables.Goals as goal

pub returns-clause-runs : goal.returns-clause-runs
returns-clause-runs g c =
    let seen = g.R.RowStore.seen in
    let old = outside_of (g.K.Desk.seen c.args.desk.now) (seen c.args.rows) in
    let new = outside_of (g.K.Desk.seen c.begin_and_say-status.new.desk) (seen c.into_source.result.rows) in
    let result = c.begin_and_say-status.result in
    let after = c.begin_and_say-status.new.feed.source in
    let catalog = c.as_slice.result.now in
    let states = c.as_slice-2.result.now in
    let says = subst (λ (fed : SourceFeedSeen (TableSource g.row.R.Denot) (Option (List ℕ))).
    SaysBegun result (MayBeginBy (BeginsAs StartsWith (is_table fed.source.config.tables) catalog states) (OpensTable (seen fed.source.rows).rows fed.source.config.tables) fed.moment) (seen fed.source.rows).faults (seen after.rows).faults old.desk new.desk)
    c.new-feed.ensures c.begin_and_say-status.ensures.says in
    let by_source = subst (λ (source : TableSource g.row.R.Denot).
    SaysBegun result (MayBeginBy (BeginsAs StartsWith (is_table c.args.config.tables) catalog states) (OpensTable (seen c.args.rows).rows c.args.config.tables) c.args.now_ms) old.rows.faults (seen source.rows).faults old.desk new.desk)
    (sym c.into_source.ensures) says in
    let by_catalog = subst (λ (text : List ℕ).
    SaysBegun result (MayBeginBy (BeginsAs StartsWith (is_table c.args.config.tables) text states) (OpensTable (seen c.args.rows).rows c.args.config.tables) c.args.now_ms) old.rows.faults new.rows.faults old.desk new.desk)
    c.as_slice.ensures by_source in
    let by_states = subst (λ (text : List ℕ).
    SaysBegun result (MayBeginBy (BeginsAs StartsWith (is_table c.args.config.tables) c.args.given.now.catalog text) (OpensTable (seen c.args.rows).rows c.args.config.tables) c.args.now_ms) old.rows.faults new.rows.faults old.desk new.desk)
    c.as_slice-2.ensures by_catalog in
    let faults_by = subst (λ (fed : SourceFeedSeen (TableSource g.row.R.Denot) (Option (List ℕ))). (seen fed.source.rows).faults ≤ (seen after.rows).faults) c.new-feed.ensures c.begin_and_say-status.ensures.faults in
    let faults = subst (λ (source : TableSource g.row.R.Denot). old.rows.faults ≤ (seen source.rows).faults) (sym c.into_source.ensures) faults_by in
    (tables_said result (seen c.args.rows).rows c.args.now_ms c.args.config c.args.given.now.catalog c.args.given.now.states
    (MayBeginBy (BeginsAs StartsWith (is_table c.args.config.tables) c.args.given.now.catalog c.args.given.now.states) (OpensTable (seen c.args.rows).rows c.args.config.tables) c.args.now_ms)
    old new (λ left may. may) by_states faults c.begin_and_say-status.ensures.only c.begin_and_say-status.ensures.stays).0

pub returns-clause-late : goal.returns-clause-late
returns-clause-late g c =
    let seen = g.R.RowStore.seen in
    let old = outside_of (g.K.Desk.seen c.args.desk.now) (seen c.args.rows) in
    let new = outside_of (g.K.Desk.seen c.begin_and_say-status.new.desk) (seen c.into_source.result.rows) in
    let result = c.begin_and_say-status.result in
    let after = c.begin_and_say-status.new.feed.source in
    let catalog = c.as_slice.result.now in
    let states = c.as_slice-2.result.now in
    let says = subst (λ (fed : SourceFeedSeen (TableSource g.row.R.Denot) (Option (List ℕ))).
    SaysBegun result (MayBeginBy (BeginsAs StartsWith (is_table fed.source.config.tables) catalog states) (OpensTable (seen fed.source.rows).rows fed.source.config.tables) fed.moment) (seen fed.source.rows).faults (seen after.rows).faults old.desk new.desk)
    c.new-feed.ensures c.begin_and_say-status.ensures.says in
    let by_source = subst (λ (source : TableSource g.row.R.Denot).
    SaysBegun result (MayBeginBy (BeginsAs StartsWith (is_table c.args.config.tables) catalog states) (OpensTable (seen c.args.rows).rows c.args.config.tables) c.args.now_ms) old.rows.faults (seen source.rows).faults old.desk new.desk)
    (sym c.into_source.ensures) says in
    let by_catalog = subst (λ (text : List ℕ).
    SaysBegun result (MayBeginBy (BeginsAs StartsWith (is_table c.args.config.tables) text states) (OpensTable (seen c.args.rows).rows c.args.config.tables) c.args.now_ms) old.rows.faults new.rows.faults old.desk new.desk)
    c.as_slice.ensures by_source in
    let by_states = subst (λ (text : List ℕ).
    SaysBegun result (MayBeginBy (BeginsAs StartsWith (is_table c.args.config.tables) c.args.given.now.catalog text) (OpensTable (seen c.args.rows).rows c.args.config.tables) c.args.now_ms) old.rows.faults new.rows.faults old.desk new.desk)
    c.as_slice-2.ensures by_catalog in
    let faults_by = subst (λ (fed : SourceFeedSeen (TableSource g.row.R.Denot) (Option (List ℕ))). (seen fed.source.rows).faults ≤ (seen after.rows).faults) c.new-feed.ensures c.begin_and_say-status.ensures.faults in
    let faults = subst (λ (source : TableSource g.row.R.Denot). old.rows.faults ≤ (seen source.rows).faults) (sym c.into_source.ensures) faults_by in
    (tables_said result (seen c.args.rows).rows c.args.now_ms c.args.config c.args.given.now.catalog c.args.given.now.states
    (MayBeginBy (BeginsAs StartsWith (is_table c.args.config.tables) c.args.given.now.catalog c.args.given.now.states) (OpensTable (seen c.args.rows).rows c.args.config.tables) c.args.now_ms)
    old new (λ left may. may) by_states faults c.begin_and_say-status.ensures.only c.begin_and_say-status.ensures.stays).1
