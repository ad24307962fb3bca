use Rattle.std.proofs.Common.{Err, Ok, ap, inl, inr}
use Rattle.source_lines.specs.SourceFeeds.{SourceFeedSeen}
use Rattle.file_source.specs.declared.source.FileSource.{FileSource}
use Rattle.file_source.specs.declared.source.FileStart.{FileStart}
use Rattle.file_run.proofs.WholeLemmas.{begin_alike, fault_of_row, files_refused, files_said}
use Rattle.file_run.proofs.run.say_files.Goals as goal

pub returns-in-Ok-clause-runs : goal.returns-in-Ok-clause-runs
returns-in-Ok-clause-runs g c =
    let feed = c.new-feed.result in
    let same = ap (λ (f : SourceFeedSeen FileSource FileStart). f.source.files) c.new-feed.ensures in
    let at = ap (λ (f : SourceFeedSeen FileSource FileStart). f.moment) c.new-feed.ensures in
    files_said c.say_feed.result _ c.args.now_ms c.args.files c.args.given.now (g.K.Desk.seen c.args.desk.now) (g.K.Desk.seen c.say_feed.new.desk)
    (λ told gives. begin_alike c.args.files feed.source.files c.args.now_ms feed.moment c.args.given.now c.as_slice.result.now c.as_slice-2.result.now (Ok told) same at c.as_slice.ensures c.as_slice-2.ensures (c.in-Ok.ensures.begins told gives))
    c.say_feed.ensures.says c.say_feed.ensures.only c.say_feed.ensures.stays

pub returns-clause-runs : goal.returns-clause-runs
returns-clause-runs g c =
    let feed = c.new-feed.result in
    let same = ap (λ (f : SourceFeedSeen FileSource FileStart). f.source.files) c.new-feed.ensures in
    let at = ap (λ (f : SourceFeedSeen FileSource FileStart). f.moment) c.new-feed.ensures in
    files_refused c.in-Err.why c.args.now_ms c.args.files c.args.given.now _ (g.K.Desk.seen c.args.desk.now) (λ e. fault_of_row e) c.in-Err.ensures.faults
    (elim c.in-Err.ensures.causes [
      | inl memory ↦ inl memory
      | inr other ↦ inr (elim other [
        | inl rows ↦ inl rows
        | inr begins ↦ inr (begin_alike c.args.files feed.source.files c.args.now_ms feed.moment c.args.given.now c.as_slice.result.now c.as_slice-2.result.now (Err c.in-Err.why) same at c.as_slice.ensures c.as_slice-2.ensures begins)
      ])
    ])
