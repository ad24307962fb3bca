use Rattle.std.proofs.Common.{◌<◌, ◌∙◌, Option, length, subst}
use Rattle.outside.specs.Desk.{Texts}
use Rattle.outside.specs.declared.fault.Fault.TheVariants as fault
use Rattle.file_run.specs.Runs.{IsFile}
use Rattle.file_run.proofs.EntryLemmas.{zip-more}
use Rattle.file_run.proofs.RunLemmas.{ok_not_failed, read_then, read_where, texts_read}
use Rattle.file_run.proofs.run.read_entries.Goals as goal

pub loop-entry-preserved : goal.loop-entry-preserved
loop-entry-preserved g c =
    let within : c.loop-entry.entry-index < length c.args.entries.now = c.loop-entry-test.true in
    let old = g.K.Desk.seen c.args.desk.now in
    let mid = g.K.Desk.seen c.loop-entry.desk in
    let now = g.K.Desk.seen c.read_entry.new.desk in
    let here = subst (λ (t : Option Texts). IsFile t c.entry-item.result c.in_ok-file.file) (texts_read ⊥ old mid c.loop-entry.invariant.only) c.in_ok-file.ensures.text in
    record {
      files = zip-more (IsFile old.texts) c.args.entries.now c.loop-entry.entry-index c.entry-item.result c.loop-entry.files c.push.new.self c.in_ok-file.file within c.entry-item.is c.in_ok-push.ensures.ok here c.loop-entry.invariant.files;
      only = read_where _ ⊥ old now (λ f. absurd f) (read_then ⊥ _ old mid now c.loop-entry.invariant.only c.in_ok-file.ensures.only);
      stays = c.in_ok-file.ensures.stays (ok_not_failed c.in_ok-file.file fault.Failed) ∙ c.loop-entry.invariant.stays;
    }
