use Rattle.std.proofs.Common.{List, ℕ, Ok, Err, All, ap, subst}
use Rattle.json_fields.specs.Answer.{IsOnly}
use Rattle.outside.specs.Desk.{DeskSeen}
use Rattle.basics.specs.Told.{Rose}
use Rattle.file_config.specs.Config.{ReadsConfig}
use Rattle.file_config.specs.declared.config.FileEntry.{FileEntry}
use Rattle.file_run.specs.Runs.{HasText}
use Rattle.file_run.proofs.RunLemmas.{none_read, read_more, says_no_config, says_succeeded}
use Rattle.file_run.proofs.run.checked.Goals as goal

pub returns-in-Err : goal.returns-in-Err
returns-in-Err g c =
    let old = g.K.Desk.seen c.args.desk.now in
    let now = g.K.Desk.seen c.read_text.new.self in
    record {
      line = says_no_config (Rose old.read_faults now.read_faults) old.texts c.args.config.now c.in-Ok.text c.in-Err.why _ c.in-Ok.ensures.text
          (λ fine. subst (λ (t : List ℕ). IsOnly (ReadsConfig t) (Err c.in-Err.why)) c.as_slice.ensures (c.in-Err.ensures.refused fine)) c.no_config.ensures;
      only = read_more old old now (none_read ⊥ old (λ f. f)) c.in-Ok.ensures.stays c.in-Ok.ensures.others;
    }

pub returns-in-Ok-check_entries-clause-line : goal.returns-in-Ok-check_entries-clause-line
returns-in-Ok-check_entries-clause-line g c =
    let old = g.K.Desk.seen c.args.desk.now in
    let mid = g.K.Desk.seen c.read_text.new.self in
    let now = g.K.Desk.seen c.check_entries.new.desk in
    let reads = subst (λ (t : List ℕ). IsOnly (ReadsConfig t) (Ok c.in-Ok-read_file_config.config)) c.as_slice.ensures c.in-Ok-read_file_config.ensures.read in
    let all = subst (λ (es : List FileEntry). All (λ (entry : FileEntry). HasText mid.texts entry.path) es) c.as_slice-2.ensures c.in-Ok-check_entries.ensures.texts in
    says_succeeded (Rose old.read_faults now.read_faults) old.texts mid.texts c.args.config.now c.in-Ok.text c.in-Ok-read_file_config.config _ c.in-Ok.ensures.text reads (ap (λ (d : DeskSeen). d.texts) c.in-Ok.ensures.others) all c.succeeded.ensures
