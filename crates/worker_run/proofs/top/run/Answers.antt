use Rattle.std.proofs.Common.{map, string_bytes, sym, subst, ap, ◌∙◌}
use Rattle.basics.specs.Told.{Rose}
use Rattle.outside.specs.declared.status.Status.{Status}
use Rattle.worker_run.specs.Ends.{status_of}
use Rattle.worker_run.specs.Words.{asked}
use Rattle.worker_run.specs.Reading.{IsOnlyEnd, EndsWithStatus, IsOkOrNoMemory}
use Rattle.worker_run.proofs.RunLemmas.{says_only, says_status, says_complete}
use Rattle.worker_run.proofs.top.run.Goals as goal

pub returns-clause-only : goal.returns-clause-only
returns-clause-only g c =
    let old = g.K.Desk.seen c.args.desk.now in
    let new = g.K.Desk.seen c.run_to_end.new.desk in
    let words = asked (map string_bytes c.args.words.now) in
    subst (λ (s : Status). IsOnlyEnd old.texts words s) (sym c.status.ensures) (says_only old.texts words (Rose old.read_faults new.read_faults) c.run_to_end.result old.said new.said c.run_to_end.ensures.says)

pub returns-clause-last : goal.returns-clause-last
returns-clause-last g c =
    let old = g.K.Desk.seen c.args.desk.now in
    let new = g.K.Desk.seen c.run_to_end.new.desk in
    let words = asked (map string_bytes c.args.words.now) in
    subst (λ (s : Status). EndsWithStatus s old.said new.said) (sym c.status.ensures) (says_status old.texts words (Rose old.read_faults new.read_faults) c.run_to_end.result old.said new.said c.run_to_end.ensures.says)

pub returns-clause-complete : goal.returns-clause-complete
returns-clause-complete g c = λ is nothing no_read no_say.
    let old = g.K.Desk.seen c.args.desk.now in
    let new = g.K.Desk.seen c.run_to_end.new.desk in
    let words = asked (map string_bytes c.args.words.now) in
    subst (λ (s : Status). IsOkOrNoMemory s) (sym c.status.ensures) (says_complete old.texts words (Rose old.read_faults new.read_faults) (Rose old.say_faults new.say_faults) c.run_to_end.result old.said new.said c.run_to_end.ensures.says c.run_to_end.ensures.read_faults.rose c.run_to_end.ensures.say_faults.rose is nothing no_read no_say)

pub returns-clause-stays : goal.returns-clause-stays
returns-clause-stays g c = λ not. c.run_to_end.ensures.stays (λ is. not (c.status.ensures ∙ ap status_of is))
