use Rattle.std.proofs.Common.{ℕ, List, Option, ◌≡◌, map, string_bytes, sym, subst, ◌∙◌}
use Rattle.basics.specs.Told.{Rose}
use Rattle.worker_run.specs.Words.{asked}
use Rattle.worker_run.specs.declared.end.End.TheVariants as how
use Rattle.worker_run.specs.Reading.{Says}
use Rattle.worker_run.proofs.FaultLemmas.{stays_through}
use Rattle.worker_run.proofs.RunLemmas.{says_last, last_unread, says_written}
use Rattle.worker_run.proofs.top.run_to_end.Goals as goal

pub returns-clause-says : goal.returns-clause-says
returns-clause-says g c =
    let old = g.K.Desk.seen c.args.desk.now in
    let mid = g.K.Desk.seen c.run_words-end.new.desk in
    let last = g.K.Desk.seen c.say_last-last.new.desk in
    let new = g.K.Desk.seen c.write_out.new.desk in
    let words = asked (map string_bytes c.args.words.now) in
    let unread = Rose old.read_faults new.read_faults in
    let later : new.read_faults ≡ mid.read_faults = c.write_out.ensures.only.read_faults ∙ c.say_last-last.ensures.only.read_faults in
    let rose : c.run_words-end.result ≡ how.FileFault → unread = λ e. subst (λ (n : ℕ). Rose old.read_faults n) (sym later) (c.run_words-end.ensures.read_faults.rose e) in
    let said = says_last old.texts words unread c.run_words-end.result c.say_last-last.result old.said mid.said last.said rose c.run_words-end.ensures.says c.say_last-last.ensures.last in
    says_written old.texts words unread c.say_last-last.result c.write_out.result old.said new.said
    (λ e. rose (last_unread c.run_words-end.result c.say_last-last.result mid.said last.said c.say_last-last.ensures.last e))
    (subst (λ (t : Option (List (List ℕ))). Says old.texts words unread c.say_last-last.result old.said t) (sym c.write_out.ensures.said) said)
    c.write_out.ensures.writes

pub returns-clause-stays : goal.returns-clause-stays
returns-clause-stays g c =
    let old = g.K.Desk.seen c.args.desk.now in
    let mid = g.K.Desk.seen c.run_words-end.new.desk in
    let last = g.K.Desk.seen c.say_last-last.new.desk in
    let new = g.K.Desk.seen c.write_out.new.desk in
    stays_through c.run_words-end.result c.say_last-last.result c.write_out.result old.say_faults mid.say_faults last.say_faults new.say_faults mid.said last.said c.run_words-end.ensures.stays c.say_last-last.ensures.stays c.write_out.ensures.stays c.say_last-last.ensures.last c.write_out.ensures.writes
