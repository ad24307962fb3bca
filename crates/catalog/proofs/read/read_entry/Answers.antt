use Rattle.std.proofs.Common.{sym, ◌∙◌, Err, ap, ◌≢◌, subst, List, ℕ}
use Rattle.json_fields.proofs.AnswerLemmas.{along, true_false}
use Rattle.stream_index.proofs.IndexLemmas.{same_absent, same_present}
use Rattle.catalog.specs.Entry.{IsEntry}
use Rattle.catalog.specs.Checks.{judged_alone}
use Rattle.catalog.specs.Reading.{ReadsEntry, ids_of}
use Rattle.outside.specs.declared.faults.CatalogFault.TheVariants as fault
use Rattle.catalog.proofs.ReadLemmas.{entry_missing, entry_fails, entry_twice, entry_taken, stream_configured, wanting, handed_on}
use Rattle.catalog.proofs.read.read_entry.Goals as goal

pub returns-in_default-clause-refused : goal.returns-in_default-clause-refused
returns-in_default-clause-refused c = λ named.
    subst (λ (n : ℕ). ReadsEntry c.args.configured.now c.args.text.now (Err (fault.Missing n))) (sym c.len-n.ensures.len) (entry_missing c.args.configured.now c.args.text.now (along (IsEntry c.args.text.now) c.in_default.is c.in_ok-entry.ensures)).is

pub returns-in_err-copy_of-clause-refused : goal.returns-in_err-copy_of-clause-refused
returns-in_err-copy_of-clause-refused c = wanting c.from_residual-in_err-copy_of.result (λ found. ReadsEntry c.args.configured.now c.args.text.now (Err found)) c.from_residual-in_err-copy_of.ensures.1

pub returns-in_err-stream-clause-refused : goal.returns-in_err-stream-clause-refused
returns-in_err-stream-clause-refused c =
    let raw = c.in_ok-copy_of.ensures in
    let entry = along (IsEntry c.args.text.now) c.in-Some.is c.in_ok-entry.ensures in
    let e = sym c.in_err-stream.ensures in
    handed_on c.from_residual-in_err-stream.result c.in_err-stream.field-0.0 (λ found. found ≢ fault.NoMemory → ReadsEntry c.args.configured.now c.args.text.now (Err found)) c.from_residual-in_err-stream.ensures.1
    (λ other. entry_fails c.args.configured.now c.len-n.result c.args.text.now c.in-Some.entry c.in_err-stream.field-0.0 c.len-n.ensures.len entry.is (ap (λ (t : List ℕ). judged_alone c.len-n.result t c.in-Some.entry) (sym raw) ∙ e))

pub add-requires-clause-configured : goal.add-requires-clause-configured
add-requires-clause-configured c =
    let raw = c.in_ok-copy_of.ensures in
    let entry = along (IsEntry c.args.text.now) c.in-Some.is c.in_ok-entry.ensures in
    let e = ap (λ (t : List ℕ). judged_alone c.len-n.result t c.in-Some.entry) (sym raw) ∙ sym c.in_ok-stream.ensures in
    stream_configured c.len-n.result c.args.text.now c.in-Some.entry c.in_ok-stream.stream entry.is e c.requires.value c.requires.nests

pub returns-then-branch-clause-ok : goal.returns-then-branch-clause-ok
returns-then-branch-clause-ok c =
    let raw = c.in_ok-copy_of.ensures in
    let entry = along (IsEntry c.args.text.now) c.in-Some.is c.in_ok-entry.ensures in
    let e = ap (λ (t : List ℕ). judged_alone c.len-n.result t c.in-Some.entry) (sym raw) ∙ sym c.in_ok-stream.ensures in
    let absent = same_absent (ids_of c.args.configured.now) c.in_ok-stream.stream.id (c.in_ok-add.ensures.new.0 c.if-branch.true) in
    entry_taken c.args.configured.now c.add.new.self c.len-n.result c.args.text.now c.in-Some.entry c.in_ok-stream.stream c.len-n.ensures.len entry.is e absent (c.in_ok-add.ensures.added c.if-branch.true)

pub returns-else-branch-clause-refused : goal.returns-else-branch-clause-refused
returns-else-branch-clause-refused c = λ other.
    let raw = c.in_ok-copy_of.ensures in
    let entry = along (IsEntry c.args.text.now) c.in-Some.is c.in_ok-entry.ensures in
    let e = ap (λ (t : List ℕ). judged_alone c.len-n.result t c.in-Some.entry) (sym raw) ∙ sym c.in_ok-stream.ensures in
    let there = same_present (ids_of c.args.configured.now) c.in_ok-stream.stream.id (λ none. true_false (sym (c.in_ok-add.ensures.new.1 none) ∙ c.if-branch.false)) in
    entry_twice c.args.configured.now c.len-n.result c.args.text.now c.in-Some.entry c.in_ok-stream.stream c.len-n.ensures.len entry.is e there
