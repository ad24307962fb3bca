use Rattle.std.proofs.Common.{◌≢◌, ◌<◌, List, ℕ, [], length, subst, sym, Err}
use Rattle.json_span.specs.declared.Span.{Span}
use Rattle.outside.specs.declared.faults.CatalogFault.TheVariants as fault
use Rattle.catalog.specs.Configured.{NestsAtMost, entry_depth}
use Rattle.catalog.specs.Reading.{ReadsEntries}
use Rattle.catalog.proofs.ReadLemmas.{goes_first, goes_next, goes_wrong, handed_on}
use Rattle.catalog.proofs.NestLemmas.{entry_nests}
use Rattle.catalog.proofs.read.read_entries.Goals as goal

abbrev no_span : Span
no_span = record { start = 0; end = 0 }

pub loop-span-init : goal.loop-span-init
loop-span-init c = goes_first c.args.list.now c.args.spans.now c.empty-configured.result c.empty-configured.ensures

pub read_entry-requires-clause-nests : goal.read_entry-requires-clause-nests
read_entry-requires-clause-nests c =
    let lt : c.loop-span.span-index < length c.args.spans.now = c.loop-span-test.true in
    subst (λ (t : List ℕ). NestsAtMost entry_depth t) (sym c.of.ensures) (entry_nests c.args.list.now c.args.spans.now c.loop-span.span-index no_span c.requires.nests c.requires.parts lt)

pub returns-in_err-read_entry-clause-refused : goal.returns-in_err-read_entry-clause-refused
returns-in_err-read_entry-clause-refused c =
    let lt : c.loop-span.span-index < length c.args.spans.now = c.loop-span-test.true in
    handed_on c.from_residual.result c.in_err-read_entry.field-0.0 (λ found. found ≢ fault.NoMemory → ReadsEntries c.args.list.now [] c.args.spans.now (Err found)) c.from_residual.ensures.1
    (λ other. goes_wrong c.args.list.now c.args.spans.now c.loop-span.span-index no_span c.loop-span.configured c.of.result.now c.in_err-read_entry.field-0.0 lt c.of.ensures (c.in_err-read_entry.ensures.refused other) c.loop-span.invariant)

pub loop-span-preserved : goal.loop-span-preserved
loop-span-preserved c =
    let lt : c.loop-span.span-index < length c.args.spans.now = c.loop-span-test.true in
    goes_next c.args.list.now c.args.spans.now c.loop-span.span-index no_span c.loop-span.configured c.read_entry.new.configured c.of.result.now lt c.of.ensures c.in_ok-read_entry.ensures.ok c.loop-span.invariant
