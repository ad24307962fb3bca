use Rattle.std.proofs.Common.{List, Bool, Some, length, subst, refl}
use Rattle.std.proofs.lemmas.List.{take_all}
use Rattle.std.proofs.lemmas.Option.{slice_get_read}
use Rattle.basics.specs.declared.stream.StreamId.{StreamId}
use Rattle.state_kinds.specs.declared.stored.StoredEntry.{StoredEntry}
use Rattle.state_kinds.specs.Store.{AddsOnce, stored_ids}
use Rattle.state_kinds.proofs.OnceLemmas.{HasIndexed, distinct_once, mapped_more, mapped_there}
use Rattle.state_kinds.proofs.read.index_of.Goals as goal

abbrev id_of : StoredEntry → StreamId
id_of entry = entry.id

pub returns-then-not-branch : goal.returns-then-not-branch
returns-then-not-branch c =
    let entries = c.args.entries.now in
    let at = slice_get_read entries (length entries) c.loop-entry.entry-index c.entry-item.result refl c.loop-entry-test.true c.entry-item.is in
    let adds = subst (λ (b : Bool). AddsOnce c.loop-entry.index (Some c.entry-item.result.id) c.add_once.new.index b) c.if-not-branch.true c.in_ok-add_once.ensures in
    mapped_there id_of entries c.loop-entry.entry-index c.entry-item.result c.loop-entry.index c.add_once.new.index at adds c.loop-entry.invariant

pub loop-entry-preserved : goal.loop-entry-preserved
loop-entry-preserved c =
    let entries = c.args.entries.now in
    let at = slice_get_read entries (length entries) c.loop-entry.entry-index c.entry-item.result refl c.loop-entry-test.true c.entry-item.is in
    let adds = subst (λ (b : Bool). AddsOnce c.loop-entry.index (Some c.entry-item.result.id) c.add_once.new.index b) c.if-not-branch.false c.in_ok-add_once.ensures in
    mapped_more id_of entries c.loop-entry.entry-index c.entry-item.result c.loop-entry.index c.add_once.new.index at adds c.loop-entry.invariant

pub returns : goal.returns
returns c =
    let entries = c.args.entries.now in
    let h = subst (λ (es : List StoredEntry). HasIndexed (stored_ids es) c.loop-entry.index) (take_all c.loop-entry.entry-index entries c.loop-entry-test.false) c.loop-entry.invariant in
    (distinct_once (stored_ids entries) h.distinct, h.is, h.distinct)
