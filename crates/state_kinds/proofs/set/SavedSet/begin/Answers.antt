use Rattle.std.proofs.Common.{List, sym, ap, ◌∙◌, ◌≡◌, ◌++◌, length, map}
use Rattle.state_kinds.specs.declared.entry.SavedEntry.{SavedEntry}
use Rattle.state_kinds.specs.Saved.{Saved, entry_ids, has_states}
use Rattle.state_kinds.specs.Changes.{added, given_of, renewed}
use Rattle.state_kinds.proofs.BeginLemmas.{begun_entries, begun_global, begun_kept}
use Rattle.state_kinds.proofs.set.SavedSet.begin.Goals as goal

pub invariant_of-self-2 : goal.invariant_of-self-2
invariant_of-self-2 c =
    let inside : Saved = record { entries = c.self.inside.entries.items; global = c.self.inside.global } in
    let given = given_of c.args.configured.now c.args.gens.now in
    let entries : c.renew.new.entries.items ≡ map (renewed given) inside.entries ++ added given (entry_ids inside.entries) =
    begun_entries given inside.entries c.grow.new.entries.items c.renew.new.entries.items c.len-count.result c.self.inside.index (c.len-count.ensures ∙ (sym c.deref.ensures.len ∙ ap (λ (es : List SavedEntry). length es) c.deref.ensures.value)) c.self.invariant.ids c.in_ok-grow.ensures.entries c.renew.ensures in
    let global = begun_global given inside c.deref.result.now c.is_changed-is_changed.result c.drop_if.new.held c.deref.ensures.value c.is_changed-is_changed.ensures c.drop_if.ensures in
    begun_kept given inside c.self.inside.index c.grow.new.index c.self.inside.is_by_stream c.has_states-self-inside.result c.renew.new.entries.items c.drop_if.new.held c.self.invariant c.in_ok-grow.ensures.distinct c.in_ok-grow.ensures.index entries global
    (c.has_states-self-inside.ensures ∙ ap has_states c.deref-2.ensures.value)
