use Rattle.std.proofs.Common.{◌≡◌, Ok, Err, sym, subst, set}
use Rattle.outside.specs.declared.faults.StateFault.TheVariants as fault
use Rattle.state_kinds.specs.Saved.{Saved}
use Rattle.state_kinds.specs.Changes.{put_stream}
use Rattle.state_kinds.proofs.PutLemmas.{put_kept, stated, stream_put, stream_unknown}
use Rattle.state_kinds.proofs.set.SavedSet.put_stream.Goals as goal

pub invariant_of-self : goal.invariant_of-self
invariant_of-self c =
    let inside : Saved = record { entries = c.self.inside.entries.items; global = c.self.inside.global } in
    put_kept inside c.self.inside.index c.self.inside.is_by_stream c.in-Some.place c.args.id.now c.args.object c.index_mut.result.now c.self.invariant (sym c.if-is_some.ensures) c.in-Some.ensures.found c.index_mut.ensures.value

pub returns-in-Some-clause-ok : goal.returns-in-Some-clause-ok
returns-in-Some-clause-ok c =
    let inside : Saved = record { entries = c.self.inside.entries.items; global = c.self.inside.global } in
    let is = stream_put inside c.self.inside.index c.self.inside.is_by_stream c.in-Some.place c.args.id.now c.args.object c.index_mut.result.now c.self.invariant (sym c.if-is_some.ensures) c.in-Some.ensures.found c.index_mut.ensures.value in
    let after : Saved = record { entries = set inside.entries c.in-Some.place (stated c.index_mut.result.now c.args.object); global = inside.global } in
    subst (λ (s : Saved). put_stream c.args.id.now c.args.object s ≡ Ok after) c.self.view_is is

pub returns-in-None-clause-refused : goal.returns-in-None-clause-refused
returns-in-None-clause-refused c =
    let inside : Saved = record { entries = c.self.inside.entries.items; global = c.self.inside.global } in
    let is = stream_unknown inside c.self.inside.index c.self.inside.is_by_stream c.args.id.now c.args.object c.self.invariant (sym c.if-is_some.ensures) c.in-None.ensures.none in
    subst (λ (s : Saved). put_stream c.args.id.now c.args.object s ≡ Err fault.Unknown) c.self.view_is is
