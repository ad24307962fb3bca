use Rattle.std.proofs.Common.{List, sym, ◌<◌, length, None, Some, slice_get, ◌≡◌, subst}
use Rattle.json_span.specs.Members.{text_at}
use Rattle.json_span.specs.declared.Member.{Member}
use Rattle.batch_prep.proofs.FoundLemmas.{found_none, found_some, place_read, place_within}
use Rattle.batch_prep.proofs.finder.Finder.held.Goals as goal

pub held_by-requires-clause-place : goal.held_by-requires-clause-place
held_by-requires-clause-place c =
    let body = c.args.body.now in
    let names = c.args.layout.now.names in
    let members = c.args.self.now.levels.outer in
    let places = c.args.self.now.places.items in
    let there = place_read names places c.args.slot c.index.result.now (Some c.in-Some.place) c.requires.found.held.as_many c.requires.slot c.index.ensures c.in-Some.is in
    subst (λ (l : List Member). c.in-Some.place < length l) (sym c.outer.ensures) (place_within body names members places c.args.slot c.in-Some.place c.requires.found c.requires.slot there)

pub returns-in-Some-clause-held : goal.returns-in-Some-clause-held
returns-in-Some-clause-held c =
    let body = c.args.body.now in
    let names = c.args.layout.now.names in
    let members = c.args.self.now.levels.outer in
    let places = c.args.self.now.places.items in
    let there = place_read names places c.args.slot c.index.result.now (Some c.in-Some.place) c.requires.found.held.as_many c.requires.slot c.index.ensures c.in-Some.is in
    found_some body names members places c.args.slot c.in-Some.place c.held_by.result.now c.requires.found there
    (subst (λ (l : List Member). (m : Member) → slice_get l c.in-Some.place ≡ Some m → c.held_by.result.now ≡ text_at body m.value) c.outer.ensures c.held_by.ensures.held)

pub returns-in-None-clause-held : goal.returns-in-None-clause-held
returns-in-None-clause-held c =
    let body = c.args.body.now in
    let names = c.args.layout.now.names in
    let members = c.args.self.now.levels.outer in
    let places = c.args.self.now.places.items in
    found_none body names members places c.args.slot c.requires.found (place_read names places c.args.slot c.index.result.now None c.requires.found.held.as_many c.requires.slot c.index.ensures c.in-None.is)
