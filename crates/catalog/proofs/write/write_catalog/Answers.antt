use Rattle.std.proofs.Common.{◌<◌, ◌≤◌, ◌++◌, [], ◌∷◌, length, List, ℕ, sym, ◌∙◌, ap, subst, arith}
use Rattle.json_fields.specs.Parts.{NestsWithin}
use Rattle.catalog.specs.Configured.{entry_depth}
use Rattle.catalog.specs.Written.{GrowsByEntry}
use Rattle.catalog.proofs.CatalogBack.{catalogs_read_back}
use Rattle.catalog.proofs.ConfiguredLemmas.{configured_at}
use Rattle.catalog.proofs.WriteLemmas.{entries_first, entries_more, entries_close, only_text}
use Rattle.catalog.proofs.write.write_catalog.Goals as goal

pub loop-n-init : goal.loop-n-init
loop-n-init c =
    let key = c.in_ok-put_key.ensures.ok ∙ ap (λ (t : List ℕ). t ++ _) c.new-text.ensures in
    entries_first c.args.configured.now c.args.gens.now c.push.new.self (c.in_ok-push.ensures.ok ∙ ap (λ (t : List ℕ). t ++ 91 ∷ []) key)

pub put_entry-requires : goal.put_entry-requires
put_entry-requires c =
    let is = configured_at c.args.configured.now c.loop-n.n c.stream.result.now c.len-n-end.ensures.configured.each c.stream.ensures.stream in
    subst (λ (t : List ℕ). NestsWithin entry_depth t) (sym c.as_slice.ensures) is.nests

pub loop-n-preserved : goal.loop-n-preserved
loop-n-preserved c =
    let lt : c.loop-n.n < length c.args.configured.now = let h = c.loop-n-test.true in let e = c.len-n-end.ensures.len in omega arith in
    let grew = subst (λ (t : List ℕ). GrowsByEntry t c.at-numbers.result.now c.put_comma.new.text c.put_entry.new.text) c.as_slice.ensures c.in_ok-put_entry.ensures in
    entries_more c.args.configured.now c.args.gens.now c.loop-n.n c.stream.result.now c.at-numbers.result.now c.loop-n.text c.put_comma.new.text c.put_entry.new.text c.requires lt c.stream.ensures.stream c.at-numbers.ensures c.in_ok-put_comma.ensures.ok grew c.loop-n.invariant

pub returns-clause-text : goal.returns-clause-text
returns-clause-text c =
    let done : length c.args.configured.now ≤ c.loop-n.n = let h = c.loop-n-test.false in let e = c.len-n-end.ensures.len in omega arith in
    only_text c.args.configured.now c.args.gens.now c.push-3.new.self
    (entries_close c.args.configured.now c.args.gens.now c.loop-n.n c.loop-n.text c.push-2.new.self c.push-3.new.self c.requires done c.in_ok-push-2.ensures.ok c.in_ok-push-3.ensures.ok c.loop-n.invariant)

pub returns-clause-back : goal.returns-clause-back
returns-clause-back c =
    let done : length c.args.configured.now ≤ c.loop-n.n = let h = c.loop-n-test.false in let e = c.len-n-end.ensures.len in omega arith in
    let is = entries_close c.args.configured.now c.args.gens.now c.loop-n.n c.loop-n.text c.push-2.new.self c.push-3.new.self c.requires done c.in_ok-push-2.ensures.ok c.in_ok-push-3.ensures.ok c.loop-n.invariant in
    λ fit. record { is = is; reads = catalogs_read_back c.args.configured.now c.args.gens.now c.push-3.new.self c.len-n-end.ensures.configured is fit }
