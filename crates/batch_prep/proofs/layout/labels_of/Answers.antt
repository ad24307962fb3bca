use Rattle.std.proofs.Common.{ap, sym, ◌∙◌, ◌++◌, List, ℕ, subst}
use Rattle.json.specs.Print.{quoted}
use Rattle.json_scalar.specs.Text.{IsString}
use Rattle.batch_prep.proofs.PlaceLemmas.{labels_more}
use Rattle.batch_prep.proofs.layout.labels_of.Goals as goal

pub loop-place-preserved : goal.loop-place-preserved
loop-place-preserved c =
    let name = c.at.result.now in
    let text = c.in_ok-put_string.ensures.ok ∙ ap (λ (t : List ℕ). t ++ quoted name) c.new-label.ensures in
    labels_more c.args.names.now c.loop-place.labels c.push.new.self c.loop-place.place name c.put_string.new.text c.at.ensures c.loop-place.invariant text
    (subst (λ (t : List ℕ). IsString t name) (sym text) (c.texts_read_back.ensures.string name c.at.utf8)) c.in_ok-push.ensures.ok
