use Rattle.std.proofs.Common.{◌∙◌, ap, option_map, sym}
use Rattle.json_fields.proofs.AnswerLemmas.{along}
use Rattle.table_feed.specs.Parts.{place_seen}
use Rattle.table_feed.specs.Start.{IsPlaceCut}
use Rattle.table_feed.proofs.StartLemmas.{no_place, other_size}
use Rattle.table_feed.proofs.blob.behind_place.Goals as goal

pub returns-in_default-clause-none : goal.returns-in_default-clause-none
returns-in_default-clause-none c = no_place c.args.text.now _ (along (IsPlaceCut c.args.text.now) (ap (option_map place_seen) c.in_default.is) c.in_ok-place.ensures.cut)

pub returns-then-len-clause-none : goal.returns-then-len-clause-none
returns-then-len-clause-none c =
    other_size c.args.text.now (place_seen c.in-Some.place) c.len.result _ (along (IsPlaceCut c.args.text.now) (ap (option_map place_seen) c.in-Some.is) c.in_ok-place.ensures.cut) c.len.ensures
    (λ same. c.if-len.true (same ∙ sym c.len-2.ensures))
