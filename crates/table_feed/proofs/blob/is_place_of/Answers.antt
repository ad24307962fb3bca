use Rattle.std.proofs.Common.{IsTrue, ap, false, option_map}
use Rattle.json_fields.proofs.AnswerLemmas.{along}
use Rattle.table_feed.specs.Parts.{place_seen}
use Rattle.table_feed.specs.Start.{IsPlaceCut}
use Rattle.table_feed.proofs.StartLemmas.{counted_is, no_place}
use Rattle.table_feed.proofs.blob.is_place_of.Goals as goal

pub returns-in-Some : goal.returns-in-Some
returns-in-Some c =
    counted_is c.args.text.now (place_seen c.in-Some.place) c.len.result c.args.count (along (IsPlaceCut c.args.text.now) (ap (option_map place_seen) c.in-Some.is) c.in_ok-place.ensures.cut) c.len.ensures

pub returns-in-None : goal.returns-in-None
returns-in-None c = (λ e. absurd (no_truth e), λ is. absurd (no_place c.args.text.now c.args.count (along (IsPlaceCut c.args.text.now) (ap (option_map place_seen) c.in-None.is) c.in_ok-place.ensures.cut) is))
  where
    no_truth : IsTrue false → ⊥
    no_truth e = cc
