-- The order of candidates.
use Rattle.std.proofs.Common.{◌≡◌, ℕ, List, Ordering, Less, Equal, Greater, refl, sym, ◌∙◌, ap, inl, inr}
use Rattle.std.specs.Prelude.{◌≢◌}
use Rattle.std.specs.Ordering.{ordering_reverse}
use Rattle.std.specs.Cmp.{IsTotalOrder, nat_cmp_total, on_total, then_total}
use Rattle.value_order.specs.declared.value.Value.{Value}
use Rattle.value_order.proofs.OrderLemmas.{order_total}
use Rattle.value_order.proofs.TextLemmas.{texts_distinct}
use Rattle.dedup_merge.specs.Cursors.{IsCursor}
use Rattle.dedup_merge.specs.Winners.{Candidate, candidate_value, load_of, seq_of, rank}

pub rank_total : IsTotalOrder rank
rank_total = then_total (on_total candidate_value order_total) (then_total (on_total load_of nat_cmp_total) (on_total seq_of nat_cmp_total))

-- what is not above the held one is below a row that exceeds it
pub below_next : (other held next : Candidate) → rank other held ≢ Greater → rank next held ≡ Greater → rank other next ≡ Less
below_next other held next not_above exceeds = by_answer (rank other held) refl where
  turned : rank held next ≡ Less
  turned = rank_total.antisymm held next ∙ ap ordering_reverse exceeds

  by_answer : (o : Ordering) → rank other held ≡ o → rank other next ≡ Less
  by_answer Less e = rank_total.trans other held next e turned
  by_answer Equal e = rank_total.congr other held next e ∙ turned
  by_answer Greater e = absurd (not_above e)

pub held_below : (held next : Candidate) → rank next held ≡ Greater → rank held next ≡ Less
held_below held next exceeds = rank_total.antisymm held next ∙ ap ordering_reverse exceeds

pub less_not_more : (o : Ordering) → o ≡ Less → o ≢ Greater
less_not_more o e g = let t : Less ≡ Greater = sym e ∙ g in cc

-- a text has one value
pub one_cursor : (text : List ℕ) (a b : Value) → IsCursor text a → IsCursor text b → a ≡ b
one_cursor text a b (inl x) (inl y) = texts_distinct a b x.held y.held (x.is ∙ sym y.is)
one_cursor text a b (inl x) (inr y) = absurd (y.none a x.held x.is)
one_cursor text a b (inr x) (inl y) = absurd (x.none b y.held y.is)
one_cursor text a b (inr x) (inr y) = x.null ∙ sym y.null
