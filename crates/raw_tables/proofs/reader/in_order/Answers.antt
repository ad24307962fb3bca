use Rattle.std.proofs.Common.{◌≡◌, List, ap, sym, ◌∙◌, subst, filter, map, rules}
use Rattle.std.specs.List.Sorted.{IsPermutation, IsSortedByKey, IsStableByKey}
use Rattle.std.proofs.lemmas.Fn.{always_returns_same}
use Rattle.outside.specs.declared.event.RawRow.{RawRow}
use Rattle.outside.specs.declared.table.PlacedRow.{PlacedRow}
use Rattle.outside.specs.Tables.{row_of}
use Rattle.raw_tables.specs.Visible.{seen_rows, is_seen, stamp_of, stamp_cmp}
use Rattle.raw_tables.proofs.reader.in_order.Goals as goal

pub returns : goal.returns
returns c =
    let seen : c.in_ok-rows.rows.items ≡ seen_rows c.args.table.now = c.in_ok-rows.ensures ∙ ap (λ (ps : List PlacedRow). filter (is_seen c.args.table.now.marks) (map row_of ps)) c.as_slice.ensures in
    let sorted = c.in_ok-sort_by_key.ensures.sorted stamp_of (always_returns_same _ _ _ (λ a r f' k. search rules)) in
    let stable = c.in_ok-sort_by_key.ensures.stable stamp_of (always_returns_same _ _ _ (λ a r f' k. search rules)) in
    record {
      are = subst (λ (rs : List RawRow). IsPermutation rs c.from_vec.result) seen (subst (λ (rs : List RawRow). IsPermutation c.in_ok-rows.rows.items rs) (sym c.from_vec.ensures) c.in_ok-sort_by_key.ensures.permutation);
      ordered = subst (λ (rs : List RawRow). IsSortedByKey stamp_of stamp_cmp rs) (sym c.from_vec.ensures) sorted;
      stable = subst (λ (rs : List RawRow). IsStableByKey stamp_of stamp_cmp rs c.from_vec.result) seen (subst (λ (rs : List RawRow). IsStableByKey stamp_of stamp_cmp c.in_ok-rows.rows.items rs) (sym c.from_vec.ensures) stable);
    }
