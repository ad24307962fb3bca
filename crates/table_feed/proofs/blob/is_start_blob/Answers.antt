use Rattle.std.proofs.Common.{◌↔◌, ◌∙◌, IfOk, IsTrue, List, Option, Some, ap, subst, sym, ℕ}
use Rattle.table_feed.specs.Start.{IsStartBlob}
use Rattle.table_feed.proofs.blob.is_start_blob.Goals as goal

pub returns-in-Some : goal.returns-in-Some
returns-in-Some c =
    subst (λ (blob : Option (List ℕ)). IfOk c.is_start_text.result (λ is. IsTrue is ↔ IsStartBlob c.args.count blob)) (ap (λ (t : List ℕ). Some t) c.as_slice.ensures ∙ sym c.in-Some.is) c.is_start_text.ensures
