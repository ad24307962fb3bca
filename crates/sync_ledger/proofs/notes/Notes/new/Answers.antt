use Rattle.std.proofs.Common.{List, sym, subst}
use Rattle.sync_ledger.specs.Kept.{IsKept}
use Rattle.sync_ledger.specs.declared.pending.Pending.{Pending}
use Rattle.sync_ledger.proofs.OpenLemmas.{opened_kept}
use Rattle.sync_ledger.proofs.notes.Notes.new.Goals as goal

pub invariant_of-result : goal.invariant_of-result
invariant_of-result c =
    subst (λ (held : List Pending). IsKept (record { ids = c.in_ok-index.index; accounts = c.in_ok-index.accounts; form = c.saved_form.result; lines = 0; held = held })) (sym c.new.ensures)
    (opened_kept c.args.configured.now c.in_ok-index.index c.in_ok-index.accounts c.saved_form.result c.in_ok-index.ensures.configured c.in_ok-index.ensures.index c.in_ok-index.ensures.accounts)
