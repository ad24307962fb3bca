use Rattle.std.proofs.Common.{◌∙◌, length}
use Rattle.std.specs.Fmt.{decimal}
use Rattle.value_order.proofs.ReadLemmas.{counted_other, lacking_mark, told_apart}
use Rattle.value_order.proofs.read.counted.Goals as goal

pub returns-else-eq-clause-none : goal.returns-else-eq-clause-none
returns-else-eq-clause-none c = λ bytes small e.
    counted_other bytes c.in-Some.count.now c.in-Some.bytes.now c.in-Some.ensures.found.1
    (λ h. told_apart c.as_bytes.result.now c.in-Some.count.now c.if-eq.ensures (c.as_bytes.ensures.value ∙ c.format.ensures.text ∙ h)) small (e ∙ c.in-Some.ensures.found.0)

pub returns-in-None-clause-none : goal.returns-in-None-clause-none
returns-in-None-clause-none c = λ bytes small e. lacking_mark 58 c.args.text.now (decimal (length bytes)) bytes c.in-None.ensures.none e
