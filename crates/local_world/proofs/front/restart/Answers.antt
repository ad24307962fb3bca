use Rattle.std.proofs.Common.{ℕ, List, Option, inr, subst}
use Rattle.std.specs.Prelude.{IfNone}
use Rattle.std.specs.List.{Any}
use Rattle.load_rules.specs.Lines.{Reading}
use Rattle.local_world.specs.Starts.{IsNowhere, ReadsFile, file_lines}
use Rattle.local_world.specs.declared.front.Front.{Front}
use Rattle.local_world.proofs.front.restart.Goals as goal

pub returns-in_default-clause-fault : goal.returns-in_default-clause-fault
returns-in_default-clause-fault c =
    let states = c.in_ok-states.states in
    let lacks = subst (λ (found : Option Front). IfNone found ((read : Reading) → ReadsFile read c.text.result.now → Any (IsNowhere (file_lines read c.text.result.now)) states)) c.in_default.is c.in_ok-places.ensures.lacks in
    inr (record {
      states = states;
      reads = c.in_ok-states.ensures.read;
      lacks = subst (λ (text : List ℕ). (read : Reading) → ReadsFile read text → Any (IsNowhere (file_lines read text)) states) c.text.ensures lacks;
    })
