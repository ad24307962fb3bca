use Rattle.std.proofs.Common.{Some, refl, sym, subst}
use Rattle.airbyte_message.specs.declared.message.Message.{Message}
use Rattle.local_world.specs.Awaited.{Passes}
use Rattle.local_world.proofs.AwaitLemmas.{neither_of}
use Rattle.local_world.proofs.awaited.Awaited.pass_message.Goals as goal

pub returns-in-Rec : goal.returns-in-Rec
returns-in-Rec c =
    subst (λ (m : Message). Passes c.args.number (Some m) c.args.self.now c.args.self.now c.awaits.result) (sym c.in-Rec.is) (c.awaits.ensures c.args.number c.in-Rec.content refl)

pub returns-in_default : goal.returns-in_default
returns-in_default c = c.passes_over.ensures c.args.number (Some c.args.message.now) (neither_of c.args.message.now c.in_default.not-Rec c.in_default.not-State)
