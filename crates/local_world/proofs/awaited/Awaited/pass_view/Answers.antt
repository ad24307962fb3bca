use Rattle.std.proofs.Common.{Some, sym, subst}
use Rattle.airbyte_message.specs.Views.{record_at}
use Rattle.airbyte_message.specs.declared.message.Message.{Message}
use Rattle.local_world.specs.Awaited.{Passes}
use Rattle.local_world.proofs.AwaitLemmas.{viewed_record}
use Rattle.local_world.proofs.awaited.Awaited.pass_view.Goals as goal

pub returns-in_ok-id-in-Rec : goal.returns-in_ok-id-in-Rec
returns-in_ok-id-in-Rec c =
    subst (λ (m : Message). Passes c.args.number (Some m) c.args.self.now c.args.self.now c.awaits.result)
    (sym (viewed_record c.args.view.now c.in-Rec.record c.in-Rec.is))
    (c.awaits.ensures c.args.number (record_at c.in-Rec.record) (sym c.in_ok-id-in-Rec.ensures))
