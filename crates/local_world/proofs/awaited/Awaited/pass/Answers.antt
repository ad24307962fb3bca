use Rattle.std.proofs.Common.{Option, None, sym, subst}
use Rattle.std.specs.Prelude.{option_map}
use Rattle.airbyte_message.specs.Views.{message_at}
use Rattle.airbyte_message.specs.declared.view.MessageView.{MessageView}
use Rattle.local_world.specs.Awaited.{Passes}
use Rattle.local_world.proofs.awaited.Awaited.pass.Goals as goal

pub returns-in-None : goal.returns-in-None
returns-in-None c =
    subst (λ (o : Option MessageView). Passes c.args.number (option_map message_at o) c.args.self.now c.args.self.now c.passes_over.result) (sym c.in-None.is) (c.passes_over.ensures c.args.number None tt)
