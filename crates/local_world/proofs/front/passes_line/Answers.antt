use Rattle.std.specs.Prelude.{option_map}
use Rattle.airbyte_message.specs.Views.{message_at}
use Rattle.local_world.proofs.FileLemmas.{read_right, same_states}
use Rattle.local_world.proofs.front.passes_line.Goals as goal

pub returns-clause-line : goal.returns-clause-line
returns-clause-line c = read_right c.args.line.now (option_map message_at c.in_ok-found.found) c.args.number c.args.awaited.now c.pass.new.self c.pass.result c.in_ok-found.ensures c.pass.ensures

pub returns-clause-states : goal.returns-clause-states
returns-clause-states c = same_states (option_map message_at c.in_ok-found.found) c.args.number c.args.awaited.now c.pass.new.self c.pass.result c.pass.ensures
