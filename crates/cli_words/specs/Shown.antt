-- What a command that borrows its words asks for.
use Rattle.std.specs.Prelude.{option_map}
use Rattle.cli_words.specs.declared.commands.Command.{Command}
use Rattle.cli_words.specs.declared.commands.Command.TheVariants as command
use Rattle.cli_words.specs.declared.connectors.SourceCommand.{SourceCommand}
use Rattle.cli_words.specs.declared.connectors.SourceCommand.TheVariants as source_command
use Rattle.cli_words.specs.declared.connectors.DestCommand.{DestCommand}
use Rattle.cli_words.specs.declared.connectors.DestCommand.TheVariants as dest_command
use Rattle.cli_words.specs.Connectors.{SourceAsked, DestAsked, DestSpec, DestCheck, DestWrite}
use Rattle.cli_words.specs.Connectors as source
use Rattle.cli_words.specs.Commands.{Asked, Local, Sync, Spec, Check, Discover, Made}

abbrev pub shown : Command → Asked
shown (command.Local messages catalog attempts) = Local messages.now catalog.now attempts
shown (command.Sync source source_config dest dest_config catalog state attempts) = Sync source.now source_config.now dest.now dest_config.now catalog.now state.now attempts
shown (command.Spec program) = Spec program.now
shown (command.Check program config) = Check program.now config.now
shown (command.Discover program config) = Discover program.now config.now
shown (command.Made rows workers) = Made rows workers

abbrev pub source_shown : SourceCommand → SourceAsked
source_shown source_command.Spec = source.Spec
source_shown (source_command.Check config) = source.Check config.now
source_shown (source_command.Discover config) = source.Discover config.now
source_shown (source_command.Read config catalog state) = source.Read config.now catalog.now (option_map (λ text. text.now) state)

abbrev pub dest_shown : DestCommand → DestAsked
dest_shown dest_command.Spec = DestSpec
dest_shown (dest_command.Check config) = DestCheck config.now
dest_shown (dest_command.Write config catalog) = DestWrite config.now catalog.now
