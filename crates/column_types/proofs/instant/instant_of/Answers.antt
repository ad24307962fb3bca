use Rattle.column_types.specs.Instants.{read_instant}
use Rattle.std.proofs.Common.{rules}
use Rattle.column_types.proofs.instant.instant_of.Goals as goal

pub returns-in-Ok : goal.returns-in-Ok
unfolding read_instant
returns-in-Ok c = search rules

pub returns-in-Err : goal.returns-in-Err
unfolding read_instant
returns-in-Err c = search rules
