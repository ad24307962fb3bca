use Rattle.std.proofs.Common.{ap}
use Rattle.std.specs.Option.{option_copied}
use Rattle.worker_run.proofs.CatalogLemmas.{has_generation}
use Rattle.worker_run.proofs.catalog.is_append.Goals as goal

pub returns-in-Some : goal.returns-in-Some
returns-in-Some c =
    has_generation c.args.entry.now c.in-Some.field-0.now (option_copied c.in_ok-optional.field-0) (ap option_copied c.in-Some.is) c.in_ok-optional.ensures
