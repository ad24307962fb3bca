-- The status of each end of the command that is built.
use Rattle.outside.specs.declared.status.Status.{Status}
use Rattle.outside.specs.declared.status.Status.TheVariants as status
use Rattle.worker_run.specs.declared.end.End.{End}
use Rattle.worker_run.specs.declared.end.End.TheVariants as how

abbrev pub status_of : End → Status
status_of how.Ok = status.Ok
status_of how.Usage = status.Usage
status_of how.FileFault = status.FileFault
status_of how.SayFault = status.SayFault
status_of (how.Unbuilt line) = status.Unbuilt line
status_of how.NoMemory = status.NoMemory
