-- Why a page could not be merged.
use Rattle.outside.specs.declared.fault.Fault.{Fault}
use Rattle.outside.specs.declared.fault.Fault.TheVariants as fault
use Rattle.dedup_merge.specs.declared.pages.MergeFault.{MergeFault}
use Rattle.dedup_merge.specs.declared.pages.MergeFault.TheVariants as merge

abbrev pub fault_of : Fault → MergeFault
fault_of fault.Failed = merge.StoreFault
fault_of fault.NoMemory = merge.NoMemory
