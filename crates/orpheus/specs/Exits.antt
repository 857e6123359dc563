-- How a run's status ends the program: its exit status, and the fault that it tells.
use Rattle.std.specs.Prelude.{ℕ, Option, Some, None}
use Rattle.orpheus.specs.declared.fault.Fault.{Fault}
use Rattle.orpheus.specs.declared.fault.Fault.TheVariants as fault
use Rattle.ov_top.specs.declared.status.Status.{Status}
use Rattle.ov_top.specs.declared.status.Status.TheVariants.{Done, Refused, Usage, HostFault, InputFault, Memory, NotAStore, Damaged, Format, ScriptTooLong}

-- the program's exit status
abbrev pub exit_of : Status → ℕ
exit_of Done = 0
exit_of Refused = 1
exit_of Usage = 2
exit_of HostFault = 3
exit_of InputFault = 4
exit_of Memory = 5
exit_of NotAStore = 6
exit_of (Damaged area at) = 6
exit_of (Format found) = 6
exit_of ScriptTooLong = 7

-- what kept the run from reading its script to the end
abbrev pub fault_of : Status → Option Fault
fault_of Done = None
fault_of Refused = None
fault_of Usage = Some fault.Usage
fault_of HostFault = Some fault.Store
fault_of InputFault = Some fault.Input
fault_of Memory = Some fault.Memory
fault_of NotAStore = Some fault.NotAStore
fault_of (Damaged area at) = Some (fault.Damaged area at)
fault_of (Format found) = Some (fault.Format found)
fault_of ScriptTooLong = Some fault.ScriptTooLong
