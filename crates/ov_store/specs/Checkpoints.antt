-- Why a checkpoint isn't taken.
--     IsUntaken held old new why      the host, want of memory, or no place for the snapshot
use Rattle.ov_host.specs.Host.{Rose, State}
use Rattle.ov_core.specs.Held.{Held}
use Rattle.ov_core.specs.Rooms.{HasNoPlace}
use Rattle.ov_store.specs.declared.errors.StoreErr.{StoreErr}
use Rattle.ov_store.specs.declared.errors.StoreErr.TheVariants as why

abbrev pub IsUntaken : Held → State → State → StoreErr → Type 0
IsUntaken held old new why.Host = Rose old.faults new.faults
IsUntaken held old new why.Memory = Unit {0}
IsUntaken held old new why.JournalFull = HasNoPlace held
IsUntaken held old new _ = ⊥
