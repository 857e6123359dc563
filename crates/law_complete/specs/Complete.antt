-- What valid input is, and what a run on it comes to.
--     IsValid words steps w old      the words ask for so many steps, the ends tell, the store is at the World, the script is short enough
--     NoFaults old new      no end failed
--     IsComplete status steps w old new      the whole course was played, or there was no memory
use Rattle.std.specs.Prelude.{◌≡◌, ◌<◌, ◌^◌, ℕ, true, false, List, length, Some}
use Rattle.ov_args.specs.Words.{options_of}
use Rattle.ov_host.specs.Host.{Rose}
use Rattle.ov_model.specs.World.{World}
use Rattle.ov_top.specs.Ending.{Ends, IsTold, Played, Stops}
use Rattle.ov_top.specs.declared.status.Status.{Status}
use Rattle.ov_top.specs.declared.status.Status.TheVariants.{Done, Refused, Usage, HostFault, InputFault, Memory, NotAStore, Damaged, Format, ScriptTooLong}

pub record IsValid (words : List (List ℕ)) (steps : ℕ) (w : World) (old : Ends) : Type 0 where
  pub folder : List ℕ
  pub words_are : options_of words ≡ Some (folder, steps)
  pub told : IsTold w old
  pub short : length old.script.left < 2 ^ 32

pub record NoFaults (old new : Ends) : Type 0 where
  pub host : Rose old.host.faults new.host.faults → ⊥
  pub script : Rose old.script.faults new.script.faults → ⊥
  pub stage : Rose old.stage.faults new.stage.faults → ⊥

abbrev pub IsComplete : Status → ℕ → World → Ends → Ends → Type 0
IsComplete Done steps w old new = Played steps w false old new
IsComplete Refused steps w old new = Played steps w true old new
IsComplete Memory steps w old new = Stops steps w old new
IsComplete Usage steps w old new = ⊥
IsComplete HostFault steps w old new = ⊥
IsComplete InputFault steps w old new = ⊥
IsComplete NotAStore steps w old new = ⊥
IsComplete (Damaged area at) steps w old new = ⊥
IsComplete (Format found) steps w old new = ⊥
IsComplete ScriptTooLong steps w old new = ⊥
