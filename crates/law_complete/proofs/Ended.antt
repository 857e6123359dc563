-- Which statuses a run on valid input leaves.
use Rattle.std.proofs.Common.{◌≡◌, ◌<◌, ◌⊎◌, inl, inr, ◌+◌, ℕ, List, length, arith}
use Rattle.std.specs.Prelude.{◌^◌}
use Rattle.ov_host.specs.Host.{Rose}
use Rattle.ov_model.specs.World.{World}
use Rattle.ov_top.specs.Ending.{Cause, Ends, Plays}
use Rattle.ov_top.specs.declared.status.Status.{Status}
use Rattle.ov_top.specs.declared.status.Status.TheVariants.{Done, Refused, Usage, HostFault, InputFault, Memory, NotAStore, Damaged, Format, ScriptTooLong}
use Rattle.law_complete.specs.Complete.{IsComplete, IsValid, NoFaults}

-- a script of fewer bytes isn't taken whole and that many more
too_few : (n more : ℕ) → n < 2 ^ 32 → n ≡ more + 2 ^ 32 → ⊥
too_few n more short long = omega arith

module _ (words : List (List ℕ)) (steps : ℕ) (w : World) (old new : Ends) (valid : IsValid words steps w old) (none : NoFaults old new) where
  pub ends : (status : Status) → Cause status words old new → Plays status steps w old new → IsComplete status steps w old new
  ends Done cause plays = plays
  ends Refused cause plays = plays
  ends Memory cause plays = plays
  ends Usage cause plays = plays
  ends NotAStore cause plays = plays
  ends (Damaged area at) cause plays = plays
  ends (Format found) cause plays = plays
  ends HostFault cause plays = none.host cause.1
  ends InputFault cause plays = by cause.2
    where
      by : Rose old.script.faults new.script.faults ⊎ Rose old.stage.faults new.stage.faults → ⊥
      by (inl rose) = none.script rose
      by (inr rose) = none.stage rose
  ends ScriptTooLong cause plays = too_few (length old.script.left) (length new.script.left) valid.short (cause.2 valid.told.script)
