-- A user's rows stay through every command but his own that stage or take off.
use Rattle.std.proofs.Common.{◌≡◌, ◌≢◌, ℕ, List, take}
use Rattle.std.specs.Prelude.{Some, None}
use Rattle.ov_model.specs.Act.{Session}
use Rattle.ov_model.specs.Deed.{deed, own_rows}
use Rattle.ov_model.specs.Registry.{stage_name}
use Rattle.ov_model.specs.Steps.{all_moved}
use Rattle.ov_model.specs.World.{World, set_named}
use Rattle.ov_model.specs.declared.command.Command.{Command}
use Rattle.ov_model.specs.declared.command.Command.TheVariants as asks
use Rattle.law_users.proofs.OwnRows.{staging_keeps, unstaging_keeps}
use Rattle.law_users.proofs.Quiet.{deed_quiet}
use Rattle.law_users.proofs.Sparing.{own_spared}
use Rattle.law_users.specs.Owners.{IsKept, IsStaging}

module _ (w : World) (s : Session) (user : List ℕ) (k : ℕ) (kept : IsKept w) where
  abbrev Keeps : Command → Type 0
  Keeps command = own_rows user (set_named (all_moved (take k (deed w s command).moves) w) stage_name) ≡ own_rows user (set_named w stage_name)

  other : (command : Command) → (IsStaging command → ⊥) → Keeps command
  other command isnt = own_spared user (deed w s command).moves w k (deed_quiet w s kept.apart kept.below command isnt)

  pub tables_keep : (command : Command) → (IsStaging command → s.user ≢ user) → Keeps command
  tables_keep (asks.Checkout cvd vids file None) differ = other (asks.Checkout cvd vids file None) (λ is. is)
  tables_keep (asks.Checkout cvd vids file (Some table)) differ = staging_keeps w user s kept.ordered (differ tt) cvd vids table file k
  tables_keep (asks.Unstage owner table) differ = unstaging_keeps w user s kept.ordered (differ tt) owner table k
  tables_keep command differ = other command (λ is. is)
