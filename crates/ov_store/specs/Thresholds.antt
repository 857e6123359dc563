-- What is read to choose a threshold, and a plan that begins from it.
--     lists_of d      of a World's dataset the rids of each version
--     AreListsOf s t lists      the lists of all versions, as they were read
--     IsUnlisted o old new why      why they weren't
--     IsUnreadied old new s why, IsUnbegunWith s p q old new held why      why no plan is ready, or none began, from lists that were read
use Rattle.std.specs.Prelude.{◌≡◌, ℕ, true, List, [], map, Option, Some, None}
use Rattle.std.specs.List.{AllZip}
use Rattle.ov_catalog.specs.Shown.{list_of}
use Rattle.ov_core.specs.Held.{Held}
use Rattle.ov_fetch.specs.Extents.{page_bytes}
use Rattle.ov_host.specs.declared.area.Area.TheVariants.{Pages}
use Rattle.ov_host.specs.Host.{Rose, State}
use Rattle.ov_model.specs.Records.{order_of, recs}
use Rattle.ov_model.specs.World.{Dataset}
use Rattle.ov_optimize.specs.Damages.{HasBadPart, IsListDamage}
use Rattle.ov_optimize.specs.Reading.{IsListAt, IsListOf, all_vids}
use Rattle.ov_store.specs.Committing.{IfSet, Set}
use Rattle.ov_store.specs.Planning.{FindsNoPlace}
use Rattle.ov_store.specs.declared.errors.StoreErr.{StoreErr}
use Rattle.ov_store.specs.declared.errors.StoreErr.TheVariants as off
use Rattle.ov_store.specs.declared.plan_errors.PlanErr.{PlanErr}
use Rattle.ov_store.specs.declared.plan_errors.PlanErr.TheVariants as why

abbrev pub lists_of : Dataset → List (List ℕ)
lists_of d = map (list_of (order_of d.cvd.versions)) (recs d.cvd.versions [])

-- on every host they agree with the numbers; where the bytes are told, they stand so on the pages
pub record AreListsOf (s : Set) (t : State) (lists : List (List ℕ)) : Type 0 where
  pub are : AllZip (IsListOf s) (all_vids s) lists
  pub read : t.tells ≡ true → AllZip (IsListAt (page_bytes t) s) (all_vids s) lists

abbrev pub IsListsDamage : Set → State → ℕ → Type 0
IsListsDamage s t page = t.tells ≡ true → IsListDamage (page_bytes t) s page

-- A dataset that isn't there comes before anything is read.
abbrev pub IsUnlisted : Option Set → State → State → StoreErr → Type 0
IsUnlisted o old new off.Host = Rose old.faults new.faults
IsUnlisted o old new off.Memory = Unit {0}
IsUnlisted o old new (off.Damaged area at) = (area ≡ Pages) × IfSet (λ s. IsListsDamage s old at) o
IsUnlisted o old new off.NoCvd = (o ≡ None) × (new ≡ old)
IsUnlisted o old new _ = ⊥

-- ---- from these

-- a partition is damaged
abbrev pub IsPartsDamage : Set → State → ℕ → Type 0
IsPartsDamage s t page = t.tells ≡ true → HasBadPart (page_bytes t) s page

abbrev pub IsUnreadied : State → State → Option Set → PlanErr → Type 0
IsUnreadied old new o why.Host = Rose old.faults new.faults
IsUnreadied old new o why.Memory = Unit {0}
IsUnreadied old new o (why.Damaged area at) = (area ≡ Pages) × IfSet (λ s. IsPartsDamage s old at) o
IsUnreadied old new o _ = ⊥

-- only what is read of the partitions, and room for the record, may be wanting
abbrev pub IsUnbegunWith : Option Set → ℕ → ℕ → State → State → Held → PlanErr → Type 0
IsUnbegunWith o p q old new held why.JournalFull = IfSet (λ s. FindsNoPlace s p q old held) o
IsUnbegunWith o p q old new held e = IsUnreadied old new o e
