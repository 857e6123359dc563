-- What holds of each live dataset wherever the events of a half lead, whichever they were: what a Whole asks. So a snapshot can say
-- the dataset.
--     IsWhole d      of one dataset
--     AreWhole n      of all, and of their numbers and names
--     IsBeside reach n      what the numbers are where the half has come so far
use Rattle.std.specs.Prelude.{◌≡◌, ◌≤◌, ℕ, true, false, nat_le, nat_lt, List, [], ◌∷◌, ◌++◌, length, map}
use Rattle.std.specs.List.{list_all, list_any, AllByRecursion}
use Rattle.std.specs.Str.{bytes_eq}
use Rattle.ov_event.specs.declared.event.RawSchema.{RawSchema}
use Rattle.ov_host.specs.declared.area.Extent.{Extent}
use Rattle.ov_value.specs.Naming.{is_name}
use Rattle.ov_value.specs.Shapes.{Shape}
use Rattle.ov_catalog.specs.Applying.{Reach, AtStart, InSnapshot, Beyond}
use Rattle.ov_catalog.specs.Numbers.{SetNumbers, Numbers}
use Rattle.ov_catalog.specs.Planning.{ascend_from}
use Rattle.ov_catalog.specs.Raw.{threshold_in}
use Rattle.ov_catalog.specs.Testing.{is_schema}
pub use Rattle.ov_catalog.specs.Thresholds.{p_of, q_of, RunsAt}
use Rattle.ov_catalog.specs.Wholes.{are_versions, are_records, are_parts, is_plan, is_threshold_for, are_placed}

-- a schema's columns and the places of its key columns
abbrev pub spelled : Shape → RawSchema
spelled s = record { columns = s.columns; key = s.key }

pub record IsWhole (d : SetNumbers Extent Extent) : Type 0 where
  pub named : is_name d.name ≡ true
  pub schema : is_schema (spelled d.schema) ≡ true
  pub versions : are_versions d.versions ≡ true
  pub messages : list_all (λ v. nat_le (length v.message) 1024) d.versions ≡ true
  pub records : are_records d ≡ true
  pub parts : are_parts d ≡ true
  pub threshold : is_threshold_for (p_of d.threshold) (q_of d.threshold) d.plan ≡ true
  pub said : threshold_in (p_of d.threshold) (q_of d.threshold) ≡ d.threshold
  pub runs : RunsAt d.threshold d.plan
  pub plan : is_plan d d.plan ≡ true
  pub placed : are_placed d ≡ true

abbrev pub numbers_of : List (SetNumbers Extent Extent) → List ℕ
numbers_of sets = map (λ d. d.number) sets

abbrev pub names_of : List (SetNumbers Extent Extent) → List (List ℕ)
names_of sets = map (λ d. d.name) sets

-- none of these is one of those before it
abbrev pub AreNew : List (List ℕ) → List (List ℕ) → Type 0
AreNew before [] = Unit {0}
AreNew before (name ∷ names) = (list_any (λ other. bytes_eq other name) before ≡ false) × AreNew (before ++ name ∷ []) names

-- numbers ascend below that of the next dataset, and no name stands twice
pub record AreWhole (n : Numbers Extent Extent) : Type 0 where
  pub next : 1 ≤ n.next
  pub few : length n.sets ≤ 1024
  pub rise : ascend_from 1 (numbers_of n.sets) ≡ true
  pub below : list_all (λ number. nat_lt number n.next) (numbers_of n.sets) ≡ true
  pub names : AreNew [] (names_of n.sets)
  pub each : AllByRecursion IsWhole n.sets

-- within a snapshot the next dataset's number is the Base's, and no dataset has a greater number than the last Whole
abbrev pub IsBeside : Reach → Numbers Extent Extent → Type 0
IsBeside AtStart n = Unit {0}
IsBeside (InSnapshot next last) n = (n.next ≡ next) × (list_all (λ number. nat_le number last) (numbers_of n.sets) ≡ true)
IsBeside Beyond n = Unit {0}
