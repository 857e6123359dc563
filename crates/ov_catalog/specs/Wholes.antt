-- What a dataset in a snapshot asks of the numbers before it.
--     whole_off d n      the first part of it that is off; None where all of it holds
use Rattle.std.specs.Prelude.{ℕ, ◌+◌, ◌-◌, ◌^◌, Bool, true, false, not, ◌&&◌, ◌||◌, ◌==◌, nat_le, nat_lt, is_none, if◌then◌else◌, List, [], ◌∷◌, ◌++◌, length, map, Option, Some, None}
use Rattle.std.specs.List.{list_all, list_any, sum_by, flat_map}
use Rattle.std.specs.Option.{option_or}
use Rattle.ov_event.specs.declared.whole.Whole as raw
use Rattle.ov_host.specs.declared.area.Extent.{Extent}
use Rattle.ov_model.specs.Records.{counted}
use Rattle.ov_catalog.specs.declared.field.Field.{Field}
use Rattle.ov_catalog.specs.declared.field.Field.TheVariants as off
use Rattle.ov_catalog.specs.Numbers.{VersionNumbers, PartNumbers, TargetNumbers, PlanNumbers, SetNumbers, Numbers}
use Rattle.ov_catalog.specs.Events.{current, is_one}
use Rattle.ov_catalog.specs.Planning.{is_threshold, ascend_from, meets, is_source}
use Rattle.ov_catalog.specs.Testing.{off_unless, is_same, is_extent, is_list, is_schema, are_parents, name_off, targets_from}

-- ---- versions

-- the parents of each version behind those before it are as a Commit's
abbrev pub parents_follow : {L : Type 0} → List (VersionNumbers L) → List (VersionNumbers L) → Bool
parents_follow done [] = true
parents_follow done (v ∷ vs) = are_parents done v.rows v.parents && parents_follow (done ++ v ∷ []) vs

-- there is a first version, which has no parents, and each later one has
abbrev pub are_versions : {L : Type 0} → List (VersionNumbers L) → Bool
are_versions [] = false
are_versions (v ∷ vs) = nat_le (length (v ∷ vs)) 65535 && (length v.parents == 0 && parents_follow (v ∷ []) vs)

-- a version has no more rows than there are records up to it, and no more new records than rows; `done` are the records of the
-- versions before it
abbrev pub are_rows : {L : Type 0} → ℕ → List (VersionNumbers L) → Bool
are_rows done [] = true
are_rows done (v ∷ vs) =
    (nat_le v.rows 1000000 && (nat_le v.rows (done + v.fresh) && nat_le v.fresh v.rows)) && are_rows (done + v.fresh) vs

abbrev pub are_records : {L S : Type 0} → SetNumbers L S → Bool
are_records d = are_rows 0 d.versions && (sum_by (λ v. v.fresh) d.versions == d.records && nat_le d.records (2 ^ 31))

-- ---- partitions

-- versions from 1 to a number, ascending
abbrev pub are_there : ℕ → List ℕ → Bool
are_there count vids = ascend_from 1 vids && list_all (λ vid. nat_le vid count) vids

-- some versions, which are among those that it holds, and no more records than the dataset's
abbrev pub is_part : {S : Type 0} → ℕ → ℕ → PartNumbers S → Bool
is_part count records part =
    (not (length part.versions == 0) && list_all (is_one part.holds) part.versions)
    && ((ascend_from 1 part.versions && are_there count part.holds) && nat_le part.records records)

-- how many partitions serve a version
abbrev pub parts_serving : {S : Type 0} → List (PartNumbers S) → ℕ → ℕ
parts_serving parts vid = sum_by (λ part. if is_one part.versions vid then 1 else 0) parts

-- the targets of a plan that weren't flipped yet
abbrev pub targets_left : {S : Type 0} → Option (PlanNumbers S) → List TargetNumbers
targets_left None = []
targets_left (Some plan) = targets_from plan.at plan.targets

-- The partitions' numbers ascend below the next one; each version is in one partition; and numbers are left for the targets to
-- come and for a partition of each later version.
abbrev pub are_parts : {L S : Type 0} → SetNumbers L S → Bool
are_parts d =
    (ascend_from 1 (map (λ part. part.id) d.parts) && list_all (λ part. nat_lt part.id d.next_part) d.parts)
    && ((list_all (λ vid. parts_serving d.parts vid == 1) (counted 1 (length d.versions))
    && list_all (is_part (length d.versions) d.records) d.parts)
    && nat_lt (d.next_part + length (targets_left d.plan) + (65535 - length d.versions)) (2 ^ 32))

-- ---- the plan

-- versions that are there, and are in no later target
abbrev pub is_target : ℕ → ℕ → TargetNumbers → List TargetNumbers → Bool
is_target count records t later =
    (not (length t.versions == 0) && are_there count t.versions)
    && (not (list_any (λ u. meets u.versions t.versions) later) && nat_le t.size records)

abbrev pub are_targets : ℕ → ℕ → List TargetNumbers → Bool
are_targets count records [] = true
are_targets count records (t ∷ ts) = is_target count records t ts && are_targets count records ts

abbrev pub serves_only : {S : Type 0} → ℕ → List ℕ → PartNumbers S → Bool
serves_only id vids part = not (part.id == id) || list_all (is_one vids) part.versions

-- of targets that weren't flipped yet: each one's source is as a Plan may have it, and all its versions are in them; `vids` are
-- the versions in all of them
abbrev pub are_sources : {S : Type 0} → List (PartNumbers S) → List ℕ → List TargetNumbers → Bool
are_sources parts vids [] = true
are_sources parts vids (t ∷ ts) =
    (is_source parts t (map (λ u. u.versions) ts) && list_all (serves_only t.source vids) parts) && are_sources parts vids ts

abbrev pub is_plan : {L S : Type 0} → SetNumbers L S → Option (PlanNumbers S) → Bool
is_plan d None = true
is_plan d (Some plan) =
    (nat_lt plan.at (length plan.targets) && nat_le (plan.copied + (current plan).kept_records) (current plan).size)
    && (are_targets (length d.versions) d.records plan.targets
    && are_sources d.parts (flat_map (λ t. t.versions) (targets_from plan.at plan.targets)) (targets_from plan.at plan.targets))

-- no threshold is 0 and 0, and no plan runs then
abbrev pub is_threshold_for : {S : Type 0} → ℕ → ℕ → Option (PlanNumbers S) → Bool
is_threshold_for p q plan = is_threshold p q || ((p == 0 && q == 0) && is_none plan)

-- ---- extents

-- extents that aren't empty, and none exactly where there are no records
abbrev pub are_segments : ℕ → List Extent → Bool
are_segments records segments =
    list_all (λ e. not (e.bytes == 0) && is_extent e) segments && is_same (length segments == 0) (records == 0)

abbrev pub are_copied : Option (PlanNumbers Extent) → Bool
are_copied None = true
are_copied (Some plan) = are_segments plan.copied plan.segments

abbrev pub are_placed : SetNumbers Extent Extent → Bool
are_placed d =
    list_all (λ v. is_list v.rows v.list) d.versions
    && (list_all (λ part. are_segments part.records part.segments) d.parts && are_copied d.plan)

-- ---- all of it

-- behind the test of its number
abbrev pub whole_off : {L S : Type 0} → raw.Whole → SetNumbers Extent Extent → Numbers L S → Option Field
whole_off said d n =
    option_or (name_off said.name n)
    (option_or (off_unless (is_schema said.schema) off.Schema)
    (option_or (off_unless (are_versions d.versions) off.Parent)
    (option_or (off_unless (list_all (λ v. nat_le (length v.message) 1024) d.versions) off.Message)
    (option_or (off_unless (are_records d) off.Rows)
    (option_or (off_unless (are_parts d) off.Placing)
    (option_or (off_unless (is_threshold_for said.p said.q d.plan && is_plan d d.plan) off.Plan)
    (off_unless (are_placed d) off.Place)))))))
