-- What a plan and its steps ask of the numbers before them.
--     plan_off, copy_off, flip_off      the first part of the event that is off; None where all of it holds
use Rattle.std.specs.Prelude.{ℕ, ◌+◌, ◌-◌, Bool, true, false, not, ◌&&◌, ◌==◌, nat_le, nat_lt, min, is_none, if◌then◌else◌, List, [], ◌∷◌, length, map, Option, Some, None}
use Rattle.std.specs.List.{list_all, list_any}
use Rattle.std.specs.Option.{option_or}
use Rattle.ov_event.specs.declared.event.PlanTarget.{PlanTarget}
use Rattle.ov_host.specs.declared.area.Extent.{Extent}
use Rattle.ov_catalog.specs.declared.field.Field.{Field}
use Rattle.ov_catalog.specs.declared.field.Field.TheVariants as off
use Rattle.ov_catalog.specs.Numbers.{PartNumbers, TargetNumbers, PlanNumbers, SetNumbers}
use Rattle.ov_catalog.specs.Events.{parts_at, targets_of, current, is_one}
use Rattle.ov_catalog.specs.Testing.{off_unless, is_same, is_extent, rows_at, part_numbered}

-- 1 <= p <= q <= 1000000
abbrev pub is_threshold : ℕ → ℕ → Bool
is_threshold p q = nat_le 1 p && (nat_le p q && nat_le q 1000000)

-- numbers from a least one on, ascending
abbrev pub ascend_from : ℕ → List ℕ → Bool
ascend_from least [] = true
ascend_from least (n ∷ ns) = nat_le least n && ascend_from (n + 1) ns

abbrev pub are_below : ℕ → List ℕ → Bool
are_below limit ns = list_all (λ n. nat_lt n limit) ns

-- whether two lists of versions have one in common
abbrev pub meets : List ℕ → List ℕ → Bool
meets a b = list_any (is_one b) a

-- a target empties a partition where it is the last one that has a version of it; `later` are the targets behind it
abbrev pub empties : {S : Type 0} → List ℕ → List (List ℕ) → PartNumbers S → Bool
empties versions later part = meets versions part.versions && not (list_any (λ other. meets other part.versions) later)

-- a source is a partition that the target empties; places of its segments are kept exactly where records are
abbrev pub is_kept : {S : Type 0} → TargetNumbers → List (List ℕ) → Option (PartNumbers S) → Bool
is_kept t later None = false
is_kept t later (Some part) =
    empties t.versions later part
    && ((ascend_from 0 t.kept && are_below (length part.segments) t.kept)
    && (is_same (length t.kept == 0) (t.kept_records == 0) && nat_le t.kept_records t.size))

-- no source keeps nothing
abbrev pub is_source : {S : Type 0} → List (PartNumbers S) → TargetNumbers → List (List ℕ) → Bool
is_source parts t later =
    if t.source == 0 then length t.kept == 0 && t.kept_records == 0 else is_kept t later (part_numbered parts t.source)

-- at least the rows of each of its versions, and at most the records of the dataset
abbrev pub is_size : {L S : Type 0} → SetNumbers L S → TargetNumbers → Bool
is_size d t = list_all (λ vid. nat_le (rows_at d.versions vid) t.size) t.versions && nat_le t.size d.records

abbrev pub are_targets : {L S : Type 0} → SetNumbers L S → List TargetNumbers → Bool
are_targets d [] = true
are_targets d (t ∷ ts) = (is_size d t && is_source d.parts t (map (λ u. u.versions) ts)) && are_targets d ts

abbrev pub plan_off : {L S : Type 0} → ℕ → ℕ → List PlanTarget → SetNumbers L S → Option Field
plan_off p q targets d =
    option_or (off_unless (is_none d.plan && (is_threshold p q && nat_le d.next_part 4294000000)) off.Plan)
    (off_unless (length targets == length (parts_at p q d) && are_targets d (targets_of (parts_at p q d) targets)) off.Count)

-- of a dataset whose plan runs
abbrev pub of_running : {S : Type 0} → (PlanNumbers S → Option Field) → Option (PlanNumbers S) → Option Field
of_running test None = Some off.Plan
of_running test (Some plan) = test plan

-- the records that the current target misses
abbrev pub missing : {S : Type 0} → PlanNumbers S → ℕ
missing plan = (current plan).size - ((current plan).kept_records + plan.copied)

-- the next 256 of them, or all that are left, in a segment
abbrev pub copy_off : {S : Type 0} → ℕ → Extent → PlanNumbers S → Option Field
copy_off count segment plan =
    option_or (off_unless (nat_le 1 count && count == min 256 (missing plan)) off.Count)
    (off_unless (not (segment.bytes == 0) && is_extent segment) off.Place)

abbrev pub flip_off : {S : Type 0} → PlanNumbers S → Option Field
flip_off plan = off_unless ((current plan).kept_records + plan.copied == (current plan).size) off.Count
