-- The extents of numbers, and the pages that they cover.
--     live n      those that the live datasets have
--     brought e, given_up e n      those that an event brings, and those that go with it
--     AreApart es pages      no page is covered twice, and each is below `pages`
use Rattle.std.specs.Prelude.{◌≤◌, ◌<◌, ℕ, ◌+◌, ◌&&◌, ◌==◌, Bool, nat_le, nat_lt, if◌then◌else◌, List, [], ◌∷◌, ◌++◌, map, filter, Option, Some, None}
use Rattle.std.specs.List.{flat_map}
use Rattle.ov_host.specs.declared.area.Extent.{Extent}
use Rattle.ov_host.specs.Extent.{pages_of}
use Rattle.ov_catalog.specs.Numbers.{PartNumbers, TargetNumbers, PlanNumbers, SetNumbers, Numbers}
use Rattle.ov_catalog.specs.Events.{Event, Init, Commit, Plan, Copy, Flip, Drop, Base, Whole, Wide, numbered, is_one, is_empty, leaving, current}

abbrev pub of_plan : Option (PlanNumbers Extent) → List Extent
of_plan None = []
of_plan (Some plan) = plan.segments

-- of a dataset: the lists of its versions, the segments of its partitions, and those copied for its plan's target
abbrev pub of_set : SetNumbers Extent Extent → List Extent
of_set d = map (λ v. v.list) d.versions ++ (flat_map (λ part. part.segments) d.parts ++ of_plan d.plan)

abbrev pub live : Numbers Extent Extent → List Extent
live n = flat_map of_set n.sets

abbrev pub brought : Event Extent Extent → List Extent
brought (Init name schema rows list segments) = list ∷ segments
brought (Commit cvd vid message parents rows fresh place added list segments) = list ∷ segments
brought (Plan cvd p q targets) = []
brought (Copy cvd count segments) = segments
brought (Flip cvd) = []
brought (Drop cvd) = []
brought (Base next) = []
brought (Whole d) = of_set d
brought (Wide cvd vid message columns parents rows fresh place added list segments) = list ∷ segments

-- the segments, counted from `at` on, that are at none of these places
abbrev pub others : ℕ → List ℕ → List Extent → List Extent
others at places [] = []
others at places (segment ∷ segments) =
    if is_one places at then others (at + 1) places segments else segment ∷ others (at + 1) places segments

-- what a partition without versions gives up to a target: its segments, but for those that the target keeps of its source
abbrev pub parted_with : TargetNumbers → PartNumbers Extent → List Extent
parted_with t part = if part.id == t.source then others 0 t.kept part.segments else part.segments

-- the partitions that a target leaves without versions
abbrev pub emptied : TargetNumbers → List (PartNumbers Extent) → List (PartNumbers Extent)
emptied t parts = filter (λ part. is_empty (leaving t.versions part)) parts

abbrev pub given_by : Option (PlanNumbers Extent) → List (PartNumbers Extent) → List Extent
given_by None parts = []
given_by (Some plan) parts = flat_map (parted_with (current plan)) (emptied (current plan) parts)

-- A flip gives up segments of the partitions that it empties, and a drop all extents of its dataset. Where a snapshot begins,
-- what stood before it goes; it begins a half, where nothing stands yet.
abbrev pub given_up : Event Extent Extent → Numbers Extent Extent → List Extent
given_up (Init name schema rows list segments) n = []
given_up (Commit cvd vid message parents rows fresh place added list segments) n = []
given_up (Plan cvd p q targets) n = []
given_up (Copy cvd count segments) n = []
given_up (Flip cvd) n = flat_map (λ d. given_by d.plan d.parts) (filter (numbered cvd) n.sets)
given_up (Drop cvd) n = flat_map of_set (filter (numbered cvd) n.sets)
given_up (Base next) n = live n
given_up (Whole d) n = []
given_up (Wide cvd vid message columns parents rows fresh place added list segments) n = []

-- whether an extent covers a page
abbrev pub has_page : Extent → ℕ → Bool
has_page e page = nat_le e.page page && nat_lt page (e.page + pages_of e)

-- how many of these extents cover a page
abbrev pub covers : List Extent → ℕ → ℕ
covers [] page = 0
covers (e ∷ es) page = (if has_page e page then 1 else 0) + covers es page

pub record AreApart (es : List Extent) (pages : ℕ) : Type 0 where
  pub once : (page : ℕ) → covers es page ≤ 1
  pub inside : (page : ℕ) → 1 ≤ covers es page → page < pages
