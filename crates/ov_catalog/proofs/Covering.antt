-- Extents are counted by the pages that they cover.
use Rattle.std.proofs.Common.{◌≡◌, ◌≤◌, ℕ, ◌+◌, Bool, true, false, ◌==◌, List, [], ◌∷◌, ◌++◌, length, map, filter, refl, ap, arith}
use Rattle.std.specs.Prelude.{not, if◌then◌else◌, Option, Some, None}
use Rattle.std.specs.List.{flat_map}
use Rattle.std.proofs.lemmas.List.{map-append}
use Rattle.std.proofs.lemmas.Grind.{flat_map-append}
use Rattle.ov_host.specs.declared.area.Extent.{Extent}
use Rattle.ov_event.specs.declared.event.Event as raw
use Rattle.ov_event.specs.declared.event.Event.TheVariants as says
use Rattle.ov_layout.specs.Changes.{extents_of}
use Rattle.ov_place.specs.declared.place_facts.Place.{Place}
use Rattle.ov_place.specs.declared.place_facts.Place.TheVariants.{Own, Join}
use Rattle.ov_event.specs.declared.event.PlanTarget.{PlanTarget}
use Rattle.ov_catalog.specs.Numbers.{VersionNumbers, PartNumbers, PlanNumbers, SetNumbers, Numbers}
use Rattle.ov_catalog.specs.Events.{Flip, own_part, with_joined, join_at, parts_with, version_of, new_set, with_columns, with_version, planned, copied_for, copied_more, numbered, change, applied}
use Rattle.ov_catalog.specs.Extents.{of_plan, of_set, live, brought, given_up, has_page, covers}
use Rattle.ov_catalog.specs.Raw.{event_in, place_in, shape_in, whole_in}
use Rattle.ov_catalog.specs.Sources.{FlipFits, IsApart}
use Rattle.ov_catalog.proofs.FlipCounts.{total, flip_total}

covers-append : (a b : List Extent) (page : ℕ) → covers (a ++ b) page ≡ covers a page + covers b page
covers-append [] b page = omega arith
covers-append (e ∷ a) b page = omega (arith, covers-append a b page)

pub apart_events : (e : raw.Event) (n : Numbers Extent Extent) → ((cvd : ℕ) → FlipFits cvd n.sets) → IsApart e n
apart_events (says.Flip cvd) n fits = fits cvd
apart_events (says.Init name schema rows list segment) n fits = tt
apart_events (says.Commit cvd vid message parents rows fresh place added list segment) n fits = tt
apart_events (says.Plan cvd p q targets) n fits = tt
apart_events (says.Copy cvd count segment) n fits = tt
apart_events (says.Drop cvd) n fits = tt
apart_events (says.Base next) n fits = tt
apart_events (says.Whole said) n fits = tt
apart_events (says.Wide cvd vid message columns parents rows fresh place added list segment) n fits = tt

module _ (page : ℕ) where
  over : List (PartNumbers Extent) → ℕ
  over parts = covers (flat_map (λ part. part.segments) parts) page

  over_cons : (part : PartNumbers Extent) (parts : List (PartNumbers Extent)) → covers (flat_map (λ p. p.segments) (part ∷ parts)) page ≡ covers part.segments page + covers (flat_map (λ p. p.segments) parts) page
  over_cons part parts = covers-append part.segments (flat_map (λ p. p.segments) parts) page

  join_covers : (id vid added : ℕ) (segments : List Extent) (parts : List (PartNumbers Extent))
      → covers (flat_map (λ p. p.segments) (join_at id vid added segments parts)) page ≤ covers (flat_map (λ p. p.segments) parts) page + covers segments page
  join_covers id vid added segments [] = omega arith
  join_covers id vid added segments (part ∷ parts) = by (part.id == id) (join_covers id vid added segments parts)
    where
      by : (b : Bool) → covers (flat_map (λ p. p.segments) (join_at id vid added segments parts)) page ≤ covers (flat_map (λ p. p.segments) parts) page + covers segments page
          → covers (flat_map (λ p. p.segments) (if b then with_joined vid added segments part ∷ parts else part ∷ join_at id vid added segments parts)) page
          ≤ covers (flat_map (λ p. p.segments) (part ∷ parts)) page + covers segments page
      by true rest = omega (arith, over_cons (with_joined vid added segments part) parts, over_cons part parts, covers-append part.segments segments page)
      by false rest = omega (arith, over_cons part (join_at id vid added segments parts), over_cons part parts, rest)

  parts_cover : (place : Place) (next vid added : ℕ) (segments : List Extent) (parts : List (PartNumbers Extent))
      → covers (flat_map (λ p. p.segments) (parts_with place next vid added segments parts)) page ≤ covers (flat_map (λ p. p.segments) parts) page + covers segments page
  parts_cover Own next vid added segments parts =
      let split : covers (flat_map (λ p. p.segments) (parts ++ own_part next vid added segments ∷ [])) page ≡ covers (flat_map (λ p. p.segments) parts ++ flat_map (λ p. p.segments) (own_part next vid added segments ∷ [])) page =
      ap (λ es. covers es page) (flat_map-append (λ p. p.segments) parts (own_part next vid added segments ∷ []))
      in let last : covers (flat_map (λ p. p.segments) (own_part next vid added segments ∷ [])) page ≡ covers segments page + covers [] page = over_cons (own_part next vid added segments) []
      in omega (arith, split, last, covers-append (flat_map (λ p. p.segments) parts) (flat_map (λ p. p.segments) (own_part next vid added segments ∷ [])) page)
  parts_cover (Join id) next vid added segments parts = join_covers id vid added segments parts

  set_covers : (d : SetNumbers Extent Extent) → covers (of_set d) page ≡ covers (map (λ v. v.list) d.versions) page + (covers (flat_map (λ p. p.segments) d.parts) page + covers (of_plan d.plan) page)
  set_covers d =
      omega (
        arith,
        covers-append (map (λ v. v.list) d.versions) (flat_map (λ p. p.segments) d.parts ++ of_plan d.plan) page,
        covers-append (flat_map (λ p. p.segments) d.parts) (of_plan d.plan) page,
      )

  version_covers : (v : VersionNumbers Extent) (place : Place) (added : ℕ) (segments : List Extent) (d : SetNumbers Extent Extent)
      → covers (of_set (with_version v place added segments d)) page ≤ covers (v.list ∷ segments) page + covers (of_set d) page
  version_covers v place added segments d =
      let lists : covers (map (λ x. x.list) (d.versions ++ v ∷ [])) page ≡ covers (map (λ x. x.list) d.versions ++ v.list ∷ []) page =
      ap (λ es. covers es page) (map-append (λ x. x.list) d.versions (v ∷ []))
      in omega (
        arith,
        lists,
        covers-append (map (λ x. x.list) d.versions) (v.list ∷ []) page,
        set_covers d,
        set_covers (with_version v place added segments d),
        parts_cover place d.next_part (length d.versions + 1) added segments d.parts,
      )

  live_cons : (d : SetNumbers Extent Extent) (sets : List (SetNumbers Extent Extent)) → covers (flat_map of_set (d ∷ sets)) page ≡ covers (of_set d) page + covers (flat_map of_set sets) page
  live_cons d sets = covers-append (of_set d) (flat_map of_set sets) page

  change_covers : (number : ℕ) (f : SetNumbers Extent Extent → SetNumbers Extent Extent) (es : List Extent) (sets : List (SetNumbers Extent Extent))
      → ((d : SetNumbers Extent Extent) → covers (of_set (f d)) page ≤ covers es page + covers (of_set d) page)
      → covers (flat_map of_set (change number f sets)) page ≤ covers es page + covers (flat_map of_set sets) page
  change_covers number f es [] more = omega arith
  change_covers number f es (d ∷ sets) more = by (numbered number d) (change_covers number f es sets more)
    where
      by : (b : Bool) → covers (flat_map of_set (change number f sets)) page ≤ covers es page + covers (flat_map of_set sets) page
          → covers (flat_map of_set (if b then f d ∷ sets else d ∷ change number f sets)) page ≤ covers es page + covers (flat_map of_set (d ∷ sets)) page
      by true rest = omega (arith, live_cons (f d) sets, live_cons d sets, more d)
      by false rest = omega (arith, live_cons d (change number f sets), live_cons d sets, rest)

  -- what goes and what stays
  drop_covers : (number : ℕ) (sets : List (SetNumbers Extent Extent))
      → covers (flat_map of_set (filter (λ d. not (numbered number d)) sets)) page + covers (flat_map of_set (filter (numbered number) sets)) page ≡ covers (flat_map of_set sets) page
  drop_covers number [] = omega arith
  drop_covers number (d ∷ sets) = by (numbered number d) (drop_covers number sets)
    where
      by : (b : Bool) → covers (flat_map of_set (filter (λ d. not (numbered number d)) sets)) page + covers (flat_map of_set (filter (numbered number) sets)) page ≡ covers (flat_map of_set sets) page
          → covers (flat_map of_set (if not b then d ∷ filter (λ d. not (numbered number d)) sets else filter (λ d. not (numbered number d)) sets)) page
          + covers (flat_map of_set (if b then d ∷ filter (numbered number) sets else filter (numbered number) sets)) page
          ≡ covers (flat_map of_set (d ∷ sets)) page
      by true rest = omega (arith, live_cons d (filter (numbered number) sets), live_cons d sets, rest)
      by false rest = omega (arith, live_cons d (filter (λ x. not (numbered number x)) sets), live_cons d sets, rest)

  -- a plan begins with nothing copied
  plan_covers : (p q : ℕ) (targets : List PlanTarget) (d : SetNumbers Extent Extent) → covers (of_set (planned p q targets d)) page ≤ covers [] page + covers (of_set d) page
  plan_covers p q targets d = omega (arith, set_covers d, set_covers (planned p q targets d))

  copied_covers : (count : ℕ) (segments : List Extent) (plan : Option (PlanNumbers Extent)) → covers (of_plan (copied_for count segments plan)) page ≤ covers segments page + covers (of_plan plan) page
  copied_covers count segments None = omega arith
  copied_covers count segments (Some plan) = omega (arith, covers-append plan.segments segments page)

  copy_covers : (count : ℕ) (segments : List Extent) (d : SetNumbers Extent Extent) → covers (of_set (copied_more count segments d)) page ≤ covers segments page + covers (of_set d) page
  copy_covers count segments d = omega (arith, set_covers d, set_covers (copied_more count segments d), copied_covers count segments d.plan)

  -- pages are counted as extents by a weight
  abbrev pub weighed : Extent → ℕ
  weighed e = if has_page e page then 1 else 0

  pub covers_total : (es : List Extent) → covers es page ≡ total weighed es
  covers_total [] = refl
  covers_total (e ∷ es) = ap (λ n. (if has_page e page then 1 else 0) + n) (covers_total es)

  -- a flip frees what it gives up, and covers what it leaves as before
  pub flip_covers : (cvd : ℕ) (n : Numbers Extent Extent) → FlipFits cvd n.sets → covers (live (applied (Flip cvd) n)) page + covers (given_up (Flip cvd) n) page ≡ covers (live n) page
  flip_covers cvd n fits =
      omega (
        arith,
        flip_total weighed cvd n.sets fits,
        covers_total (live (applied (Flip cvd) n)),
        covers_total (given_up (Flip cvd) n),
        covers_total (live n),
      )

  -- an event's extents come, and no others
  pub live_applied : (e : raw.Event) (n : Numbers Extent Extent) → IsApart e n
      → covers (live (applied (event_in e) n)) page ≤ covers (brought (event_in e)) page + covers (live n) page
  live_applied (says.Init name schema rows list segment) n apart =
      let new : SetNumbers Extent Extent = new_set n.next name (shape_in schema) rows list (extents_of segment)
      in let split : covers (flat_map of_set (n.sets ++ new ∷ [])) page ≡ covers (flat_map of_set n.sets ++ flat_map of_set (new ∷ [])) page = ap (λ es. covers es page) (flat_map-append of_set n.sets (new ∷ []))
      in let parts : covers (flat_map (λ p. p.segments) (own_part 1 1 rows (extents_of segment) ∷ [])) page ≡ covers (extents_of segment) page + covers [] page = over_cons (own_part 1 1 rows (extents_of segment)) []
      in omega (arith, split, covers-append (flat_map of_set n.sets) (flat_map of_set (new ∷ [])) page, live_cons new [], set_covers new, parts)
  live_applied (says.Commit cvd vid message parents rows fresh place added list segment) n apart =
      change_covers cvd (with_version (version_of parents message rows fresh list) (place_in place) added (extents_of segment)) (list ∷ extents_of segment) n.sets
      (λ d. version_covers (version_of parents message rows fresh list) (place_in place) added (extents_of segment) d)
  live_applied (says.Drop cvd) n apart = omega (arith, drop_covers cvd n.sets)
  live_applied (says.Plan cvd p q targets) n apart = change_covers cvd (planned p q targets) [] n.sets (plan_covers p q targets)
  live_applied (says.Copy cvd count segment) n apart =
      change_covers cvd (copied_more count (extents_of segment)) (extents_of segment) n.sets (copy_covers count (extents_of segment))
  live_applied (says.Flip cvd) n apart = omega (arith, flip_covers cvd n apart)
  live_applied (says.Base next) n apart = omega arith
  live_applied (says.Whole said) n apart =
      let new : SetNumbers Extent Extent = whole_in said
      in let split : covers (flat_map of_set (n.sets ++ new ∷ [])) page ≡ covers (flat_map of_set n.sets ++ flat_map of_set (new ∷ [])) page = ap (λ es. covers es page) (flat_map-append of_set n.sets (new ∷ []))
      in omega (arith, split, covers-append (flat_map of_set n.sets) (flat_map of_set (new ∷ [])) page, live_cons new [])
  live_applied (says.Wide cvd vid message columns parents rows fresh place added list segment) n apart =
      change_covers cvd (λ d. with_version (version_of parents message rows fresh list) (place_in place) added (extents_of segment) (with_columns columns d))
      (list ∷ extents_of segment) n.sets
      (λ d. version_covers (version_of parents message rows fresh list) (place_in place) added (extents_of segment) (with_columns columns d))
