-- Extents counted by any weight: what an event that applies brings and gives up, no more and no less.
use Rattle.std.proofs.Common.{◌≡◌, ◌⊎◌, inl, inr, ℕ, ◌+◌, Bool, true, false, ◌==◌, List, [], ◌∷◌, ◌++◌, length, map, refl, ap, subst, arith}
use Rattle.std.specs.Prelude.{◌&&◌, Option, Some, None, is_none, not, nat_le, if◌then◌else◌, filter, find, cond}
use Rattle.std.specs.Option.{option_or}
use Rattle.std.specs.List.{flat_map, sum_by}
use Rattle.std.proofs.lemmas.List.{map-append}
use Rattle.std.proofs.lemmas.List.Sums.{sum_by-cons}
use Rattle.std.proofs.lemmas.Grind.{flat_map-append}
use Rattle.ov_host.specs.declared.area.Extent.{Extent}
use Rattle.ov_event.specs.declared.event.Event as raw
use Rattle.ov_event.specs.declared.event.Event.TheVariants as says
use Rattle.ov_place.specs.declared.place_facts.Place.{Place}
use Rattle.ov_place.specs.declared.place_facts.Place.TheVariants.{Own, Join}
use Rattle.ov_layout.specs.Changes.{extents_of}
use Rattle.ov_event.specs.declared.event.PlanTarget.{PlanTarget}
use Rattle.ov_catalog.specs.declared.field.Field.{Field}
use Rattle.ov_catalog.specs.declared.field.Field.TheVariants as off
use Rattle.ov_catalog.specs.Numbers.{VersionNumbers, PartNumbers, PlanNumbers, Numbers}
use Rattle.ov_catalog.specs.Events.{own_part, with_joined, join_at, parts_with, version_of, new_set, with_columns, with_version, parts_at, targets_of, planned, copied_more, numbered, change, applied}
use Rattle.ov_catalog.specs.Extents.{of_plan, of_set, live, brought, given_up, covers}
use Rattle.ov_catalog.specs.Applying.{first_off, off_unless, commit_off, of_live, set_numbered, wide_off}
use Rattle.ov_catalog.specs.Planning.{is_threshold, are_targets, plan_off, of_running, copy_off}
use Rattle.ov_catalog.specs.Raw.{event_in, place_in, shape_in}
use Rattle.ov_catalog.specs.Sources.{IsApart}
use Rattle.ov_catalog.proofs.Covering.{covers_total, weighed}
use Rattle.ov_catalog.proofs.FlipCounts.{total-append, plan_set, copy_set, flip_total}
pub use Rattle.ov_catalog.proofs.FlipCounts.{total}
use Rattle.ov_catalog.proofs.Serving.{Set, IsNumbered, IsThere, AllServed, behind_format, found_served, live_found, place_there, wide_commits}

pub sum_total : (w : Extent → ℕ) (es : List Extent) → sum_by w es ≡ total w es
sum_total w [] = refl
sum_total w (e ∷ es) = omega (arith, sum_by-cons w e es, sum_total w es)

-- a plan that begins finds none, and a step finds one
idle : (p q : ℕ) (targets : List PlanTarget) (d : Set) → plan_off p q targets d ≡ None → d.plan ≡ None
idle p q targets d applies = by d.plan applies
  where
    by : (plan : Option (PlanNumbers Extent))
        → option_or (off_unless (is_none plan && (is_threshold p q && nat_le d.next_part 4294000000)) off.Plan)
        (off_unless (length targets == length (parts_at p q d) && are_targets d (targets_of (parts_at p q d) targets)) off.Count)
        ≡ None → plan ≡ None
    by None h = refl
    by (Some plan) h = absurd cc

running : (test : PlanNumbers Extent → Option Field) (found : Option (PlanNumbers Extent)) → of_running test found ≡ None → (plan : PlanNumbers Extent) × (found ≡ Some plan)
running test None h = absurd cc
running test (Some plan) h = (plan, refl)

module _ (w : Extent → ℕ) where
  over_cons : (part : PartNumbers Extent) (parts : List (PartNumbers Extent)) → total w (flat_map (λ p. p.segments) (part ∷ parts)) ≡ total w part.segments + total w (flat_map (λ p. p.segments) parts)
  over_cons part parts = total-append w part.segments (flat_map (λ p. p.segments) parts)

  join_total : (id vid added : ℕ) (segments : List Extent) (parts : List (PartNumbers Extent)) → IsNumbered parts id
      → total w (flat_map (λ p. p.segments) (join_at id vid added segments parts)) ≡ total w (flat_map (λ p. p.segments) parts) + total w segments
  join_total id vid added segments [] is = absurd is
  join_total id vid added segments (part ∷ parts) is = by (part.id == id) (join_total id vid added segments parts) is
    where
      by : (b : Bool)
          → (IsNumbered parts id → total w (flat_map (λ p. p.segments) (join_at id vid added segments parts)) ≡ total w (flat_map (λ p. p.segments) parts) + total w segments)
          → (b ≡ true) ⊎ IsNumbered parts id
          → total w (flat_map (λ p. p.segments) (if b then with_joined vid added segments part ∷ parts else part ∷ join_at id vid added segments parts))
          ≡ total w (flat_map (λ p. p.segments) (part ∷ parts)) + total w segments
      by true rest h = omega (arith, over_cons (with_joined vid added segments part) parts, over_cons part parts, total-append w part.segments segments)
      by false rest (inl h) = absurd cc
      by false rest (inr later) = omega (arith, over_cons part (join_at id vid added segments parts), over_cons part parts, rest later)

  parts_total : (place : Place) (next vid added : ℕ) (segments : List Extent) (parts : List (PartNumbers Extent)) → IsThere place parts
      → total w (flat_map (λ p. p.segments) (parts_with place next vid added segments parts)) ≡ total w (flat_map (λ p. p.segments) parts) + total w segments
  parts_total Own next vid added segments parts there =
      let split : total w (flat_map (λ p. p.segments) (parts ++ own_part next vid added segments ∷ [])) ≡ total w (flat_map (λ p. p.segments) parts ++ flat_map (λ p. p.segments) (own_part next vid added segments ∷ [])) =
      ap (total w) (flat_map-append (λ p. p.segments) parts (own_part next vid added segments ∷ []))
      in let last : total w (flat_map (λ p. p.segments) (own_part next vid added segments ∷ [])) ≡ total w segments + total w [] = over_cons (own_part next vid added segments) []
      in omega (arith, split, last, total-append w (flat_map (λ p. p.segments) parts) (flat_map (λ p. p.segments) (own_part next vid added segments ∷ [])))
  parts_total (Join id) next vid added segments parts there = join_total id vid added segments parts there

  set_total : (d : Set) → total w (of_set d) ≡ total w (map (λ v. v.list) d.versions) + (total w (flat_map (λ p. p.segments) d.parts) + total w (of_plan d.plan))
  set_total d =
      omega (
        arith,
        total-append w (map (λ v. v.list) d.versions) (flat_map (λ p. p.segments) d.parts ++ of_plan d.plan),
        total-append w (flat_map (λ p. p.segments) d.parts) (of_plan d.plan),
      )

  version_total : (v : VersionNumbers Extent) (place : Place) (added : ℕ) (segments : List Extent) (d : Set) → IsThere place d.parts
      → total w (of_set (with_version v place added segments d)) ≡ total w (v.list ∷ segments) + total w (of_set d)
  version_total v place added segments d there =
      let lists : total w (map (λ x. x.list) (d.versions ++ v ∷ [])) ≡ total w (map (λ x. x.list) d.versions ++ v.list ∷ []) =
      ap (total w) (map-append (λ x. x.list) d.versions (v ∷ []))
      in omega (
        arith,
        lists,
        total-append w (map (λ x. x.list) d.versions) (v.list ∷ []),
        set_total d,
        set_total (with_version v place added segments d),
        parts_total place d.next_part (length d.versions + 1) added segments d.parts there,
      )

  live_cons : (d : Set) (sets : List Set) → total w (flat_map of_set (d ∷ sets)) ≡ total w (of_set d) + total w (flat_map of_set sets)
  live_cons d sets = total-append w (of_set d) (flat_map of_set sets)

  change_total : (cvd : ℕ) (f : Set → Set) (es : List Extent) (d : Set) (sets : List Set) → find (numbered cvd) sets ≡ Some d
      → total w (of_set (f d)) ≡ total w es + total w (of_set d)
      → total w (flat_map of_set (change cvd f sets)) ≡ total w es + total w (flat_map of_set sets)
  change_total cvd f es d [] is more = absurd cc
  change_total cvd f es d (x ∷ sets) is more = by (numbered cvd x) (λ later. change_total cvd f es d sets later more) is
    where
      by : (b : Bool) → (find (numbered cvd) sets ≡ Some d → total w (flat_map of_set (change cvd f sets)) ≡ total w es + total w (flat_map of_set sets)) → cond b (Some x) (find (numbered cvd) sets) ≡ Some d
          → total w (flat_map of_set (if b then f x ∷ sets else x ∷ change cvd f sets)) ≡ total w es + total w (flat_map of_set (x ∷ sets))
      by true rest same =
          let e : d ≡ x = cc
          in let here : total w (of_set (f x)) ≡ total w es + total w (of_set x) = subst (λ (y : Set). total w (of_set (f y)) ≡ total w es + total w (of_set y)) e more
          in omega (arith, live_cons (f x) sets, live_cons x sets, here)
      by false rest later = omega (arith, live_cons x (change cvd f sets), live_cons x sets, rest later)

  -- what goes and what stays
  drop_total : (cvd : ℕ) (sets : List Set)
      → total w (flat_map of_set (filter (λ d. not (numbered cvd d)) sets)) + total w (flat_map of_set (filter (numbered cvd) sets)) ≡ total w (flat_map of_set sets)
  drop_total cvd [] = omega arith
  drop_total cvd (d ∷ sets) = by (numbered cvd d) (drop_total cvd sets)
    where
      by : (b : Bool) → total w (flat_map of_set (filter (λ d. not (numbered cvd d)) sets)) + total w (flat_map of_set (filter (numbered cvd) sets)) ≡ total w (flat_map of_set sets)
          → total w (flat_map of_set (if not b then d ∷ filter (λ d. not (numbered cvd d)) sets else filter (λ d. not (numbered cvd d)) sets))
          + total w (flat_map of_set (if b then d ∷ filter (numbered cvd) sets else filter (numbered cvd) sets))
          ≡ total w (flat_map of_set (d ∷ sets))
      by true rest = omega (arith, live_cons d (filter (numbered cvd) sets), live_cons d sets, rest)
      by false rest = omega (arith, live_cons d (filter (λ x. not (numbered cvd x)) sets), live_cons d sets, rest)

  -- an event that applies: its extents come, those that it gives up go, and no others
  pub live_total : (format : ℕ) (e : raw.Event) (n : Numbers Extent Extent) → first_off format e n ≡ None → IsApart e n → AllServed n.sets
      → total w (live (applied (event_in e) n)) + total w (given_up (event_in e) n) ≡ total w (brought (event_in e)) + total w (live n)
  live_total format (says.Init name schema rows list segment) n h apart all =
      let segments : List Extent = extents_of segment
      in let new : Set = new_set n.next name (shape_in schema) rows list segments
      in let split : total w (flat_map of_set (n.sets ++ new ∷ [])) ≡ total w (flat_map of_set n.sets ++ flat_map of_set (new ∷ [])) = ap (total w) (flat_map-append of_set n.sets (new ∷ []))
      in let parts : total w (flat_map (λ p. p.segments) (own_part 1 1 rows segments ∷ [])) ≡ total w segments + total w [] = over_cons (own_part 1 1 rows segments) []
      in omega (arith, split, total-append w (flat_map of_set n.sets) (flat_map of_set (new ∷ [])), live_cons new [], set_total new, parts)
  live_total format (says.Commit cvd vid message parents rows fresh place added list segment) n h apart all =
      let found = live_found (commit_off vid message parents rows fresh (place_in place) added list segment) (set_numbered cvd n) h
      in let d : Set = found.0
      in let there : IsThere (place_in place) d.parts = place_there vid message parents rows fresh (place_in place) added list segment d found.2 (found_served cvd n.sets d found.1 all)
      in let one = change_total cvd (with_version (version_of parents message rows fresh list) (place_in place) added (extents_of segment)) (list ∷ extents_of segment) d n.sets found.1
      (version_total (version_of parents message rows fresh list) (place_in place) added (extents_of segment) d there)
      in omega (arith, one)
  live_total format (says.Drop cvd) n h apart all = omega (arith, drop_total cvd n.sets)
  live_total format (says.Plan cvd p q targets) n h apart all =
      let found = live_found (plan_off p q targets) (set_numbered cvd n) h
      in omega (arith, change_total cvd (planned p q targets) [] found.0 n.sets found.1 (omega (arith, plan_set w p q targets found.0 (idle p q targets found.0 found.2))))
  live_total format (says.Copy cvd count segment) n h apart all =
      let found = live_found (λ d. of_running (copy_off count segment) d.plan) (set_numbered cvd n) h
      in let plan = running (copy_off count segment) found.0.plan found.2
      in omega (arith, change_total cvd (copied_more count (extents_of segment)) (extents_of segment) found.0 n.sets found.1 (copy_set w count (extents_of segment) found.0 plan.0 plan.1))
  live_total format (says.Flip cvd) n h apart all = omega (arith, flip_total w cvd n.sets apart)
  live_total format (says.Base next) n h apart all = absurd cc
  live_total format (says.Whole set) n h apart all = absurd cc
  live_total format (says.Wide cvd vid message columns parents rows fresh place added list segment) n h apart all =
      let test = wide_off vid message columns parents rows fresh (place_in place) added list segment
      in let found = live_found test (set_numbered cvd n) (behind_format format (of_live test (set_numbered cvd n)) h)
      in let d : Set = found.0
      in let there : IsThere (place_in place) d.parts = place_there vid message parents rows fresh (place_in place) added list segment d
      (wide_commits vid message columns parents rows fresh (place_in place) added list segment d found.2) (found_served cvd n.sets d found.1 all)
      in let one = change_total cvd (λ s. with_version (version_of parents message rows fresh list) (place_in place) added (extents_of segment) (with_columns columns s))
      (list ∷ extents_of segment) d n.sets found.1
      (version_total (version_of parents message rows fresh list) (place_in place) added (extents_of segment) (with_columns columns d) there)
      in omega (arith, one)

-- the same of pages
pub live_covers : (page format : ℕ) (e : raw.Event) (n : Numbers Extent Extent) → first_off format e n ≡ None → IsApart e n → AllServed n.sets
    → covers (live (applied (event_in e) n)) page + covers (given_up (event_in e) n) page ≡ covers (brought (event_in e)) page + covers (live n) page
live_covers page format e n applies apart all =
    omega (
      arith,
      live_total (weighed page) format e n applies apart all,
      covers_total page (live (applied (event_in e) n)),
      covers_total page (given_up (event_in e) n),
      covers_total page (brought (event_in e)),
      covers_total page (live n),
    )
