-- A flip's extents, counted by any weight: what the target keeps of its source, what is given up and what stays are all that
-- was there, where the source is one partition that goes with the flip.
use Rattle.std.proofs.Common.{◌≡◌, ◌≤◌, ◌<◌, ◌⊎◌, ℕ, ◌+◌, ◌-◌, Bool, true, false, ◌==◌, List, [], ◌∷◌, ◌++◌, length, map, filter, refl, sym, ◌∙◌, ap, subst, inl, inr, arith}
use Rattle.std.specs.Prelude.{◌≢◌, ◌||◌, not, nat_lt, if◌then◌else◌, Option, Some, None}
use Rattle.std.specs.List.{flat_map}
use Rattle.std.proofs.Math.Nat.{eq-or-lt_of_le}
use Rattle.std.proofs.lemmas.Bool.{cases_Bool, cond-true, cond-false, eq-eqb, eqb-true, ne_eqb}
use Rattle.std.proofs.lemmas.Grind.{flat_map-append}
use Rattle.ov_host.specs.declared.area.Extent.{Extent}
use Rattle.ov_event.specs.declared.event.PlanTarget.{PlanTarget}
use Rattle.law_partitions.specs.Pieces.{AreBelow}
use Rattle.law_partitions.specs.Sources.{AscendFrom}
use Rattle.ov_catalog.specs.Numbers.{PartNumbers, TargetNumbers, PlanNumbers, SetNumbers}
use Rattle.ov_catalog.specs.Events.{planned, copied_for, copied_more, leaving, is_empty, left_parts, is_one, segments_at, one_at, chosen, current, target_part, flipped_by, flipped, numbered, change}
use Rattle.ov_catalog.specs.Extents.{of_plan, of_set, others, parted_with, emptied, given_by}
pub use Rattle.ov_catalog.specs.Sources.{NoPart, GoesWith, KeepsOfOne, MayFlip, NoSet, FlipFits}

-- ---- places

others_past : (at place : ℕ) (places : List ℕ) (segments : List Extent) → place < at → others at (place ∷ places) segments ≡ others at places segments
others_past at place places [] low = refl
others_past at place places (segment ∷ segments) low =
    let same : is_one (place ∷ places) at ≡ is_one places at = ap (λ b. b || is_one places at) (ne_eqb place at (λ e. omega (arith, e, low)))
    in let rest : others (at + 1) (place ∷ places) segments ≡ others (at + 1) places segments = others_past (at + 1) place places segments (omega (arith, low))
    in λ i. if same i then rest i else segment ∷ rest i

none_here : (at least : ℕ) (places : List ℕ) → at < least → AscendFrom least places → is_one places at ≡ false
none_here at least [] low up = refl
none_here at least (place ∷ places) low up =
    ap (λ b. b || is_one places at) (ne_eqb place at (λ e. omega (arith, e, low, up.0))) ∙ none_here at (place + 1) places (omega (arith, low, up.0)) up.1

-- those at these places, counted from `at` on
abbrev chosen_from : ℕ → List ℕ → List Extent → List Extent
chosen_from at places segments = flat_map (λ place. one_at segments (place - at)) places

chosen_behind : (at least : ℕ) (places : List ℕ) (segment : Extent) (segments : List Extent) → at < least → AscendFrom least places
    → chosen_from at places (segment ∷ segments) ≡ chosen_from (at + 1) places segments
chosen_behind at least [] segment segments low up = refl
chosen_behind at least (place ∷ places) segment segments low up =
    let minus : place - at - 1 ≡ place - (at + 1) = omega arith
    in let one : one_at (segment ∷ segments) (place - at) ≡ one_at segments (place - (at + 1)) =
    cond-false ((place - at) == 0) (segment ∷ []) (one_at segments (place - at - 1)) (ne_eqb (place - at) 0 (λ e. omega (arith, e, low, up.0)))
    ∙ ap (one_at segments) minus
    in λ i. one i ++ chosen_behind at (place + 1) places segment segments (omega (arith, low, up.0)) up.1 i

all_chosen : (places : List ℕ) (segments : List Extent) → chosen_from 0 places segments ≡ chosen places segments
all_chosen [] segments = refl
all_chosen (place ∷ places) segments =
    let same : place - 0 ≡ place = omega arith
    in λ i. one_at segments (same i) ++ all_chosen places segments i

none_chosen : (places : List ℕ) → chosen {S = Extent} places [] ≡ []
none_chosen [] = refl
none_chosen (place ∷ places) = none_chosen places

no_others : (at : ℕ) (segments : List Extent) → others at [] segments ≡ segments
no_others at [] = refl
no_others at (segment ∷ segments) = ap (λ es. segment ∷ es) (no_others (at + 1) segments)

below_same : (a b : ℕ) (places : List ℕ) → a ≡ b → AreBelow a places → AreBelow b places
below_same a b places same low = subst (λ n. AreBelow n places) same low

both : {X : Type 0} (b : Bool) → b ≡ true → b ≡ false → X
both true e f = cc
both false e f = cc

apart : (place at : ℕ) → (place == at) ≡ false → place ≢ at
apart place at other same = both (place == at) (eq-eqb place at same) other

above : (place at : ℕ) → at ≤ place → place ≢ at → at + 1 ≤ place
above place at low other =
    elim (eq-or-lt_of_le low) [
      | inl same ↦ absurd (other (sym same))
      | inr less ↦ omega (arith, less)
    ]

-- ---- weights

abbrev pub total : (Extent → ℕ) → List Extent → ℕ
total w [] = 0
total w (e ∷ es) = w e + total w es

module _ (w : Extent → ℕ) where
  pub total-append : (a b : List Extent) → total w (a ++ b) ≡ total w a + total w b
  total-append [] b = omega arith
  total-append (e ∷ a) b = omega (arith, total-append a b)

  -- the first segment is at the first of these places
  split_here : (at place : ℕ) (places : List ℕ) (segment : Extent) (segments : List Extent) → place ≡ at → AscendFrom (at + 1) places
      → total w (chosen_from (at + 1) places segments) + total w (others (at + 1) places segments) ≡ total w segments
      → total w (chosen_from at (place ∷ places) (segment ∷ segments)) + total w (others at (place ∷ places) (segment ∷ segments)) ≡ total w (segment ∷ segments)
  split_here at place places segment segments same up rest =
      let zero : place - at ≡ 0 = omega (arith, same)
      in let one : one_at (segment ∷ segments) (place - at) ≡ segment ∷ [] = ap (one_at (segment ∷ segments)) zero
      in let first : chosen_from at (place ∷ places) (segment ∷ segments) ≡ segment ∷ chosen_from (at + 1) places segments =
      λ i. one i ++ chosen_behind at (at + 1) places segment segments (omega arith) up i
      in let here : is_one (place ∷ places) at ≡ true = ap (λ n. is_one (place ∷ places) n) (sym same) ∙ found place places
      in let left : others at (place ∷ places) (segment ∷ segments) ≡ others (at + 1) places segments =
      cond-true (is_one (place ∷ places) at) (others (at + 1) (place ∷ places) segments) (segment ∷ others (at + 1) (place ∷ places) segments) here
      ∙ others_past (at + 1) place places segments (omega (arith, same))
      in omega (arith, ap (total w) first, ap (total w) left, rest)
    where
      found : (n : ℕ) (ns : List ℕ) → is_one (n ∷ ns) n ≡ true
      found n ns = ap (λ b. b || is_one ns n) (eq-eqb n n refl)

  -- it is before all of them
  split_later : (at : ℕ) (places : List ℕ) (segment : Extent) (segments : List Extent) → AscendFrom (at + 1) places
      → total w (chosen_from (at + 1) places segments) + total w (others (at + 1) places segments) ≡ total w segments
      → total w (chosen_from at places (segment ∷ segments)) + total w (others at places (segment ∷ segments)) ≡ total w (segment ∷ segments)
  split_later at places segment segments up rest =
      let first : chosen_from at places (segment ∷ segments) ≡ chosen_from (at + 1) places segments = chosen_behind at (at + 1) places segment segments (omega arith) up
      in let left : others at places (segment ∷ segments) ≡ segment ∷ others (at + 1) places segments =
      cond-false (is_one places at) (others (at + 1) places segments) (segment ∷ others (at + 1) places segments) (none_here at (at + 1) places (omega arith) up)
      in omega (arith, ap (total w) first, ap (total w) left, rest)

  split : (at : ℕ) (places : List ℕ) (segments : List Extent) → AscendFrom at places → AreBelow (at + length segments) places
      → total w (chosen_from at places segments) + total w (others at places segments) ≡ total w segments
  split at [] [] up low = omega arith
  split at (place ∷ places) [] up low = absurd (omega (arith, up.0, low.0))
  split at [] (segment ∷ segments) up low = split_later at [] segment segments tt (split (at + 1) [] segments tt tt)
  split at (place ∷ places) (segment ∷ segments) up low =
      elim (cases_Bool (place == at)) [
        | inl is ↦
            let same : place ≡ at = eqb-true place at is
            in let next : AscendFrom (at + 1) places = subst (λ n. AscendFrom (n + 1) places) same up.1
            in split_here at place places segment segments same next
            (split (at + 1) places segments next (below_same (at + length (segment ∷ segments)) (at + 1 + length segments) places (omega arith) low.1))
        | inr other ↦
            let next : AscendFrom (at + 1) (place ∷ places) = (above place at up.0 (apart place at other), up.1)
            in split_later at (place ∷ places) segment segments next
            (split (at + 1) (place ∷ places) segments next (below_same (at + length (segment ∷ segments)) (at + 1 + length segments) (place ∷ places) (omega arith) low))
      ]

  -- ---- partitions

  abbrev over : List (PartNumbers Extent) → ℕ
  over parts = total w (flat_map (λ part. part.segments) parts)

  abbrev given : TargetNumbers → List (PartNumbers Extent) → ℕ
  given t parts = total w (flat_map (parted_with t) (emptied t parts))

  -- a partition goes, or it stays with its segments
  part_if : (t : TargetNumbers) (goes : Bool) (part : PartNumbers Extent) (stay gone : List (PartNumbers Extent)) (own : ℕ)
      → (goes ≡ true → total w (parted_with t part) ≡ own) → (goes ≡ false → total w part.segments ≡ own)
      → over (if not goes then leaving t.versions part ∷ stay else stay) + total w (flat_map (parted_with t) (if goes then part ∷ gone else gone))
      ≡ own + (over stay + total w (flat_map (parted_with t) gone))
  part_if t true part stay gone own parted kept = omega (arith, parted refl, total-append (parted_with t part) (flat_map (parted_with t) gone))
  part_if t false part stay gone own parted kept = omega (arith, kept refl, total-append part.segments (flat_map (λ p. p.segments) stay))

  over_cons : (part : PartNumbers Extent) (parts : List (PartNumbers Extent)) → over (part ∷ parts) ≡ total w part.segments + over parts
  over_cons part parts = total-append part.segments (flat_map (λ p. p.segments) parts)

  -- where none gives up less than its segments, those that go and those that stay are all
  abbrev AllWhole : TargetNumbers → List (PartNumbers Extent) → Type 0
  AllWhole t [] = Unit {0}
  AllWhole t (part ∷ parts) = (parted_with t part ≡ part.segments) × AllWhole t parts

  whole_counts : (t : TargetNumbers) (parts : List (PartNumbers Extent)) → AllWhole t parts → over (left_parts t.versions parts) + given t parts ≡ over parts
  whole_counts t [] whole = omega arith
  whole_counts t (part ∷ parts) whole =
      omega (
        arith,
        part_if t (is_empty (leaving t.versions part)) part (left_parts t.versions parts) (emptied t parts) (total w part.segments) (λ e. ap (total w) whole.0) (λ e. refl),
        whole_counts t parts whole.1,
        over_cons part parts,
      )

  none_whole : (t : TargetNumbers) (parts : List (PartNumbers Extent)) → NoPart t.source parts → AllWhole t parts
  none_whole t [] none = tt
  none_whole t (part ∷ parts) none =
      (cond-false (part.id == t.source) (others 0 t.kept part.segments) part.segments (ne_eqb part.id t.source none.0), none_whole t parts none.1)

  nothing_whole : (t : TargetNumbers) (parts : List (PartNumbers Extent)) → t.kept ≡ [] → AllWhole t parts
  nothing_whole t [] none = tt
  nothing_whole t (part ∷ parts) none = (by (part.id == t.source), nothing_whole t parts none)
    where
      by : (b : Bool) → (if b then others 0 t.kept part.segments else part.segments) ≡ part.segments
      by true = ap (λ places. others 0 places part.segments) none ∙ no_others 0 part.segments
      by false = refl

  -- with what is kept of the source
  source_counts : (t : TargetNumbers) (parts : List (PartNumbers Extent)) → AscendFrom 0 t.kept → AreBelow (length (segments_at t.source parts)) t.kept → GoesWith t.versions t.source parts
      → total w (chosen t.kept (segments_at t.source parts)) + (over (left_parts t.versions parts) + given t parts) ≡ over parts
  source_counts t [] up low goes = omega (arith, ap (total w) (none_chosen t.kept))
  source_counts t (part ∷ parts) up low goes =
      elim (cases_Bool (part.id == t.source)) [
        | inl is ↦
            let own : segments_at t.source (part ∷ parts) ≡ part.segments = cond-true (part.id == t.source) part.segments (segments_at t.source parts) is
            in let parted : parted_with t part ≡ others 0 t.kept part.segments = cond-true (part.id == t.source) (others 0 t.kept part.segments) part.segments is
            in let alone = goes.0 (eqb-true part.id t.source is)
            in omega (
              arith,
              ap (λ es. total w (chosen t.kept es)) own,
              ap (total w) (all_chosen t.kept part.segments),
              split 0 t.kept part.segments up (below_same (length (segments_at t.source (part ∷ parts))) (0 + length part.segments) t.kept (ap length own ∙ omega arith) low),
              part_if t (is_empty (leaving t.versions part)) part (left_parts t.versions parts) (emptied t parts) (total w (others 0 t.kept part.segments))
                  (λ e. ap (total w) parted) (λ e. both (is_empty (leaving t.versions part)) alone.0 e),
              whole_counts t parts (none_whole t parts alone.1),
              over_cons part parts,
            )
        | inr other ↦
            let behind : segments_at t.source (part ∷ parts) ≡ segments_at t.source parts = cond-false (part.id == t.source) part.segments (segments_at t.source parts) other
            in let parted : parted_with t part ≡ part.segments = cond-false (part.id == t.source) (others 0 t.kept part.segments) part.segments other
            in omega (
              arith,
              ap (λ es. total w (chosen t.kept es)) behind,
              part_if t (is_empty (leaving t.versions part)) part (left_parts t.versions parts) (emptied t parts) (total w part.segments) (λ e. ap (total w) parted) (λ e. refl),
              source_counts t parts up (subst (λ es. AreBelow (length es) t.kept) behind low) goes.1,
              over_cons part parts,
            )
      ]

  kept_counts : (t : TargetNumbers) (parts : List (PartNumbers Extent)) → KeepsOfOne t parts
      → total w (chosen t.kept (segments_at t.source parts)) + (over (left_parts t.versions parts) + given t parts) ≡ over parts
  kept_counts t parts is = by is.goes
    where
      by : (t.kept ≡ []) ⊎ GoesWith t.versions t.source parts
          → total w (chosen t.kept (segments_at t.source parts)) + (over (left_parts t.versions parts) + given t parts) ≡ over parts
      by (inl none) =
          omega (arith, ap (λ places. total w (chosen places (segments_at t.source parts))) none, whole_counts t parts (nothing_whole t parts none))
      by (inr goes) = source_counts t parts is.ascend is.below goes

  -- ---- a dataset

  set_total : (d : SetNumbers Extent Extent) → total w (of_set d) ≡ total w (map (λ v. v.list) d.versions) + (over d.parts + total w (of_plan d.plan))
  set_total d =
      omega (
        arith,
        total-append (map (λ v. v.list) d.versions) (flat_map (λ part. part.segments) d.parts ++ of_plan d.plan),
        total-append (flat_map (λ part. part.segments) d.parts) (of_plan d.plan),
      )

  none_copied : (b : Bool) (plan : PlanNumbers Extent)
      → of_plan (if b then Some (record { p = plan.p; q = plan.q; targets = plan.targets; at = plan.at + 1; copied = 0; segments = [] }) else None) ≡ []
  none_copied true plan = refl
  none_copied false plan = refl

  flip_set : (d : SetNumbers Extent Extent) (plan : Option (PlanNumbers Extent)) → d.plan ≡ plan → MayFlip plan d.parts
      → total w (of_set (flipped_by plan d)) + total w (given_by plan d.parts) ≡ total w (of_set d)
  flip_set d None e may = omega arith
  flip_set d (Some plan) e may =
      let t : TargetNumbers = current plan
      in let new : PartNumbers Extent = target_part d.next_part d.parts plan
      in omega (
        arith,
        set_total d,
        ap (λ found. total w (of_plan found)) e,
        set_total (flipped_by (Some plan) d),
        ap (total w) (flat_map-append (λ part. part.segments) (left_parts t.versions d.parts) (new ∷ [])),
        total-append (flat_map (λ part. part.segments) (left_parts t.versions d.parts)) (flat_map (λ part. part.segments) (new ∷ [])),
        over_cons new [],
        total-append (chosen t.kept (segments_at t.source d.parts)) plan.segments,
        ap (total w) (none_copied (nat_lt (plan.at + 1) (length plan.targets)) plan),
        kept_counts t d.parts may,
      )

  -- a plan begins with nothing copied, where none runs
  pub plan_set : (p q : ℕ) (targets : List PlanTarget) (d : SetNumbers Extent Extent) → d.plan ≡ None → total w (of_set (planned p q targets d)) ≡ total w (of_set d)
  plan_set p q targets d e = omega (arith, set_total (planned p q targets d), set_total d, ap (λ found. total w (of_plan found)) e)

  -- a copy's segments come to a plan that runs
  pub copy_set : (count : ℕ) (segments : List Extent) (d : SetNumbers Extent Extent) (plan : PlanNumbers Extent) → d.plan ≡ Some plan
      → total w (of_set (copied_more count segments d)) ≡ total w segments + total w (of_set d)
  copy_set count segments d plan e =
      omega (
        arith,
        set_total (copied_more count segments d),
        set_total d,
        ap (λ found. total w (of_plan found)) e,
        ap (λ found. total w (of_plan (copied_for count segments found))) e,
        total-append plan.segments segments,
      )

  -- ---- all datasets

  live_cons : (d : SetNumbers Extent Extent) (sets : List (SetNumbers Extent Extent)) → total w (flat_map of_set (d ∷ sets)) ≡ total w (of_set d) + total w (flat_map of_set sets)
  live_cons d sets = total-append (of_set d) (flat_map of_set sets)

  abbrev given_at : ℕ → List (SetNumbers Extent Extent) → ℕ
  given_at cvd sets = total w (flat_map (λ d. given_by d.plan d.parts) (filter (numbered cvd) sets))

  none_given : (cvd : ℕ) (sets : List (SetNumbers Extent Extent)) → NoSet cvd sets → filter (numbered cvd) sets ≡ []
  none_given cvd [] none = refl
  none_given cvd (d ∷ sets) none =
      cond-false (numbered cvd d) (d ∷ filter (numbered cvd) sets) (filter (numbered cvd) sets) (ne_eqb d.number cvd none.0) ∙ none_given cvd sets none.1

  -- what a flip leaves and what it gives up are what was there
  pub flip_total : (cvd : ℕ) (sets : List (SetNumbers Extent Extent)) → FlipFits cvd sets
      → total w (flat_map of_set (change cvd flipped sets)) + total w (flat_map (λ d. given_by d.plan d.parts) (filter (numbered cvd) sets)) ≡ total w (flat_map of_set sets)
  flip_total cvd [] fits = omega arith
  flip_total cvd (d ∷ sets) fits = by (numbered cvd d) (λ e. fits.0 (eqb-true d.number cvd e)) (flip_total cvd sets fits.1)
    where
      by : (b : Bool) → (b ≡ true → MayFlip d.plan d.parts × NoSet cvd sets)
          → total w (flat_map of_set (change cvd flipped sets)) + given_at cvd sets ≡ total w (flat_map of_set sets)
          → total w (flat_map of_set (if b then flipped d ∷ sets else d ∷ change cvd flipped sets))
          + total w (flat_map (λ x. given_by x.plan x.parts) (if b then d ∷ filter (numbered cvd) sets else filter (numbered cvd) sets))
          ≡ total w (flat_map of_set (d ∷ sets))
      by true is rest =
          omega (
            arith,
            live_cons (flipped d) sets,
            live_cons d sets,
            flip_set d d.plan refl (is refl).0,
            total-append (given_by d.plan d.parts) (flat_map (λ x. given_by x.plan x.parts) (filter (numbered cvd) sets)),
            ap (λ xs. total w (flat_map (λ x. given_by x.plan x.parts) xs)) (none_given cvd sets (is refl).1),
          )
      by false is rest = omega (arith, live_cons d (change cvd flipped sets), live_cons d sets, rest)
