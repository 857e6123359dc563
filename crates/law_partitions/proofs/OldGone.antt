-- A partition that waits goes on to wait until it is gone.
use Rattle.std.proofs.Common.{◌≡◌, ◌≤◌, ◌<◌, ℕ, ◌+◌, Bool, true, false, ◌==◌, List, [], ◌∷◌, length, map, refl, sym, ◌∙◌, ap, subst, inl, inr, arith}
use Rattle.std.specs.Prelude.{◌≢◌, not, if◌then◌else◌, Option, Some, None}
use Rattle.std.proofs.lemmas.Bool.{eqb-true}
use Rattle.ov_place.specs.declared.place_facts.Place.{Place}
use Rattle.ov_place.specs.declared.place_facts.Place.TheVariants.{Own, Join}
use Rattle.ov_model.specs.Book.{Version}
use Rattle.ov_model.specs.Lists.{IsIn}
use Rattle.ov_model.specs.Moves.{placed_at, parts_with, with_joined, with_version, own_part}
use Rattle.ov_model.specs.Placed.{id_times, IsPlaced, HasParents}
use Rattle.ov_model.specs.Plans.{current, copied_for, copied_more, leaving, left_parts, target_part, flipped_by, flipped}
use Rattle.ov_model.specs.Records.{Rec, ordered_records}
use Rattle.ov_model.specs.World.{Part, Plan, Dataset, is_unmoved}
use Rattle.ov_model.proofs.Counting.{one_if, one_same}
use Rattle.law_partitions.specs.OldOrNew.{Runs, IsOld, IsNew, IsOldOrNew}
use Rattle.law_partitions.proofs.OldMoves.{flip_old, left_old}
use Rattle.law_partitions.proofs.OldTight.{first_listed}
use Rattle.law_partitions.proofs.OldParts.{in_append, in_filter, in_map, joins_new, some_id}

clash : {X : Type 0} → true ≡ false → X
clash e = cc

-- ---- one partition of a number

one_part : (parts : List Part) (a b : Part) → id_times parts a.id ≤ 1 → IsIn parts a → IsIn parts b → b.id ≡ a.id → b ≡ a
one_part [] a b once is_a is_b same = absurd is_a
one_part (x ∷ parts) a b once (inl here) (inl also) same = also ∙ sym here
one_part (x ∷ parts) a b once (inl here) (inr later) same =
    let one : one_if (x.id == a.id) ≡ 1 = one_same x.id a.id (λ i. (sym here i).id)
    in let more : 1 ≤ id_times parts a.id = subst (λ n. 1 ≤ id_times parts n) same (some_id parts b later)
    in absurd (omega (arith, once, one, more))
one_part (x ∷ parts) a b once (inr later) (inl here) same =
    let one : one_if (x.id == a.id) ≡ 1 = one_same x.id a.id ((λ i. (sym here i).id) ∙ same)
    in absurd (omega (arith, once, one, some_id parts a later))
one_part (x ∷ parts) a b once (inr later) (inr too) same = one_part parts a b (omega (arith, once)) later too same

-- the next number is no partition's
next_is_new : (d : Dataset) (part : Part) → IsPlaced d → IsIn d.parts part → d.next_part ≡ part.id → ⊥
next_is_new d part placed there same =
    omega (arith, some_id d.parts part there, placed.ids_below part.id (omega (arith, same)))

not_both : (plan : Option Plan) (part : Part) → 0 < length part.versions → IsOld plan part → IsNew plan part → ⊥
not_both plan part some old new =
    let first = first_listed part.versions some
    in clash (sym (old first.0 first.1) ∙ new.moved first.0 first.1)

module _ (d : Dataset) (placed : IsPlaced d) (is : IsOldOrNew d) (part : Part) (there : IsIn d.parts part) (old : IsOld d.plan part) where
  -- ---- a commit

  version_by : (v : Version) → HasParents v.parents d → (place : Place) → placed_at d v ≡ place → (after : Part)
      → IsIn (parts_with place d.next_part (length d.cvd.versions + 1) (ordered_records d.cvd.versions v) d.parts) after → after.id ≡ part.id → after ≡ part
  version_by v has Own e after there_after same =
      elim (in_append d.parts (own_part d.next_part (length d.cvd.versions + 1) (ordered_records d.cvd.versions v) ∷ []) after there_after) [
        | inl before ↦ one_part d.parts part after (placed.ids_once part.id) there before same
        | inr last ↦
            elim last [
              | inl own ↦ absurd (next_is_new d part placed there ((λ i. (sym own i).id) ∙ same))
              | inr none ↦ absurd none
            ]
      ]
  version_by v has (Join id) e after there_after same =
      let next : ℕ = length d.cvd.versions + 1
      in let rs : List Rec = ordered_records d.cvd.versions v
      in let from = in_map (λ x. if x.id == id then with_joined next rs x else x) d.parts after there_after
      in let kept : from.0 ≡ part =
      one_part d.parts part from.0 (placed.ids_once part.id) there from.1
      (sym (same_id (from.0.id == id) from.0 next rs) ∙ (λ i. (sym from.2 i).id) ∙ same)
      in from.2 ∙ not_joined (from.0.id == id) from.0 next rs (λ t. not_both d.plan part (is.some part there) old (joins_new d v id placed is has e part there ((λ i. (sym kept i).id) ∙ eqb-true from.0.id id t))) ∙ kept
    where
      same_id : (t : Bool) (x : Part) (next : ℕ) (rs : List Rec) → (if t then with_joined next rs x else x).id ≡ x.id
      same_id true x next rs = refl
      same_id false x next rs = refl

      not_joined : (t : Bool) (x : Part) (next : ℕ) (rs : List Rec) → (t ≡ true → ⊥) → (if t then with_joined next rs x else x) ≡ x
      not_joined true x next rs off = absurd (off refl)
      not_joined false x next rs off = refl

  pub version_waits : (v : Version) → HasParents v.parents d → (after : Part) → IsIn (with_version v d).parts after → after.id ≡ part.id → IsOld (with_version v d).plan after
  version_waits v has after there_after same = subst (IsOld d.plan) (sym (version_by v has (placed_at d v) refl after there_after same)) old

  -- ---- a step

  copied_by : (plan : Option Plan) (vid : ℕ) → is_unmoved (copied_for d plan) vid ≡ is_unmoved plan vid
  copied_by None vid = refl
  copied_by (Some plan) vid = refl

  pub copied_waits : (after : Part) → IsIn (copied_more d).parts after → after.id ≡ part.id → IsOld (copied_more d).plan after
  copied_waits after there_after same =
      subst (IsOld (copied_for d d.plan)) (sym (one_part d.parts part after (placed.ids_once part.id) there there_after same)) (λ vid some. copied_by d.plan vid ∙ old vid some)

  flipped_by_waits : (plan : Option Plan) → d.plan ≡ plan → (after : Part) → IsIn (flipped_by d plan).parts after → after.id ≡ part.id → IsOld (flipped_by d plan).plan after
  flipped_by_waits None e after there_after same =
      subst (IsOld d.plan) (sym (one_part d.parts part after (placed.ids_once part.id) there there_after same)) old
  flipped_by_waits (Some plan) e after there_after same =
      let moving : List ℕ = (current plan).versions
      in elim (in_append (left_parts moving d.parts) (target_part d plan ∷ []) after there_after) [
        | inl before ↦
            let full = in_filter (λ x. not (length x.versions == 0)) (map (leaving moving) d.parts) after before
            in let from = in_map (leaving moving) d.parts after full.0
            in let kept : from.0 ≡ part = one_part d.parts part from.0 (placed.ids_once part.id) there from.1 ((λ i. (sym from.2 i).id) ∙ same)
            in subst (IsOld (flipped_by d (Some plan)).plan) (sym (from.2 ∙ ap (leaving moving) kept))
            (left_old d plan (subst Runs e is.runs) part (subst (λ p. IsOld p part) e old))
        | inr last ↦
            elim last [
              | inl own ↦ absurd (next_is_new d part placed there ((λ i. (sym own i).id) ∙ same))
              | inr none ↦ absurd none
            ]
      ]

  pub flipped_waits : (after : Part) → IsIn (flipped d).parts after → after.id ≡ part.id → IsOld (flipped d).plan after
  flipped_waits after there_after same = flipped_by_waits d.plan refl after there_after same

  pub gone : (flipped d).plan ≡ None → (after : Part) → IsIn (flipped d).parts after → after.id ≢ part.id
  gone ends after there_after same =
      let still : IsOld None after = subst (λ p. IsOld p after) ends (flipped_waits after there_after same)
      in let first = first_listed after.versions ((flip_old d d.plan refl is).some after there_after)
      in clash (sym (still first.0 first.1))
