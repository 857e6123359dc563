-- Where numbers are those of a World, a flip's target keeps segments of one partition, which goes with it.
use Rattle.std.proofs.Common.{◌≡◌, ◌≤◌, ◌⊎◌, ℕ, Bool, true, false, ◌==◌, List, [], ◌∷◌, length, map, filter, refl, sym, ◌∙◌, ap, subst, inl, inr, arith}
use Rattle.std.specs.Prelude.{◌≢◌, not, if◌then◌else◌, Option, Some, None}
use Rattle.std.proofs.lemmas.List.{length-map}
use Rattle.ov_host.specs.declared.area.Extent.{Extent}
use Rattle.ov_model.specs.Lists.{IsIn}
use Rattle.ov_model.specs.Placed.{times, id_times, IsPlaced, ArePlaced}
use Rattle.ov_model.specs.Plans as plans
use Rattle.ov_model.specs.Plans.{pieces_of}
use Rattle.ov_model.specs.Records.{Rec, order_of}
use Rattle.ov_model.specs.World.{Part, Target, Plan, Dataset, World}
use Rattle.ov_model.proofs.Counting.{one_same}
use Rattle.law_partitions.specs.OldOrNew.{IsOldOrNew, AreOldOrNew}
use Rattle.law_partitions.specs.Pieces.{AreBelow, PlanIsUnderWay, HasPieces, ArePieces}
use Rattle.law_partitions.specs.Sources.{PlanIsSourced, AreSourced}
use Rattle.law_partitions.proofs.PieceFlip.{is_listed}
use Rattle.law_partitions.proofs.PieceMore.{current_kept}
use Rattle.law_partitions.proofs.SourceMoves.{own_sourced, emptied}
use Rattle.ov_catalog.specs.Numbers.{PartNumbers, TargetNumbers, PlanNumbers, SetNumbers, Numbers, each_part, each_plan, each_set}
use Rattle.ov_catalog.specs.Events as events
use Rattle.ov_catalog.specs.Events.{leaving, is_empty, is_one, segments_at}
use Rattle.ov_catalog.specs.Shown.{shown_part, shown_target, shown_plan, shown_set}
use Rattle.ov_catalog.specs.Stands.{Readings, seen, asked}
use Rattle.ov_catalog.proofs.Filling.{segments_each}
use Rattle.ov_catalog.proofs.FlipCounts.{NoPart, GoesWith, KeepsOfOne, MayFlip, NoSet, FlipFits}
use Rattle.ov_catalog.proofs.Good.{NoneNumbered, Distinct, IsGood}
use Rattle.ov_catalog.proofs.Migrating.{current_shown, segments_shown}

-- ---- whatever fills the holes

module _ {S T : Type 0} (g : S → T) where
  abbrev filled : List (PartNumbers S) → List (PartNumbers T)
  filled parts = map (each_part g) parts

  none_filled : (id : ℕ) (parts : List (PartNumbers S)) → NoPart id parts → NoPart id (filled parts)
  none_filled id [] none = tt
  none_filled id (part ∷ parts) none = (none.0, none_filled id parts none.1)

  none_unfilled : (id : ℕ) (parts : List (PartNumbers S)) → NoPart id (filled parts) → NoPart id parts
  none_unfilled id [] none = tt
  none_unfilled id (part ∷ parts) none = (none.0, none_unfilled id parts none.1)

  goes_filled : (versions : List ℕ) (id : ℕ) (parts : List (PartNumbers S)) → GoesWith versions id parts → GoesWith versions id (filled parts)
  goes_filled versions id [] goes = tt
  goes_filled versions id (part ∷ parts) goes = ((λ same. ((goes.0 same).0, none_filled id parts (goes.0 same).1)), goes_filled versions id parts goes.1)

  goes_unfilled : (versions : List ℕ) (id : ℕ) (parts : List (PartNumbers S)) → GoesWith versions id (filled parts) → GoesWith versions id parts
  goes_unfilled versions id [] goes = tt
  goes_unfilled versions id (part ∷ parts) goes = ((λ same. ((goes.0 same).0, none_unfilled id parts (goes.0 same).1)), goes_unfilled versions id parts goes.1)

  as_many : (id : ℕ) (parts : List (PartNumbers S)) → length (segments_at id (filled parts)) ≡ length (segments_at id parts)
  as_many id parts = ap length (sym (segments_each g id parts)) ∙ length-map (segments_at id parts) g

  keeps_filled : (t : TargetNumbers) (parts : List (PartNumbers S)) → KeepsOfOne t parts → KeepsOfOne t (filled parts)
  keeps_filled t parts is = record {
    ascend = is.ascend;
    below = subst (λ n. AreBelow n t.kept) (sym (as_many t.source parts)) is.below;
    goes = elim is.goes [
      | inl none ↦ inl none
      | inr goes ↦ inr (goes_filled t.versions t.source parts goes)
    ];
  }

  keeps_unfilled : (t : TargetNumbers) (parts : List (PartNumbers S)) → KeepsOfOne t (filled parts) → KeepsOfOne t parts
  keeps_unfilled t parts is = record {
    ascend = is.ascend;
    below = subst (λ n. AreBelow n t.kept) (as_many t.source parts) is.below;
    goes = elim is.goes [
      | inl none ↦ inl none
      | inr goes ↦ inr (goes_unfilled t.versions t.source parts goes)
    ];
  }

  may_filled : (plan : Option (PlanNumbers S)) (parts : List (PartNumbers S)) → MayFlip plan parts → MayFlip (each_plan g plan) (filled parts)
  may_filled None parts may = tt
  may_filled (Some plan) parts may = keeps_filled (events.current plan) parts may

  may_unfilled : (plan : Option (PlanNumbers S)) (parts : List (PartNumbers S)) → MayFlip (each_plan g plan) (filled parts) → MayFlip plan parts
  may_unfilled None parts may = tt
  may_unfilled (Some plan) parts may = keeps_unfilled (events.current plan) parts may

module _ {L M S T : Type 0} (f : L → M) (g : S → T) (cvd : ℕ) where
  abbrev all_filled : List (SetNumbers L S) → List (SetNumbers M T)
  all_filled sets = map (each_set f g) sets

  no_set_filled : (sets : List (SetNumbers L S)) → NoSet cvd sets → NoSet cvd (all_filled sets)
  no_set_filled [] none = tt
  no_set_filled (d ∷ sets) none = (none.0, no_set_filled sets none.1)

  no_set_unfilled : (sets : List (SetNumbers L S)) → NoSet cvd (all_filled sets) → NoSet cvd sets
  no_set_unfilled [] none = tt
  no_set_unfilled (d ∷ sets) none = (none.0, no_set_unfilled sets none.1)

  pub fits_filled : (sets : List (SetNumbers L S)) → FlipFits cvd sets → FlipFits cvd (all_filled sets)
  fits_filled [] fits = tt
  fits_filled (d ∷ sets) fits =
      ((λ same. (may_filled g d.plan d.parts (fits.0 same).0, no_set_filled sets (fits.0 same).1)), fits_filled sets fits.1)

  pub fits_unfilled : (sets : List (SetNumbers L S)) → FlipFits cvd (all_filled sets) → FlipFits cvd sets
  fits_unfilled [] fits = tt
  fits_unfilled (d ∷ sets) fits =
      ((λ same. (may_unfilled g d.plan d.parts (fits.0 same).0, no_set_unfilled sets (fits.0 same).1)), fits_unfilled sets fits.1)

-- ---- what a dataset shows

none_stay : (ours versions : List ℕ) → ((vid : ℕ) → 1 ≤ times versions vid → 1 ≤ times ours vid) → filter (λ vid. not (is_one ours vid)) versions ≡ []
none_stay ours [] all = refl
none_stay ours (v ∷ versions) all =
    by (is_one ours v) (is_listed ours v (all v (omega (arith, one_same v v refl)))) ∙ none_stay ours versions (λ vid some. all vid (omega (arith, some)))
  where
    by : (b : Bool) → b ≡ true → (if not b then v ∷ filter (λ vid. not (is_one ours vid)) versions else filter (λ vid. not (is_one ours vid)) versions) ≡ filter (λ vid. not (is_one ours vid)) versions
    by true e = refl
    by false e = cc

module _ (all : List Rec) (ours : List ℕ) (id : ℕ) where
  no_part_shown : (parts : List Part) → id_times parts id ≡ 0 → NoPart id (map (shown_part all) parts)
  no_part_shown [] none = tt
  no_part_shown (part ∷ parts) none = ((λ same. absurd (omega (arith, none, one_same part.id id same))), no_part_shown parts (omega (arith, none)))

  goes_shown : (parts : List Part) → id_times parts id ≤ 1 → ((part : Part) → IsIn parts part → part.id ≡ id → (vid : ℕ) → 1 ≤ times part.versions vid → 1 ≤ times ours vid)
      → GoesWith ours id (map (shown_part all) parts)
  goes_shown [] once goes = tt
  goes_shown (part ∷ parts) once goes = (
    (λ same. (
      ap (λ (vs : List ℕ). length vs == 0) (none_stay ours part.versions (goes part (inl refl) same)),
      no_part_shown parts (omega (arith, once, one_same part.id id same)),
    )),
    goes_shown parts (omega (arith, once)) (λ other there same. goes other (inr there) same),
  )

module _ (d : Dataset) (placed : IsPlaced d) (old : IsOldOrNew d) (pieces : HasPieces d) (sourced : PlanIsSourced d d.plan) where
  keeps_shown : (plan : Plan) → d.plan ≡ Some plan → KeepsOfOne (shown_target d (plans.current plan)) (map (shown_part (order_of d.cvd.versions)) d.parts)
  keeps_shown plan e =
      let t : Target = plans.current plan
      in record {
        ascend = (own_sourced d plan placed old pieces e sourced).ascend;
        below = subst (λ n. AreBelow n t.kept) (many t)
            (current_kept d plan (subst (PlanIsUnderWay d) e pieces.plan).kept).there;
        goes = by t.kept (λ some. emptied d plan placed old pieces e sourced some);
      }
    where
      many : (t : Target) → length (pieces_of d.parts t.source) ≡ length (segments_at t.source (map (shown_part (order_of d.cvd.versions)) d.parts))
      many t = sym (length-map (pieces_of d.parts t.source) _) ∙ ap length (segments_shown (order_of d.cvd.versions) t.source d.parts)

      by : (kept : List ℕ) → (kept ≢ [] → (part : Part) → IsIn d.parts part → part.id ≡ (plans.current plan).source → (vid : ℕ) → 1 ≤ times part.versions vid → 1 ≤ times (plans.current plan).versions vid)
          → (kept ≡ []) ⊎ GoesWith (plans.current plan).versions (plans.current plan).source (map (shown_part (order_of d.cvd.versions)) d.parts)
      by [] goes = inl refl
      by (place ∷ places) goes =
          inr (goes_shown (order_of d.cvd.versions) (plans.current plan).versions (plans.current plan).source d.parts (placed.ids_once (plans.current plan).source) (goes (λ none. cc)))

  may_shown : (found : Option Plan) → d.plan ≡ found → MayFlip (shown_plan d found) (map (shown_part (order_of d.cvd.versions)) d.parts)
  may_shown None e = tt
  may_shown (Some plan) e =
      subst (λ (t : TargetNumbers). KeepsOfOne t (map (shown_part (order_of d.cvd.versions)) d.parts)) (sym (current_shown d plan)) (keeps_shown plan e)

-- ---- what a World shows

no_set_shown : (cvd : ℕ) (sets : List Dataset) → NoneNumbered cvd sets → NoSet cvd (map shown_set sets)
no_set_shown cvd [] none = tt
no_set_shown cvd (d ∷ sets) none = (none.0, no_set_shown cvd sets none.1)

fits_shown : (cvd : ℕ) (sets : List Dataset) → Distinct sets → ArePlaced sets → AreOldOrNew sets → ArePieces sets → AreSourced sets → FlipFits cvd (map shown_set sets)
fits_shown cvd [] distinct placed old pieces sourced = tt
fits_shown cvd (d ∷ sets) distinct placed old pieces sourced = (
  (λ same. (
    may_shown d placed.0 old.0 pieces.0 sourced.0 d.plan refl,
    no_set_shown cvd sets (subst (λ n. NoneNumbered n sets) same distinct.0),
  )),
  fits_shown cvd sets distinct.1 placed.1 old.1 pieces.1 sourced.1,
)

-- so it is in numbers that are read as the World's
pub flip_fits : (w : World) (n : Numbers Extent Extent) (r : Readings) → IsGood w → seen r n ≡ asked w → (cvd : ℕ) → FlipFits cvd n.sets
flip_fits w n r is same cvd =
    fits_unfilled r.list r.segment cvd n.sets
    (subst (λ sets. FlipFits cvd sets) (λ i. (sym same i).sets)
    (fits_filled Some Some cvd (map shown_set w.sets) (fits_shown cvd w.sets is.distinct is.sound.placed is.old is.sound.pieces is.sourced)))
