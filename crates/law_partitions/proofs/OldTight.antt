-- What follows from partitions that are old or new.
use Rattle.std.proofs.Common.{◌≡◌, ◌≤◌, ◌<◌, ℕ, ◌+◌, Bool, true, false, ◌==◌, List, [], ◌∷◌, ◌++◌, length, map, refl, sym, ◌∙◌, ap, subst, inl, inr, arith}
use Rattle.std.specs.Prelude.{if◌then◌else◌, None}
use Rattle.std.proofs.lemmas.Bool.{eqb-true}
use Rattle.ov_place.specs.declared.place_facts.Place.{Place}
use Rattle.ov_place.specs.declared.place_facts.Place.TheVariants.{Own, Join}
use Rattle.ov_model.specs.Act.{Session}
use Rattle.ov_model.specs.Book.{Version}
use Rattle.ov_model.specs.Course.{Space, course, world_at}
use Rattle.ov_model.specs.Forms.{Form}
use Rattle.ov_model.specs.Lists.{IsIn}
use Rattle.ov_model.specs.Moves.{Move, moved, placed_at, parts_with, with_joined, with_version, own_part}
use Rattle.ov_model.specs.Placed.{times, IsPlaced, HasParents}
use Rattle.ov_model.specs.Plans.{flipped}
use Rattle.ov_model.specs.Records.{Rec, ordered_records}
use Rattle.ov_model.specs.World.{Part, Dataset, World, is_unmoved}
use Rattle.ov_model.proofs.Counting.{one_same}
use Rattle.law_partitions.specs.Courses.{IsDue, HasPartitions}
use Rattle.law_partitions.specs.OldOrNew.{IsTight, IsOldOrNew, AreOldOrNew, AllTight}
use Rattle.law_partitions.specs.Sound.{AllNameVersions}
use Rattle.law_partitions.proofs.CourseMoves.{course_due, due_at, partitions_kept}
use Rattle.law_partitions.proofs.OldMoves.{flip_old, moved_old}
use Rattle.law_partitions.proofs.OldParts.{Either, joins_new}

clash : {X : Type 0} → true ≡ false → X
clash e = cc

-- ---- a partition that waits stays

pub in_left : (a b : List Part) (part : Part) → IsIn a part → IsIn (a ++ b) part
in_left [] b part is = absurd is
in_left (x ∷ a) b part (inl same) = inl same
in_left (x ∷ a) b part (inr later) = inr (in_left a b part later)

in_map_of : (f : Part → Part) (parts : List Part) (part : Part) → IsIn parts part → IsIn (map f parts) (f part)
in_map_of f [] part is = absurd is
in_map_of f (x ∷ parts) part (inl same) = inl (ap f same)
in_map_of f (x ∷ parts) part (inr later) = inr (in_map_of f parts part later)

same_if : (t : Bool) (part : Part) (next : ℕ) (rs : List Rec) → (t ≡ true → ⊥) → (if t then with_joined next rs part else part) ≡ part
same_if true part next rs other = absurd (other refl)
same_if false part next rs other = refl

module _ (d : Dataset) (v : Version) (placed : IsPlaced d) (is : IsOldOrNew d) (has : HasParents v.parents d) where
  pub joined_moved : (id : ℕ) → placed_at d v ≡ Join id → (part : Part) → IsIn d.parts part → part.id ≡ id → (vid : ℕ) → 1 ≤ times part.versions vid → is_unmoved d.plan vid ≡ false
  joined_moved id e part there same vid some = (joins_new d v id placed is has e part there same).moved vid some

  stays_in : (part : Part) (vid : ℕ) → IsIn d.parts part → 1 ≤ times part.versions vid → is_unmoved d.plan vid ≡ true → (place : Place) → placed_at d v ≡ place
      → IsIn (parts_with place d.next_part (length d.cvd.versions + 1) (ordered_records d.cvd.versions v) d.parts) part
  stays_in part vid there some unmoved Own e = in_left d.parts (own_part d.next_part (length d.cvd.versions + 1) (ordered_records d.cvd.versions v) ∷ []) part there
  stays_in part vid there some unmoved (Join id) e =
      let next : ℕ = length d.cvd.versions + 1
      in let rs : List Rec = ordered_records d.cvd.versions v
      in subst (IsIn (map (λ x. if x.id == id then with_joined next rs x else x) d.parts))
      (same_if (part.id == id) part next rs (λ t. clash (sym unmoved ∙ joined_moved id e part there (eqb-true part.id id t) vid some)))
      (in_map_of (λ x. if x.id == id then with_joined next rs x else x) d.parts part there)

  pub waiting_stays : (part : Part) (vid : ℕ) → IsIn d.parts part → 1 ≤ times part.versions vid → is_unmoved d.plan vid ≡ true → IsIn (with_version v d).parts part
  waiting_stays part vid there some unmoved = stays_in part vid there some unmoved (placed_at d v) refl

-- ---- where no plan runs

pub first_listed : (vs : List ℕ) → 0 < length vs → (vid : ℕ) × (1 ≤ times vs vid)
first_listed [] some = absurd (omega (arith, some))
first_listed (v ∷ vs) some = (v, omega (arith, one_same v v refl))

tight_if : (part : Part) → 0 < length part.versions → Either None part → IsTight part
tight_if part some (inl old) = let first = first_listed part.versions some in clash (sym (old first.0 first.1))
tight_if part some (inr new) = new.tight

pub idle_tight : (d : Dataset) → IsOldOrNew d → d.plan ≡ None → AllTight d.parts
idle_tight d is e part there = tight_if part (is.some part there) (subst (λ plan. Either plan part) e (is.either part there))

pub last_tight : (d : Dataset) → IsOldOrNew d → (flipped d).plan ≡ None → AllTight (flipped d).parts
last_tight d is e = idle_tight (flipped d) (flip_old d d.plan refl is) e

-- ---- in every World of a course

abbrev pub Both : World → Type 0
Both w = HasPartitions w × AreOldOrNew w.sets

pub both_kept : (m : Move) (w : World) → IsDue m w → Both w → Both (moved m w)
both_kept m w due has = (partitions_kept m w due has.0, moved_old m w due has.0 has.1)

pub old_at : (forms : List Form) (n : ℕ) (w : World) (s : Session) (lines : List (List ℕ)) (space : Space) → AllNameVersions forms lines → HasPartitions w → AreOldOrNew w.sets → (k : ℕ)
    → AreOldOrNew (world_at w (course forms n w s lines space).items k).sets
old_at forms n w s lines space names has are k =
    (due_at Both both_kept w (course forms n w s lines space).items k (course_due forms n w s lines space names has.begun) (has, are)).1

pub old_in : (sets : List Dataset) (d : Dataset) → AreOldOrNew sets → IsIn sets d → IsOldOrNew d
old_in [] d are is = absurd is
old_in (x ∷ sets) d are (inl same) = subst IsOldOrNew (sym same) are.0
old_in (x ∷ sets) d are (inr later) = old_in sets d are.1 later

pub tight_at : (forms : List Form) (n : ℕ) (w : World) (s : Session) (lines : List (List ℕ)) (space : Space) → AllNameVersions forms lines → HasPartitions w → AreOldOrNew w.sets → (k : ℕ) (d : Dataset)
    → IsIn (world_at w (course forms n w s lines space).items k).sets d → d.plan ≡ None → AllTight d.parts
tight_at forms n w s lines space names has are k d there e =
    idle_tight d (old_in (world_at w (course forms n w s lines space).items k).sets d (old_at forms n w s lines space names has are k) there) e
