-- Records in the order of all: their rids climb, and so nothing is to be sorted.
use Rattle.std.proofs.Common.{◌≡◌, ◌≤◌, ℕ, zero, suc, ◌+◌, Bool, true, false, List, [], ◌∷◌, map, filter, take, refl, sym, ◌∙◌, ap, subst, inl, inr, arith}
use Rattle.std.specs.Prelude.{if◌then◌else◌, nat_le}
use Rattle.std.proofs.lemmas.Bool.{cases_Bool, cond-true, cond-false, le-leb}
use Rattle.ov_model.specs.Lists.{IsIn}
use Rattle.ov_model.specs.Records.{Rec, is_same_rec, rid_in}
use Rattle.ov_model.proofs.Growing.{same_rec-refl}
use Rattle.ov_model.proofs.Holds.{same_recs}
use Rattle.law_partitions.specs.Pieces.{NoTwice}
use Rattle.law_partitions.proofs.PieceTimes.{one_self, in_times}
use Rattle.ov_catalog.specs.Shown.{put_by, sorted_by, list_of, segment_of, kept_as}

module _ {X : Type 0} (key : X → ℕ) where
  -- from a least number on, each above the one before
  abbrev pub Climbs : ℕ → List X → Type 0
  Climbs least [] = Unit {0}
  Climbs least (x ∷ xs) = (least ≤ key x) × Climbs (suc (key x)) xs

  weaker : (low least : ℕ) (xs : List X) → low ≤ least → Climbs least xs → Climbs low xs
  weaker low least [] le climbs = tt
  weaker low least (x ∷ xs) le climbs = (omega (arith, le, climbs.0), climbs.1)

  pub climbs_filter : (p : X → Bool) (least : ℕ) (xs : List X) → Climbs least xs → Climbs least (filter p xs)
  climbs_filter p least [] climbs = tt
  climbs_filter p least (x ∷ xs) climbs = by (p x) (climbs_filter p (suc (key x)) xs climbs.1)
    where
      by : (t : Bool) → Climbs (suc (key x)) (filter p xs) → Climbs least (if t then x ∷ filter p xs else filter p xs)
      by true rest = (climbs.0, rest)
      by false rest = weaker least (suc (key x)) (filter p xs) (omega (arith, climbs.0)) rest

  pub climbs_take : (n least : ℕ) (xs : List X) → Climbs least xs → Climbs least (take n xs)
  climbs_take zero least xs climbs = tt
  climbs_take (suc n) least [] climbs = tt
  climbs_take (suc n) least (x ∷ xs) climbs = (climbs.0, climbs_take n (suc (key x)) xs climbs.1)

-- what climbs by a number is sorted by it
pub sorted_already : {X Y : Type 0} (key : Y → ℕ) (f : X → Y) (least : ℕ) (xs : List X) → Climbs (λ x. key (f x)) least xs → sorted_by key (map f xs) ≡ map f xs
sorted_already key f least [] climbs = refl
sorted_already {X} key f least (x ∷ xs) climbs = ap (put_by key (f x)) (sorted_already key f (suc (key (f x))) xs climbs.1) ∙ first xs climbs.1
  where
    first : (ys : List X) → Climbs (λ y. key (f y)) (suc (key (f x))) ys → put_by key (f x) (map f ys) ≡ f x ∷ map f ys
    first [] above = refl
    first (y ∷ ys) above =
        cond-true (nat_le (key (f x)) (key (f y))) (f x ∷ f y ∷ map f ys) (f y ∷ put_by key (f x) (map f ys)) (le-leb (key (f x)) (key (f y)) (omega (arith, above.0)))

-- ---- all records

climbs_behind : (x : Rec) (all : List Rec) (least : ℕ) (rs : List Rec) → ((r : Rec) → IsIn rs r → is_same_rec r x ≡ false) → Climbs (rid_in all) least rs → Climbs (rid_in (x ∷ all)) (suc least) rs
climbs_behind x all least [] other climbs = tt
climbs_behind x all least (r ∷ rs) other climbs =
    let here : rid_in (x ∷ all) r ≡ suc (rid_in all r) = cond-false (is_same_rec r x) 1 (rid_in all r + 1) (other r (inl refl)) ∙ omega arith
    in (
      omega (arith, here, climbs.0),
      subst (λ n. Climbs (rid_in (x ∷ all)) (suc n) rs) (sym here) (climbs_behind x all (suc (rid_in all r)) rs (λ q is. other q (inr is)) climbs.1),
    )

other_than : (x : Rec) (all : List Rec) → NoTwice (x ∷ all) → (r : Rec) → IsIn all r → is_same_rec r x ≡ false
other_than x all once r is = elim (cases_Bool (is_same_rec r x)) [
  | inl same ↦ absurd (omega (arith, once x, one_self x, in_times all x (subst (IsIn all) (same_recs r x same) is)))
  | inr other ↦ other
]

pub all_climb : (all : List Rec) → NoTwice all → Climbs (rid_in all) 1 all
all_climb [] once = tt
all_climb (x ∷ all) once =
    let one : rid_in (x ∷ all) x ≡ 1 = cond-true (is_same_rec x x) 1 (rid_in all x + 1) (same_rec-refl x)
    in (
      omega (arith, one),
      subst (λ n. Climbs (rid_in (x ∷ all)) (suc n) all) (sym one)
          (climbs_behind x all 1 all (other_than x all once) (all_climb all (λ r. omega (arith, once r)))),
    )

-- ---- lists and segments

pub listed : (all : List Rec) (least : ℕ) (rs : List Rec) → Climbs (rid_in all) least rs → list_of all rs ≡ map (rid_in all) rs
listed all least rs climbs = sorted_already (λ n. n) (rid_in all) least rs climbs

pub segmented : (all : List Rec) (least : ℕ) (rs : List Rec) → Climbs (rid_in all) least rs → segment_of all rs ≡ map (kept_as all) rs
segmented all least rs climbs = sorted_already (λ kept. kept.0) (kept_as all) least rs climbs
