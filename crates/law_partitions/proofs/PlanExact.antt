-- A tight partition whose pieces are its records has the records of its versions, each once.
use Rattle.std.proofs.Common.{◌≡◌, ◌≤◌, ◌⊎◌, ℕ, ◌-◌, Bool, true, false, List, [], ◌∷◌, length, filter, refl, sym, ◌∙◌, ap, subst, inl, inr, arith}
use Rattle.std.specs.Prelude.{◌&&◌, ◌||◌, if◌then◌else◌}
use Rattle.std.specs.List.{list_any}
use Rattle.std.proofs.lemmas.Bool.{cases_Bool, cond-true}
use Rattle.ov_model.specs.Holding.{VersionsAreIn}
use Rattle.ov_model.specs.Lists.{IsIn, AreIn, AllAreIn}
use Rattle.ov_model.specs.Plans.{records_in}
use Rattle.ov_model.specs.Records.{Rec, AllRise, is_among, is_same_rec, of_version, order_of, recs}
use Rattle.ov_model.specs.World.{Part, Dataset, held}
use Rattle.ov_model.proofs.Counting.{one_if}
use Rattle.ov_model.proofs.Growing.{same_rec-refl}
use Rattle.ov_model.proofs.Holds.{at_known, same_recs}
use Rattle.ov_model.proofs.Origins.{all_known, in_filter}
use Rattle.ov_model.proofs.Rids.{order_of_once}
use Rattle.law_partitions.specs.OldOrNew.{AllTight}
use Rattle.law_partitions.specs.Pieces.{AreOf, HasPieces, IsOfOne, IsPieces, NoTwice, PartsArePieces, rec_times}
use Rattle.law_partitions.specs.PlanBounds.{AreExact}
use Rattle.law_partitions.proofs.PlanNodes.{filter_most}
use Rattle.law_partitions.proofs.PlanCounts.{Apart, Once, listed_pass}

clash : {X : Type 0} → true ≡ false → X
clash e = cc

-- ---- what is among records is in them, and the other way round

either_in : (t rest : Bool) (r x : Rec) (xs : List Rec) → (t ≡ true → r ≡ x) → (rest ≡ true → IsIn xs r) → (t || rest) ≡ true → (r ≡ x) ⊎ IsIn xs r
either_in true rest r x xs here later e = inl (here refl)
either_in false rest r x xs here later e = inr (later e)

among_in : (xs : List Rec) (r : Rec) → is_among xs r ≡ true → IsIn xs r
among_in [] r e = cc
among_in (x ∷ xs) r e = either_in (is_same_rec r x) (is_among xs r) r x xs (same_recs r x) (among_in xs r) e

or_first : (a b : Bool) → a ≡ true → (a || b) ≡ true
or_first true b e = refl
or_first false b e = cc

or_second : (a b : Bool) → b ≡ true → (a || b) ≡ true
or_second true b e = refl
or_second false b e = e

pub in_among : (xs : List Rec) (r : Rec) → IsIn xs r → is_among xs r ≡ true
in_among [] r is = absurd is
in_among (x ∷ xs) r (inl same) = or_first (is_same_rec r x) (is_among xs r) (ap (is_same_rec r) (sym same) ∙ same_rec-refl r)
in_among (x ∷ xs) r (inr later) = or_second (is_same_rec r x) (is_among xs r) (in_among xs r later)

are_in_is : (rs all : List Rec) (r : Rec) → AreIn rs all → IsIn rs r → IsIn all r
are_in_is [] all r are is = absurd is
are_in_is (x ∷ xs) all r are (inl same) = subst (IsIn all) (sym same) are.0
are_in_is (x ∷ xs) all r are (inr later) = are_in_is xs all r are.1 later

-- ---- records of which none stands twice

apart_of : (x : Rec) (rs : List Rec) → rec_times rs x ≡ 0 → Apart x rs
apart_of x [] none = tt
apart_of x (r ∷ rs) none = (
  elim (cases_Bool (is_same_rec r x)) [
    | inl same ↦
        let one : one_if (is_same_rec x r) ≡ 1 = ap one_if (ap (λ y. is_same_rec x y) (same_recs r x same) ∙ same_rec-refl x)
        in absurd (omega (arith, none, one))
    | inr other ↦ other
  ],
  apart_of x rs (omega (arith, none)),
)

once_of : (rs : List Rec) → NoTwice rs → Once rs
once_of [] twice = tt
once_of (r ∷ rs) twice =
    let one : one_if (is_same_rec r r) ≡ 1 = ap one_if (same_rec-refl r)
    in (apart_of r rs (omega (arith, twice r, one)), once_of rs (λ x. omega (arith, twice x)))

apart_if : (t : Bool) (x r : Rec) (rs : List Rec) → is_same_rec r x ≡ false → Apart x rs → Apart x (if t then r ∷ rs else rs)
apart_if true x r rs is apart = (is, apart)
apart_if false x r rs is apart = apart

apart_filter : (p : Rec → Bool) (x : Rec) (rs : List Rec) → Apart x rs → Apart x (filter p rs)
apart_filter p x [] apart = tt
apart_filter p x (r ∷ rs) apart = apart_if (p r) x r (filter p rs) apart.0 (apart_filter p x rs apart.1)

once_if : (t : Bool) (r : Rec) (rs : List Rec) → Apart r rs → Once rs → Once (if t then r ∷ rs else rs)
once_if true r rs apart once = (apart, once)
once_if false r rs apart once = once

once_filter : (p : Rec → Bool) (rs : List Rec) → Once rs → Once (filter p rs)
once_filter p [] once = tt
once_filter p (r ∷ rs) once = once_if (p r) r (filter p rs) (apart_filter p r rs once.0) (once_filter p rs once.1)

-- ---- of two such lists with the same records each is as long as the other

all_pass : (p : Rec → Bool) (rs : List Rec) → ((r : Rec) → IsIn rs r → p r ≡ true) → filter p rs ≡ rs
all_pass p [] each = refl
all_pass p (r ∷ rs) each =
    cond-true (p r) (r ∷ filter p rs) (filter p rs) (each r (inl refl)) ∙ ap (λ l. r ∷ l) (all_pass p rs (λ x is. each x (inr is)))

and_true : (t : Bool) → t ≡ true → (t && true) ≡ true
and_true true e = refl
and_true false e = cc

shorter : (xs ys : List Rec) → Once xs → ((r : Rec) → IsIn xs r → IsIn ys r) → length xs ≤ length ys
shorter xs ys once within =
    let all : filter (λ r. is_among ys r && true) xs ≡ xs = all_pass (λ r. is_among ys r && true) xs (λ r is. and_true (is_among ys r) (in_among ys r (within r is)))
    in omega (arith, ap length all, listed_pass (λ r. true) ys xs once, filter_most (λ r. true) ys)

-- ---- the records of versions

pub of_one : (done : List (List Rec)) (vids : List ℕ) (r : Rec) → IsOfOne done vids r → list_any (λ vid. is_among (of_version done vid) r) vids ≡ true
of_one done [] r is = absurd is
of_one done (vid ∷ vids) r (inl here) =
    or_first (is_among (of_version done vid) r) (list_any (λ v. is_among (of_version done v) r) vids) (in_among (of_version done vid) r here)
of_one done (vid ∷ vids) r (inr later) =
    or_second (is_among (of_version done vid) r) (list_any (λ v. is_among (of_version done v) r) vids) (of_one done vids r later)

pub known_one : (done : List (List Rec)) (vids : List ℕ) (all : List Rec) (r : Rec) → AllAreIn done all → IsOfOne done vids r → IsIn all r
known_one done [] all r are is = absurd is
known_one done (vid ∷ vids) all r are (inl here) = are_in_is (of_version done vid) all r (at_known done (vid - 1) all are) here
known_one done (vid ∷ vids) all r are (inr later) = known_one done vids all r are later

one_of : (done : List (List Rec)) (vids : List ℕ) (rs : List Rec) (r : Rec) → AreOf done vids rs → IsIn rs r → IsOfOne done vids r
one_of done vids [] r are is = absurd is
one_of done vids (x ∷ rs) r are (inl same) = subst (IsOfOne done vids) (sym same) are.0
one_of done vids (x ∷ rs) r are (inr later) = one_of done vids rs r are.1 later

any_in : (done : List (List Rec)) (vids : List ℕ) (all : List Rec) (r : Rec) → VersionsAreIn done vids all → list_any (λ vid. is_among (of_version done vid) r) vids ≡ true → IsIn all r
any_in done [] all r are e = cc
any_in done (vid ∷ vids) all r are e =
    elim (cases_Bool (is_among (of_version done vid) r)) [
      | inl here ↦ are_in_is (of_version done vid) all r are.0.1 (among_in (of_version done vid) r here)
      | inr other ↦ any_in done vids all r are.1 (later (is_among (of_version done vid) r) (list_any (λ v. is_among (of_version done v) r) vids) other e)
    ]
  where
    later : (a b : Bool) → a ≡ false → (a || b) ≡ true → b ≡ true
    later true b e f = cc
    later false b e f = f

passes_if : (t : Bool) (p : Rec → Bool) (x r : Rec) (rest : List Rec) → p x ≡ t → (IsIn rest r → p r ≡ true) → IsIn (if t then x ∷ rest else rest) r → p r ≡ true
passes_if true p x r rest e later (inl same) = ap p same ∙ e
passes_if true p x r rest e later (inr is) = later is
passes_if false p x r rest e later is = later is

passes : (p : Rec → Bool) (rs : List Rec) (r : Rec) → IsIn (filter p rs) r → p r ≡ true
passes p [] r is = absurd is
passes p (x ∷ rs) r is = passes_if (p x) p x r (filter p rs) refl (passes p rs r) is

module _ (d : Dataset) (rise : AllRise d.cvd.schema d.cvd.versions) where
  abbrev done : List (List Rec)
  done = recs d.cvd.versions []

  exact : (part : Part) → part.holds ≡ part.versions → IsPieces done part → length (held part) ≡ length (records_in d.cvd part.versions)
  exact part tight is =
      let only : AreOf done part.versions (held part) = subst (λ vids. AreOf done vids (held part)) tight is.only
      in let all : VersionsAreIn done part.versions (held part) = subst (λ vids. VersionsAreIn done vids (held part)) tight is.all
      in let test : Rec → Bool = λ r. list_any (λ vid. is_among (of_version done vid) r) part.versions
      in let there : length (held part) ≤ length (records_in d.cvd part.versions) =
      shorter (held part) (records_in d.cvd part.versions) (once_of (held part) is.once)
      (λ r is_held.
      let one : IsOfOne done part.versions r = one_of done part.versions (held part) r only is_held
      in in_filter test (order_of d.cvd.versions) r (of_one done part.versions r one) (known_one done part.versions (order_of d.cvd.versions) r (all_known d.cvd.versions) one))
      in let back : length (records_in d.cvd part.versions) ≤ length (held part) =
      shorter (records_in d.cvd part.versions) (held part) (once_filter test (order_of d.cvd.versions) (order_of_once d.cvd.schema d.cvd.versions rise))
      (λ r known. any_in done part.versions (held part) r all (passes test (order_of d.cvd.versions) r known))
      in omega (arith, there, back)

  piece_at : (parts : List Part) (part : Part) → PartsArePieces done parts → IsIn parts part → IsPieces done part
  piece_at [] part are is = absurd is
  piece_at (x ∷ parts) part are (inl same) = subst (IsPieces done) (sym same) are.0
  piece_at (x ∷ parts) part are (inr later) = piece_at parts part are.1 later

  pub parts_exact : HasPieces d → AllTight d.parts → AreExact d
  parts_exact has tight part there = exact part (tight part there) (piece_at d.parts part has.parts there)
