-- A rid is one record's; so a segment is the same in whatever order its piece has its records.
use Rattle.std.proofs.Common.{◌≡◌, ◌≤◌, ◌+◌, Bool, true, false, List, [], ◌∷◌, length, map, refl, sym, ◌∙◌, ap, subst, inl, inr, arith}
use Rattle.std.specs.Prelude.{◌≢◌, filter, not, if◌then◌else◌}
use Rattle.std.proofs.lemmas.List.{length-map}
use Rattle.ov_place.specs.declared.place_facts.Place.{Place}
use Rattle.ov_place.specs.declared.place_facts.Place.TheVariants.{Own, Join}
use Rattle.ov_model.specs.Lists.{IsIn, AreIn, AllAreIn}
use Rattle.ov_model.specs.Moves.{piece_of}
use Rattle.ov_model.specs.Ordered.{AreInOrder}
use Rattle.ov_model.specs.Records.{Rec, is_same_rec, is_among, in_order, rid_in}
use Rattle.ov_model.specs.World.{Part}
use Rattle.ov_model.proofs.Growing.{same_rec-refl}
use Rattle.ov_model.proofs.Holds.{same_recs, among_in, in_among}
use Rattle.ov_model.proofs.Ordering.{of_filter, chosen_in_order}
use Rattle.ov_model.proofs.Origins.{in_filter}
use Rattle.ov_model.proofs.Rids.{Apart, Once}
use Rattle.ov_catalog.specs.Shown.{Records, kept_as, segment_of, held_by, added_to}
use Rattle.ov_catalog.proofs.Members.{in_map, of_map}
use Rattle.ov_catalog.proofs.Rising as rising

-- ---- a rid is one record's

rid_some : (xs : List Rec) (r : Rec) → 1 ≤ rid_in xs r
rid_some [] r = omega arith
rid_some (x ∷ xs) r = by (is_same_rec r x)
  where
    by : (b : Bool) → 1 ≤ (if b then 1 else rid_in xs r + 1)
    by true = omega arith
    by false = omega arith

off : true ≡ false → ⊥
off e = cc

rest_in : (x r : Rec) (xs : List Rec) → IsIn (x ∷ xs) r → is_same_rec r x ≡ false → IsIn xs r
rest_in x r xs (inl same) other = absurd (off (sym (ap (is_same_rec r) (sym same) ∙ same_rec-refl r) ∙ other))
rest_in x r xs (inr later) other = later

pub place_same : (xs : List Rec) (r q : Rec) → IsIn xs r → IsIn xs q → rid_in xs r ≡ rid_in xs q → r ≡ q
place_same [] r q is also same = absurd is
place_same (x ∷ xs) r q is also same =
    by (is_same_rec r x) (is_same_rec q x) (same_recs r x) (same_recs q x) (rest_in x r xs is) (rest_in x q xs also) same (place_same xs r q)
  where
    by : (b c : Bool) → (b ≡ true → r ≡ x) → (c ≡ true → q ≡ x) → (b ≡ false → IsIn xs r) → (c ≡ false → IsIn xs q)
        → (if b then 1 else rid_in xs r + 1) ≡ (if c then 1 else rid_in xs q + 1) → (IsIn xs r → IsIn xs q → rid_in xs r ≡ rid_in xs q → r ≡ q) → r ≡ q
    by true true here there more other e rest = here refl ∙ sym (there refl)
    by true false here there more other e rest = absurd (omega (arith, e, rid_some xs q))
    by false true here there more other e rest = absurd (omega (arith, e, rid_some xs r))
    by false false here there more other e rest = rest (more refl) (other refl) (omega (arith, e))

pub are_in_at : (rs all : List Rec) (r : Rec) → AreIn rs all → IsIn rs r → IsIn all r
are_in_at [] all r are is = absurd is
are_in_at (x ∷ rs) all r are (inl same) = subst (IsIn all) (sym same) are.0
are_in_at (x ∷ rs) all r are (inr later) = are_in_at rs all r are.1 later

-- some of all are among all
more_in : (x : Rec) (rs all : List Rec) → AreIn rs all → AreIn rs (x ∷ all)
more_in x [] all are = tt
more_in x (r ∷ rs) all are = (inr are.0, more_in x rs all are.1)

pub some_in : (p : Rec → Bool) (all : List Rec) → AreIn (filter p all) all
some_in p [] = tt
some_in p (r ∷ all) = by (p r) (more_in r (filter p all) all (some_in p all))
  where
    by : (b : Bool) → AreIn (filter p all) (r ∷ all) → AreIn (if b then r ∷ filter p all else filter p all) (r ∷ all)
    by true rest = (inl refl, rest)
    by false rest = rest

-- what is in order is known
pub order_known : (all : List Rec) (pieces : List (List Rec)) → AreInOrder all pieces → AllAreIn pieces all
order_known all [] are = tt
order_known all (piece ∷ pieces) are = (subst (λ rs. AreIn rs all) (sym are.0) (some_in (is_among piece) all), order_known all pieces are.1)

-- ---- none stands twice

apart_if : (t : Bool) (x r : Rec) (rs : List Rec) → is_same_rec r x ≡ false → Apart x rs → Apart x (if t then r ∷ rs else rs)
apart_if true x r rs is apart = (is, apart)
apart_if false x r rs is apart = apart

apart_filter : (p : Rec → Bool) (x : Rec) (rs : List Rec) → Apart x rs → Apart x (filter p rs)
apart_filter p x [] apart = tt
apart_filter p x (r ∷ rs) apart = apart_if (p r) x r (filter p rs) apart.0 (apart_filter p x rs apart.1)

once_if : (t : Bool) (r : Rec) (rs : List Rec) → Apart r rs → Once rs → Once (if t then r ∷ rs else rs)
once_if true r rs apart once = (apart, once)
once_if false r rs apart once = once

pub once_filter : (p : Rec → Bool) (rs : List Rec) → Once rs → Once (filter p rs)
once_filter p [] once = tt
once_filter p (r ∷ rs) once = once_if (p r) r (filter p rs) (apart_filter p r rs once.0) (once_filter p rs once.1)

module _ (all : List Rec) where
  abbrev kept : List Rec → Records
  kept rs = map (kept_as all) rs

  other_rid : (x : Rec) (rs : List Rec) → IsIn all x → AreIn rs all → Apart x rs → rising.Other (λ k. k.0) (rid_in all x) (kept rs)
  other_rid x [] is are apart = tt
  other_rid x (r ∷ rs) is are apart = (differs, other_rid x rs is are.1 apart.1)
    where
      differs : rid_in all x ≢ rid_in all r
      differs e = off (sym (ap (λ y. is_same_rec y x) (sym (place_same all x r is are.0 e)) ∙ same_rec-refl x) ∙ apart.0)

  once_rids : (rs : List Rec) → AreIn rs all → Once rs → rising.Once (λ k. k.0) (kept rs)
  once_rids [] are once = tt
  once_rids (r ∷ rs) are once = (other_rid r rs are.0 are.1 once.0, once_rids rs are.1 once.1)

  -- ---- the segment of a piece

  segment_long : (rs : List Rec) → length (segment_of all rs) ≡ length rs
  segment_long rs = rising.sorted_long (λ k. k.0) (kept rs) ∙ length-map rs (kept_as all)

  module _ (rs : List Rec) (are : AreIn rs all) (once : Once rs) (all_once : Once all) where
    abbrev ordered : List Rec
    ordered = in_order all rs

    in_all : (xs : List Rec) → ((r : Rec) → IsIn xs r → IsIn all r) → AreIn xs all
    in_all [] each = tt
    in_all (x ∷ xs) each = (each x (inl refl), in_all xs (λ r is. each r (inr is)))

    pub segment_same : segment_of all ordered ≡ segment_of all rs
    segment_same =
        rising.same_sorted (λ k. k.0) (kept ordered) (kept rs)
        (once_rids ordered (in_all ordered (λ r is. (of_filter (is_among rs) all r is).0)) (once_filter (is_among rs) all all_once))
        (once_rids rs are once)
        (λ k is. let of = of_map (kept_as all) ordered k is
        in subst (IsIn (kept rs)) (sym of.1.1) (in_map (kept_as all) rs of.0 (among_in rs of.0 (of_filter (is_among rs) all of.0 of.1.0).1)))
        (λ k is. let of = of_map (kept_as all) rs k is
        in subst (IsIn (kept ordered)) (sym of.1.1)
        (in_map (kept_as all) ordered of.0 (in_filter (is_among rs) all of.0 (in_among rs of.0 of.1.0) (are_in_at rs all of.0 are of.1.0))))

    pub ordered_long : length ordered ≡ length rs
    ordered_long = sym (segment_long ordered) ∙ ap length segment_same ∙ segment_long rs

    pub segments_same : map (segment_of all) (piece_of ordered) ≡ map (segment_of all) (piece_of rs)
    segments_same = by ordered rs segment_same ordered_long
      where
        by : (xs ys : List Rec) → segment_of all xs ≡ segment_of all ys → length xs ≡ length ys → map (segment_of all) (piece_of xs) ≡ map (segment_of all) (piece_of ys)
        by [] [] same long = refl
        by [] (y ∷ ys) same long = absurd (omega (arith, long))
        by (x ∷ xs) [] same long = absurd (omega (arith, long))
        by (x ∷ xs) (y ∷ ys) same long = λ i. same i ∷ []

-- ---- what a version brings to its partition

pub added_ordered : (all rs : List Rec) (place : Place) (parts : List Part) → added_to place parts (in_order all rs) ≡ in_order all (added_to place parts rs)
added_ordered all rs Own parts = refl
added_ordered all rs (Join id) parts = chosen_in_order (λ r. not (is_among (held_by parts id) r)) all rs

are_filter : (p : Rec → Bool) (rs all : List Rec) → AreIn rs all → AreIn (filter p rs) all
are_filter p [] all are = tt
are_filter p (r ∷ rs) all are = by (p r) (are_filter p rs all are.1)
  where
    by : (b : Bool) → AreIn (filter p rs) all → AreIn (if b then r ∷ filter p rs else filter p rs) all
    by true rest = (are.0, rest)
    by false rest = rest

pub added_in : (all rs : List Rec) (place : Place) (parts : List Part) → AreIn rs all → AreIn (added_to place parts rs) all
added_in all rs Own parts are = are
added_in all rs (Join id) parts are = are_filter (λ r. not (is_among (held_by parts id) r)) rs all are

pub added_once : (rs : List Rec) (place : Place) (parts : List Part) → Once rs → Once (added_to place parts rs)
added_once rs Own parts once = once
added_once rs (Join id) parts once = once_filter (λ r. not (is_among (held_by parts id) r)) rs once
