-- What a target lacks, by rids.
use Rattle.std.proofs.Common.{◌≡◌, ◌+◌, ◌-◌, ◌<◌, ◌^◌, ℕ, zero, suc, Bool, true, false, not, ◌&&◌, ◌||◌, ◌==◌, List, [], ◌∷◌, length, take, drop, min, refl, sym, ◌∙◌, ap, arith}
use Rattle.std.specs.Prelude.{filter, if◌then◌else◌}
use Rattle.std.specs.List.{AllZip}
use Rattle.std.proofs.lemmas.List.{length-drop, length-take, nil_from_length}
use Rattle.std.proofs.lemmas.List.Filters.{length-filter_both}
use Rattle.ov_member.specs.Rids.{AreRids, has, left_out}
use Rattle.ov_member.proofs.RidLemmas.{RiseFrom-filter, has-filter, has-head, same_from}
use Rattle.ov_catalog.specs.Numbers.{TargetNumbers}
use Rattle.ov_fetch.specs.Rows.{is_asked}
use Rattle.ov_read.specs.Agreement.{AreTogether, IsBorneOut as IsSetBorneOut, PartAgrees}
use Rattle.ov_read.proofs.Bearing.{all_rids}
use Rattle.ov_read.proofs.Uniting.{only_one}
use Rattle.ov_migrate.specs.Picked.{IsUnionOf}
use Rattle.ov_migrate.specs.Targets.{IsLacking, IsOff}

-- ---- sets within sets

or_right : (a b : Bool) → b ≡ true → (a || b) ≡ true
or_right true b e = refl
or_right false b e = e

none_over : (xs ys : List ℕ) → ((n : ℕ) → has xs n ≡ true → has ys n ≡ true) → length (left_out xs ys) ≡ 0
none_over [] ys all = refl
none_over (x ∷ xs) ys all = by (has ys x) (all x (has-head x xs)) (none_over xs ys (λ n e. all n (or_right (x == n) (has xs n) e)))
  where
    by : (b : Bool) → b ≡ true → length (left_out xs ys) ≡ 0 → length (if not b then x ∷ left_out xs ys else left_out xs ys) ≡ 0
    by true e rest = rest
    by false e rest = cc

both_in : (a b : Bool) → a ≡ true → (a && not b) ≡ false → b ≡ true
both_in true true e f = refl
both_in true false e f = cc
both_in false b e f = cc

within_of : (xs ys : List ℕ) → length (left_out xs ys) ≡ 0 → (n : ℕ) → has xs n ≡ true → has ys n ≡ true
within_of xs ys none n e =
    both_in (has xs n) (has ys n) e
    (sym (has-filter (λ rid. not (has ys rid)) xs n) ∙ ap (λ (l : List ℕ). has l n) (nil_from_length (left_out xs ys) none))

and_within : (a b : Bool) → (b ≡ true → a ≡ true) → (a && b) ≡ b
and_within true b h = refl
and_within false true h =
    let no = h refl
    in cc
and_within false false h = refl

-- of a set without one that lies within it
rest_counted : (xs ys : List ℕ) → AreRids xs → AreRids ys → ((n : ℕ) → has ys n ≡ true → has xs n ≡ true) → length (left_out xs ys) + length ys ≡ length xs
rest_counted xs ys rise other within =
    let both = length-filter_both (has ys) (λ n. not (has ys n)) (λ n. refl) xs
    in let same : filter (has ys) xs ≡ ys = same_from 1 1 (filter (has ys) xs) ys (RiseFrom-filter (has ys) 1 xs rise) other
    (λ n. has-filter (has ys) xs n ∙ and_within (has xs n) (has ys n) (within n))
    in omega (arith, both, ap (λ (l : List ℕ). length l) same)

-- ---- a target's numbers

pub not_sized : (t : TargetNumbers) (lists sets : List (List ℕ)) (wanted : List ℕ) → IsUnionOf lists wanted → (length wanted ≡ t.size → ⊥) → IsOff t lists sets
not_sized t lists sets wanted union off = record { wanted = wanted; union = union; off = λ borne. off borne.size }

pub not_together : (t : TargetNumbers) (lists sets : List (List ℕ)) (wanted : List ℕ) → IsUnionOf lists wanted → (PartAgrees t.kept_records (2 ^ 31) sets → ⊥) → IsOff t lists sets
not_together t lists sets wanted union off = record {
  wanted = wanted;
  union = union;
  off = λ borne. off (record {
    all = borne.kept;
    together = borne.together;
    borne_out = record { count_is = borne.count; below = all_rids 1 borne.kept borne.together.set };
  });
}

pub not_within : (t : TargetNumbers) (lists sets : List (List ℕ)) (wanted kept : List ℕ) → IsUnionOf lists wanted → AreTogether sets kept → 0 < length (left_out kept wanted)
    → IsOff t lists sets
not_within t lists sets wanted kept union together some = record {
  wanted = wanted;
  union = union;
  off = λ borne.
      let same : borne.kept ≡ kept = only_one sets borne.kept kept borne.together together
      in omega (arith, some, ap (λ (l : List ℕ). length (left_out l wanted)) same, none_over borne.kept wanted borne.within);
}

pub lacks : (t : TargetNumbers) (lists sets : List (List ℕ)) (wanted kept rids : List ℕ) → IsUnionOf lists wanted → length wanted ≡ t.size → AreTogether sets kept
    → IsSetBorneOut t.kept_records (2 ^ 31) kept → length (left_out kept wanted) ≡ 0 → rids ≡ left_out wanted kept → IsLacking t lists sets rids
lacks t lists sets wanted kept rids union size together borne none is = record {
  wanted = wanted;
  union = union;
  borne_out = record { size = size; kept = kept; together = together; within = within_of kept wanted none; count = borne.count_is };
  rids_are = sym is;
}

-- ---- what is lacking

pub lacking_counted : (t : TargetNumbers) (lists sets : List (List ℕ)) (rids : List ℕ) → IsLacking t lists sets rids → length rids + t.kept_records ≡ t.size
lacking_counted t lists sets rids is =
    let borne = is.borne_out
    in let sum = rest_counted is.wanted borne.kept is.union.set borne.together.set borne.within
    in let size = borne.size
    in let count = borne.count
    in omega (arith, sum, size, count, ap (λ (l : List ℕ). length l) is.rids_are)

left_true : (a b : Bool) → (a && b) ≡ true → a ≡ true
left_true true b e = refl
left_true false b e = cc

pub lacking_listed : (t : TargetNumbers) (lists sets : List (List ℕ)) (rids : List ℕ) → IsLacking t lists sets rids → (rid : ℕ) → has rids rid ≡ true → is_asked lists rid ≡ true
lacking_listed t lists sets rids is rid e =
    sym (is.union.members rid)
    ∙ left_true (has is.wanted rid) (not (has is.borne_out.kept rid))
    (sym (has-filter (λ r. not (has is.borne_out.kept r)) is.wanted rid) ∙ ap (λ (l : List ℕ). has l rid) is.rids_are ∙ e)

has_drop : (n : ℕ) (rids : List ℕ) (rid : ℕ) → has (drop n rids) rid ≡ true → has rids rid ≡ true
has_drop zero rids rid e = e
has_drop (suc n) [] rid e = e
has_drop (suc n) (x ∷ rids) rid e = or_right (x == rid) (has rids rid) (has_drop n rids rid e)

has_take : (n : ℕ) (rids : List ℕ) (rid : ℕ) → has (take n rids) rid ≡ true → has rids rid ≡ true
has_take zero rids rid e = cc
has_take (suc n) [] rid e = e
has_take (suc n) (x ∷ rids) rid e = by (x == rid) (has_take n rids rid) e
  where
    by : (b : Bool) → (has (take n rids) rid ≡ true → has rids rid ≡ true) → (b || has (take n rids) rid) ≡ true → (b || has rids rid) ≡ true
    by true rest t = refl
    by false rest t = rest t

pub has_picked : (most from : ℕ) (rids : List ℕ) (rid : ℕ) → has (take most (drop from rids)) rid ≡ true → has rids rid ≡ true
has_picked most from rids rid e = has_drop from rids rid (has_take most (drop from rids) rid e)

pub picked_long : (most from : ℕ) (rids : List ℕ) → length (take most (drop from rids)) ≡ min most (length rids - from)
picked_long most from rids = length-take most (drop from rids) ∙ ap (min most) (length-drop from rids)

pub zip_long : {A B : Type 0} (R : A → B → Type 0) (xs : List A) (ys : List B) → AllZip R xs ys → length ys ≡ length xs
zip_long R [] [] all = refl
zip_long R [] (y ∷ ys) all = absurd all
zip_long R (x ∷ xs) [] all = absurd all
zip_long R (x ∷ xs) (y ∷ ys) all = ap suc (zip_long R xs ys all.1)
