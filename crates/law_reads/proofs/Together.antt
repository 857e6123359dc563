-- The rids of a partition's pieces: none stands in two of them.
use Rattle.std.proofs.Common.{◌≡◌, ◌≤◌, ◌+◌, ◌^◌, ◌==◌, ℕ, suc, Bool, true, false, cond, nat_le, if◌then◌else◌, List, [], ◌∷◌, ◌++◌, map, refl, sym, ◌∙◌, ap, subst, inl, inr, arith}
use Rattle.std.specs.Prelude.{◌||◌}
use Rattle.std.proofs.lemmas.Bool.{eqb-true}
use Rattle.std.proofs.lemmas.Bool.Decides.{nat_tests}
use Rattle.std.proofs.lemmas.List.{map-append}
use Rattle.std.proofs.lemmas.List.Sums.{sum_by-cons}
use Rattle.ov_member.specs.Rids.{RiseFrom, AreRids, has}
use Rattle.ov_member.proofs.RidLemmas.{has-head, has-append, same_from}
use Rattle.ov_segment.specs.declared.numbered.Record.{Record}
use Rattle.ov_fetch.specs.Extents.{rids_of}
use Rattle.ov_model.specs.Lists.{IsIn, joined}
use Rattle.ov_model.specs.Records.{Rec, rid_in}
use Rattle.law_partitions.specs.Pieces.{NoTwice}
use Rattle.law_partitions.proofs.PieceTimes.{in_times, one_self, times-append}
use Rattle.ov_catalog.specs.Shown.{put_by, sorted_by, list_of}
use Rattle.ov_catalog.proofs.Members.{left_in, right_in, of_map, in_sorted, of_sorted}
use Rattle.ov_read.specs.Agreement.{times, AreTogether}
use Rattle.law_reads.specs.Sights.{record_in, records_in}
use Rattle.law_reads.proofs.Orders.{rid_some, place_same}
use Rattle.law_reads.proofs.Stored.{sorted_map}

-- ---- membership, tested and said

pub or_right : (a b : Bool) → b ≡ true → (a || b) ≡ true
or_right true b e = refl
or_right false b e = e

pub in_has : (xs : List ℕ) (n : ℕ) → IsIn xs n → has xs n ≡ true
in_has [] n is = absurd is
in_has (x ∷ xs) n (inl same) = subst (λ k. has (k ∷ xs) n ≡ true) same (has-head n xs)
in_has (x ∷ xs) n (inr later) = or_right (x == n) (has xs n) (in_has xs n later)

pub has_in : (xs : List ℕ) (n : ℕ) → has xs n ≡ true → IsIn xs n
has_in [] n e = cc
has_in (x ∷ xs) n e = by (x == n) (λ t. sym (eqb-true x n t)) (has_in xs n) e
  where
    by : (b : Bool) → (b ≡ true → n ≡ x) → (has xs n ≡ true → IsIn xs n) → (b || has xs n) ≡ true → IsIn (x ∷ xs) n
    by true same rest t = inl (same refl)
    by false same rest t = inr (rest t)

pub has_same : (xs ys : List ℕ) (n : ℕ) → (IsIn xs n → IsIn ys n) → (IsIn ys n → IsIn xs n) → has xs n ≡ has ys n
has_same xs ys n forth back = by (has xs n) (has ys n) (λ e. in_has ys n (forth (has_in xs n e))) (λ e. in_has xs n (back (has_in ys n e)))
  where
    by : (a b : Bool) → (a ≡ true → b ≡ true) → (b ≡ true → a ≡ true) → a ≡ b
    by true b here there = sym (here refl)
    by false true here there = there refl
    by false false here there = refl

pub has_listed : (all rs : List Rec) (rid : ℕ) → has (list_of all rs) rid ≡ has (map (rid_in all) rs) rid
has_listed all rs rid =
    has_same (list_of all rs) (map (rid_in all) rs) rid (of_sorted (λ n. n) (map (rid_in all) rs) rid) (in_sorted (λ n. n) (map (rid_in all) rs) rid)

-- ---- lists ascend

put_rise : (least x : ℕ) (xs : List ℕ) → least ≤ x → x ≤ 2 ^ 31 → RiseFrom least xs → (IsIn xs x → ⊥) → RiseFrom least (put_by (λ n. n) x xs)
put_rise least x [] low most rise other = (low, most, tt)
put_rise least x (y ∷ ys) low most rise other =
    by (nat_le x y) refl (λ le. put_rise (suc y) x ys le most rise.2 (λ is. other (inr is)))
  where
    by : (b : Bool) → nat_le x y ≡ b → (suc y ≤ x → RiseFrom (suc y) (put_by (λ n. n) x ys)) → RiseFrom least (if b then x ∷ y ∷ ys else y ∷ put_by (λ n. n) x ys)
    by true e rest =
        let apart : x ≡ y → ⊥ = λ same. other (inl same)
        in let above : suc x ≤ y = grind (arith, nat_tests, e, apart)
        in (low, most, (above, rise.1, rise.2))
    by false e rest =
        let above : suc y ≤ x = grind (arith, nat_tests, e)
        in (rise.0, rise.1, rest above)

twice : (r q : Rec) (rest : List Rec) → r ≡ q → IsIn rest q → NoTwice (r ∷ rest) → ⊥
twice r q rest same is once = omega (arith, once r, one_self r, in_times rest r (subst (IsIn rest) (sym same) is))

once_rest : (r : Rec) (rest : List Rec) → NoTwice (r ∷ rest) → NoTwice rest
once_rest r rest once x = omega (arith, once x)

pub listed_rise : (all rs : List Rec) → NoTwice rs → ((r : Rec) → IsIn rs r → IsIn all r) → ((r : Rec) → IsIn rs r → rid_in all r ≤ 2 ^ 31) → AreRids (list_of all rs)
listed_rise all [] once known most = tt
listed_rise all (r ∷ rs) once known most =
    put_rise 1 (rid_in all r) (list_of all rs) (rid_some all r) (most r (inl refl))
    (listed_rise all rs (once_rest r rs once) (λ x is. known x (inr is)) (λ x is. most x (inr is)))
    (λ is.
    let of = of_map (rid_in all) rs (rid_in all r) (of_sorted (λ n. n) (map (rid_in all) rs) (rid_in all r) is)
    in twice r of.0 rs (place_same all r of.0 (known r (inl refl)) (known of.0 (inr of.1.0)) of.1.1) of.1.0 once)

-- ---- the pieces together

rids_in : (all piece : List Rec) → map (λ (r : Record). r.rid) (map (record_in all) piece) ≡ map (rid_in all) piece
rids_in all [] = refl
rids_in all (r ∷ piece) = ap (λ l. rid_in all r ∷ l) (rids_in all piece)

pub rids_listed : (all piece : List Rec) → rids_of (records_in all piece) ≡ list_of all piece
rids_listed all piece =
    sym (sorted_map (λ (r : Record). r.rid) (λ n. n) (map (record_in all) piece)) ∙ ap (sorted_by (λ n. n)) (rids_in all piece)

both : (all piece rest : List Rec) (rid : ℕ) → NoTwice (piece ++ rest) → ((r : Rec) → IsIn (piece ++ rest) r → IsIn all r)
    → has (map (rid_in all) piece) rid ≡ true → has (map (rid_in all) rest) rid ≡ true → ⊥
both all piece rest rid once known here there =
    let r = of_map (rid_in all) piece rid (has_in (map (rid_in all) piece) rid here)
    in let q = of_map (rid_in all) rest rid (has_in (map (rid_in all) rest) rid there)
    in let same : r.0 ≡ q.0 = place_same all r.0 q.0 (known r.0 (left_in piece rest r.0 r.1.0)) (known q.0 (right_in piece rest q.0 q.1.0)) (sym r.1.1 ∙ q.1.1)
    in omega (arith, once r.0, times-append piece rest r.0, in_times piece r.0 r.1.0, in_times rest r.0 (subst (IsIn rest) (sym same) q.1.0))

one_or : (a b : Bool) → (a ≡ true → b ≡ true → ⊥) → cond a 1 0 + cond b 1 0 ≡ cond (a || b) 1 0
one_or true true apart = absurd (apart refl refl)
one_or true false apart = refl
one_or false b apart = omega arith

times_in : (all : List Rec) (pieces : List (List Rec)) (rid : ℕ) → NoTwice (joined pieces) → ((r : Rec) → IsIn (joined pieces) r → IsIn all r)
    → times (map rids_of (map (records_in all) pieces)) rid ≡ cond (has (map (rid_in all) (joined pieces)) rid) 1 0
times_in all [] rid once known = refl
times_in all (piece ∷ pieces) rid once known =
    let rest : List Rec = joined pieces
    in let sets : List (List ℕ) = map rids_of (map (records_in all) pieces)
    in let later : times sets rid ≡ cond (has (map (rid_in all) rest) rid) 1 0 =
    times_in all pieces rid (λ r. omega (arith, once r, times-append piece rest r)) (λ r is. known r (right_in piece rest r is))
    in let first : has (rids_of (records_in all piece)) rid ≡ has (map (rid_in all) piece) rid = ap (λ l. has l rid) (rids_listed all piece) ∙ has_listed all piece rid
    in sum_by-cons (λ (rids : List ℕ). cond (has rids rid) 1 0) (rids_of (records_in all piece)) sets
    ∙ ap (λ (b : Bool). cond b 1 0 + times sets rid) first
    ∙ ap (λ n. cond (has (map (rid_in all) piece) rid) 1 0 + n) later
    ∙ one_or (has (map (rid_in all) piece) rid) (has (map (rid_in all) rest) rid) (both all piece rest rid once known)
    ∙ ap (λ (b : Bool). cond b 1 0) (sym (has-append (map (rid_in all) piece) (map (rid_in all) rest) rid) ∙ ap (λ l. has l rid) (sym (map-append (rid_in all) piece rest)))

pub together : (all : List Rec) (pieces : List (List Rec)) → NoTwice (joined pieces) → ((r : Rec) → IsIn (joined pieces) r → IsIn all r)
    → ((r : Rec) → IsIn (joined pieces) r → rid_in all r ≤ 2 ^ 31) → AreTogether (map rids_of (map (records_in all) pieces)) (list_of all (joined pieces))
together all pieces once known most = record {
  set = listed_rise all (joined pieces) once known most;
  each = λ rid. times_in all pieces rid once known ∙ ap (λ (b : Bool). cond b 1 0) (sym (has_listed all (joined pieces) rid));
}

abbrev bit : Bool → ℕ
bit b = cond b 1 0

bit_same : (a b : Bool) → bit a ≡ bit b → a ≡ b
bit_same true true e = refl
bit_same true false e = absurd (omega (arith, e))
bit_same false true e = absurd (omega (arith, e))
bit_same false false e = refl

pub together_once : (sets : List (List ℕ)) (a b : List ℕ) → AreTogether sets a → AreTogether sets b → a ≡ b
together_once sets a b here there = same_from 1 1 a b here.set there.set (λ n. bit_same (has a n) (has b n) (sym (here.each n) ∙ there.each n))
