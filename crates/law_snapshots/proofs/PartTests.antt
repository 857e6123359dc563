-- Tests over lists, versions and extents, as facts.
use Rattle.std.proofs.Common.{◌≡◌, ◌≤◌, ◌<◌, ℕ, ◌+◌, ◌-◌, ◌^◌, Bool, true, false, not, ◌&&◌, ◌||◌, ◌==◌, List, [], ◌∷◌, ◌++◌, length, map, filter, refl, sym, ◌∙◌, ap, inl, inr, arith}
use Rattle.std.specs.Prelude.{nat_le, nat_lt, if◌then◌else◌}
use Rattle.std.specs.List.{list_all, list_any}
use Rattle.std.proofs.lemmas.Bool.{cases_Bool, and_parts, and_from, and_right, or_left, or_right, eq-eqb, ne_eqb, eqb-true, leb-true, le-leb, ltb-true, lt-ltb}
use Rattle.std.proofs.lemmas.List.{length-append}
use borrow.Author.Tests.{not-true, both_ways}
use Rattle.ov_host.specs.declared.area.Extent.{Extent}
use Rattle.ov_catalog.specs.Events.{is_one}
use Rattle.ov_catalog.specs.Planning.{ascend_from, meets}
use Rattle.ov_catalog.specs.Testing.{is_extent, is_same}
use Rattle.ov_catalog.specs.Numbers.{SetNumbers}
use Rattle.ov_catalog.specs.Wholes.{are_parts, are_segments, is_part, parts_serving, targets_left}
use Rattle.ov_model.specs.Records.{counted}
use Rattle.ov_layout.specs.Changes.{extents_of}

-- ---- what holds of each

module _ {X : Type 0} where
  pub all_both : (test : X → Bool) (a b : List X) → list_all test a ≡ true → list_all test b ≡ true → list_all test (a ++ b) ≡ true
  all_both test [] b one two = two
  all_both test (x ∷ a) b one two =
      let both = and_parts (test x) (list_all test a) one
      in and_from (test x) (list_all test (a ++ b)) both.0 (all_both test a b both.1 two)

  pub all_more : (test other : X → Bool) (xs : List X) → ((x : X) → test x ≡ true → other x ≡ true) → list_all test xs ≡ true → list_all other xs ≡ true
  all_more test other [] more all = refl
  all_more test other (x ∷ xs) more all =
      let both = and_parts (test x) (list_all test xs) all
      in and_from (other x) (list_all other xs) (more x both.0) (all_more test other xs more both.1)

  pub all_filter : (test keep : X → Bool) (xs : List X) → list_all test xs ≡ true → list_all test (filter keep xs) ≡ true
  all_filter test keep [] all = refl
  all_filter test keep (x ∷ xs) all =
      let both = and_parts (test x) (list_all test xs) all
      in let rest = all_filter test keep xs both.1
      in elim (cases_Bool (keep x)) [
        | inl e ↦ rw e (and_from (test x) (list_all test (filter keep xs)) both.0 rest)
        | inr e ↦ rw e rest
      ]

-- ---- which numbers are listed

pub here : (n : ℕ) (ns : List ℕ) → is_one (n ∷ ns) n ≡ true
here n ns = or_left (n == n) (is_one ns n) (eq-eqb n n refl)

pub all_at : (test : ℕ → Bool) (ns : List ℕ) (n : ℕ) → list_all test ns ≡ true → is_one ns n ≡ true → test n ≡ true
all_at test [] n all there = absurd cc
all_at test (m ∷ ns) n all there =
    let both = and_parts (test m) (list_all test ns) all
    in elim (cases_Bool (m == n)) [
      | inl e ↦ ap test (sym (eqb-true m n e)) ∙ both.0
      | inr e ↦ all_at test ns n both.1 (rw e at there)
    ]

pub all_by : (test : ℕ → Bool) (ns : List ℕ) → ((n : ℕ) → is_one ns n ≡ true → test n ≡ true) → list_all test ns ≡ true
all_by test [] each = refl
all_by test (m ∷ ns) each =
    and_from (test m) (list_all test ns) (each m (here m ns)) (all_by test ns (λ n there. each n (or_right (m == n) (is_one ns n) there)))

pub any_at : (test : ℕ → Bool) (ns : List ℕ) (n : ℕ) → is_one ns n ≡ true → test n ≡ true → list_any test ns ≡ true
any_at test [] n there passes = absurd cc
any_at test (m ∷ ns) n there passes =
    elim (cases_Bool (m == n)) [
      | inl e ↦ or_left (test m) (list_any test ns) (ap test (eqb-true m n e) ∙ passes)
      | inr e ↦ or_right (test m) (list_any test ns) (any_at test ns n (rw e at there) passes)
    ]

pub some_one : (test : ℕ → Bool) (ns : List ℕ) → list_any test ns ≡ true → (n : ℕ) × ((is_one ns n ≡ true) × (test n ≡ true))
some_one test [] any = absurd cc
some_one test (m ∷ ns) any =
    elim (cases_Bool (test m)) [
      | inl e ↦ (m, (here m ns, e))
      | inr e ↦ let rest = some_one test ns (rw e at any) in (rest.0, (or_right (m == rest.0) (is_one ns rest.0) rest.1.0, rest.1.1))
    ]

pub one_both : (a b : List ℕ) (n : ℕ) → is_one (a ++ b) n ≡ (is_one a n || is_one b n)
one_both [] b n = refl
one_both (m ∷ a) b n =
    elim (cases_Bool (m == n)) [
      | inl e ↦ rw e refl
      | inr e ↦ rw e (one_both a b n)
    ]

-- in both of two lists, or in one alone
pub meets_at : (a b : List ℕ) (n : ℕ) → is_one a n ≡ true → is_one b n ≡ true → meets a b ≡ true
meets_at a b n one two = any_at (is_one b) a n one two

pub apart_at : (a b : List ℕ) (n : ℕ) → meets a b ≡ false → is_one a n ≡ true → is_one b n ≡ false
apart_at a b n apart one =
    elim (cases_Bool (is_one b n)) [
      | inl e ↦ absurd (both_ways (meets a b) apart (meets_at a b n one e))
      | inr e ↦ e
    ]

-- ---- those that stay where others go

abbrev pub without : List ℕ → List ℕ → List ℕ
without gone ns = filter (λ n. not (is_one gone n)) ns

pub one_filter : (keep : ℕ → Bool) (ns : List ℕ) (n : ℕ) → is_one (filter keep ns) n ≡ (is_one ns n && keep n)
one_filter keep [] n = refl
one_filter keep (m ∷ ns) n =
    let rest = one_filter keep ns n
    in elim (cases_Bool (m == n)) [
      | inl same ↦
          let is = eqb-true m n same
          in elim (cases_Bool (keep m)) [
            | inl kept ↦ let kept_n : keep n ≡ true = ap keep (sym is) ∙ kept in rw (kept, same, kept_n) refl
            | inr left ↦ let left_n : keep n ≡ false = ap keep (sym is) ∙ left in rw (left, same, left_n) (rest ∙ and_right (is_one ns n) (keep n) left_n)
          ]
      | inr other ↦
          elim (cases_Bool (keep m)) [
            | inl kept ↦ rw (kept, other) rest
            | inr left ↦ rw (left, other) rest
          ]
    ]

module _ (gone ns : List ℕ) (n : ℕ) where
  pub stays_one : is_one ns n ≡ true → is_one gone n ≡ false → is_one (without gone ns) n ≡ true
  stays_one there out = one_filter (λ m. not (is_one gone m)) ns n ∙ and_from (is_one ns n) (not (is_one gone n)) there (ap not out)

  pub was_one : is_one (without gone ns) n ≡ true → (is_one ns n ≡ true) × (is_one gone n ≡ false)
  was_one there =
      let both = and_parts (is_one ns n) (not (is_one gone n)) (sym (one_filter (λ m. not (is_one gone m)) ns n) ∙ there)
      in (both.0, not-true (is_one gone n) both.1)

  pub gone_one : is_one gone n ≡ true → is_one (without gone ns) n ≡ false
  gone_one out = one_filter (λ m. not (is_one gone m)) ns n ∙ and_right (is_one ns n) (not (is_one gone n)) (ap not out)

  pub same_one : is_one gone n ≡ false → is_one (without gone ns) n ≡ is_one ns n
  same_one out = one_filter (λ m. not (is_one gone m)) ns n ∙ ap (λ b. is_one ns n && not b) out ∙ and_true (is_one ns n)
    where
      and_true : (b : Bool) → (b && true) ≡ b
      and_true true = refl
      and_true false = refl

pub without_meets : (gone a ns : List ℕ) → meets a gone ≡ false → meets a ns ≡ true → meets a (without gone ns) ≡ true
without_meets gone a ns apart meet =
    let some = some_one (is_one ns) a meet
    in meets_at a (without gone ns) some.0 some.1.0 (stays_one gone ns some.0 some.1.1 (apart_at a gone some.0 apart some.1.0))

pub without_apart : (gone a ns : List ℕ) → meets a ns ≡ false → meets a (without gone ns) ≡ false
without_apart gone a ns apart =
    elim (cases_Bool (meets a (without gone ns))) [
      | inl e ↦
          let some = some_one (is_one (without gone ns)) a e
          in absurd (both_ways (meets a ns) apart (meets_at a ns some.0 some.1.0 (was_one gone ns some.0 some.1.1).0))
      | inr e ↦ e
    ]

pub some_listed : (ns : List ℕ) (n : ℕ) → is_one ns n ≡ true → (length ns == 0) ≡ false
some_listed [] n there = absurd cc
some_listed (m ∷ ns) n there = ne_eqb (length (m ∷ ns)) 0 (λ e. absurd (omega (arith, e)))

pub none_listed : {X : Type 0} (xs : List X) → (length xs == 0) ≡ true → xs ≡ []
none_listed [] none = refl
none_listed (x ∷ xs) none = let e : length (x ∷ xs) ≡ 0 = eqb-true (length (x ∷ xs)) 0 none in absurd (omega (arith, e))

abbrev pub one_if : Bool → ℕ
one_if b = if b then 1 else 0

-- ---- ascending numbers

pub ascend_lower : (least most : ℕ) (ns : List ℕ) → least ≤ most → ascend_from most ns ≡ true → ascend_from least ns ≡ true
ascend_lower least most [] low up = refl
ascend_lower least most (n ∷ ns) low up =
    let both = and_parts (nat_le most n) (ascend_from (n + 1) ns) up
    in and_from (nat_le least n) (ascend_from (n + 1) ns) (le-leb least n (omega (arith, low, leb-true most n both.0))) both.1

pub ascend_filter : (keep : ℕ → Bool) (least : ℕ) (ns : List ℕ) → ascend_from least ns ≡ true → ascend_from least (filter keep ns) ≡ true
ascend_filter keep least [] up = refl
ascend_filter keep least (n ∷ ns) up =
    let both = and_parts (nat_le least n) (ascend_from (n + 1) ns) up
    in let rest = ascend_filter keep (n + 1) ns both.1
    in elim (cases_Bool (keep n)) [
      | inl e ↦ rw e (and_from (nat_le least n) (ascend_from (n + 1) (filter keep ns)) both.0 rest)
      | inr e ↦ rw e (ascend_lower least (n + 1) (filter keep ns) (omega (arith, leb-true least n both.0)) rest)
    ]

pub ascend_last : (least last : ℕ) (ns : List ℕ) → ascend_from least ns ≡ true → list_all (λ n. nat_lt n last) ns ≡ true → least ≤ last → ascend_from least (ns ++ last ∷ []) ≡ true
ascend_last least last [] up below low = and_from (nat_le least last) true (le-leb least last low) refl
ascend_last least last (n ∷ ns) up below low =
    let both = and_parts (nat_le least n) (ascend_from (n + 1) ns) up
    in let under = and_parts (nat_lt n last) (list_all (λ m. nat_lt m last) ns) below
    in and_from (nat_le least n) (ascend_from (n + 1) (ns ++ last ∷ [])) both.0
    (ascend_last (n + 1) last ns both.1 under.1 (omega (arith, ltb-true n last under.0)))

-- ---- none of both or some of both

pub same_out : (a b : Bool) → is_same a b ≡ true → a ≡ b
same_out true b same = sym same
same_out false b same = sym (not-true b same)

pub same_in : (a b : Bool) → a ≡ b → is_same a b ≡ true
same_in true b same = sym same
same_in false b same = ap not (sym same)

zero_sum : (a b : ℕ) → ((a + b) == 0) ≡ ((a == 0) && (b == 0))
zero_sum a b =
    elim (cases_Bool (a == 0)) [
      | inl e ↦ let is : a ≡ 0 = eqb-true a 0 e in let sum : a + b ≡ b = omega (arith, is) in ap (λ n. n == 0) sum ∙ ap (λ t. t && (b == 0)) (sym e)
      | inr e ↦ ne_eqb (a + b) 0 (λ none. some a e (omega (arith, none))) ∙ ap (λ t. t && (b == 0)) (sym e)
    ]
  where
    some : (n : ℕ) → (n == 0) ≡ false → n ≡ 0 → ⊥
    some n out is = both_ways (n == 0) out (eq-eqb n 0 is)

pub same_sum : (a b x y : ℕ) → (a == 0) ≡ (b == 0) → (x == 0) ≡ (y == 0) → ((a + x) == 0) ≡ ((b + y) == 0)
same_sum a b x y one two = zero_sum a x ∙ (λ i. one i && two i) ∙ sym (zero_sum b y)

-- ---- extents

abbrev pub is_filled : Extent → Bool
is_filled e = not (e.bytes == 0) && is_extent e

pub segments_of : (records : ℕ) (es : List Extent) → list_all is_filled es ≡ true → (length es == 0) ≡ (records == 0) → are_segments records es ≡ true
segments_of records es all same = and_from (list_all is_filled es) (is_same (length es == 0) (records == 0)) all (same_in (length es == 0) (records == 0) same)

pub segments_are : (records : ℕ) (es : List Extent) → are_segments records es ≡ true → (list_all is_filled es ≡ true) × ((length es == 0) ≡ (records == 0))
segments_are records es are =
    let both = and_parts (list_all is_filled es) (is_same (length es == 0) (records == 0)) are
    in (both.0, same_out (length es == 0) (records == 0) both.1)

pub segments_both : (a b : ℕ) (es fs : List Extent) → are_segments a es ≡ true → are_segments b fs ≡ true → are_segments (a + b) (es ++ fs) ≡ true
segments_both a b es fs one two =
    let es_are = segments_are a es one
    in let fs_are = segments_are b fs two
    in segments_of (a + b) (es ++ fs) (all_both is_filled es fs es_are.0 fs_are.0)
    (ap (λ n. n == 0) (length-append es fs) ∙ same_sum (length es) a (length fs) b es_are.1 fs_are.1)

-- an extent that isn't empty is one segment
pub segment_one : (records : ℕ) (e : Extent) → 1 ≤ records → is_filled e ≡ true → are_segments records (extents_of e) ≡ true
segment_one records e some filled =
    let out : (e.bytes == 0) ≡ false = not-true (e.bytes == 0) (and_parts (not (e.bytes == 0)) (is_extent e) filled).0
    in let one : are_segments records (e ∷ []) ≡ true =
    segments_of records (e ∷ []) (and_from (is_filled e) true filled refl)
    (ne_eqb (length (e ∷ [])) 0 (λ none. absurd (omega (arith, none))) ∙ sym (ne_eqb records 0 (λ none. absurd (omega (arith, none, some)))))
    in rw out one

-- ---- the partitions of a dataset

pub record HasParts (d : SetNumbers Extent Extent) : Type 0 where
  pub ids : ascend_from 1 (map (λ part. part.id) d.parts) ≡ true
  pub below : list_all (λ part. nat_lt part.id d.next_part) d.parts ≡ true
  pub once : list_all (λ vid. parts_serving d.parts vid == 1) (counted 1 (length d.versions)) ≡ true
  pub each : list_all (is_part (length d.versions) d.records) d.parts ≡ true
  pub room : d.next_part + length (targets_left d.plan) + (65535 - length d.versions) < 2 ^ 32

pub parts_are : (d : SetNumbers Extent Extent) → are_parts d ≡ true → HasParts d
parts_are d are =
    let halves = and_parts (ascend_from 1 (map (λ part. part.id) d.parts) && list_all (λ part. nat_lt part.id d.next_part) d.parts) _ are
    in let numbers = and_parts (ascend_from 1 (map (λ part. part.id) d.parts)) (list_all (λ part. nat_lt part.id d.next_part) d.parts) halves.0
    in let rest = and_parts (list_all (λ vid. parts_serving d.parts vid == 1) (counted 1 (length d.versions)) && list_all (is_part (length d.versions) d.records) d.parts)
    (nat_lt (d.next_part + length (targets_left d.plan) + (65535 - length d.versions)) (2 ^ 32)) halves.1
    in let own = and_parts (list_all (λ vid. parts_serving d.parts vid == 1) (counted 1 (length d.versions))) (list_all (is_part (length d.versions) d.records) d.parts) rest.0
    in record {
      ids = numbers.0;
      below = numbers.1;
      once = own.0;
      each = own.1;
      room = ltb-true (d.next_part + length (targets_left d.plan) + (65535 - length d.versions)) (2 ^ 32) rest.1;
    }

pub parts_test : (d : SetNumbers Extent Extent) → HasParts d → are_parts d ≡ true
parts_test d has =
    and_from _ _ (and_from _ _ has.ids has.below)
    (and_from _ _ (and_from _ _ has.once has.each) (lt-ltb (d.next_part + length (targets_left d.plan) + (65535 - length d.versions)) (2 ^ 32) has.room))
