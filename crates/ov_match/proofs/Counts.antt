-- How many rids two lists have in common.
use Rattle.std.proofs.Common.{◌≡◌, ◌≤◌, ◌<◌, ℕ, suc, ◌+◌, Bool, true, false, ◌&&◌, ◌||◌, ◌⊎◌, ◌==◌, List, [], ◌∷◌, ◌++◌, length, get_or, drop, refl, sym, ◌∙◌, ap, inl, inr, arith}
use Rattle.std.specs.Prelude.{if◌then◌else◌, not, filter}
use Rattle.std.specs.List.{list_all}
use Rattle.std.proofs.lemmas.Bool.{cases_Bool, eqb-true, ne_eqb, eq-eqb}
use Rattle.std.proofs.lemmas.List.{length-append, drop_more}
use Rattle.std.proofs.lemmas.List.Elements.{filter-append}
use Rattle.std.proofs.lemmas.List.Filters.{length-filter_both}
use Rattle.ov_member.specs.Rids.{RiseFrom, AreRids, has, shared, left_out}
use Rattle.ov_model.specs.Lists.{joined}
use Rattle.ov_model.specs.Placed.{times}
use Rattle.ov_model.proofs.Counting.{one_if, times-append, listed, not_listed}
use Rattle.ov_match.specs.Matching.{AreApart, lies_within, places_within, kept_of}

-- ---- how often a rid stands in a list

eqb-sym : (a b : ℕ) → (a == b) ≡ (b == a)
eqb-sym a b = by (cases_Bool (a == b))
  where
    by : ((a == b) ≡ true) ⊎ ((a == b) ≡ false) → (a == b) ≡ (b == a)
    by (inl e) = e ∙ sym (eq-eqb b a (sym (eqb-true a b e)))
    by (inr e) = elim (cases_Bool (b == a)) [
      | inl f ↦ eq-eqb a b (sym (eqb-true b a f)) ∙ sym f
      | inr f ↦ e ∙ sym f
    ]

-- ascending rids stand once each
rise_none : (least : ℕ) (rids : List ℕ) (n : ℕ) → RiseFrom least rids → n < least → times rids n ≡ 0
rise_none least [] n rise low = refl
rise_none least (rid ∷ rids) n rise low = by (rid == n) (eqb-true rid n) (rise_none (suc rid) rids n rise.2 (omega (arith, rise.0, low)))
  where
    by : (b : Bool) → (b ≡ true → rid ≡ n) → times rids n ≡ 0 → one_if b + times rids n ≡ 0
    by true same rest = absurd (omega (arith, same refl, rise.0, low))
    by false same rest = omega (arith, rest)

pub rise_once : (least : ℕ) (rids : List ℕ) (n : ℕ) → RiseFrom least rids → times rids n ≤ 1
rise_once least [] n rise = omega arith
rise_once least (rid ∷ rids) n rise = by (rid == n) (eqb-true rid n) (rise_once (suc rid) rids n rise.2)
  where
    by : (b : Bool) → (b ≡ true → rid ≡ n) → times rids n ≤ 1 → one_if b + times rids n ≤ 1
    by true same rest = omega (arith, rise_none (suc rid) rids n rise.2 (omega (arith, same refl)))
    by false same rest = omega (arith, rest)

-- where none stands twice, how often one does is whether it is there
times_is : (xs : List ℕ) (n : ℕ) → times xs n ≤ 1 → times xs n ≡ one_if (has xs n)
times_is xs n once = elim (cases_Bool (has xs n)) [
  | inl there ↦ rw there (omega (arith, once, listed xs n there))
  | inr other ↦ rw other (not_listed xs n other)
]

counted_once : (x : ℕ) (ys : List ℕ) → length (filter (λ y. x == y) ys) ≡ times ys x
counted_once x [] = refl
counted_once x (y ∷ ys) = rw (eqb-sym x y) (by (y == x) (counted_once x ys))
  where
    by : (t : Bool) → length (filter (λ z. x == z) ys) ≡ times ys x
        → length (if t then y ∷ filter (λ z. x == z) ys else filter (λ z. x == z) ys) ≡ one_if t + times ys x
    by true rest = omega (arith, rest)
    by false rest = omega (arith, rest)

-- ---- what is in both of two lists

-- a test that is passed by one of two others, which nothing passes both of
pub length_either : (p q r : ℕ → Bool) → ((x : ℕ) → r x ≡ (p x || q x)) → ((x : ℕ) → (p x && q x) ≡ false) → (xs : List ℕ)
    → length (filter r xs) ≡ length (filter p xs) + length (filter q xs)
length_either p q r either apart [] = refl
length_either p q r either apart (x ∷ xs) = by (p x) (q x) (r x) (either x) (apart x) (length_either p q r either apart xs)
  where
    by : (a b c : Bool) → c ≡ (a || b) → (a && b) ≡ false → length (filter r xs) ≡ length (filter p xs) + length (filter q xs)
        → length (if c then x ∷ filter r xs else filter r xs)
        ≡ length (if a then x ∷ filter p xs else filter p xs) + length (if b then x ∷ filter q xs else filter q xs)
    by true true c e none rest = cc
    by true false c e none rest = rw e (omega (arith, rest))
    by false true c e none rest = rw e (omega (arith, rest))
    by false false c e none rest = rw e (omega (arith, rest))

-- how many are in both doesn't depend on their order
pub shared_turned : (xs ys : List ℕ) → ((n : ℕ) → times xs n ≤ 1) → ((n : ℕ) → times ys n ≤ 1) → length (shared xs ys) ≡ length (shared ys xs)
shared_turned [] ys once other = sym (none ys)
  where
    none : (zs : List ℕ) → length (filter (λ z. has [] z) zs) ≡ 0
    none [] = refl
    none (z ∷ zs) = none zs
shared_turned (x ∷ xs) ys once other =
    by (has ys x) (counted_once x ys ∙ times_is ys x (other x)) (shared_turned xs ys (λ n. omega (arith, once n)) other)
  where
    gone : has xs x ≡ false
    gone = elim (cases_Bool (has xs x)) [
      | inl there ↦ absurd (omega (arith, once x, listed xs x there, ap one_if (eq-eqb x x refl)))
      | inr none ↦ none
    ]

    apart : (n : ℕ) → ((x == n) && has xs n) ≡ false
    apart n = elim (cases_Bool (x == n)) [
      | inl same ↦ rw same (rw (← eqb-true x n same) gone)
      | inr ne ↦ rw ne refl
    ]

    by : (t : Bool) → length (filter (λ y. x == y) ys) ≡ one_if t → length (shared xs ys) ≡ length (shared ys xs)
        → length (if t then x ∷ shared xs ys else shared xs ys) ≡ length (shared ys (x ∷ xs))
    by true here rest = omega (arith, here, rest, length_either (λ y. x == y) (has xs) (has (x ∷ xs)) (λ n. refl) apart ys)
    by false here rest = omega (arith, here, rest, length_either (λ y. x == y) (has xs) (has (x ∷ xs)) (λ n. refl) apart ys)

-- what is in both and what is left out are all
pub parted : (xs ys : List ℕ) → length (shared xs ys) + length (left_out xs ys) ≡ length xs
parted xs ys = length-filter_both (has ys) (λ n. not (has ys n)) (λ n. refl) xs

-- ---- the segments of a partition

pub shared_more : (segment : List ℕ) (segments : List (List ℕ)) (wanted : List ℕ)
    → length (shared (joined (segment ∷ segments)) wanted) ≡ length (shared segment wanted) + length (shared (joined segments) wanted)
shared_more segment segments wanted =
    ap length (filter-append (has wanted) segment (joined segments)) ∙ length-append (shared segment wanted) (shared (joined segments) wanted)

pub left_out_more : (segment : List ℕ) (segments : List (List ℕ)) (wanted : List ℕ)
    → length (left_out (joined (segment ∷ segments)) wanted) ≡ length (left_out segment wanted) + length (left_out (joined segments) wanted)
left_out_more segment segments wanted =
    ap length (filter-append (λ n. not (has wanted n)) segment (joined segments)) ∙ length-append (left_out segment wanted) (left_out (joined segments) wanted)

-- what is missing of the target, and what it shares with the segments
pub missing_and_shared : (wanted : List ℕ) (segments : List (List ℕ)) → AreRids wanted → AreApart segments
    → length (left_out wanted (joined segments)) + length (shared (joined segments) wanted) ≡ length wanted
missing_and_shared wanted segments rids apart =
    omega (arith, parted wanted (joined segments), shared_turned wanted (joined segments) (λ n. rise_once 1 wanted n rids) apart)

-- ---- the segments that lie within the target

all_shared : (p : ℕ → Bool) (xs : List ℕ) → list_all p xs ≡ true → length (filter p xs) ≡ length xs
all_shared p [] all = refl
all_shared p (x ∷ xs) all = by (p x) all (all_shared p xs)
  where
    by : (t : Bool) → (t && list_all p xs) ≡ true → (list_all p xs ≡ true → length (filter p xs) ≡ length xs)
        → length (if t then x ∷ filter p xs else filter p xs) ≡ suc (length xs)
    by true rest more = omega (arith, more rest)
    by false rest more = cc

some_lost : (p : ℕ → Bool) (xs : List ℕ) → list_all p xs ≡ false → length (filter p xs) < length xs
some_lost p [] all = cc
some_lost p (x ∷ xs) all = by (p x) all (some_lost p xs)
  where
    most : (zs : List ℕ) → length (filter p zs) ≤ length zs
    most [] = omega arith
    most (z ∷ zs) = each (p z) (most zs)
      where
        each : (t : Bool) → length (filter p zs) ≤ length zs → length (if t then z ∷ filter p zs else filter p zs) ≤ suc (length zs)
        each true rest = omega (arith, rest)
        each false rest = omega (arith, rest)

    by : (t : Bool) → (t && list_all p xs) ≡ false → (list_all p xs ≡ false → length (filter p xs) < length xs)
        → length (if t then x ∷ filter p xs else filter p xs) < suc (length xs)
    by true rest more = omega (arith, more rest)
    by false rest more = omega (arith, most xs)

-- a segment lies within the target where it shares all of its rids
pub within_is : (wanted segment : List ℕ) → (length (shared segment wanted) == length segment) ≡ lies_within wanted segment
within_is wanted segment = elim (cases_Bool (lies_within wanted segment)) [
  | inl all ↦ rw all (eq-eqb _ _ (all_shared (has wanted) segment all))
  | inr some ↦ rw some (ne_eqb _ _ (λ e. omega (arith, e, some_lost (has wanted) segment some)))
]

kept_times : (wanted : List ℕ) (segments : List (List ℕ)) (n : ℕ) → times (joined (kept_of wanted segments)) n ≤ times (joined segments) n
kept_times wanted [] n = omega arith
kept_times wanted (segment ∷ segments) n = by (lies_within wanted segment) (kept_times wanted segments n)
  where
    by : (t : Bool) → times (joined (kept_of wanted segments)) n ≤ times (joined segments) n
        → times (joined (if t then segment ∷ kept_of wanted segments else kept_of wanted segments)) n ≤ times (segment ++ joined segments) n
    by true rest = omega (arith, rest, times-append segment (joined (kept_of wanted segments)) n, times-append segment (joined segments) n)
    by false rest = omega (arith, rest, times-append segment (joined segments) n)

kept_shared : (wanted : List ℕ) (segments : List (List ℕ)) → length (shared (joined (kept_of wanted segments)) wanted) ≡ length (joined (kept_of wanted segments))
kept_shared wanted [] = refl
kept_shared wanted (segment ∷ segments) = by (lies_within wanted segment) (all_shared (has wanted) segment) (kept_shared wanted segments)
  where
    by : (t : Bool) → (t ≡ true → length (shared segment wanted) ≡ length segment)
        → length (shared (joined (kept_of wanted segments)) wanted) ≡ length (joined (kept_of wanted segments))
        → length (shared (joined (if t then segment ∷ kept_of wanted segments else kept_of wanted segments)) wanted)
        ≡ length (joined (if t then segment ∷ kept_of wanted segments else kept_of wanted segments))
    by true here rest =
        omega (arith, here refl, rest, shared_more segment (kept_of wanted segments) wanted, length-append segment (joined (kept_of wanted segments)))
    by false here rest = rest

-- what is missing beside the kept segments
pub missing_is : (wanted : List ℕ) (segments : List (List ℕ)) → AreRids wanted → AreApart segments
    → length (left_out wanted (joined (kept_of wanted segments))) + length (joined (kept_of wanted segments)) ≡ length wanted
missing_is wanted segments rids apart =
    omega (
      arith,
      kept_shared wanted segments,
      missing_and_shared wanted (kept_of wanted segments) rids (λ n. omega (arith, apart n, kept_times wanted segments n)),
    )

-- one segment more that is kept or not
pub kept_more : (wanted segment : List ℕ) (segments : List (List ℕ)) (t : Bool) → t ≡ lies_within wanted segment
    → length (joined (kept_of wanted (segment ∷ segments))) ≡ (if t then length segment else 0) + length (joined (kept_of wanted segments))
kept_more wanted segment segments true e = rw (← e) (length-append segment (joined (kept_of wanted segments)))
kept_more wanted segment segments false e = rw (← e) (omega arith)

-- ---- one by one

pub front_of : {X : Type 0} (xs : List X) (i : ℕ) (x : X) → i < length xs → x ≡ get_or xs i x → drop i xs ≡ x ∷ drop (i + 1) xs
front_of xs i x lt is = drop_more xs i x lt ∙ ap (λ y. y ∷ drop (i + 1) xs) (sym is)

pub shared_on : (wanted : List ℕ) (segments : List (List ℕ)) (i : ℕ) (segment : List ℕ) → i < length segments → segment ≡ get_or segments i segment
    → length (shared (joined (drop i segments)) wanted) ≡ length (shared segment wanted) + length (shared (joined (drop (i + 1) segments)) wanted)
shared_on wanted segments i segment lt is =
    ap (λ ss. length (shared (joined ss) wanted)) (front_of segments i segment lt is) ∙ shared_more segment (drop (i + 1) segments) wanted

pub left_out_on : (wanted : List ℕ) (segments : List (List ℕ)) (i : ℕ) (segment : List ℕ) → i < length segments → segment ≡ get_or segments i segment
    → length (left_out (joined (drop i segments)) wanted) ≡ length (left_out segment wanted) + length (left_out (joined (drop (i + 1) segments)) wanted)
left_out_on wanted segments i segment lt is =
    ap (λ ss. length (left_out (joined ss) wanted)) (front_of segments i segment lt is) ∙ left_out_more segment (drop (i + 1) segments) wanted

pub kept_on : (wanted : List ℕ) (segments : List (List ℕ)) (i : ℕ) (segment : List ℕ) (t : Bool) → i < length segments → segment ≡ get_or segments i segment
    → t ≡ lies_within wanted segment
    → length (joined (kept_of wanted (drop i segments))) ≡ (if t then length segment else 0) + length (joined (kept_of wanted (drop (i + 1) segments)))
kept_on wanted segments i segment t lt is e =
    ap (λ ss. length (joined (kept_of wanted ss))) (front_of segments i segment lt is) ∙ kept_more wanted segment (drop (i + 1) segments) t e

pub places_on : (wanted : List ℕ) (segments : List (List ℕ)) (i : ℕ) (segment : List ℕ) (t : Bool) → i < length segments → segment ≡ get_or segments i segment
    → t ≡ lies_within wanted segment
    → places_within i wanted (drop i segments)
    ≡ (if t then i ∷ places_within (i + 1) wanted (drop (i + 1) segments) else places_within (i + 1) wanted (drop (i + 1) segments))
places_on wanted segments i segment t lt is e =
    ap (places_within i wanted) (front_of segments i segment lt is)
    ∙ ap (λ b. if b then i ∷ places_within (i + 1) wanted (drop (i + 1) segments) else places_within (i + 1) wanted (drop (i + 1) segments)) (sym e)
