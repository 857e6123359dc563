-- Marks of versions, and the greatest of them.
use Rattle.std.proofs.Common.{◌≡◌, ◌≤◌, ◌<◌, ◌⊎◌, ℕ, zero, suc, ◌+◌, ◌-◌, Bool, true, false, ◌||◌, ◌==◌, eqb, List, [], ◌∷◌, ◌++◌, length, get_or, take, drop, set, refl, sym, ◌∙◌, ap, subst, inl, inr, arith}
use Rattle.std.specs.Prelude.{if◌then◌else◌}
use Rattle.std.proofs.lemmas.Bool.{cases_Bool, cases_lt, eqb-true, eq-eqb, lt-ltb, le-ltb}
use Rattle.std.proofs.lemmas.List.{get_or_append_left, get_or-append_right, get_or-set_same, get_or-set_other, length-append, drop_more}
use Rattle.ov_layout.proofs.VidLemmas.{has-more}
use Rattle.ov_model.specs.World.{is_one}
use Rattle.ov_targets.specs.Emptying.{AreMarked, AreLasts, greater, greatest}
use Rattle.ov_targets.specs.Targets.{AreBelow}

pub below_at : (limit : ℕ) (ns : List ℕ) (k d : ℕ) → AreBelow limit ns → k < length ns → get_or ns k d < limit
below_at limit [] k d below lt = absurd (omega (arith, lt))
below_at limit (n ∷ ns) zero d below lt = below.0
below_at limit (n ∷ ns) (suc k) d below lt = below_at limit ns k d below.1 (omega (arith, lt))

-- ---- marks

or_true : (b : Bool) → (b || true) ≡ true
or_true true = refl
or_true false = refl

or_false : (b : Bool) → (b || false) ≡ b
or_false true = refl
or_false false = refl

pub marked_more : (lasts old vids : List ℕ) (place k : ℕ) → k < length vids → get_or vids k 0 < length lasts → AreMarked (take k vids) place old lasts
    → AreMarked (take (k + 1) vids) place old (set lasts (get_or vids k 0) place)
marked_more lasts old vids place k lt low far n =
    let vid = get_or vids k 0 in
    let more : is_one (take (k + 1) vids) n ≡ (is_one (take k vids) n || eqb vid n) = has-more vids k n lt in
    elim (cases_Bool (eqb vid n)) [
      | inl e ↦
          let here : get_or (set lasts vid place) n 0 ≡ place = subst (λ (m : ℕ). get_or (set lasts vid place) m 0 ≡ place) (eqb-true vid n e) (get_or-set_same lasts vid place 0 low) in
          here ∙ ap (λ (b : Bool). if b then place else get_or old n 0) (sym (more ∙ ap (λ b. is_one (take k vids) n || b) e ∙ or_true (is_one (take k vids) n)))
      | inr e ↦
          let other : n ≡ vid → ⊥ = λ same. (let yes = eq-eqb vid n (sym same) in absurd cc) in
          get_or-set_other lasts vid n place 0 other ∙ far n
          ∙ ap (λ (b : Bool). if b then place else get_or old n 0) (sym (more ∙ ap (λ b. is_one (take k vids) n || b) e ∙ or_false (is_one (take k vids) n)))
    ]

-- ---- one part more

pub no_lasts : (place : ℕ → ℕ) → ((vid : ℕ) → place vid ≡ 0) → AreLasts [] place
no_lasts place none = record { last = λ at vid lt one. absurd (omega (arith, lt)); there = λ at vid is. absurd (omega (arith, is, none vid)) }

pub lasts_more : (parts : List (List ℕ)) (part : List ℕ) (old new : ℕ → ℕ) (n : ℕ) → length parts ≡ n → AreLasts parts old
    → ((vid : ℕ) → new vid ≡ (if is_one part vid then n + 1 else old vid)) → AreLasts (parts ++ part ∷ []) new
lasts_more parts part old new n long are marked = record { last = last; there = there }
  where
    all : List (List ℕ)
    all = parts ++ part ∷ []

    count : length all ≡ n + 1
    count = length-append parts (part ∷ []) ∙ ap (λ m. m + 1) long

    before : (at : ℕ) → at < n → get_or all at [] ≡ get_or parts at []
    before at lt = get_or_append_left parts (part ∷ []) [] at (omega (arith, lt, long))

    own : get_or all n [] ≡ part
    own = get_or-append_right parts (part ∷ []) n n [] long (omega arith) ∙ ap (λ m. get_or (part ∷ []) m []) (nothing n)
      where
        nothing : (m : ℕ) → m - m ≡ 0
        nothing m = omega arith

    low : (at vid : ℕ) (b : Bool) → new vid ≡ (if b then n + 1 else old vid) → at < n → at < old vid → at < new vid
    low at vid true e lt lower = omega (arith, e, lt)
    low at vid false e lt lower = omega (arith, e, lower)

    last : (at vid : ℕ) → at < length all → is_one (get_or all at []) vid ≡ true → at < new vid
    last at vid lt one = elim (cases_lt at n) [
      | inl less ↦ low at vid (is_one part vid) (marked vid) less
          (are.last at vid (omega (arith, less, long)) (ap (λ p. is_one p vid) (sym (before at less)) ∙ one))
      | inr le ↦
          let same : at ≡ n = omega (arith, lt, le, count) in
          let mine : is_one part vid ≡ true = ap (λ p. is_one p vid) (sym own) ∙ subst (λ m. is_one (get_or all m []) vid ≡ true) same one in
          omega (arith, same, marked vid ∙ ap (λ (b : Bool). if b then n + 1 else old vid) mine)
    ]

    there : (at vid : ℕ) → new vid ≡ suc at → (at < length all) × (is_one (get_or all at []) vid ≡ true)
    there at vid is = elim (cases_Bool (is_one part vid)) [
      | inl mine ↦
          let same : n ≡ at = omega (arith, is, marked vid ∙ ap (λ (b : Bool). if b then n + 1 else old vid) mine) in
          (omega (arith, same, count), subst (λ m. is_one (get_or all m []) vid ≡ true) same (ap (λ p. is_one p vid) own ∙ mine))
      | inr other ↦
          let old_is : old vid ≡ suc at = sym (marked vid ∙ ap (λ (b : Bool). if b then n + 1 else old vid) other) ∙ is in
          let was = are.there at vid old_is in
          let less : at < n = omega (arith, was.0, long) in
          (omega (arith, less, count), ap (λ p. is_one p vid) (before at less) ∙ was.1)
    ]

-- ---- the greatest place

pub greater_all : (a b c : ℕ) → greater (greater a b) c ≡ greater a (greater b c)
greater_all a b c = elim (cases_lt b a) [
  | inl ba ↦ elim (cases_lt c a) [
    | inl ca ↦ elim (cases_lt c b) [
      | inl cb ↦ rw (lt-ltb b a ba, lt-ltb c a ca, lt-ltb c b cb, lt-ltb b a ba) refl
      | inr cb ↦ rw (lt-ltb b a ba, lt-ltb c a ca, le-ltb c b cb, lt-ltb c a ca) refl
    ]
    | inr ca ↦ rw (lt-ltb b a ba, le-ltb c a ca, le-ltb c b (omega (arith, ba, ca)), le-ltb c a ca) refl
  ]
  | inr ba ↦ elim (cases_lt c b) [
    | inl cb ↦ rw (le-ltb b a ba, lt-ltb c b cb, le-ltb b a ba) refl
    | inr cb ↦ rw (le-ltb b a ba, le-ltb c b cb, le-ltb c a (omega (arith, ba, cb))) refl
  ]
]

pub greater_first : (a b : ℕ) → b < a → greater b a ≡ a
greater_first a b lt = rw (le-ltb a b (omega (arith, lt))) refl

pub greater_second : (a b : ℕ) → a ≤ b → greater b a ≡ b
greater_second a b le = elim (cases_lt a b) [
  | inl lt ↦ rw (lt-ltb a b lt) refl
  | inr most ↦ rw (le-ltb a b most) (omega (arith, le, most))
]

pub greatest_on : (place : ℕ → ℕ) (vids : List ℕ) (k last : ℕ) → k < length vids
    → greater last (greatest place (drop k vids)) ≡ greater (greater last (place (get_or vids k 0))) (greatest place (drop (k + 1) vids))
greatest_on place vids k last lt =
    ap (λ l. greater last (greatest place l)) (drop_more vids k 0 lt) ∙ sym (greater_all last (place (get_or vids k 0)) (greatest place (drop (k + 1) vids)))

at_least_one : (a b : ℕ) → (a ≤ greater a b) × (b ≤ greater a b)
at_least_one a b = elim (cases_lt b a) [
  | inl lt ↦ rw (lt-ltb b a lt) (omega arith, omega (arith, lt))
  | inr le ↦ rw (le-ltb b a le) (le, omega arith)
]

either_of : (a b : ℕ) → (greater a b ≡ a) ⊎ (greater a b ≡ b)
either_of a b = elim (cases_lt b a) [
  | inl lt ↦ rw (lt-ltb b a lt) (inl refl)
  | inr le ↦ rw (le-ltb b a le) (inr refl)
]

-- no place of these is above it
pub greatest_most : (place : ℕ → ℕ) (vids : List ℕ) (vid : ℕ) → is_one vids vid ≡ true → place vid ≤ greatest place vids
greatest_most place [] vid one = cc
greatest_most place (v ∷ vids) vid one = elim (cases_Bool (v == vid)) [
  | inl e ↦ subst (λ m. place m ≤ greatest place (v ∷ vids)) (eqb-true v vid e) (at_least_one (place v) (greatest place vids)).0
  | inr e ↦
      let rest = greatest_most place vids vid (ap (λ b. b || is_one vids vid) (sym e) ∙ one) in
      omega (arith, rest, (at_least_one (place v) (greatest place vids)).1)
]

-- one of them has it
pub greatest_there : (place : ℕ → ℕ) (vids : List ℕ) (at : ℕ) → greatest place vids ≡ suc at → (vid : ℕ) × ((is_one vids vid ≡ true) × (place vid ≡ suc at))
greatest_there place [] at is = absurd (omega (arith, is))
greatest_there place (v ∷ vids) at is = elim (either_of (place v) (greatest place vids)) [
  | inl e ↦ (v, (ap (λ b. b || is_one vids v) (eq-eqb v v refl), sym e ∙ is))
  | inr e ↦
      let rest = greatest_there place vids at (sym e ∙ is) in
      (rest.0, (ap (λ b. (v == rest.0) || b) rest.1.0 ∙ or_true (v == rest.0), rest.1.1))
]

pub greatest_below : (place : ℕ → ℕ) (most : ℕ) (vids : List ℕ) → ((vid : ℕ) → place vid ≤ most) → greatest place vids ≤ most
greatest_below place most [] all = omega arith
greatest_below place most (v ∷ vids) all = elim (either_of (place v) (greatest place vids)) [
  | inl e ↦ omega (arith, e, all v)
  | inr e ↦ omega (arith, e, greatest_below place most vids all)
]
