-- Rids that ascend: what is in them, and that they are known by it.
use Rattle.std.proofs.Common.{◌≡◌, ℕ, suc, ◌+◌, ◌<◌, ◌≤◌, ◌^◌, Bool, true, false, ◌&&◌, ◌||◌, eqb, List, [], ◌∷◌, ◌++◌, length, get_or, take, drop, refl, sym, ap, subst, ◌∙◌, inl, inr, arith}
use Rattle.std.specs.Prelude.{filter}
use Rattle.std.proofs.lemmas.Bool.{cases_eq, cases_order, cases_Bool, eq-eqb, ne_eqb, cond_both}
use Rattle.std.proofs.lemmas.List.{take-append-drop, drop_more}
use Rattle.ov_member.specs.Rids.{RiseFrom, has}

pub RiseFrom-weaker : (low least : ℕ) (rids : List ℕ) → low ≤ least → RiseFrom least rids → RiseFrom low rids
RiseFrom-weaker low least [] le h = tt
RiseFrom-weaker low least (rid ∷ rids) le h = (omega arith, h.1, h.2)

-- the least number that may follow rids that begin at least at a number
abbrev pub after : ℕ → List ℕ → ℕ
after least [] = least
after least (rid ∷ rids) = after (suc rid) rids

pub RiseFrom-append : (least : ℕ) (xs ys : List ℕ) → RiseFrom least xs → RiseFrom (after least xs) ys → RiseFrom least (xs ++ ys)
RiseFrom-append least [] ys h k = k
RiseFrom-append least (x ∷ xs) ys h k = (h.0, h.1, RiseFrom-append (suc x) xs ys h.2 k)

pub RiseFrom-left : (least : ℕ) (xs ys : List ℕ) → RiseFrom least (xs ++ ys) → RiseFrom least xs
RiseFrom-left least [] ys h = tt
RiseFrom-left least (x ∷ xs) ys h = (h.0, h.1, RiseFrom-left (suc x) xs ys h.2)

pub RiseFrom-right : (least : ℕ) (xs ys : List ℕ) → RiseFrom least (xs ++ ys) → RiseFrom (after least xs) ys
RiseFrom-right least [] ys h = h
RiseFrom-right least (x ∷ xs) ys h = RiseFrom-right (suc x) xs ys h.2

pub after-append : (least : ℕ) (xs : List ℕ) (x : ℕ) → after least (xs ++ x ∷ []) ≡ suc x
after-append least [] x = refl
after-append least (y ∷ xs) x = after-append (suc y) xs x

pub after-weaker : (low least : ℕ) (xs : List ℕ) → low ≤ least → after low xs ≤ after least xs
after-weaker low least [] le = le
after-weaker low least (x ∷ xs) le = after-weaker (suc x) (suc x) xs (omega arith)

pub after-least : (least : ℕ) (rids : List ℕ) → RiseFrom least rids → least ≤ after least rids
after-least least [] h = omega arith
after-least least (rid ∷ rids) h = let rest = after-least (suc rid) rids h.2 in omega arith

-- there are no more rids than numbers from the least on
pub length-RiseFrom : (least : ℕ) (rids : List ℕ) → RiseFrom least rids → least ≤ 2 ^ 31 + 1 → length rids + least ≤ 2 ^ 31 + 1
length-RiseFrom least [] h le = omega arith
length-RiseFrom least (rid ∷ rids) h le = let rest = length-RiseFrom (suc rid) rids h.2 (omega arith) in omega arith

pub has-head : (x : ℕ) (xs : List ℕ) → has (x ∷ xs) x ≡ true
has-head x xs = rw (eq-eqb x x refl) refl

pub has-tail : (x : ℕ) (xs : List ℕ) (n : ℕ) → (x ≡ n → ⊥) → has (x ∷ xs) n ≡ has xs n
has-tail x xs n ne = rw (ne_eqb x n ne) refl

pub has-append : (xs ys : List ℕ) (n : ℕ) → has (xs ++ ys) n ≡ (has xs n || has ys n)
has-append [] ys n = refl
has-append (x ∷ xs) ys n =
    elim (cases_Bool (eqb x n)) [
      | inl e ↦ rw e refl
      | inr e ↦ rw e (has-append xs ys n)
    ]

pub has-below : (least : ℕ) (rids : List ℕ) (n : ℕ) → RiseFrom least rids → n < least → has rids n ≡ false
has-below least [] n h lt = refl
has-below least (rid ∷ rids) n h lt = has-tail rid rids n (λ e. omega arith) ∙ has-below (suc rid) rids n h.2 (omega arith)

pub same_from : (low least : ℕ) (xs ys : List ℕ) → RiseFrom low xs → RiseFrom least ys → ((n : ℕ) → has xs n ≡ has ys n) → xs ≡ ys
same_from low least [] [] h k same = refl
same_from low least [] (y ∷ ys) h k same = let in_it = has-head y ys in let not_in = same y in absurd cc
same_from low least (x ∷ xs) [] h k same = let in_it = has-head x xs in let not_in = same x in absurd cc
same_from low least (x ∷ xs) (y ∷ ys) h k same =
    let heads : x ≡ y =
    elim (cases_order x y) [
      | inl e ↦ e
      | inr (inl lt) ↦ let in_it = has-head x xs in let not_in = has-below y (y ∷ ys) x (omega arith, k.1, k.2) lt in let at_x = same x in absurd cc
      | inr (inr lt) ↦ let in_it = has-head y ys in let not_in = has-below x (x ∷ xs) y (omega arith, h.1, h.2) lt in let at_y = same y in absurd cc
    ] in
    let tails : xs ≡ ys =
    same_from (suc x) (suc y) xs ys h.2 k.2 (λ n.
    elim (cases_eq x n) [
      | inl e ↦ has-below (suc x) xs n h.2 (omega arith) ∙ sym (has-below (suc y) ys n k.2 (omega arith))
      | inr ne ↦ sym (has-tail x xs n ne) ∙ same n ∙ has-tail y ys n (λ e. ne (heads ∙ e))
    ]) in
    cc

pub RiseFrom-filter : (p : ℕ → Bool) (least : ℕ) (rids : List ℕ) → RiseFrom least rids → RiseFrom least (filter p rids)
RiseFrom-filter p least [] h = tt
RiseFrom-filter p least (rid ∷ rids) h =
    let rest = RiseFrom-filter p (suc rid) rids h.2 in
    cond_both (p rid) (rid ∷ filter p rids) (filter p rids) (RiseFrom least) (λ e. (h.0, h.1, rest)) (λ e. RiseFrom-weaker least (suc rid) (filter p rids) (omega arith) rest)

and-false : (b : Bool) → (b && false) ≡ false
and-false true = refl
and-false false = refl

and-true : (b : Bool) → (b && true) ≡ b
and-true true = refl
and-true false = refl

pub has-filter : (p : ℕ → Bool) (xs : List ℕ) (n : ℕ) → has (filter p xs) n ≡ (has xs n && p n)
has-filter p [] n = refl
has-filter p (x ∷ xs) n =
    elim (cases_Bool (p x)) [
      | inl passes ↦ rw passes (elim (cases_eq x n) [
        | inl e ↦ let passes_n : p n ≡ true = rw (← e) passes in rw (eq-eqb x n e, passes_n) refl
        | inr ne ↦ rw (ne_eqb x n ne) (has-filter p xs n)
      ])
      | inr fails ↦ rw fails (elim (cases_eq x n) [
        | inl e ↦ let fails_n : p n ≡ false = rw (← e) fails in has-filter p xs n ∙ rw fails_n (and-false (has xs n) ∙ sym (and-false (has (x ∷ xs) n)))
        | inr ne ↦ rw (ne_eqb x n ne) (has-filter p xs n)
      ])
    ]

-- the next rid of a list
pub rises_at : (rids : List ℕ) (i : ℕ) → i < length rids → RiseFrom 1 rids → (after 1 (take i rids) ≤ get_or rids i 0) × (get_or rids i 0 ≤ 2 ^ 31)
rises_at rids i lt h =
    let parts : rids ≡ take i rids ++ get_or rids i 0 ∷ drop (i + 1) rids = sym (take-append-drop i rids) ∙ ap (λ (xs : List ℕ). take i rids ++ xs) (drop_more rids i 0 lt) in
    let rest = RiseFrom-right 1 (take i rids) (get_or rids i 0 ∷ drop (i + 1) rids) (subst (RiseFrom 1) parts h) in
    (rest.0, rest.1)

pub rises_more : (rids : List ℕ) (i : ℕ) → RiseFrom 1 (take i rids) → after 1 (take i rids) ≤ get_or rids i 0 → get_or rids i 0 ≤ 2 ^ 31 → RiseFrom 1 (take i rids ++ get_or rids i 0 ∷ [])
rises_more rids i h from to = RiseFrom-append 1 (take i rids) (get_or rids i 0 ∷ []) h (from, to, tt)
