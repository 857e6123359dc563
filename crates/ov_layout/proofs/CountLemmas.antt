-- How many versions are left.
use Rattle.std.proofs.Common.{◌≡◌, ℕ, zero, suc, ◌+◌, Bool, true, false, not, cond, ◌||◌, eqb, List, [], ◌∷◌, length, map, refl, sym, ap, subst, ◌∙◌, inl, inr, arith, add-zero}
use Rattle.std.specs.Prelude.{All, filter, sum_by}
use Rattle.std.proofs.lemmas.Bool.{cases_Bool, eq-eqb, ne_eqb, eqb-true}
use Rattle.std.proofs.lemmas.List.Sums.{sum_by-cons}
use Rattle.ov_layout.specs.declared.part.Part.{Part}
use Rattle.ov_layout.specs.Parts.{has, serves, Ascend, times_placed}
use Rattle.ov_layout.specs.Index.{versions_in}
use Rattle.ov_layout.specs.Flips.{leaving, is_empty, left_parts}
use Rattle.ov_layout.specs.Leaving.{VersionsAscend}
use Rattle.ov_layout.proofs.VidLemmas.{has-below}
use Rattle.ov_layout.proofs.LeaveLemmas.{stays, Ascend-filter}
use Rattle.ov_layout.proofs.PlacedLemmas.{times-cons}

-- sums with the same terms, over the partitions that versions have left
pub sum-same : (f g : Part → ℕ) → ((part : Part) → f part ≡ g part) → (parts : List Part) → sum_by f parts ≡ sum_by g parts
sum-same f g same [] = refl
sum-same f g same (part ∷ parts) =
    let left = sum_by-cons f part parts in
    let right = sum_by-cons g part parts in
    let rest = sum-same f g same parts in
    let own = same part in
    omega (arith, left, right, rest, own)

pub sum-map : (f : Part → ℕ) (g : Part → Part) (parts : List Part) → sum_by f (map g parts) ≡ sum_by (λ part. f (g part)) parts
sum-map f g [] = refl
sum-map f g (part ∷ parts) =
    let left = sum_by-cons f (g part) (map g parts) in
    let right = sum_by-cons (λ (p : Part). f (g p)) part parts in
    let rest = sum-map f g parts in
    omega (arith, left, right, rest)

pub sum-filled : (f : Part → ℕ) → ((part : Part) → is_empty part ≡ true → f part ≡ 0) → (parts : List Part) → sum_by f (filter (λ part. not (is_empty part)) parts) ≡ sum_by f parts
sum-filled f none [] = refl
sum-filled f none (part ∷ parts) =
    let all = sum_by-cons f part parts in
    let rest = sum-filled f none parts in
    elim (cases_Bool (is_empty part)) [
      | inl e ↦ let zero = none part e in rw e (omega (arith, all, rest, zero))
      | inr e ↦ let left = sum_by-cons f part (filter (λ p. not (is_empty p)) parts) in rw e (omega (arith, all, rest, left))
    ]

-- a sum over the partitions that are left, where an empty one adds nothing
pub sum-left : (f : Part → ℕ) (versions : List ℕ) → ((part : Part) → is_empty part ≡ true → f part ≡ 0) → (parts : List Part) → sum_by f (left_parts versions parts) ≡ sum_by (λ part. f (leaving versions part)) parts
sum-left f versions none parts = sum-filled f none (map (leaving versions) parts) ∙ sum-map f (leaving versions) parts

filter-none : (ns : List ℕ) → filter (stays []) ns ≡ ns
filter-none [] = refl
filter-none (n ∷ ns) = ap (λ (xs : List ℕ). n ∷ xs) (filter-none ns)

-- one leaves, then the others
filter-step : (w : ℕ) (ws ns : List ℕ) → filter (stays (w ∷ ws)) ns ≡ filter (stays ws) (filter (stays (w ∷ [])) ns)
filter-step w ws [] = refl
filter-step w ws (n ∷ ns) =
    elim (cases_Bool (eqb w n)) [
      | inl e ↦ rw e (filter-step w ws ns)
      | inr e ↦ elim (cases_Bool (has ws n)) [
        | inl e' ↦ rw (e, e') (filter-step w ws ns)
        | inr e' ↦ rw (e, e') (ap (λ (xs : List ℕ). n ∷ xs) (filter-step w ws ns))
      ]
    ]

-- a number that isn't there
filter-absent : (w : ℕ) (ns : List ℕ) → has ns w ≡ false → filter (stays (w ∷ [])) ns ≡ ns
filter-absent w [] h = refl
filter-absent w (n ∷ ns) h =
    elim (cases_Bool (eqb n w)) [
      | inl e ↦ let there = rw e at h in absurd cc
      | inr e ↦
          let ne : eqb w n ≡ false = ne_eqb w n (λ same. let eq = eq-eqb n w (sym same) in absurd cc) in
          rw ne (ap (λ (xs : List ℕ). n ∷ xs) (filter-absent w ns (rw e at h)))
    ]

length-one : (least w : ℕ) (ns : List ℕ) → Ascend least ns → length (filter (stays (w ∷ [])) ns) + cond (has ns w) 1 0 ≡ length ns
length-one least w [] h = refl
length-one least w (n ∷ ns) h =
    elim (cases_Bool (eqb n w)) [
      | inl e ↦
          let same : n ≡ w = eqb-true _ _ e in
          let e' : eqb w n ≡ true = eq-eqb w n (sym same) in
          let absent : has ns w ≡ false = has-below (suc n) ns w h.1 (omega (arith, same)) in
          let rest = filter-absent w ns absent in
          rw (e, e', rest) (omega arith)
      | inr e ↦
          let ne : eqb w n ≡ false = ne_eqb w n (λ same. let eq = eq-eqb n w (sym same) in absurd cc) in
          let rest = length-one (suc n) w ns h.1 in
          rw (e, ne) (omega (arith, rest))
    ]

has-stay : (w v : ℕ) (ns : List ℕ) → eqb w v ≡ false → has (filter (stays (w ∷ [])) ns) v ≡ has ns v
has-stay w v [] ne = refl
has-stay w v (n ∷ ns) ne =
    elim (cases_Bool (eqb w n)) [
      | inl e ↦
          let same : w ≡ n = eqb-true _ _ e in
          let out : eqb n v ≡ false = subst (λ (m : ℕ). eqb m v ≡ false) same ne in
          rw (e, out) (has-stay w v ns ne)
      | inr e ↦ rw e (ap (λ (b : Bool). eqb n v || b) (has-stay w v ns ne))
    ]

-- one version leaves
one-left : (w : ℕ) (parts : List Part) → All VersionsAscend parts → versions_in (map (leaving (w ∷ [])) parts) + times_placed w parts ≡ versions_in parts
one-left w [] ascend = refl
one-left w (part ∷ parts) ascend =
    let left = sum_by-cons (λ (p : Part). length p.versions) (leaving (w ∷ []) part) (map (leaving (w ∷ [])) parts) in
    let all = sum_by-cons (λ (p : Part). length p.versions) part parts in
    let times = times-cons w part parts in
    let rest = one-left w parts (λ k d lt. ascend (suc k) d (omega arith)) in
    let own = length-one 0 w part.versions (ascend 0 part (omega arith)) in
    omega (arith, left, all, times, rest, own)

times-stay : (w v : ℕ) (parts : List Part) → eqb w v ≡ false → times_placed v (map (leaving (w ∷ [])) parts) ≡ times_placed v parts
times-stay w v parts ne = sum-map (λ (p : Part). cond (serves v p) 1 0) (leaving (w ∷ [])) parts ∙ sum-same _ _ (λ part. ap (λ (b : Bool). cond b 1 0) (has-stay w v part.versions ne)) parts

ascend-left : (w : ℕ) (parts : List Part) → All VersionsAscend parts → All VersionsAscend (map (leaving (w ∷ [])) parts)
ascend-left w [] ascend k d lt = absurd (omega arith)
ascend-left w (part ∷ parts) ascend zero d lt = Ascend-filter 0 (stays (w ∷ [])) part.versions (ascend 0 part (omega arith))
ascend-left w (part ∷ parts) ascend (suc k) d lt = ascend-left w parts (λ j e lt'. ascend (suc j) e (omega arith)) k d (omega arith)

later : (w vid : ℕ) (ws : List ℕ) (parts : List Part) → Ascend (suc w) ws → has ws vid ≡ true → ((v : ℕ) → has (w ∷ ws) v ≡ true → times_placed v parts ≡ 1) → times_placed vid (map (leaving (w ∷ [])) parts) ≡ 1
later w vid ws parts h there once =
    let ne : eqb w vid ≡ false = ne_eqb w vid (λ same. let none = has-below (suc w) ws vid h (omega (arith, same)) in absurd cc) in
    times-stay w vid parts ne ∙ once vid (rw (ne, there) refl)

-- as many versions leave as are in one partition each
pub count-left : (least : ℕ) (versions : List ℕ) (parts : List Part) → Ascend least versions → All VersionsAscend parts → ((vid : ℕ) → has versions vid ≡ true → times_placed vid parts ≡ 1) → sum_by (λ part. length (leaving versions part).versions) parts + length versions ≡ versions_in parts
count-left least [] parts h ascend once =
    add-zero _ ∙ sum-same (λ (p : Part). length (leaving [] p).versions) (λ (p : Part). length p.versions) (λ part. ap (λ (ns : List ℕ). length ns) (filter-none part.versions)) parts
count-left least (w ∷ ws) parts h ascend once =
    let parts' = map (leaving (w ∷ [])) parts in
    let own : times_placed w parts ≡ 1 = once w (rw (eq-eqb w w refl) refl) in
    let rest = count-left (suc w) ws parts' h.1 (ascend-left w parts ascend) (λ vid there. later w vid ws parts h.1 there once) in
    let first = one-left w parts ascend in
    let step = sum-same (λ (p : Part). length (leaving (w ∷ ws) p).versions) (λ (p : Part). length (leaving ws (leaving (w ∷ []) p)).versions) (λ part. ap (λ (ns : List ℕ). length ns) (filter-step w ws part.versions)) parts in
    let same = sum-map (λ (p : Part). length (leaving ws p).versions) (leaving (w ∷ [])) parts in
    omega (arith, own, rest, first, step, same)
