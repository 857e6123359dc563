-- Light edges that are cut off one after another: what is under the other edges, and above them, stays.
use Rattle.std.proofs.Common.{◌≡◌, ℕ, zero, suc, ◌+◌, ◌*◌, ◌<◌, ◌≤◌, Bool, true, false, not, leb, ltb, List, [], ◌∷◌, length, refl, sym, ◌∙◌, ap, inl, inr, ◌⊎◌, arith}
use Rattle.std.specs.Prelude.{filter}
use Rattle.std.proofs.lemmas.Bool.{cases_Bool, leb-false, leb-true, ltb-true, ltb-false}
use Rattle.std.proofs.lemmas.Bool.Decides.{eqb_tells}
use Rattle.std.proofs.Math.Nat.{mul_comm, mul-le-mul_right}
use Rattle.ov_graph.specs.Trees.{VersionTree}
use Rattle.ov_graph.specs.Splits.{Has, IsPart, edges, is_under, lower, upper, records, may_cut, versions_apart}
use Rattle.ov_lyre.proofs.PartFacts.{lies}
use Rattle.ov_lyre.proofs.UnderFacts.{IsSoundTree, under-self, under-smaller, under-parent}
use Rattle.ov_lyre.proofs.CutFacts.{sides}

module _ (p other : ℕ → Bool) where
  -- a filter behind another one that keeps all that it keeps
  pub filters-same : (xs : List ℕ) → ((x : ℕ) → Has xs x → p x ≡ true → other x ≡ true) → filter p (filter other xs) ≡ filter p xs
  filters-same [] keeps = refl
  filters-same (x ∷ xs) keeps =
      let rest = filters-same xs (λ y has. keeps y (inr has)) in
      elim (cases_Bool (other x)) [
        | inl kept ↦ elim (cases_Bool (p x)) [ inl is ↦ rw (kept, is) (ap (λ (ys : List ℕ). x ∷ ys) rest) | inr isnt ↦ rw (kept, isnt) rest ]
        | inr left ↦ elim (cases_Bool (p x)) [
          | inl is ↦ let h : false ≡ true = sym left ∙ keeps x (inl refl) is in cc
          | inr isnt ↦ rw (left, isnt) rest
        ]
      ]

  -- the one that keeps more is longer
  pub filter-fewer : (xs : List ℕ) → ((x : ℕ) → Has xs x → p x ≡ true → other x ≡ true) → length (filter p xs) ≤ length (filter other xs)
  filter-fewer [] keeps = omega arith
  filter-fewer (x ∷ xs) keeps =
      let rest = filter-fewer xs (λ y has. keeps y (inr has)) in
      elim (cases_Bool (p x)) [
        | inl is ↦ rw (is, keeps x (inl refl) is) (omega arith)
        | inr isnt ↦ elim (cases_Bool (other x)) [ inl kept ↦ rw (isnt, kept) (omega arith) | inr left ↦ rw (isnt, left) rest ]
      ]

  pub filter-shorter : (xs : List ℕ) (y : ℕ) → ((x : ℕ) → Has xs x → p x ≡ true → other x ≡ true) → Has xs y → p y ≡ false → other y ≡ true → length (filter p xs) < length (filter other xs)
  filter-shorter [] y keeps has isnt is = absurd has
  filter-shorter (x ∷ xs) y keeps (inl same) isnt is =
      let fewer = filter-fewer xs (λ z has. keeps z (inr has)) in
      let first : p x ≡ false = rw same isnt in
      let kept : other x ≡ true = rw same is in
      rw (first, kept) (omega arith)
  filter-shorter (x ∷ xs) y keeps (inr has) isnt is =
      let rest = filter-shorter xs y (λ z there. keeps z (inr there)) has isnt is in
      elim (cases_Bool (p x)) [
        | inl first ↦ rw (first, keeps x (inl refl) first) (omega arith)
        | inr first ↦ elim (cases_Bool (other x)) [ inl kept ↦ rw (first, kept) (omega arith) | inr left ↦ rw (first, left) rest ]
      ]

module _ (tree : VersionTree) (sound : IsSoundTree tree) where
  up : (a version : ℕ) → (version ≡ a → ⊥) → is_under tree a version ≡ true → 0 < version
  up a zero apart is =
      elim (eqb_tells 0 a) [
        | inl same ↦ absurd (apart same.1)
        | inr less ↦ let h = under-smaller tree sound a 0 (let n = less.1 in omega arith) in let g = rw h at is in cc
      ]
  up a (suc version) apart is = omega arith

  -- under a version that is under another one
  trans-in : (bound a b version : ℕ) → version ≤ bound → is_under tree a b ≡ true → is_under tree b version ≡ true → is_under tree a version ≡ true
  trans-in zero a b version le ab bv =
      elim (eqb_tells version b) [
        | inl same ↦ rw same.1 ab
        | inr apart ↦ absurd (let h = up b version apart.1 bv in omega arith)
      ]
  trans-in (suc bound) a b version le ab bv =
      elim (eqb_tells version b) [
        | inl same ↦ rw same.1 ab
        | inr apart ↦
            let some = up b version apart.1 bv in
            let low = sound.lower version in
            let parent : is_under tree b (tree.parent version) ≡ true = sym (under-parent tree sound b version some apart.1) ∙ bv in
            let above = trans-in bound a b (tree.parent version) (omega arith) ab parent in
            elim (eqb_tells version a) [
              | inl same ↦ rw same.1 (under-self tree sound a)
              | inr other ↦ under-parent tree sound a version some other.1 ∙ above
            ]
      ]

  pub under-trans : (a b version : ℕ) → is_under tree a b ≡ true → is_under tree b version ≡ true → is_under tree a version ≡ true
  under-trans a b version = trans-in version a b version (omega arith)

  -- of two versions above one version, one is above the other
  nested-in : (bound a b version : ℕ) → version ≤ bound → is_under tree a version ≡ true → is_under tree b version ≡ true → (is_under tree a b ≡ true) ⊎ (is_under tree b a ≡ true)
  nested-in zero a b version le av bv =
      elim (eqb_tells version a) [
        | inl same ↦ inr (rw (sym same.1) bv)
        | inr other ↦ absurd (let h = up a version other.1 av in omega arith)
      ]
  nested-in (suc bound) a b version le av bv =
      elim (eqb_tells version a) [
        | inl same ↦ inr (rw (sym same.1) bv)
        | inr other ↦ elim (eqb_tells version b) [
          | inl same ↦ inl (rw (sym same.1) av)
          | inr apart ↦
              let some = up b version apart.1 bv in
              let low = sound.lower version in
              nested-in bound a b (tree.parent version) (omega arith) (sym (under-parent tree sound a version some other.1) ∙ av) (sym (under-parent tree sound b version some apart.1) ∙ bv)
        ]
      ]

  pub nested : (a b version : ℕ) → is_under tree a version ≡ true → is_under tree b version ≡ true → (is_under tree a b ≡ true) ⊎ (is_under tree b a ≡ true)
  nested a b version = nested-in version a b version (omega arith)

  module _ (cut e : ℕ) (rest : List ℕ) where
    apart-from : (x : ℕ) → is_under tree e cut ≡ false → is_under tree cut e ≡ false → is_under tree e x ≡ true → not (is_under tree cut x) ≡ true
    apart-from x without other is =
        elim (cases_Bool (is_under tree cut x)) [
          | inl both ↦ elim (nested e cut x is both) [ inl h ↦ let g = rw without at h in cc | inr h ↦ let g = rw other at h in cc ]
          | inr isnt ↦ rw isnt refl
        ]

    -- Fact 1: an edge that isn't above the cut one, and stays, keeps what is under it
    pub lower-stays : is_under tree e cut ≡ false → is_under tree cut e ≡ false → lower tree e (upper tree cut rest) ≡ lower tree e rest
    lower-stays without other = filters-same (λ v. is_under tree e v) (λ v. not (is_under tree cut v)) rest (λ x has is. apart-from x without other is)

    -- Fact 2: an edge above the cut one keeps what is above it
    pub upper-stays : is_under tree e cut ≡ true → upper tree e (upper tree cut rest) ≡ upper tree e rest
    upper-stays above =
        filters-same (λ v. not (is_under tree e v)) (λ v. not (is_under tree cut v)) rest (λ x has isnt.
        elim (cases_Bool (is_under tree cut x)) [
          | inl under ↦ let h = rw (under-trans e cut x above under) at isnt in cc
          | inr free ↦ rw free refl
        ])

    -- an edge strictly above the cut one has more under it
    pub more-under : is_under tree e cut ≡ true → e < cut → Has rest e → length (lower tree cut rest) < length (lower tree e rest)
    more-under above less has =
        filter-shorter (λ v. is_under tree cut v) (λ v. is_under tree e v) rest e (λ x there under. under-trans e cut x above under) has (under-smaller tree sound cut e less) (under-self tree sound e)

    -- one that isn't above the cut one has more above it than is cut off
    pub more-above : (top : ℕ) → is_under tree e cut ≡ false → is_under tree cut e ≡ false → Has rest top → top < cut → top < e → length (lower tree cut rest) < length (upper tree e rest)
    more-above top without other has low below =
        filter-shorter (λ v. is_under tree cut v) (λ v. not (is_under tree e v)) rest top (λ x there under.
        elim (cases_Bool (is_under tree e x)) [
          | inl is ↦ let h : false ≡ true = sym (ap not under) ∙ apart-from x without other is in cc
          | inr isnt ↦ rw isnt refl
        ]) has (under-smaller tree sound cut top low) (rw (under-smaller tree sound e top below) refl)

  -- Fact 3: R falls, so a heavy edge stays heavy
  pub heavy-stays : (count p q cut e : ℕ) (rest : List ℕ) → IsPart tree count rest → Has (edges rest) cut → may_cut tree p q rest e ≡ false → may_cut tree p q (upper tree cut rest) e ≡ false
  unfolding may_cut
  heavy-stays count p q cut e rest is has heavy =
      let two = sides tree sound count rest cut is has in
      let sum = two.record_sum in
      let own = two.lower_records in
      let falls : records tree (upper tree cut rest) ≤ records tree rest = omega arith in
      let times = mul-le-mul_right p falls in
      let was = leb-false (q * tree.weight e) (p * records tree rest) heavy in
      let less : p * records tree (upper tree cut rest) ≤ p * records tree rest = rw (mul_comm p (records tree (upper tree cut rest)), mul_comm p (records tree rest)) times in
      elim (cases_Bool (leb (q * tree.weight e) (p * records tree (upper tree cut rest)))) [
        | inl light ↦ absurd (let le = leb-true _ _ light in omega arith)
        | inr stays ↦ stays
      ]

  module _ (count cut e : ℕ) (rest : List ℕ) (is : IsPart tree count rest) where
    -- the reason of fact 1: a light edge isn't above a cut one that has as many versions under it
    pub light-apart : length (lower tree e rest) ≤ length (lower tree cut rest) → (e ≡ cut → ⊥) → Has rest e → is_under tree e cut ≡ false
    light-apart few other has =
        elim (cases_Bool (is_under tree e cut)) [
          | inr apart ↦ apart
          | inl above ↦ elim (cases_Bool (ltb e cut)) [
            | inl before ↦ let less = ltb-true e cut before in let more = more-under cut e rest above less has in absurd (omega arith)
            | inr after ↦
                let le = ltb-false e cut after in
                let h : false ≡ true = sym (under-smaller tree sound e cut (let n = other in omega arith)) ∙ above in cc
          ]
        ]

    -- the reason of fact 2: a top edge that stays is above the cut one, where that one was the better
    pub top-above : Has (edges rest) cut → Has (edges rest) e → is_under tree cut e ≡ false → length (lower tree cut rest) + length (lower tree cut rest) ≤ length rest → length (upper tree e rest) + length (upper tree e rest) ≤ length rest → versions_apart tree rest cut ≤ versions_apart tree rest e → is_under tree e cut ≡ true
    unfolding versions_apart
    top-above has there free light top best =
        elim (cases_Bool (is_under tree e cut)) [
          | inl above ↦ above
          | inr without ↦
              let two = sides tree sound count rest cut is has in
              let other = sides tree sound count rest e is there in
              let sum = two.lengths in
              let total_e = other.lengths in
              let more = above-more rest is has there without free in
              absurd (omega arith)
        ]
      where
        above-more : (rest : List ℕ) → IsPart tree count rest → Has (edges rest) cut → Has (edges rest) e → is_under tree e cut ≡ false → is_under tree cut e ≡ false → length (lower tree cut rest) < length (upper tree e rest)
        above-more [] is has there without free = absurd has
        above-more (top ∷ tail) is has there without free =
            more-above cut e (top ∷ tail) top without free (inl refl) (lies top count tail cut is.ascends.2 has).above (lies top count tail e is.ascends.2 there).above
