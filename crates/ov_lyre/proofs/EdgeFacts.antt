-- The edge that is chosen: it may be cut, it is the least by the three measures, and a part without one stops.
use Rattle.std.proofs.Common.{◌≡◌, ℕ, suc, ◌+◌, ◌*◌, ◌<◌, ◌≤◌, true, false, ◌&&◌, eqb, ltb, leb, Option, Some, None, List, [], ◌∷◌, length, refl, sym, ◌∙◌, subst, inl, inr, arith}
use Rattle.std.proofs.lemmas.Bool.{cases_Bool, or_cases, or_parts, and_parts, and_cases, ltb-true, ltb-false, leb-true, leb-false, eqb-true, eqb-false, le-leb}
use Rattle.std.proofs.Math.Nat.{mul-add, mul_comm, mul-le-mul_right}
use Rattle.ov_graph.specs.Trees.{VersionTree, total, fresh}
use Rattle.ov_graph.specs.Splits.{Ascends, Has, IsPart, edges, records, members, stops, may_cut, versions_apart, records_apart, comes_first, better, chosen_among, chosen, next_cut_of, IsLeast}
use Rattle.ov_lyre.proofs.PartFacts.{lies}
use Rattle.ov_lyre.proofs.UnderFacts.{IsSoundTree}

module _ (tree : VersionTree) (sound : IsSoundTree tree) where
  weights : (xs : List ℕ) → total tree.records xs ≡ total (fresh tree) xs + total tree.weight xs
  weights [] = refl
  weights (x ∷ xs) = let w = sound.within x in let rest = weights xs in omega arith

  -- E is R and the weights of the edges
  members-records : (top : ℕ) (rest : List ℕ) → members tree (top ∷ rest) ≡ records tree (top ∷ rest) + total tree.weight rest
  members-records top rest = let w = weights rest in omega arith

module _ (tree : VersionTree) (part : List ℕ) where
  better-none : (vid : ℕ) (o : Option ℕ) → better tree part vid o ≡ None → ⊥
  better-none vid None e = cc
  better-none vid (Some other) e =
      elim (cases_Bool (comes_first (versions_apart tree part vid) (records_apart tree part vid) (versions_apart tree part other) (records_apart tree part other))) [
        | inl first ↦ let h = rw first at e in cc
        | inr after ↦ let h = rw after at e in cc
      ]

  module _ (p q : ℕ) where
    -- without a choice every edge is heavy
    heavy : (xs : List ℕ) → chosen_among tree p q part xs ≡ None → (x : ℕ) → Has xs x → may_cut tree p q part x ≡ false
    heavy [] none x has = absurd has
    heavy (y ∷ xs) none x has =
        elim (cases_Bool (may_cut tree p q part y)) [
          | inl light ↦ absurd (better-none y (chosen_among tree p q part xs) (rw light at none))
          | inr heavy_y ↦ go heavy_y (heavy xs (rw heavy_y at none)) has
        ]
      where
        go : may_cut tree p q part y ≡ false → ((x : ℕ) → Has xs x → may_cut tree p q part x ≡ false) → Has (y ∷ xs) x → may_cut tree p q part x ≡ false
        go heavy_y rest (inl is) = rw (sym is) heavy_y
        go heavy_y rest (inr there) = rest x there

    heavy-sum : (xs : List ℕ) → ((x : ℕ) → Has xs x → may_cut tree p q part x ≡ false) → length xs * (p * records tree part) ≤ q * total tree.weight xs
    unfolding may_cut
    heavy-sum [] all = omega arith
    heavy-sum (x ∷ xs) all =
        let rest = heavy-sum xs (λ y has. all y (inr has)) in
        let here = leb-false (q * tree.weight x) (p * records tree part) (all x (inl refl)) in
        omega (arith, mul-add q (tree.weight x) (total tree.weight xs), here, rest)

    chosen-among : (xs : List ℕ) (vid : ℕ) → chosen_among tree p q part xs ≡ Some vid → Has xs vid × (may_cut tree p q part vid ≡ true)
    chosen-among [] vid e = absurd cc
    chosen-among (x ∷ xs) vid e =
        elim (cases_Bool (may_cut tree p q part x)) [
          | inl light ↦ go light (chosen_among tree p q part xs) refl (chosen-among xs) (rw light at e)
          | inr heavy_x ↦ let rest = chosen-among xs vid (rw heavy_x at e) in (inr rest.0, rest.1)
        ]
      where
        go : may_cut tree p q part x ≡ true → (o : Option ℕ) → chosen_among tree p q part xs ≡ o → ((v : ℕ) → chosen_among tree p q part xs ≡ Some v → Has xs v × (may_cut tree p q part v ≡ true)) → better tree part x o ≡ Some vid → Has (x ∷ xs) vid × (may_cut tree p q part vid ≡ true)
        go light None is rest e = let same : x ≡ vid = cc in (inl same, rw (sym same) light)
        go light (Some other) is rest e =
            elim (cases_Bool (comes_first (versions_apart tree part x) (records_apart tree part x) (versions_apart tree part other) (records_apart tree part other))) [
              | inl first ↦ let h = rw first at e in let same : x ≡ vid = cc in (inl same, rw (sym same) light)
              | inr after ↦ let h = rw after at e in let same : other ≡ vid = cc in let found = rest other is in (inr (rw (sym same) found.0), rw (sym same) found.1)
            ]

-- A vid is at least as good as another one: its versions and records come first, or are the same.
abbrev pub IsUpTo : (versions_u records_u versions_v records_v : ℕ) → Type 0
IsUpTo versions_u records_u versions_v records_v = (versions_u ≤ versions_v) × (versions_u ≡ versions_v → records_u ≤ records_v)

first-is : (a b c d : ℕ) → comes_first a b c d ≡ true → IsUpTo a b c d
first-is a b c d e =
    elim (or_cases (ltb a c) (eqb a c && leb b d) e) [
      | inl less ↦ let lt = ltb-true a c less in (omega arith, λ same. absurd (omega arith))
      | inr tie ↦ let both = and_parts (eqb a c) (leb b d) tie in let same = eqb-true a c both.0 in (omega arith, λ _. leb-true b d both.1)
    ]

-- and strictly so where the other one doesn't come first
abbrev pub IsBelow : (versions_u records_u versions_v records_v : ℕ) → Type 0
IsBelow versions_u records_u versions_v records_v = (versions_u ≤ versions_v) × (versions_u ≡ versions_v → records_u < records_v)

after-is : (a b c d : ℕ) → comes_first a b c d ≡ false → IsBelow c d a b
after-is a b c d e =
    let parts = or_parts (ltb a c) (eqb a c && leb b d) e in
    let le = ltb-false a c parts.0 in (
      le,
      λ same. elim (and_cases (eqb a c) (leb b d) parts.1) [
        | inl other ↦ absurd (eqb-false a c other (sym same))
        | inr more ↦ leb-false b d more
      ],
    )

module _ (tree : VersionTree) (p q : ℕ) (part : List ℕ) where
  -- among these vids none that may be cut is better
  abbrev pub Beats : ℕ → List ℕ → Type 0
  Beats vid xs = (other : ℕ) → Has xs other → may_cut tree p q part other ≡ true → IsLeast tree part vid other

  least-self : (vid : ℕ) → IsLeast tree part vid vid
  least-self vid = record { versions = omega arith; records = λ _. omega arith; vids = λ _ _. omega arith }

  -- the first one comes first, or has a lower vid
  least-first : (x other y : ℕ) → comes_first (versions_apart tree part x) (records_apart tree part x) (versions_apart tree part other) (records_apart tree part other) ≡ true → x < y → IsLeast tree part other y → IsLeast tree part x y
  least-first x other y e lt least =
      let up = first-is (versions_apart tree part x) (records_apart tree part x) (versions_apart tree part other) (records_apart tree part other) e in
      let a = up.0 in
      let b = least.versions in
      record {
        versions = omega arith;
        records = λ same. let xo : versions_apart tree part x ≡ versions_apart tree part other = omega arith in let c = up.1 xo in let d = least.records (omega arith) in omega arith;
        vids = λ _ _. omega arith;
      }

  least-after : (x other : ℕ) → comes_first (versions_apart tree part x) (records_apart tree part x) (versions_apart tree part other) (records_apart tree part other) ≡ false → IsLeast tree part other x
  least-after x other e =
      let down = after-is (versions_apart tree part x) (records_apart tree part x) (versions_apart tree part other) (records_apart tree part other) e in
      record {
        versions = down.0;
        records = λ same. let h = down.1 same in omega arith;
        vids = λ same ties. let h = down.1 same in absurd (omega arith);
      }

  chosen-least : (low high : ℕ) (xs : List ℕ) → Ascends low high xs → (vid : ℕ) → chosen_among tree p q part xs ≡ Some vid → Beats vid xs
  chosen-least low high [] up vid e = absurd cc
  chosen-least low high (x ∷ xs) up vid e =
      elim (cases_Bool (may_cut tree p q part x)) [
        | inl light ↦ go light (chosen_among tree p q part xs) refl (chosen-least x high xs up.2) (rw light at e)
        | inr heavy_x ↦ skip heavy_x (chosen-least x high xs up.2 vid (rw heavy_x at e))
      ]
    where
      skip : may_cut tree p q part x ≡ false → Beats vid xs → Beats vid (x ∷ xs)
      skip heavy_x rest other (inl is) light = absurd (let h = rw is at heavy_x in cc)
      skip heavy_x rest other (inr has) light = rest other has light

      take_it : (v : ℕ) → x ≡ v → ((y : ℕ) → Has xs y → may_cut tree p q part y ≡ true → IsLeast tree part x y) → Beats v (x ∷ xs)
      take_it v same rest other (inl is) light = rw (sym same, sym is) (least-self x)
      take_it v same rest other (inr has) light = rw (sym same) (rest other has light)

      keep_it : (v other : ℕ) → other ≡ v → IsLeast tree part other x → Beats other xs → Beats v (x ∷ xs)
      keep_it v other same here rest y (inl is) light = rw (sym same, sym is) here
      keep_it v other same here rest y (inr has) light = rw (sym same) (rest y has light)

      go : may_cut tree p q part x ≡ true → (o : Option ℕ) → chosen_among tree p q part xs ≡ o → ((v : ℕ) → chosen_among tree p q part xs ≡ Some v → Beats v xs) → better tree part x o ≡ Some vid → Beats vid (x ∷ xs)
      go light None is rest e =
          let same : x ≡ vid = cc in
          take_it vid same (λ y has light_y. absurd (let h = heavy tree part p q xs is y has in cc))
      go light (Some other) is rest e =
          elim (cases_Bool (comes_first (versions_apart tree part x) (records_apart tree part x) (versions_apart tree part other) (records_apart tree part other))) [
            | inl first ↦
                let h = rw first at e in
                let same : x ≡ vid = cc in
                take_it vid same (λ y has light_y. least-first x other y first ((lies x high xs y up.2 has).above) (rest other is y has light_y))
            | inr after ↦
                let h = rw after at e in
                let same : other ≡ vid = cc in
                keep_it vid other same (least-after x other after) (rest other is)
          ]

-- what is known of the vid at which a part is cut
pub record CutAt (tree : VersionTree) (p q : ℕ) (part : List ℕ) (vid : ℕ) : Type 0 where
  pub inside : Has (edges part) vid
  pub light : may_cut tree p q part vid ≡ true
  pub least : (other : ℕ) → Has (edges part) other → may_cut tree p q part other ≡ true → IsLeast tree part vid other

module _ (tree : VersionTree) (sound : IsSoundTree tree) (p q : ℕ) (p_up_to_q : p ≤ q) (count : ℕ) where
  pub chosen-cut : (part : List ℕ) (vid : ℕ) → IsPart tree count part → chosen tree p q part ≡ Some vid → CutAt tree p q part vid
  unfolding chosen
  chosen-cut [] vid is e = absurd cc
  chosen-cut (top ∷ rest) vid is e =
      let found = chosen-among tree (top ∷ rest) p q rest vid e in
      record { inside = found.0; light = found.1; least = chosen-least tree p q (top ∷ rest) top count rest is.ascends.2 vid e }

  stopped : (top : ℕ) (rest : List ℕ) → length rest * (p * records tree (top ∷ rest)) ≤ q * total tree.weight rest → stops tree p q (top ∷ rest) ≡ true
  unfolding stops
  stopped top rest bound =
      let part = top ∷ rest in
      let r = records tree part in
      let pr = p * r in
      let e : members tree part ≡ r + total tree.weight rest = members-records tree sound top rest in
      let n : length part ≡ suc (length rest) = refl in
      let left : pr * length part ≡ length rest * pr + pr = rw n (mul_comm pr (suc (length rest)) ∙ omega arith) in
      let light : pr ≤ q * r = mul-le-mul_right r p_up_to_q in
      le-leb (p * r * length part) (q * members tree part) (rw (left, e, mul-add q r (total tree.weight rest)) (omega arith))

  -- a part without an edge that may be cut stops
  pub stops-none : (part : List ℕ) → IsPart tree count part → chosen tree p q part ≡ None → stops tree p q part ≡ true
  unfolding chosen
  stops-none [] is none = let some = is.some in absurd (omega arith)
  stops-none (top ∷ rest) is none = stopped top rest (heavy-sum tree (top ∷ rest) p q rest (heavy tree (top ∷ rest) p q rest none))

  -- the next cut of a part, if it doesn't stop
  pub data NextCut (part : List ℕ) : Option ℕ → Type 0 where
    none : stops tree p q part ≡ true → NextCut part None
    some : {vid : ℕ} → stops tree p q part ≡ false → CutAt tree p q part vid → NextCut part (Some vid)

  pub next-of : (part : List ℕ) → IsPart tree count part → stops tree p q part ≡ false → (o : Option ℕ) → chosen tree p q part ≡ o → NextCut part o
  next-of part is goes_on None e = let h = stops-none part is e in absurd cc
  next-of part is goes_on (Some vid) e = some goes_on (chosen-cut part vid is e)

  pub next-cut : (part : List ℕ) → IsPart tree count part → NextCut part (next_cut_of tree p q part)
  next-cut part is =
      elim (cases_Bool (stops tree p q part)) [
        | inl stop ↦ rw stop (none stop)
        | inr goes_on ↦ rw goes_on (next-of part is goes_on (chosen tree p q part) refl)
      ]

  from-some : (part : List ℕ) (vid : ℕ) → NextCut part (Some vid) → CutAt tree p q part vid
  from-some part vid (some goes_on at) = at

  pub cut-at : (part : List ℕ) (vid : ℕ) → IsPart tree count part → next_cut_of tree p q part ≡ Some vid → CutAt tree p q part vid
  cut-at part vid is e = let P : Option ℕ → Type 0 = NextCut part in from-some part vid (subst P e (next-cut part is))
