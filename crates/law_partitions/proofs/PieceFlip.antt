-- What a flip leaves of the partitions that later targets keep pieces of.
use Rattle.std.proofs.Common.{◌≡◌, ◌≤◌, ℕ, ◌+◌, Bool, true, false, ◌==◌, List, [], ◌∷◌, ◌++◌, length, map, filter, refl, sym, ◌∙◌, ap, subst, inl, inr, arith}
use Rattle.std.specs.Prelude.{◌⊎◌, ◌||◌, if◌then◌else◌, not, slice_index_or}
use Rattle.std.proofs.lemmas.Bool.{cases_Bool, eqb-true, ne_eqb}
use Rattle.ov_model.specs.Placed.{times}
use Rattle.ov_model.specs.Plans.{pieces_of, meets, leaving, left_parts}
use Rattle.ov_model.specs.Records.{Rec}
use Rattle.ov_model.specs.World.{Part, Target, is_one}
use Rattle.ov_model.proofs.Counting.{one_same, listed, not_listed, stays_times}
use Rattle.law_partitions.specs.Pieces.{AreBelow, versions_of}

-- ---- lists of versions that meet

or_true : (a b : Bool) → (a || b) ≡ true → (a ≡ true) ⊎ (b ≡ true)
or_true true b e = inl refl
or_true false b e = inr e

or_left : (a b : Bool) → a ≡ true → (a || b) ≡ true
or_left true b e = refl
or_left false b e = cc

or_right : (a b : Bool) → b ≡ true → (a || b) ≡ true
or_right true b e = refl
or_right false b e = e

pub is_listed : (vs : List ℕ) (vid : ℕ) → 1 ≤ times vs vid → is_one vs vid ≡ true
is_listed vs vid some =
    elim (cases_Bool (is_one vs vid)) [
      | inl there ↦ there
      | inr none ↦ absurd (omega (arith, some, not_listed vs vid none))
    ]

pub is_unlisted : (vs : List ℕ) (vid : ℕ) → times vs vid ≡ 0 → is_one vs vid ≡ false
is_unlisted vs vid none =
    elim (cases_Bool (is_one vs vid)) [
      | inl there ↦ absurd (omega (arith, none, listed vs vid there))
      | inr other ↦ other
    ]

pub met : (a b : List ℕ) → meets a b ≡ true → (vid : ℕ) × (is_one a vid ≡ true) × (is_one b vid ≡ true)
met [] b e = cc
met (v ∷ a) b e =
    elim (or_true (is_one b v) (meets a b) e) [
      | inl here ↦ (v, is_listed (v ∷ a) v (omega (arith, one_same v v refl)), here)
      | inr later ↦
          let found = met a b later
          in (found.0, or_right (v == found.0) (is_one a found.0) found.1, found.2)
    ]

pub meeting : (a b : List ℕ) (vid : ℕ) → is_one a vid ≡ true → is_one b vid ≡ true → meets a b ≡ true
meeting [] b vid e there = cc
meeting (v ∷ a) b vid e there =
    elim (or_true (v == vid) (is_one a vid) e) [
      | inl same ↦ or_left (is_one b v) (meets a b) (ap (is_one b) (eqb-true v vid same) ∙ there)
      | inr later ↦ or_right (is_one b v) (meets a b) (meeting a b vid later there)
    ]

-- ---- a partition that keeps a version

abbrev Stays : List Part → List Part → ℕ → ℕ → Type 0
Stays before after id vid = (pieces_of after id ≡ pieces_of before id) × (is_one (versions_of after id) vid ≡ true)

module _ (vs : List ℕ) (more : List Part) (id vid : ℕ) (other : is_one vs vid ≡ false) where
  abbrev left : List Part → List Part
  left parts = left_parts vs parts ++ more

  remains : (versions : List ℕ) → is_one versions vid ≡ true → is_one (filter (λ v. not (is_one vs v)) versions) vid ≡ true
  remains versions there =
      is_listed (filter (λ v. not (is_one vs v)) versions) vid (omega (arith, stays_times vs versions vid other, listed versions vid there))

  some_left : (versions : List ℕ) → is_one versions vid ≡ true → not (length versions == 0) ≡ true
  some_left [] e = cc
  some_left (v ∷ versions) e = ap not (ne_eqb (length (v ∷ versions)) 0 (λ none. omega (arith, none)))

  stays_if : (s u : Bool) (part : Part) (rest parts : List Part) → (part.id == id) ≡ s → (s ≡ true → u ≡ true)
      → is_one (if s then part.versions else versions_of parts id) vid ≡ true
      → (is_one (versions_of parts id) vid ≡ true → Stays parts (rest ++ more) id vid)
      → (pieces_of ((if u then leaving vs part ∷ rest else rest) ++ more) id ≡ (if s then part.pieces else pieces_of parts id))
      × (is_one (versions_of ((if u then leaving vs part ∷ rest else rest) ++ more) id) vid ≡ true)
  stays_if true true part rest parts is full there later = (
    ap (λ b. if b then part.pieces else pieces_of (rest ++ more) id) is,
    ap (λ b. is_one (if b then (leaving vs part).versions else versions_of (rest ++ more) id) vid) is ∙ remains part.versions there,
  )
  stays_if true false part rest parts is full there later = absurd (clash (full refl))
    where
      clash : false ≡ true → ⊥
      clash e = cc
  stays_if false true part rest parts is full there later = (
    ap (λ b. if b then part.pieces else pieces_of (rest ++ more) id) is ∙ (later there).0,
    ap (λ b. is_one (if b then (leaving vs part).versions else versions_of (rest ++ more) id) vid) is ∙ (later there).1,
  )
  stays_if false false part rest parts is full there later = later there

  pub stays : (parts : List Part) → is_one (versions_of parts id) vid ≡ true → Stays parts (left parts) id vid
  stays [] e = cc
  stays (part ∷ parts) there =
      stays_if (part.id == id) (not (length (leaving vs part).versions == 0)) part (left_parts vs parts) parts refl
      (λ same. some_left (leaving vs part).versions (remains part.versions (ap (λ b. is_one (if b then part.versions else versions_of parts id) vid) (sym same) ∙ there)))
      there (stays parts)

-- ---- what the later targets keep

abbrev pub picked : List (List Rec) → List ℕ → List (List Rec)
picked pieces places = map (λ place. slice_index_or pieces place []) places

-- the pieces that a target keeps are as they were, and their partition serves one of its versions still
module _ (vs : List ℕ) (parts more : List Part) (t : Target) (apart : (vid : ℕ) → times vs vid + times t.versions vid ≤ 1) where
  abbrev after : List Part
  after = left_parts vs parts ++ more

  not_gone : (vid : ℕ) → is_one t.versions vid ≡ true → is_one vs vid ≡ false
  not_gone vid there = is_unlisted vs vid (omega (arith, apart vid, listed t.versions vid there))

  pub kept_stay : (t.kept ≡ []) ⊎ (meets t.versions (versions_of parts t.source) ≡ true)
      → picked (pieces_of after t.source) t.kept ≡ picked (pieces_of parts t.source) t.kept
  kept_stay (inl none) = ap (picked (pieces_of after t.source)) none ∙ sym (ap (picked (pieces_of parts t.source)) none)
  kept_stay (inr serves) =
      let found = met t.versions (versions_of parts t.source) serves
      in ap (λ pieces. picked pieces t.kept) (stays vs more t.source found.0 (not_gone found.0 found.1) parts found.2).0

  pub serves_still : (t.kept ≡ []) ⊎ (meets t.versions (versions_of parts t.source) ≡ true)
      → (t.kept ≡ []) ⊎ (meets t.versions (versions_of after t.source) ≡ true)
  serves_still (inl none) = inl none
  serves_still (inr serves) =
      let found = met t.versions (versions_of parts t.source) serves
      in inr (meeting t.versions (versions_of after t.source) found.0 found.1 (stays vs more t.source found.0 (not_gone found.0 found.1) parts found.2).1)

  pub pieces_there : (t.kept ≡ []) ⊎ (meets t.versions (versions_of parts t.source) ≡ true)
      → AreBelow (length (pieces_of parts t.source)) t.kept → AreBelow (length (pieces_of after t.source)) t.kept
  pieces_there (inl none) low = subst (AreBelow (length (pieces_of after t.source))) (sym none) tt
  pieces_there (inr serves) low =
      let found = met t.versions (versions_of parts t.source) serves
      in subst (λ pieces. AreBelow (length pieces) t.kept) (sym (stays vs more t.source found.0 (not_gone found.0 found.1) parts found.2).0) low
