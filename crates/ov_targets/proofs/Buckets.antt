-- A partition whose versions' greatest place is that of a target is one that it empties.
use Rattle.std.proofs.Common.{◌≡◌, ◌≤◌, ◌<◌, ℕ, zero, suc, ◌+◌, Bool, true, false, ◌&&◌, ◌||◌, ◌==◌, List, [], ◌∷◌, ◌++◌, length, get_or, drop, set, map, append_assoc, refl, sym, ◌∙◌, ap, subst, inl, inr, arith}
use Rattle.std.specs.Prelude.{not, filter, if◌then◌else◌, Vec}
use Rattle.std.specs.declared.alloc.Global.{Global}
use Rattle.std.specs.List.{All, list_any}
use Rattle.std.proofs.lemmas.Bool.{cases_Bool, cases_eq, eqb-true, eq-eqb, ne_eqb}
use Rattle.std.proofs.lemmas.List.{get_or-map, get_or-set_same, get_or-set_other, length-set, map-set}
use Rattle.std.proofs.lemmas.List.Elements.{All-head, All-tail}
use Rattle.ov_match.specs.Matching.{NumbersAscend, AllSound}
use Rattle.ov_model.specs.Lists.{IsIn}
use Rattle.ov_model.specs.Plans.{meets}
use Rattle.ov_model.specs.World.{is_one}
use Rattle.ov_match.specs.declared.choosing.Candidate.{Candidate}
use Rattle.ov_targets.specs.declared.candidates.Partition.{Partition}
use Rattle.ov_targets.specs.Emptying.{AreLasts, candidates_in, greatest, emptied_at}
use Rattle.ov_targets.specs.Targets.{AreBelow, AreVids, candidate_in, emptied_by}
use Rattle.ov_targets.proofs.Marks.{greatest_most, greatest_there}

or_right : (a b : Bool) → b ≡ true → (a || b) ≡ true
or_right true b e = refl
or_right false b e = e

meets_of : (a b : List ℕ) → meets a b ≡ true → (vid : ℕ) × ((is_one a vid ≡ true) × (is_one b vid ≡ true))
meets_of [] b e = cc
meets_of (x ∷ a) b e = elim (cases_Bool (is_one b x)) [
  | inl here ↦ (x, (ap (λ t. t || is_one a x) (eq-eqb x x refl), here))
  | inr other ↦
      let rest = meets_of a b (ap (λ t. t || meets a b) (sym other) ∙ e) in
      (rest.0, (or_right (x == rest.0) (is_one a rest.0) rest.1.0, rest.1.1))
]

meets_in : (a b : List ℕ) (vid : ℕ) → is_one a vid ≡ true → is_one b vid ≡ true → meets a b ≡ true
meets_in [] b vid one other = cc
meets_in (x ∷ a) b vid one other = elim (cases_Bool (x == vid)) [
  | inl same ↦ ap (λ t. t || meets a b) (ap (is_one b) (eqb-true x vid same) ∙ other)
  | inr differ ↦ or_right (is_one b x) (meets a b) (meets_in a b vid (ap (λ t. t || is_one a vid) (sym differ) ∙ one) other)
]

later_of : (q : List ℕ → Bool) (parts : List (List ℕ)) (k : ℕ) → list_any q (drop k parts) ≡ true
    → (i : ℕ) × ((k ≤ i) × ((i < length parts) × (q (get_or parts i []) ≡ true)))
later_of q [] zero e = cc
later_of q [] (suc k) e = cc
later_of q (p ∷ parts) zero e = elim (cases_Bool (q p)) [
  | inl here ↦ (0, (omega arith, (omega arith, here)))
  | inr other ↦
      let rest = later_of q parts 0 (ap (λ t. t || list_any q parts) (sym other) ∙ e) in
      (suc rest.0, (omega arith, (omega (arith, rest.1.1.0), rest.1.1.1)))
]
later_of q (p ∷ parts) (suc k) e =
    let rest = later_of q parts k e in
    (suc rest.0, (omega (arith, rest.1.0), (omega (arith, rest.1.1.0), rest.1.1.1)))

later_in : (q : List ℕ → Bool) (parts : List (List ℕ)) (k i : ℕ) → k ≤ i → i < length parts → q (get_or parts i []) ≡ true → list_any q (drop k parts) ≡ true
later_in q [] k i le lt e = absurd (omega (arith, lt))
later_in q (p ∷ parts) zero zero le lt e = ap (λ t. t || list_any q parts) e
later_in q (p ∷ parts) zero (suc i) le lt e = or_right (q p) (list_any q parts) (later_in q parts 0 i (omega arith) (omega (arith, lt)) e)
later_in q (p ∷ parts) (suc k) zero le lt e = absurd (omega (arith, le))
later_in q (p ∷ parts) (suc k) (suc i) le lt e = later_in q parts k i (omega (arith, le)) (omega (arith, lt)) e

module _ (parts : List (List ℕ)) (place : ℕ → ℕ) (are : AreLasts parts place) (vs : List ℕ) where
  above : (i : ℕ) → i < length parts → meets (get_or parts i []) vs ≡ true → i < greatest place vs
  above i lt e =
      let both = meets_of (get_or parts i []) vs e in
      omega (arith, are.last i both.0 lt both.1.0, greatest_most place vs both.0 both.1.1)

  reached : (i : ℕ) → greatest place vs ≡ suc i → (i < length parts) × (meets (get_or parts i []) vs ≡ true)
  reached i is =
      let one = greatest_there place vs i is in
      let own = are.there i one.0 one.1.1 in
      (own.0, meets_in (get_or parts i []) vs one.0 own.1 one.1.0)

  abbrev others : ℕ → Bool
  others at = list_any (λ other. meets other vs) (drop (at + 1) parts)

  pub decides : (at : ℕ) → at < length parts → (greatest place vs == suc at) ≡ (meets (get_or parts at []) vs && not (others at))
  decides at lt = elim (cases_eq (greatest place vs) (suc at)) [
    | inl e ↦ eq-eqb (greatest place vs) (suc at) e ∙ sym (ap (λ t. t && not (others at)) (reached at e).1 ∙ ap not (none e))
    | inr ne ↦ ne_eqb (greatest place vs) (suc at) ne ∙ sym (by ne)
  ]
    where
      none : greatest place vs ≡ suc at → others at ≡ false
      none e = elim (cases_Bool (others at)) [
        | inl t ↦
            let i = later_of (λ other. meets other vs) parts (at + 1) t in
            absurd (omega (arith, i.1.0, above i.0 i.1.1.0 i.1.1.1, e))
        | inr f ↦ f
      ]

      by : (greatest place vs ≡ suc at → ⊥) → (meets (get_or parts at []) vs && not (others at)) ≡ false
      by ne = elim (cases_Bool (meets (get_or parts at []) vs)) [
        | inl t ↦ ap (λ b. b && not (others at)) t ∙ ap not (some ne (above at lt t))
        | inr f ↦ ap (λ b. b && not (others at)) f
      ]
        where
          further : (m : ℕ) → greatest place vs ≡ m → (m ≡ suc at → ⊥) → at < m → others at ≡ true
          further zero is other less = absurd (omega (arith, less))
          further (suc i) is other less =
              let it = reached i is in
              later_in (λ other. meets other vs) parts (at + 1) i (apart (λ same. other (ap suc same)) less) it.0 it.1
            where
              apart : (i ≡ at → ⊥) → at < suc i → at + 1 ≤ i
              apart differ lower = elim (cases_eq i at) [
                | inl same ↦ absurd (differ same)
                | inr two ↦ grind (arith, two, lower)
              ]

          some : (greatest place vs ≡ suc at → ⊥) → at < greatest place vs → others at ≡ true
          some ne less = further (greatest place vs) refl ne less

filter_same : {X : Type 0} (p q : X → Bool) (xs : List X) → ((x : X) → p x ≡ q x) → filter p xs ≡ filter q xs
filter_same p q [] same = refl
filter_same p q (x ∷ xs) same = rw (same x, filter_same p q xs same) refl

pub same_emptied : (parts : List (List ℕ)) (place : ℕ → ℕ) (at : ℕ) (partitions : List Partition) → AreLasts parts place → at < length parts
    → emptied_at place at partitions ≡ emptied_by (get_or parts at []) (drop (at + 1) parts) partitions
same_emptied parts place at partitions are lt =
    ap (map candidate_in) (filter_same _ _ partitions (λ p. decides parts place are p.versions.items at lt))

-- ---- some of the partitions

ascend_lower : (low high : ℕ) (cs : List Candidate) → low ≤ high → NumbersAscend high cs → NumbersAscend low cs
ascend_lower low high [] le ascend = tt
ascend_lower low high (c ∷ cs) le ascend = (omega (arith, le, ascend.0), ascend.1)

pub some_ascend : (p : Partition → Bool) (low : ℕ) (ps : List Partition) → NumbersAscend low (map candidate_in ps) → NumbersAscend low (map candidate_in (filter p ps))
some_ascend p low [] ascend = tt
some_ascend p low (x ∷ ps) ascend = by (p x) (some_ascend p x.id ps ascend.1)
  where
    by : (b : Bool) → NumbersAscend x.id (map candidate_in (filter p ps)) → NumbersAscend low (map candidate_in (if b then x ∷ filter p ps else filter p ps))
    by true rest = (ascend.0, rest)
    by false rest = ascend_lower low x.id (map candidate_in (filter p ps)) (omega (arith, ascend.0)) rest

pub some_sound : (p : Partition → Bool) (ps : List Partition) → AllSound (map candidate_in ps) → AllSound (map candidate_in (filter p ps))
some_sound p [] sound = tt
some_sound p (x ∷ ps) sound = by (p x) (some_sound p ps sound.1)
  where
    by : (b : Bool) → AllSound (map candidate_in (filter p ps)) → AllSound (map candidate_in (if b then x ∷ filter p ps else filter p ps))
    by true rest = (sound.0, rest)
    by false rest = rest

pub some_in : (p : Partition → Bool) (ps : List Partition) (one : Candidate) → IsIn (map candidate_in (filter p ps)) one → IsIn (map candidate_in ps) one
some_in p [] one is = is
some_in p (x ∷ ps) one is = by (p x) (some_in p ps one) is
  where
    by : (b : Bool) → (IsIn (map candidate_in (filter p ps)) one → IsIn (map candidate_in ps) one)
        → IsIn (map candidate_in (if b then x ∷ filter p ps else filter p ps)) one → IsIn (map candidate_in (x ∷ ps)) one
    by true rest (inl same) = inl same
    by true rest (inr later) = inr (rest later)
    by false rest is = inr (rest is)

-- ---- one partition more

differs : (a b c : ℕ) → a ≡ suc b → (c ≡ b → ⊥) → (a == suc c) ≡ false
differs a b c is other = ne_eqb a (suc c) (λ same. other (omega (arith, is, same)))

goes_by : (place : ℕ → ℕ) (at : ℕ) (p : Partition) (rest : List Partition) (b : Bool) → (greatest place p.versions.items == suc at) ≡ b
    → emptied_at place at (p ∷ rest) ≡ (if b then candidate_in p ∷ emptied_at place at rest else emptied_at place at rest)
goes_by place at p rest true e = rw e refl
goes_by place at p rest false e = rw e refl

pub bucket_none : (place : ℕ → ℕ) (at : ℕ) (p : Partition) (rest : List Partition) → greatest place p.versions.items ≡ 0
    → emptied_at place at (p ∷ rest) ≡ emptied_at place at rest
bucket_none place at p rest none = goes_by place at p rest false (ne_eqb (greatest place p.versions.items) (suc at) (λ same. omega (arith, none, same)))

abbrev at_place : List (Vec Candidate Global) → ℕ → List Candidate
at_place lists at = get_or (map candidates_in lists) at []

pub bucket_more : (place : ℕ → ℕ) (lists : List (Vec Candidate Global)) (i : ℕ) (old new : Vec Candidate Global) (p : Partition) (rest : List Partition)
    → i < length lists → old ≡ get_or lists i old → new.items ≡ old.items ++ candidate_in p ∷ [] → greatest place p.versions.items ≡ suc i
    → (at : ℕ) → at_place (set lists i new) at ++ emptied_at place at rest ≡ at_place lists at ++ emptied_at place at (p ∷ rest)
bucket_more place lists i old new p rest lt was is goes at = elim (cases_eq at i) [
  | inl same ↦ subst (λ n. at_place (set lists i new) n ++ emptied_at place n rest ≡ at_place lists n ++ emptied_at place n (p ∷ rest)) (sym same) here
  | inr other ↦ there other
]
  where
    within : i < length (set lists i new)
    within = omega (arith, length-set lists i new, lt)

    got : at_place (set lists i new) i ≡ new.items
    got = get_or-map candidates_in (set lists i new) i new [] within ∙ ap candidates_in (get_or-set_same lists i new new lt)

    had : at_place lists i ≡ old.items
    had = get_or-map candidates_in lists i old [] lt ∙ ap candidates_in (sym was)

    here : at_place (set lists i new) i ++ emptied_at place i rest ≡ at_place lists i ++ emptied_at place i (p ∷ rest)
    here =
        ap (λ l. l ++ emptied_at place i rest) (got ∙ is)
        ∙ append_assoc old.items (candidate_in p ∷ []) (emptied_at place i rest)
        ∙ ap (λ l. l ++ candidate_in p ∷ emptied_at place i rest) (sym had)
        ∙ ap (λ l. at_place lists i ++ l) (sym (goes_by place i p rest true (eq-eqb (greatest place p.versions.items) (suc i) goes)))

    there : (at ≡ i → ⊥) → at_place (set lists i new) at ++ emptied_at place at rest ≡ at_place lists at ++ emptied_at place at (p ∷ rest)
    there other =
        ap (λ l. l ++ emptied_at place at rest) (ap (λ l. get_or l at []) (map-set candidates_in lists i new) ∙ get_or-set_other (map candidates_in lists) i at new.items [] other)
        ∙ ap (λ l. at_place lists at ++ l) (sym (goes_by place at p rest false (differs (greatest place p.versions.items) i at goes other)))

-- at first there is nothing anywhere
pub all_empty : (lists : List (Vec Candidate Global)) (at : ℕ) → All (λ list. list.items ≡ []) lists → at_place lists at ≡ []
all_empty [] at none = refl
all_empty (x ∷ lists) zero none = All-head (λ (list : Vec Candidate Global). list.items ≡ []) x lists none
all_empty (x ∷ lists) (suc at) none = all_empty lists at (All-tail (λ (list : Vec Candidate Global). list.items ≡ []) x lists none)

pub places_most : (parts : List (List ℕ)) (place : ℕ → ℕ) → AreLasts parts place → (vid : ℕ) → place vid ≤ length parts
places_most parts place are vid = by (place vid) refl
  where
    by : (n : ℕ) → place vid ≡ n → n ≤ length parts
    by zero e = omega arith
    by (suc at) e = omega (arith, (are.there at vid e).0)

pub vids_below : (count limit : ℕ) (vids : List ℕ) → limit ≡ count + 1 → AreVids count vids → AreBelow limit vids
vids_below count limit [] is are = tt
vids_below count limit (vid ∷ vids) is are = (omega (arith, is, are.0.1), vids_below count limit vids is are.1)
