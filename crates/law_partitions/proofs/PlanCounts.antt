-- The versions of a part have at most as many records together as the tree counts.
use Rattle.std.proofs.Common.{◌≡◌, ◌≤◌, ◌<◌, ◌⊎◌, ℕ, ◌+◌, ◌-◌, Bool, true, false, List, [], ◌∷◌, ◌++◌, length, filter, refl, sym, ◌∙◌, ap, subst, inl, inr, arith, append-nil, append_assoc}
use Rattle.std.specs.Prelude.{◌&&◌, ◌||◌, not, if◌then◌else◌}
use Rattle.std.specs.List.{list_any}
use Rattle.std.proofs.lemmas.List.Filters.{length-filter_both}
use Rattle.std.proofs.lemmas.List.Sums.{length-filter}
use Rattle.std.proofs.lemmas.Bool.{cases_Bool}
use Rattle.ov_graph.specs.Splits.{Ascends, Has, HasParents, IsPart, records}
use Rattle.ov_graph.specs.Trees.{VersionTree, fresh, total, tree_of}
use Rattle.ov_model.specs.Plans.{nodes_of_set, records_in}
use Rattle.ov_model.specs.Records.{Rec, AllRise, is_among, is_same_rec, of_version, order_of, recs}
use Rattle.ov_model.specs.World.{Dataset}
use Rattle.ov_model.proofs.Counting.{one_if}
use Rattle.ov_model.proofs.Holds.{same_recs}
use Rattle.ov_model.proofs.Rids.{order_of_once}
use Rattle.law_partitions.specs.PlanEnds.{HaveParents}
use Rattle.law_partitions.proofs.PlanNodes.{filter_most, IsNode, node_is, sound}

-- none of these records is this one
abbrev pub Apart : Rec → List Rec → Type 0
Apart x [] = Unit {0}
Apart x (r ∷ rs) = (is_same_rec r x ≡ false) × Apart x rs

-- no record stands twice
abbrev pub Once : List Rec → Type 0
Once [] = Unit {0}
Once (r ∷ rs) = Apart r rs × Once rs

-- ---- how many records pass a test

abbrev pub passing : (Rec → Bool) → List Rec → ℕ
passing p rs = length (filter p rs)

pass_if : (t : Bool) (r : Rec) (rs : List Rec) → length (if t then r ∷ rs else rs) ≡ (if t then 1 else 0) + length rs
pass_if true r rs = omega arith
pass_if false r rs = omega arith

both_if : (t u v : Bool) (a b c : ℕ) → (t ≡ true → (u ≡ true) ⊎ (v ≡ true)) → a ≤ b + c → (if t then 1 else 0) + a ≤ ((if u then 1 else 0) + b) + ((if v then 1 else 0) + c)
both_if false u v a b c split le = omega (arith, le)
both_if true true v a b c split le = omega (arith, le)
both_if true false true a b c split le = omega (arith, le)
both_if true false false a b c split le =
    elim (split refl) [
      | inl e ↦ absurd (clash e)
      | inr e ↦ absurd (clash e)
    ]
  where
    clash : false ≡ true → ⊥
    clash e = cc

-- those that pass one test pass one of two others
two_tests : (p q s : Rec → Bool) (rs : List Rec) → ((r : Rec) → p r ≡ true → (q r ≡ true) ⊎ (s r ≡ true)) → passing p rs ≤ passing q rs + passing s rs
two_tests p q s [] split = omega arith
two_tests p q s (r ∷ rs) split =
    omega (
      arith,
      pass_if (p r) r (filter p rs),
      pass_if (q r) r (filter q rs),
      pass_if (s r) r (filter s rs),
      both_if (p r) (q r) (s r) (passing p rs) (passing q rs) (passing s rs) (split r) (two_tests p q s rs split),
    )

fewer_if : (t u : Bool) (a b : ℕ) → (t ≡ true → u ≡ true) → a ≤ b → (if t then 1 else 0) + a ≤ (if u then 1 else 0) + b
fewer_if false u a b within le = omega (arith, le)
fewer_if true true a b within le = omega (arith, le)
fewer_if true false a b within le = absurd (clash (within refl))
  where
    clash : false ≡ true → ⊥
    clash e = cc

fewer : (p q : Rec → Bool) (rs : List Rec) → ((r : Rec) → p r ≡ true → q r ≡ true) → passing p rs ≤ passing q rs
fewer p q [] within = omega arith
fewer p q (r ∷ rs) within =
    omega (arith, pass_if (p r) r (filter p rs), pass_if (q r) r (filter q rs), fewer_if (p r) (q r) (passing p rs) (passing q rs) (within r) (fewer p q rs within))

none_pass : (p : Rec → Bool) (rs : List Rec) → ((r : Rec) → p r ≡ false) → passing p rs ≡ 0
none_pass p [] none = refl
none_pass p (r ∷ rs) none = let here : one_if (p r) ≡ 0 = ap one_if (none r) in omega (arith, pass_if (p r) r (filter p rs), here, none_pass p rs none)

-- ---- one record stands once

apart_none : (x : Rec) (rs : List Rec) → Apart x rs → passing (λ r. is_same_rec r x) rs ≡ 0
apart_none x [] apart = refl
apart_none x (r ∷ rs) apart =
    let here : one_if (is_same_rec r x) ≡ 0 = ap one_if apart.0
    in omega (arith, pass_if (is_same_rec r x) r (filter (λ y. is_same_rec y x) rs), here, apart_none x rs apart.1)

same_once : (x : Rec) (rs : List Rec) → Once rs → passing (λ r. is_same_rec r x) rs ≤ 1
same_once x [] once = omega arith
same_once x (r ∷ rs) once =
    elim (cases_Bool (is_same_rec r x)) [
      | inl same ↦
          let here : one_if (is_same_rec r x) ≡ 1 = ap one_if same
          in omega (arith, pass_if (is_same_rec r x) r (filter (λ y. is_same_rec y x) rs), here, apart_none x rs (subst (λ y. Apart y rs) (same_recs r x same) once.0))
      | inr other ↦
          let here : one_if (is_same_rec r x) ≡ 0 = ap one_if other
          in omega (arith, pass_if (is_same_rec r x) r (filter (λ y. is_same_rec y x) rs), here, same_once x rs once.1)
    ]

and_both : (a b : Bool) → (a && b) ≡ true → (a ≡ true) × (b ≡ true)
and_both true b e = (refl, e)
and_both false b e = cc

or_and : (a b c : Bool) → ((a || b) && c) ≡ true → ((a && c) ≡ true) ⊎ ((b && c) ≡ true)
or_and true b c e = inl e
or_and false b c e = inr e

-- of a list's records as many pass, among records that stand once, as in the list
one_passes : (q : Rec → Bool) (x : Rec) (t : Bool) (all : List Rec) → q x ≡ t → Once all → passing (λ r. is_same_rec r x && q r) all ≤ (if t then 1 else 0)
one_passes q x true all e once =
    omega (arith, fewer (λ r. is_same_rec r x && q r) (λ r. is_same_rec r x) all (λ r both. (and_both (is_same_rec r x) (q r) both).0), same_once x all once)
one_passes q x false all e once = omega (arith, none_pass (λ r. is_same_rec r x && q r) all (λ r. off r (is_same_rec r x) refl))
  where
    off : (r : Rec) (t : Bool) → is_same_rec r x ≡ t → (t && q r) ≡ false
    off r true same = ap q (same_recs r x same) ∙ e
    off r false same = refl

pub listed_pass : (q : Rec → Bool) (list all : List Rec) → Once all → passing (λ r. is_among list r && q r) all ≤ passing q list
listed_pass q [] all once = omega (arith, none_pass (λ r. false && q r) all (λ r. refl))
listed_pass q (x ∷ list) all once =
    omega (
      arith,
      two_tests (λ r. is_among (x ∷ list) r && q r) (λ r. is_same_rec r x && q r) (λ r. is_among list r && q r) all (λ r. or_and (is_same_rec r x) (is_among list r) (q r)),
      one_passes q x (q x) all refl once,
      listed_pass q list all once,
      pass_if (q x) x (filter q list),
    )

-- ---- parts

any_append : (p : ℕ → Bool) (a b : List ℕ) → list_any p (a ++ b) ≡ (list_any p a || list_any p b)
any_append p [] b = refl
any_append p (x ∷ a) b = ap (λ t. p x || t) (any_append p a b) ∙ or_assoc (p x) (list_any p a) (list_any p b)
  where
    or_assoc : (a b c : Bool) → (a || (b || c)) ≡ ((a || b) || c)
    or_assoc true b c = refl
    or_assoc false b c = refl

any_has : (p : ℕ → Bool) (vids : List ℕ) (vid : ℕ) → Has vids vid → p vid ≡ true → list_any p vids ≡ true
any_has p [] vid has e = absurd has
any_has p (x ∷ vids) vid (inl same) e = first (p x) (list_any p vids) (ap p same ∙ e)
  where
    first : (a b : Bool) → a ≡ true → (a || b) ≡ true
    first true b f = refl
    first false b f = cc
any_has p (x ∷ vids) vid (inr later) e = second (p x) (list_any p vids) (any_has p vids vid later e)
  where
    second : (a b : Bool) → b ≡ true → (a || b) ≡ true
    second true b f = refl
    second false b f = f

has_append : (a b : List ℕ) (vid : ℕ) → Has (a ++ b) vid → Has a vid ⊎ Has b vid
has_append [] b vid has = inr has
has_append (x ∷ a) b vid (inl same) = inl (inl same)
has_append (x ∷ a) b vid (inr later) =
    elim (has_append a b vid later) [
      | inl one ↦ inl (inr one)
      | inr other ↦ inr other
    ]

not_below : (low high : ℕ) (vids : List ℕ) (vid : ℕ) → Ascends low high vids → Has vids vid → low < vid
not_below low high [] vid up has = absurd has
not_below low high (x ∷ vids) vid up (inl same) = omega (arith, up.0, same)
not_below low high (x ∷ vids) vid up (inr later) = omega (arith, up.0, not_below x high vids vid up.2 later)

within_high : (low high : ℕ) (vids : List ℕ) → Ascends low high vids → (vid : ℕ) → Has vids vid → vid ≤ high
within_high low high [] up vid has = absurd has
within_high low high (x ∷ vids) up vid (inl same) = omega (arith, up.1, same)
within_high low high (x ∷ vids) up vid (inr later) = within_high x high vids up.2 vid later

module _ (d : Dataset) (have : HaveParents 0 d.cvd.versions) (rise : AllRise d.cvd.schema d.cvd.versions) where
  abbrev tree : VersionTree
  tree = tree_of (nodes_of_set d)

  abbrev count : ℕ
  count = length d.cvd.versions

  abbrev all : List Rec
  all = order_of d.cvd.versions

  abbrev of_vid : ℕ → List Rec
  of_vid vid = of_version (recs d.cvd.versions []) vid

  abbrev has : ℕ → Rec → Bool
  has vid r = is_among (of_vid vid) r

  abbrev size : List ℕ → ℕ
  size vids = length (records_in d.cvd vids)

  once : Once all
  once = order_of_once d.cvd.schema d.cvd.versions rise

  -- the first version alone
  top_size : (top : ℕ) → 1 ≤ top → top ≤ count → size (top ∷ []) ≤ tree.records top
  top_size top from to =
      let is : IsNode (recs d.cvd.versions []) (top - 1) _ = node_is d have (top - 1) (omega (arith, from, to))
      in omega (
        arith,
        fewer (λ r. list_any (λ vid. has vid r) (top ∷ [])) (λ r. is_among (of_vid top) r && true) all (λ r e. one_of (has top r) e),
        listed_pass (λ r. true) (of_vid top) all once,
        filter_most (λ r. true) (of_vid top),
        is.records,
      )
    where
      one_of : (t : Bool) → (t || false) ≡ true → (t && true) ≡ true
      one_of true e = refl
      one_of false e = cc

  -- a version whose tree parent is there adds those that it doesn't share
  fresh_size : (vid : ℕ) → 1 < vid → vid ≤ count → passing (λ r. has vid r && not (has (tree.parent vid) r)) all ≤ fresh tree vid
  fresh_size vid from to =
      let is : IsNode (recs d.cvd.versions []) (vid - 1) _ = node_is d have (vid - 1) (omega (arith, from, to))
      in let parent : List Rec = of_vid (tree.parent vid)
      in let both : length (filter (is_among parent) (of_vid vid)) + length (filter (λ r. not (is_among parent r)) (of_vid vid)) ≡ length (of_vid vid) =
      length-filter_both (is_among parent) (λ r. not (is_among parent r)) (λ r. refl) (of_vid vid)
      in omega (
        arith,
        listed_pass (λ r. not (is_among parent r)) (of_vid vid) all once,
        both,
        length-filter (is_among parent) (of_vid vid),
        is.shared (omega (arith, from)),
        is.records,
      )

  add_size : (seen : List ℕ) (vid : ℕ) → Has seen (tree.parent vid) → 1 < vid → vid ≤ count → size (seen ++ vid ∷ []) ≤ size seen + fresh tree vid
  add_size seen vid there from to =
      omega (
        arith,
        two_tests (λ r. list_any (λ v. has v r) (seen ++ vid ∷ [])) (λ r. list_any (λ v. has v r) seen) (λ r. has vid r && not (has (tree.parent vid) r)) all
            (λ r e. split r (list_any (λ v. has v r) seen) (has vid r) (has (tree.parent vid) r) (λ p. any_has (λ v. has v r) seen (tree.parent vid) there p)
            (sym (any_append (λ v. has v r) seen (vid ∷ [])) ∙ e)),
        fresh_size vid from to,
      )
    where
      split : (r : Rec) (a b p : Bool) → (p ≡ true → a ≡ true) → (a || (b || false)) ≡ true → (a ≡ true) ⊎ ((b && not p) ≡ true)
      split r true b p up e = inl refl
      split r false true true up e = inl (up refl)
      split r false true false up e = inr refl
      split r false false p up e = cc

  grown : (seen rest : List ℕ) (low : ℕ) → 1 ≤ low → Ascends low count rest → HasParents tree (seen ++ rest) rest → size (seen ++ rest) ≤ size seen + total (fresh tree) rest
  grown seen [] low from up parents = let same = ap size (append-nil seen) in omega (arith, same)
  grown seen (vid ∷ rest) low from up parents =
      let above : low < vid = up.0
      in let lower : tree.parent vid ≤ vid - 1 = (sound d have).lower vid
      in let here : Has seen (tree.parent vid) =
      elim (has_append seen (vid ∷ rest) (tree.parent vid) parents.0) [
        | inl before ↦ before
        | inr behind ↦ absurd (later_on vid rest lower above up.2 behind)
      ]
      in let same : (seen ++ vid ∷ []) ++ rest ≡ seen ++ vid ∷ rest = append_assoc seen (vid ∷ []) rest
      in omega (
        arith,
        ap size same,
        add_size seen vid here (omega (arith, above, from)) up.1,
        grown (seen ++ vid ∷ []) rest vid (omega (arith, above)) up.2 (subst (λ l. HasParents tree l rest) (sym same) parents.1),
      )
    where
      later_on : (vid : ℕ) (rest : List ℕ) → tree.parent vid ≤ vid - 1 → low < vid → Ascends vid count rest → Has (vid ∷ rest) (tree.parent vid) → ⊥
      later_on vid rest lower above up (inl same) = omega (arith, same, lower, above)
      later_on vid rest lower above up (inr later) = omega (arith, lower, not_below vid count rest (tree.parent vid) up later)

  -- R counts at least the records of a part's versions
  pub part_size : (part : List ℕ) → IsPart tree count part → size part ≤ records tree part
  part_size [] is = omega arith
  part_size (top ∷ rest) is =
      let up = is.ascends
      in omega (arith, grown (top ∷ []) rest top (omega (arith, up.0)) up.2 is.connected, top_size top (omega (arith, up.0)) up.1)
