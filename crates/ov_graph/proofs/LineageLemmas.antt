-- Marks at the ancestors and at the descendants of a version.
use Rattle.std.proofs.Common.{◌≡◌, ◌++◌, drop, filter, ℕ, zero, suc, ◌+◌, ◌-◌, ◌<◌, ◌≤◌, Bool, true, false, ◌||◌, ◌⊎◌, ◌↔◌, eqb, List, [], ◌∷◌, length, take, set, get_or, refl, sym, ◌∙◌, ap, subst, inl, inr, arith, length-set, get_or-set_same, get_or-set_other}
use Rattle.std.specs.List.{list_any}
use Rattle.std.proofs.lemmas.Bool.{cond-true, cond-false, cases_lt, cases_eq, cases_order, eqb-true, eq-eqb, or_cases, or_left, or_right}
use Rattle.std.proofs.lemmas.List.{drop_all, take_all, append-nil, get_or_past, get_or-map, length-map, length-take-le}
use Rattle.ov_graph.specs.declared.graph.Entry.{Entry}
use Rattle.ov_graph.specs.Entries.{version_of, versions_of, AreBelow, AreMarks}
use Rattle.ov_graph.specs.Versions.{Version, no_version, version_at, names, is_parent, IsGraph, IsAncestor}
use Rattle.std.proofs.lemmas.List.Elements.{filter-append}
use Rattle.ov_graph.specs.Trees.{vids}
use Rattle.ov_graph.proofs.TreeLemmas.{range-more}
use Rattle.ov_graph.specs.Versions.IsAncestor.{near, far}

-- the place at which a parent is named
pub record IsNamed (parents : List (ℕ × ℕ)) (vid : ℕ) : Type 0 where
  pub place : ℕ
  pub within : place < length parents
  pub is : (get_or parents place (0, 0)).0 ≡ vid

pub names-at : (parents : List (ℕ × ℕ)) (vid : ℕ) → names parents vid ≡ true → IsNamed parents vid
names-at [] vid e = absurd cc
names-at (edge ∷ parents) vid e =
    elim (or_cases (eqb edge.0 vid) (names parents vid) e) [
      | inl here ↦ record { place = 0; within = omega arith; is = eqb-true edge.0 vid here }
      | inr there ↦
          let found = names-at parents vid there in
          record { place = suc found.place; within = let h = found.within in omega arith; is = found.is }
    ]

-- a parent is an earlier version
pub record IsBefore (versions : List Version) (vid child : ℕ) : Type 0 where
  pub from_one : 1 ≤ vid
  pub below : vid < child
  pub is_there : child ≤ length versions

module _ (versions : List Version) (graph : IsGraph versions) where
  pub parent-before : (vid child : ℕ) → is_parent versions vid child ≡ true → IsBefore versions vid child
  parent-before vid child e =
      elim (cases_lt (child - 1) (length versions)) [
        | inl lt ↦
            let found = names-at (version_at versions child).parents vid e in
            let edge = (graph.each (child - 1) lt).edges found.place found.within in
            let one = edge.from_one in
            let there = edge.is_there in
            let is = found.is in
            let long : length (take (child - 1) versions) ≡ child - 1 = length-take-le (child - 1) versions (omega arith) in
            record { from_one = omega arith; below = omega arith; is_there = omega arith }
        | inr past ↦
            let none : version_at versions child ≡ no_version = get_or_past versions (child - 1) no_version past in
            absurd (let h = rw none at e in cc)
      ]

  pub ancestor-before : {vid child : ℕ} → IsAncestor versions vid child → IsBefore versions vid child
  ancestor-before {vid} {child} (near e) = parent-before vid child e
  ancestor-before {vid} {child} (far parent e above) =
      let one = parent-before parent child e in
      let rest = ancestor-before above in
      record { from_one = rest.from_one; below = let a = one.below in let b = rest.below in omega arith; is_there = one.is_there }

  pub parents-below : (k : ℕ) → k < length versions → AreBelow (get_or versions k no_version).parents k
  parents-below k lt = λ place within.
      let edge = (graph.each k lt).edges place within in
      let there = edge.is_there in
      let long : length (take k versions) ≡ k = length-take-le k versions (omega arith) in
      (edge.from_one, omega arith)

-- the parents of a version, as its entry has them
pub parents-at : (entries : List Entry) (k : ℕ) (entry : Entry) (parents : List (ℕ × ℕ)) → k < length entries → parents ≡ (get_or entries k entry).parents.items → (version_at (versions_of entries) (k + 1)).parents ≡ parents
parents-at entries k entry parents lt read =
    let s : k + 1 - 1 ≡ k = omega arith in
    rw s (ap (λ (v : Version). v.parents) (get_or-map version_of entries k entry no_version lt) ∙ sym read)

pub parents-below-at : (entries : List Entry) (k count : ℕ) (parents : List (ℕ × ℕ)) → IsGraph (versions_of entries) → k < length entries → k ≤ count → (version_at (versions_of entries) (k + 1)).parents ≡ parents → AreBelow parents count
parents-below-at entries k count parents graph lt le is = λ place within.
    let long = length-map entries version_of in
    let s : k + 1 - 1 ≡ k = omega arith in
    let below = parents-below (versions_of entries) graph k (omega arith) in
    let here = (let P : List (ℕ × ℕ) → Type 0 = λ ps. AreBelow ps k in subst P (rw s at is) below) place within in
    (here.0, omega arith)

pub list_any-at : {X : Type 0} (p : X → Bool) (xs : List X) (k : ℕ) (d : X) → k < length xs → p (get_or xs k d) ≡ true → list_any p xs ≡ true
list_any-at p [] k d lt e = absurd (omega arith)
list_any-at p (x ∷ xs) zero d lt e = or_left (p x) (list_any p xs) e
list_any-at p (x ∷ xs) (suc k) d lt e = or_right (p x) (list_any p xs) (list_any-at p xs k d (omega arith) e)

pub record SomeAt {X : Type 0} (p : X → Bool) (xs : List X) (d : X) : Type 0 where
  pub place : ℕ
  pub within : place < length xs
  pub is : p (get_or xs place d) ≡ true

pub some-at : {X : Type 0} (p : X → Bool) (xs : List X) (d : X) → list_any p xs ≡ true → SomeAt p xs d
some-at p [] d e = absurd cc
some-at p (x ∷ xs) d e =
    elim (or_cases (p x) (list_any p xs) e) [
      | inl here ↦ record { place = 0; within = omega arith; is = here }
      | inr there ↦
          let found = some-at p xs d there in
          record { place = suc found.place; within = let h = found.within in omega arith; is = found.is }
    ]

-- a further ancestor, by its nearest descendant
pub ancestor-more : (versions : List Version) {vid child : ℕ} (above : ℕ) → is_parent versions above vid ≡ true → IsAncestor versions vid child → IsAncestor versions above child
ancestor-more versions {vid} {child} above e (near here) = far vid here (near e)
ancestor-more versions {vid} {child} above e (far parent here rest) = far parent here (ancestor-more versions above e rest)

abbrev pub is_marked : List Bool → ℕ → Bool
is_marked marks vid = get_or marks (vid - 1) false

-- Up from a version, all of whose marks at vids above at have been passed on.
pub record GoesUp (versions : List Version) (vid at : ℕ) (marks : List Bool) : Type 0 where
  pub long : length marks ≡ length versions
  pub own : is_marked marks vid ≡ true
  pub only : (other : ℕ) → 1 ≤ other → is_marked marks other ≡ true → (other ≡ vid) ⊎ IsAncestor versions other vid
  pub passed : (child : ℕ) → at < child → is_marked marks child ≡ true → (other : ℕ) → is_parent versions other child ≡ true → is_marked marks other ≡ true

-- what stands at a vid, from what stands at each index
pub by_vid : (f g : List Bool) (h : ℕ → Bool) → ((k : ℕ) → get_or g k false ≡ (get_or f k false || h (k + 1))) → (vid : ℕ) → 1 ≤ vid → is_marked g vid ≡ (is_marked f vid || h vid)
by_vid f g h all vid one = let e : vid - 1 + 1 ≡ vid = omega arith in let here = all (vid - 1) in rw e at here

module _ (versions : List Version) (graph : IsGraph versions) (vid at : ℕ) (f g : List Bool) where
  pub up-pass : (parents : List (ℕ × ℕ)) → (version_at versions (at + 1)).parents ≡ parents → GoesUp versions vid (at + 1) f → length g ≡ length f → is_marked f (at + 1) ≡ true → ((k : ℕ) → get_or g k false ≡ (get_or f k false || names parents (k + 1))) → 1 ≤ vid → GoesUp versions vid at g
  up-pass parents is_parents up long marked by_parents one = let all : (k : ℕ) → get_or g k false ≡ (get_or f k false || names (version_at versions (at + 1)).parents (k + 1)) = (let P : List (ℕ × ℕ) → Type 0 = λ ps. (k : ℕ) → get_or g k false ≡ (get_or f k false || names ps (k + 1)) in subst P (sym is_parents) by_parents) in record {
    long = long ∙ up.long;
    own = by_vid f g (names (version_at versions (at + 1)).parents) all vid one ∙ or_left (is_marked f vid) (is_parent versions vid (at + 1)) up.own;
    only = λ other from_one e.
        elim (or_cases (is_marked f other) (is_parent versions other (at + 1)) (sym (by_vid f g (names (version_at versions (at + 1)).parents) all other from_one) ∙ e)) [
          | inl before ↦ up.only other from_one before
          | inr parent ↦ elim (up.only (at + 1) (omega arith) marked) [
            | inl is ↦ inr (near (let h : is_parent versions other (at + 1) ≡ true = parent in rw is at h))
            | inr above ↦ inr (ancestor-more versions other parent above)
          ]
        ];
    passed = λ child lt e other parent.
        let before = parent-before versions graph other child parent in
        let from_one = before.from_one in
        let child_one : 1 ≤ child = omega arith in
        let now = by_vid f g (names (version_at versions (at + 1)).parents) all other from_one in
        elim (cases_eq child (at + 1)) [
          | inl is ↦ now ∙ or_right (is_marked f other) (is_parent versions other (at + 1)) (rw is at parent)
          | inr other_child ↦
              elim (or_cases (is_marked f child) (is_parent versions child (at + 1)) (sym (by_vid f g (names (version_at versions (at + 1)).parents) all child child_one) ∙ e)) [
                | inl marked_child ↦ now ∙ or_left (is_marked f other) (is_parent versions other (at + 1)) (up.passed child (omega arith) marked_child other parent)
                | inr named ↦ let b = (parent-before versions graph child (at + 1) named).below in absurd (omega arith)
              ]
        ];
  }

pub up-skip : (versions : List Version) (vid at : ℕ) (f : List Bool) → GoesUp versions vid (at + 1) f → is_marked f (at + 1) ≡ false → GoesUp versions vid at f
up-skip versions vid at f up unmarked = record {
  long = up.long;
  own = up.own;
  only = up.only;
  passed = λ child lt e other parent.
      elim (cases_eq child (at + 1)) [
        | inl is ↦ absurd (let h = rw is at e in cc)
        | inr other_child ↦ up.passed child (omega arith) e other parent
      ];
}

reached : (versions : List Version) (vid : ℕ) (f : List Bool) → IsGraph versions → GoesUp versions vid 0 f → {other child : ℕ} → is_marked f child ≡ true → IsAncestor versions other child → is_marked f other ≡ true
reached versions vid f graph up {other} {child} marked (near e) = let b = parent-before versions graph other child e in up.passed child (let x = b.below in omega arith) marked other e
reached versions vid f graph up {other} {child} marked (far parent e above) =
    let b = parent-before versions graph parent child e in
    reached versions vid f graph up (up.passed child (let x = b.below in omega arith) marked parent e) above

-- the own mark is taken off
unmarked-own : (f : List Bool) (own k : ℕ) → own < length f → (k ≡ own → ⊥) → get_or (set f own false) k false ≡ get_or f k false
unmarked-own f own k lt ne = get_or-set_other f own k false false ne

pub up-all : (versions : List Version) (own : ℕ) (f : List Bool) → IsGraph versions → own < length versions → GoesUp versions (own + 1) 0 f → AreMarks (set f own false) (length versions) (λ other. IsAncestor versions other (own + 1))
up-all versions own f graph lt up = record {
  long = length-set f own false ∙ up.long;
  marked = λ k within.
      let long = up.long in
      let s : k + 1 - 1 ≡ k = omega arith in
      let back : is_marked f (k + 1) ≡ get_or f k false = rw s refl in
      elim (cases_eq k own) [
        | inl is ↦
            let off : get_or (set f own false) k false ≡ false = rw is (get_or-set_same f own false false (omega arith)) in
            (λ e. absurd cc, λ above. let b = (ancestor-before versions graph above).below in absurd (omega arith))
        | inr ne ↦
            let same = unmarked-own f own k (omega arith) ne in (
              λ e. elim (up.only (k + 1) (omega arith) (back ∙ sym same ∙ e)) [ inl is ↦ absurd (omega arith) | inr above ↦ above ],
              λ above. same ∙ sym back ∙ reached versions (own + 1) f graph up up.own above,
            )
      ];
}

-- Down from a version, to the versions below the index at.
pub record GoesDown (versions : List Version) (own at : ℕ) (marks : List Bool) : Type 0 where
  pub long : length marks ≡ length versions
  pub own_marked : get_or marks own false ≡ true
  pub before : (k : ℕ) → k < own → get_or marks k false ≡ false
  pub after : (k : ℕ) → own < k → k < at → (get_or marks k false ≡ true) ↔ IsAncestor versions (own + 1) (k + 1)

names-from : (parents : List (ℕ × ℕ)) (k : ℕ) → k < length parents → names parents (get_or parents k (0, 0)).0 ≡ true
names-from parents k lt = list_any-at (λ (edge : ℕ × ℕ). eqb edge.0 (get_or parents k (0, 0)).0) parents k (0, 0) lt (eq-eqb (get_or parents k (0, 0)).0 (get_or parents k (0, 0)).0 refl)

module _ (versions : List Version) (graph : IsGraph versions) (own at : ℕ) (f : List Bool) (down : GoesDown versions own at f) (from : own < at) where
  abbrev parents : List (ℕ × ℕ)
  parents = (version_at versions (at + 1)).parents

  found-down : list_any (λ edge. get_or f (edge.0 - 1) false) parents ≡ true → IsAncestor versions (own + 1) (at + 1)
  found-down e =
      let some = some-at (λ (edge : ℕ × ℕ). get_or f (edge.0 - 1) false) parents (0, 0) e in
      let parent = (get_or parents some.place (0, 0)).0 in
      let named : is_parent versions parent (at + 1) ≡ true = names-from parents some.place some.within in
      let b = parent-before versions graph parent (at + 1) named in
      let one = b.from_one in
      let below = b.below in
      let back : parent - 1 + 1 ≡ parent = omega arith in
      elim (cases_order (parent - 1) own) [
        | inl is ↦ near (let h : parent ≡ own + 1 = omega arith in rw h at named)
        | inr (inl lt) ↦ absurd (let h = down.before (parent - 1) lt in let k = some.is in cc)
        | inr (inr gt) ↦ far parent named (let h = (down.after (parent - 1) gt (omega arith)).0 some.is in rw back at h)
      ]

  -- a parent at some place, that is marked
  marked-parent : (parent : ℕ) → is_parent versions parent (at + 1) ≡ true → get_or f (parent - 1) false ≡ true → list_any (λ edge. get_or f (edge.0 - 1) false) parents ≡ true
  marked-parent parent named marked =
      let found = names-at parents parent named in
      let is = found.is in
      list_any-at (λ (edge : ℕ × ℕ). get_or f (edge.0 - 1) false) parents found.place (0, 0) found.within (rw is marked)

  -- an ancestor is a parent, or an ancestor of one
  found-up : {child : ℕ} → child ≡ at + 1 → IsAncestor versions (own + 1) child → list_any (λ edge. get_or f (edge.0 - 1) false) parents ≡ true
  found-up {child} is (near e) = marked-parent (own + 1) (rw is at e) (let s : own + 1 - 1 ≡ own = omega arith in rw s down.own_marked)
  found-up {child} is (far parent e above) =
      let b = ancestor-before versions graph above in
      let low = b.below in
      let high = (parent-before versions graph parent child e).below in
      let back : parent - 1 + 1 ≡ parent = omega arith in
      marked-parent parent (rw is at e) ((down.after (parent - 1) (omega arith) (omega arith)).1 (rw back above))

  pub down-more : (b : Bool) → b ≡ list_any (λ edge. get_or f (edge.0 - 1) false) parents → at < length versions → GoesDown versions own (at + 1) (set f at b)
  down-more b is lt = record {
    long = length-set f at b ∙ down.long;
    own_marked = (let ne : own ≡ at → ⊥ = λ e. absurd (omega arith) in get_or-set_other f at own b false ne) ∙ down.own_marked;
    before = λ k below. (let ne : k ≡ at → ⊥ = λ e. absurd (omega arith) in get_or-set_other f at k b false ne) ∙ down.before k below;
    after = λ k above within.
        let long = down.long in
        elim (cases_eq k at) [
          | inl here ↦
              let now : get_or (set f at b) k false ≡ b = rw here (get_or-set_same f at b false (omega arith)) in
              (λ e. rw here (found-down (sym is ∙ sym now ∙ e)), λ up. now ∙ is ∙ found-up (ap (λ n. n + 1) here) up)
          | inr ne ↦
              let now = get_or-set_other f at k b false ne in
              let so_far = down.after k above (omega arith) in
              (λ e. so_far.0 (sym now ∙ e), λ up. now ∙ so_far.1 up)
        ];
  }

pub down-all : (versions : List Version) (own at : ℕ) (f : List Bool) → IsGraph versions → own < length versions → length versions ≤ at → GoesDown versions own at f → AreMarks (set f own false) (length versions) (λ other. IsAncestor versions (own + 1) other)
down-all versions own at f graph lt past down = record {
  long = length-set f own false ∙ down.long;
  marked = λ k within.
      let long = down.long in
      elim (cases_order k own) [
        | inl is ↦
            let off : get_or (set f own false) k false ≡ false = rw is (get_or-set_same f own false false (omega arith)) in
            (λ e. absurd cc, λ below. let b = (ancestor-before versions graph below).below in absurd (omega arith))
        | inr (inl less) ↦
            let off : get_or (set f own false) k false ≡ false = unmarked-own f own k (omega arith) (λ e. absurd (omega arith)) ∙ down.before k less in
            (λ e. absurd cc, λ below. let b = (ancestor-before versions graph below).below in absurd (omega arith))
        | inr (inr more) ↦
            let same = unmarked-own f own k (omega arith) (λ e. absurd (omega arith)) in
            let is = down.after k more (omega arith) in
            (λ e. is.0 (sym same ∙ e), λ below. same ∙ is.1 below)
      ];
}

-- a slice of a whole vector, written
pub written : {X : Type 0} (len : ℕ) (xs ys : List X) → length ys ≡ length xs → length xs ≤ len → take len (ys ++ drop (length ys) xs) ≡ ys
written len xs ys long le = rw (drop_all (length ys) xs (omega arith), append-nil) (take_all len ys (omega arith))

-- the vids at marks, one more
pub record MarksMore (marks : List Bool) (count : ℕ) (found : List ℕ) : Type 0 where
  pub push : get_or marks count false ≡ true → found ++ (count + 1) ∷ [] ≡ filter (λ vid. get_or marks (vid - 1) false) (vids (count + 1))
  pub skip : get_or marks count false ≡ false → found ≡ filter (λ vid. get_or marks (vid - 1) false) (vids (count + 1))

pub marks-more : (marks : List Bool) (count : ℕ) (found : List ℕ) → found ≡ filter (λ vid. get_or marks (vid - 1) false) (vids count) → MarksMore marks count found
marks-more marks count found so_far =
    let p : ℕ → Bool = λ vid. get_or marks (vid - 1) false in
    let s : count + 1 ≡ suc count = omega arith in
    let t : 1 + count ≡ count + 1 = omega arith in
    let back : count + 1 - 1 ≡ count = omega arith in
    let more : vids (count + 1) ≡ vids count ++ (count + 1) ∷ [] = rw s (range-more 1 count ∙ rw t (rw s refl)) in
    let split : filter p (vids (count + 1)) ≡ filter p (vids count) ++ filter p ((count + 1) ∷ []) = ap (filter p) more ∙ filter-append p (vids count) ((count + 1) ∷ []) in
    let test : p (count + 1) ≡ get_or marks count false = rw back refl in
    record {
      push = λ e. ap (λ (xs : List ℕ). xs ++ (count + 1) ∷ []) so_far ∙ sym (split ∙ ap (λ (xs : List ℕ). filter p (vids count) ++ xs) (cond-true (p (count + 1)) ((count + 1) ∷ []) [] (test ∙ e)));
      skip = λ e. so_far ∙ sym (split ∙ ap (λ (xs : List ℕ). filter p (vids count) ++ xs) (cond-false (p (count + 1)) ((count + 1) ∷ []) [] (test ∙ e)) ∙ append-nil (filter p (vids count)));
    }
