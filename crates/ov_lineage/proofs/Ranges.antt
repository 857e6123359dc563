-- Parents are before their version, and so are all that are above it.
use Rattle.std.proofs.Common.{◌≡◌, ◌≤◌, ◌<◌, ◌↔◌, ℕ, zero, suc, ◌+◌, ◌-◌, true, List, [], ◌∷◌, length, map, get_or, refl, sym, ◌∙◌, ap, subst, inl, inr, arith}
use Rattle.std.specs.Prelude.{◌||◌, ◌==◌}
use Rattle.std.specs.List.{list_any}
use Rattle.std.proofs.lemmas.Bool.{eq-eqb, eqb-true}
use Rattle.std.proofs.lemmas.List.{get_or_read}
use Rattle.ov_graph.specs.Versions as graph
use Rattle.ov_graph.specs.Versions.IsAncestor.{near, far}
use Rattle.ov_model.specs.Book.{Version}
use Rattle.ov_model.specs.Descent.{AreBefore, AreEarlier, IsDescent, IsAncestor, IsRelated}
use Rattle.ov_model.specs.Lineages.{parents_at, is_parent}
use Rattle.ov_model.specs.Lists.{IsIn}
use Rattle.ov_model.specs.declared.query.LineageKind.{LineageKind}
use Rattle.ov_model.specs.declared.query.LineageKind.TheVariants.{Parents, Ancestors, Descendants}
use Rattle.ov_model.proofs.Descents.{any-passing, passing-any}
use Rattle.ov_lineage.specs.Bare.{AreWithin, bare_edge, bare_graph}
use Rattle.ov_lineage.specs.Related.{versions_with}

-- ---- places

pub at-with : (parents : List (List ℕ)) (place : ℕ) → get_or (map (λ v. v.parents) (versions_with parents)) place [] ≡ get_or parents place []
at-with [] place = refl
at-with (ps ∷ parents) zero = refl
at-with (ps ∷ parents) (suc place) = at-with parents place

pub before-at : (n : ℕ) (parents : List (List ℕ)) (place : ℕ) → AreEarlier n (versions_with parents) → place < length parents → AreBefore (n + place) (get_or parents place [])
before-at n [] place are lt = absurd (omega arith)
before-at n (ps ∷ parents) zero are lt = let e : n + 0 ≡ n = omega arith in rw e are.0
before-at n (ps ∷ parents) (suc place) are lt =
    let e : n + suc place ≡ n + 1 + place = omega arith in rw e (before-at (n + 1) parents place are.1 (omega arith))

pub below-at : (n : ℕ) (ps : List ℕ) (k : ℕ) → AreBefore n ps → k < length ps → (1 ≤ get_or ps k 0) × (get_or ps k 0 < n)
below-at n [] k are lt = absurd (omega arith)
below-at n (p ∷ ps) zero are lt = are.0
below-at n (p ∷ ps) (suc k) are lt = below-at n ps k are.1 (omega arith)

below-in : (n : ℕ) (ps : List ℕ) (p : ℕ) → AreBefore n ps → IsIn ps p → (1 ≤ p) × (p < n)
below-in n [] p are is = absurd is
below-in n (q ∷ ps) p are (inl here) = (subst (λ (k : ℕ). 1 ≤ k) (sym here) are.0.0, subst (λ (k : ℕ). k < n) (sym here) are.0.1)
below-in n (q ∷ ps) p are (inr later) = below-in n ps p are.1 later

within-at : (parents : List (List ℕ)) (place p : ℕ) → IsIn (get_or parents place []) p → place < length parents
within-at [] place p is = absurd is
within-at (ps ∷ parents) zero p is = omega arith
within-at (ps ∷ parents) (suc place) p is = let lt = within-at parents place p is in omega arith

-- ---- ranges

module _ (parents : List (List ℕ)) (are : AreEarlier 1 (versions_with parents)) where
  pub parent-range : (vid child : ℕ) → IsIn (parents_at (versions_with parents) child) vid → (1 ≤ vid) × (vid < child) × (child ≤ length parents)
  parent-range vid child is =
      let named : IsIn (get_or parents (child - 1) []) vid = subst (λ ps. IsIn ps vid) (at-with parents (child - 1)) is in
      let lt = within-at parents (child - 1) vid named in
      let low = below-in (1 + (child - 1)) (get_or parents (child - 1) []) vid (before-at 1 parents (child - 1) are lt) named in
      let one = low.0 in
      let high = low.1 in
      (one, below one high, there lt)
    where
      below : 1 ≤ vid → vid < 1 + (child - 1) → vid < child
      below one high = omega arith

      there : child - 1 < length parents → child ≤ length parents
      there lt = omega arith

  descent-range : (path : List ℕ) (vid child : ℕ) → IsDescent (versions_with parents) vid path child → (1 ≤ vid) × (vid < child) × (child ≤ length parents)
  descent-range [] vid child is = parent-range vid child is
  descent-range (mid ∷ path) vid child is =
      let one = parent-range mid child is.0 in
      let more = descent-range path vid mid is.1 in
      (more.0, (let a = one.1 in let b = more.1 in omega arith), one.2)

  pub related-range : (kind : LineageKind) (vid other : ℕ) → vid ≤ length parents → IsRelated (versions_with parents) kind vid other → (1 ≤ other) × (other ≤ length parents)
  related-range Parents vid other there is = let r = parent-range other vid is in (r.0, (let a = r.1 in let b = r.2 in omega arith))
  related-range Ancestors vid other there is = let r = descent-range is.0 other vid is.1 in (r.0, (let a = r.1 in let b = r.2 in omega arith))
  related-range Descendants vid other there is = let r = descent-range is.0 vid other is.1 in ((let a = r.0 in let b = r.1 in omega arith), r.2)

-- ---- ancestors in the graph

names-bare : (ps : List ℕ) (vid : ℕ) → graph.names (map bare_edge ps) vid ≡ list_any (λ p. p == vid) ps
names-bare [] vid = refl
names-bare (p ∷ ps) vid = ap (λ b. p == vid || b) (names-bare ps vid)

names-at : (parents : List (List ℕ)) (place vid : ℕ) → graph.names (get_or (bare_graph parents) place graph.no_version).parents vid ≡ list_any (λ p. p == vid) (get_or (map (λ v. v.parents) (versions_with parents)) place [])
names-at [] place vid = refl
names-at (ps ∷ parents) zero vid = names-bare ps vid
names-at (ps ∷ parents) (suc place) vid = names-at parents place vid

parent-in : (versions : List Version) (vid child : ℕ) → is_parent versions vid child ≡ true → IsIn (parents_at versions child) vid
parent-in versions vid child e =
    let one = any-passing (λ p. p == vid) (parents_at versions child) e in subst (λ (p : ℕ). IsIn (parents_at versions child) p) (eqb-true one.0 vid one.2) one.1

in-parent : (versions : List Version) (vid child : ℕ) → IsIn (parents_at versions child) vid → is_parent versions vid child ≡ true
in-parent versions vid child is = passing-any (λ p. p == vid) (parents_at versions child) vid is (eq-eqb vid vid refl)

module _ (parents : List (List ℕ)) where
  leads : {vid child : ℕ} → graph.IsAncestor (bare_graph parents) vid child → IsAncestor (versions_with parents) vid child
  leads {vid} {child} (near e) = ([], parent-in (versions_with parents) vid child (sym (names-at parents (child - 1) vid) ∙ e))
  leads {vid} {child} (far parent e above) =
      let more = leads above in
      (parent ∷ more.0, (parent-in (versions_with parents) parent child (sym (names-at parents (child - 1) parent) ∙ e), more.1))

  climbs : (path : List ℕ) (vid child : ℕ) → IsDescent (versions_with parents) vid path child → graph.IsAncestor (bare_graph parents) vid child
  climbs [] vid child is = near (names-at parents (child - 1) vid ∙ in-parent (versions_with parents) vid child is)
  climbs (mid ∷ path) vid child is =
      far mid (names-at parents (child - 1) mid ∙ in-parent (versions_with parents) mid child is.0) (climbs path vid mid is.1)

  pub in-graph : (vid child : ℕ) → graph.IsAncestor (bare_graph parents) vid child ↔ IsAncestor (versions_with parents) vid child
  in-graph vid child = (λ above. leads above, λ some. climbs some.0 vid child some.1)

-- ---- a version's own parents

pub own-within : (parents : List (List ℕ)) (vid : ℕ) (ps : List ℕ) → AreEarlier 1 (versions_with parents) → 1 ≤ vid → vid ≤ length parents → ps ≡ get_or parents (vid - 1) ps
    → AreWithin (length parents) ps
own-within parents vid ps are one there is k lt =
    let own : ps ≡ get_or parents (vid - 1) [] = get_or_read parents (vid - 1) ps (omega arith) is [] in
    let low = below-at (1 + (vid - 1)) ps k (subst (λ qs. AreBefore (1 + (vid - 1)) qs) (sym own) (before-at 1 parents (vid - 1) are (omega arith))) lt in
    (low.0, (let high = low.1 in omega arith))

pub own-parents : (parents : List (List ℕ)) (vid : ℕ) (ps : List ℕ) → 1 ≤ vid → vid ≤ length parents → ps ≡ get_or parents (vid - 1) ps → ps ≡ parents_at (versions_with parents) vid
own-parents parents vid ps one there is = get_or_read parents (vid - 1) ps (omega arith) is [] ∙ sym (at-with parents (vid - 1))
