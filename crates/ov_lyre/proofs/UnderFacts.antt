-- What lies under a version.
use Rattle.std.proofs.Common.{◌≡◌, ℕ, zero, suc, ◌-◌, ◌<◌, ◌≤◌, Bool, true, false, ◌||◌, eqb, refl, sym, ◌∙◌, ap, arith}
use Rattle.std.proofs.lemmas.Bool.{eq-eqb, ne_eqb}
use Rattle.ov_graph.specs.Trees.{VersionTree}
use Rattle.ov_graph.specs.Splits.{is_under_in, is_under}

-- a tree in which parents have lower vids and weights are within the versions' records
pub record IsSoundTree (tree : VersionTree) : Type 0 where
  pub lower : (vid : ℕ) → tree.parent vid ≤ vid - 1
  pub within : (vid : ℕ) → tree.weight vid ≤ tree.records vid

or_same : (b : Bool) → (b || b) ≡ b
or_same true = refl
or_same false = refl

module _ (tree : VersionTree) (sound : IsSoundTree tree) where
  root : (steps vid : ℕ) → is_under_in steps tree vid 0 ≡ eqb 0 vid
  root zero vid = refl
  root (suc steps) vid =
      let low = sound.lower 0 in
      let none : tree.parent 0 ≡ 0 = omega arith in
      rw none (rw (root steps vid) (or_same (eqb 0 vid)))

  -- more steps than the vid change nothing
  enough : (steps others vid version : ℕ) → version ≤ steps → version ≤ others → is_under_in steps tree vid version ≡ is_under_in others tree vid version
  enough steps others vid zero le le' = root steps vid ∙ sym (root others vid)
  enough zero others vid (suc version) le le' = absurd (omega arith)
  enough (suc steps) zero vid (suc version) le le' = absurd (omega arith)
  enough (suc steps) (suc others) vid (suc version) le le' =
      let low = sound.lower (suc version) in
      ap (λ (b : Bool). eqb (suc version) vid || b) (enough steps others vid (tree.parent (suc version)) (omega arith) (omega arith))

  pub under-self : (vid : ℕ) → is_under tree vid vid ≡ true
  unfolding is_under
  under-self zero = root 0 0 ∙ eq-eqb 0 0 refl
  under-self (suc vid) = rw (eq-eqb (suc vid) (suc vid) refl) refl

  pub under-parent : (vid version : ℕ) → 0 < version → (version ≡ vid → ⊥) → is_under tree vid version ≡ is_under tree vid (tree.parent version)
  unfolding is_under
  under-parent vid zero pos other = absurd (omega arith)
  under-parent vid (suc version) pos other =
      let low = sound.lower (suc version) in
      rw (ne_eqb (suc version) vid other) (enough version (tree.parent (suc version)) vid (tree.parent (suc version)) (omega arith) (omega arith))

  under_in-smaller : (steps vid version : ℕ) → version < vid → is_under_in steps tree vid version ≡ false
  under_in-smaller zero vid version lt = ne_eqb version vid (λ e. absurd (omega arith))
  under_in-smaller (suc steps) vid version lt =
      let low = sound.lower version in
      rw (ne_eqb version vid (λ e. absurd (omega arith))) (under_in-smaller steps vid (tree.parent version) (omega arith))

  pub under-smaller : (vid version : ℕ) → version < vid → is_under tree vid version ≡ false
  unfolding is_under
  under-smaller vid version lt = under_in-smaller version vid version lt
