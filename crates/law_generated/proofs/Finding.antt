-- The dataset of a name, after an Init and after a Commit.
use Rattle.std.proofs.Common.{◌≡◌, ℕ, Bool, true, false, List, [], ◌∷◌, ◌++◌, refl, sym, ◌∙◌, ap, inl, inr}
use Rattle.std.specs.Prelude.{if◌then◌else◌, Some, None}
use Rattle.std.specs.Str.{bytes_eq}
use Rattle.std.proofs.lemmas.Bool.{cond-true, cond-false, cases_Bool}
use Rattle.std.proofs.lemmas.Slice.Eq.{bytes_eq-Decides}
use Rattle.ov_model.specs.Moves.{change, numbered}
use Rattle.ov_model.specs.World.{Dataset, first_set, named}

pub named_refl : (name : List ℕ) → bytes_eq name name ≡ true
named_refl name = (bytes_eq-Decides name name).1 refl

some_is : (x y : Dataset) → Some x ≡ Some y → x ≡ y
some_is x y e = ap (λ o. elim o as (λ _. Dataset) [ None ↦ x | Some z ↦ z ]) e

pub first_last : (q : Dataset → Bool) (sets : List Dataset) (d : Dataset) → first_set q sets ≡ None → q d ≡ true → first_set q (sets ++ d ∷ []) ≡ Some d
first_last q [] d none is = cond-true (q d) (Some d) None is
first_last q (x ∷ sets) d none is =
    elim (cases_Bool (q x)) [
      | inl here ↦ let clash : Some x ≡ None = sym (cond-true (q x) (Some x) (first_set q sets) here) ∙ none in absurd cc
      | inr other ↦
          cond-false (q x) (Some x) (first_set q (sets ++ d ∷ [])) other
          ∙ first_last q sets d (sym (cond-false (q x) (Some x) (first_set q sets) other) ∙ none) is
    ]

module _ (number : ℕ) (f : Dataset → Dataset) (name : List ℕ) (keeps : (x : Dataset) → (f x).cvd.name ≡ x.cvd.name) where
  abbrev g : Dataset → Dataset
  g x = if numbered number x then f x else x

  name_kept : (x : Dataset) → (g x).cvd.name ≡ x.cvd.name
  name_kept x = by (numbered number x)
    where
      by : (b : Bool) → (if b then f x else x).cvd.name ≡ x.cvd.name
      by true = keeps x
      by false = refl

  pub changed_named : (sets : List Dataset) (d : Dataset) → first_set (named name) sets ≡ Some d → numbered number d ≡ true
      → first_set (named name) (change number f sets) ≡ Some (f d)
  changed_named [] d e is = absurd cc
  changed_named (x ∷ sets) d e is =
      let same : named name (g x) ≡ named name x = ap (λ n. bytes_eq n name) (name_kept x)
      in elim (cases_Bool (named name x)) [
        | inl here ↦
            let one : x ≡ d = some_is x d (sym (cond-true (named name x) (Some x) (first_set (named name) sets) here) ∙ e)
            in cond-true (named name (g x)) (Some (g x)) (first_set (named name) (change number f sets)) (same ∙ here)
            ∙ ap Some (cond-true (numbered number x) (f x) x (ap (numbered number) one ∙ is) ∙ ap f one)
        | inr other ↦
            cond-false (named name (g x)) (Some (g x)) (first_set (named name) (change number f sets)) (same ∙ other)
            ∙ changed_named sets d (sym (cond-false (named name x) (Some x) (first_set (named name) sets) other) ∙ e) is
      ]
