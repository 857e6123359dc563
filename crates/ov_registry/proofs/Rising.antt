-- Rows in key order rise where no key stands twice among them.
use Rattle.std.proofs.Common.{◌≡◌, ◌<◌, ℕ, zero, suc, ◌+◌, Bool, true, false, List, [], ◌∷◌, length, get_or, refl, ◌∙◌, subst, arith}
use Rattle.std.specs.Prelude.{◌||◌, if◌then◌else◌, Option, Some, None}
use Rattle.std.specs.Ordering.{is_eq, is_lt, ordering_reverse}
use Rattle.std.specs.declared.cmp.Ordering.{Ordering}
use Rattle.std.specs.declared.cmp.Ordering.TheVariants.{Less, Equal, Greater}
use Rattle.ov_fetch.specs.Scans.{InKeyOrder}
use Rattle.ov_value.specs.Order.{key_cmp_total}
use Rattle.ov_value.specs.Rows.{key_cmp}
use Rattle.ov_value.specs.Shapes.{Shape}
use Rattle.ov_model.specs.Act.{repeated_key}
use Rattle.ov_model.specs.Book.{Row}
use Rattle.ov_model.specs.Lists.{Rises}
use Rattle.ov_model.specs.Merge.{has_key}
use Rattle.ov_model.specs.declared.refusal.Refusal.{Refusal}
use Rattle.ov_model.specs.declared.refusal.Refusal.TheVariants as no
use Rattle.ov_rows.proofs.Standing.{rise_of}

left_none : (a b : Bool) → (a || b) ≡ false → a ≡ false
left_none true b e = cc
left_none false b e = refl

not_refused : (t : Bool) (refusal : Refusal) (rest : Option Refusal) → (if t then Some refusal else rest) ≡ None → (t ≡ false) × (rest ≡ None)
not_refused true refusal rest e = cc
not_refused false refusal rest e = (refl, e)

turned : (o : Ordering) → is_lt o ≡ false → is_eq o ≡ false → ordering_reverse o ≡ Less
turned Less e f = cc
turned Equal e f = cc
turned Greater e f = refl

module _ (schema : Shape) where
  -- the second of two rows that follow one another hasn't the key of the first one
  apart_from : (before rows : List Row) (nth : ℕ) (k : ℕ) (d : Row) → repeated_key schema before nth rows ≡ None → k + 1 < length rows
      → is_eq (key_cmp schema (get_or rows (k + 1) d) (get_or rows k d)) ≡ false
  apart_from before [] nth k d e low = absurd (omega (arith, low))
  apart_from before (x ∷ []) nth k d e low = absurd (omega (arith, low))
  apart_from before (x ∷ y ∷ rows) nth zero d e low =
      let one = not_refused (has_key schema before x) (no.DuplicateKey nth) (repeated_key schema (x ∷ before) (nth + 1) (y ∷ rows)) e
      in let two = not_refused (has_key schema (x ∷ before) y) (no.DuplicateKey (nth + 1)) (repeated_key schema (y ∷ x ∷ before) (nth + 1 + 1) rows) one.1
      in left_none (is_eq (key_cmp schema y x)) (has_key schema before y) two.0
  apart_from before (x ∷ y ∷ rows) nth (suc k) d e low =
      let one = not_refused (has_key schema before x) (no.DuplicateKey nth) (repeated_key schema (x ∷ before) (nth + 1) (y ∷ rows)) e
      in let next : suc (k + 1) ≡ suc k + 1 = omega arith
      in subst (λ i. is_eq (key_cmp schema (get_or (x ∷ y ∷ rows) i d) (get_or (y ∷ rows) k d)) ≡ false) next
      (apart_from (x ∷ before) (y ∷ rows) (nth + 1) k d one.1 (omega (arith, low)))

  pub sorted_rises : (rows : List Row) → InKeyOrder schema rows → repeated_key schema [] 1 rows ≡ None → Rises (key_cmp schema) rows
  sorted_rises rows ordered once =
      rise_of (key_cmp schema) (key_cmp_total schema) rows
      (λ k d low.
      (key_cmp_total schema).antisymm (get_or rows k d) (get_or rows (k + 1) d)
      ∙ turned (key_cmp schema (get_or rows (k + 1) d) (get_or rows k d)) (ordered k d (omega arith) (omega (arith, low))) (apart_from [] rows 1 k d once (omega (arith, low))))
