-- Numbers of datasets: each is that of one dataset.
use Rattle.std.proofs.Common.{◌≡◌, ◌≤◌, ℕ, Bool, true, false, ◌==◌, List, [], ◌∷◌, refl, sym, ◌∙◌, subst, inl, inr, arith}
use Rattle.std.specs.Prelude.{if◌then◌else◌, Option, Some}
use Rattle.ov_value.specs.declared.column.Column.{Column}
use Rattle.ov_model.specs.Book.{Row}
use Rattle.ov_model.specs.Lists.{IsIn}
use Rattle.ov_model.specs.Moves.{committed, wide}
use Rattle.ov_model.specs.World.{Dataset, World, first_set, set_named, named}
use Rattle.ov_model.proofs.Counting.{one_if, one_same}
use Rattle.law_partitions.specs.Countdown.{number_times}

-- a change keeps numbers
wide_number : (added : List Column) (d : Dataset) → (wide added d).cvd.number ≡ d.cvd.number
wide_number [] d = refl
wide_number (column ∷ added) d = refl

pub committed_number : (parents message : List ℕ) (added : List Column) (rows : List Row) (d : Dataset) → (committed parents message added rows d).cvd.number ≡ d.cvd.number
committed_number parents message added rows d = wide_number added d

-- ---- one dataset of a number

pub some_number : (sets : List Dataset) (d : Dataset) → IsIn sets d → 1 ≤ number_times sets d.cvd.number
some_number [] d is = absurd is
some_number (e ∷ sets) d (inl same) = omega (arith, one_same e.cvd.number d.cvd.number (λ i. (sym same i).cvd.number))
some_number (e ∷ sets) d (inr later) = omega (arith, some_number sets d later)

pub one_dataset : (sets : List Dataset) (d e : Dataset) → number_times sets d.cvd.number ≤ 1 → IsIn sets d → IsIn sets e → e.cvd.number ≡ d.cvd.number → e ≡ d
one_dataset [] d e once is_d is_e same = absurd is_d
one_dataset (x ∷ sets) d e once (inl here) (inl also) same = also ∙ sym here
one_dataset (x ∷ sets) d e once (inl here) (inr later) same =
    let one : one_if (x.cvd.number == d.cvd.number) ≡ 1 = one_same x.cvd.number d.cvd.number (λ i. (sym here i).cvd.number)
    in let more : 1 ≤ number_times sets d.cvd.number = subst (λ n. 1 ≤ number_times sets n) same (some_number sets e later)
    in absurd (omega (arith, once, one, more))
one_dataset (x ∷ sets) d e once (inr later) (inl here) same =
    let one : one_if (x.cvd.number == d.cvd.number) ≡ 1 = one_same x.cvd.number d.cvd.number ((λ i. (sym here i).cvd.number) ∙ same)
    in absurd (omega (arith, once, one, some_number sets d later))
one_dataset (x ∷ sets) d e once (inr later) (inr too) same =
    one_dataset sets d e (omega (arith, once)) later too same

some_same : (a b : Dataset) → Some a ≡ Some b → a ≡ b
some_same a b e = cc

found_if : (t : Bool) (x d : Dataset) (sets : List Dataset) (rest : Option Dataset) → (rest ≡ Some d → IsIn sets d) → (if t then Some x else rest) ≡ Some d → IsIn (x ∷ sets) d
found_if true x d sets rest later e = inl (some_same d x (sym e))
found_if false x d sets rest later e = inr (later e)

found_in : (test : Dataset → Bool) (sets : List Dataset) (d : Dataset) → first_set test sets ≡ Some d → IsIn sets d
found_in test [] d e = cc
found_in test (x ∷ sets) d e = found_if (test x) x d sets (first_set test sets) (found_in test sets d) e

pub named_in : (w : World) (name : List ℕ) (d : Dataset) → set_named w name ≡ Some d → IsIn w.sets d
named_in w name d e = found_in (named name) w.sets d e
