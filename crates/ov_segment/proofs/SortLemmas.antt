-- Places in another order are their records in that order.
use Rattle.std.proofs.Common.{◌≡◌, ◌<◌, ℕ, Bool, true, false, cond, List, [], ◌∷◌, length, map, refl, sym, ◌∙◌, ap, subst, arith}
use Rattle.std.specs.List.{filter}
use Rattle.std.specs.List.Sorted.{IsPermutation, IsNonDecreasingBy, IsStableByKey, ties}
use Rattle.std.specs.Ordering.{nat_cmp, is_lt}
use Rattle.std.proofs.lemmas.List.{get_or-map, length-map}
use Rattle.std.proofs.lemmas.List.Sorted.{IsPermutation-map, All-permutation}
use Rattle.ov_value.specs.declared.column.Column.{Column}
use Rattle.ov_segment.specs.declared.numbered.Record.{Record}
use Rattle.ov_segment.specs.declared.place.Place.{Place}
use Rattle.ov_segment.specs.Tables.{record_at, records_at, IsAt, AreAt}

pub are_sorted : (columns : List Column) (bytes : List ℕ) (places sorted : List Place) → AreAt columns bytes places → IsPermutation places sorted → AreAt columns bytes sorted
are_sorted columns bytes places sorted h moved = record { few = h.few; at = All-permutation (IsAt columns bytes) places sorted moved h.at }

pub records_permuted : (columns : List Column) (bytes : List ℕ) (places sorted : List Place) → IsPermutation places sorted → IsPermutation (records_at columns bytes places) (records_at columns bytes sorted)
records_permuted columns bytes places sorted moved = IsPermutation-map (record_at columns bytes) places sorted moved

-- one of the places, for what is said at every default
pub records_sorted : (columns : List Column) (bytes : List ℕ) (places : List Place) → IsNonDecreasingBy (λ (p : Place). p.rid) places → IsNonDecreasingBy (λ (r : Record). r.rid) (records_at columns bytes places)
records_sorted columns bytes places up i j d le lt =
    let none : Place = record { start = 0; end = 0; rid = 0; marked = false } in
    let second : j < length places = subst (λ n. j < n) (length-map places (record_at columns bytes)) lt in
    let first : i < length places = omega arith in
    rw (get_or-map (record_at columns bytes) places i none d first, get_or-map (record_at columns bytes) places j none d second) (up i j none le second)

filter-map : {X Y : Type 0} (f : X → Y) (p : Y → Bool) (xs : List X) → filter p (map f xs) ≡ map f (filter (λ x. p (f x)) xs)
filter-map f p [] = refl
filter-map {X} f p (x ∷ xs) =
    elim (p (f x)) as (λ b. cond b (f x ∷ filter p (map f xs)) (filter p (map f xs)) ≡ map f (cond b (x ∷ filter (λ y. p (f y)) xs) (filter (λ y. p (f y)) xs))) [
      | true ↦ ap (λ l. f x ∷ l) (filter-map f p xs)
      | false ↦ filter-map f p xs
    ]

pub records_stable : (columns : List Column) (bytes : List ℕ) (places sorted : List Place) → IsStableByKey (λ (p : Place). p.rid) nat_cmp places sorted
    → IsStableByKey (λ (r : Record). r.rid) nat_cmp (records_at columns bytes places) (records_at columns bytes sorted)
records_stable columns bytes places sorted stable r =
    let one : Place = record { start = 0; end = 0; rid = r.rid; marked = false } in
    filter-map (record_at columns bytes) (ties (λ (x y : Record). is_lt (nat_cmp x.rid y.rid)) r) sorted
    ∙ ap (map (record_at columns bytes)) (stable one)
    ∙ sym (filter-map (record_at columns bytes) (ties (λ (x y : Record). is_lt (nat_cmp x.rid y.rid)) r) places)
