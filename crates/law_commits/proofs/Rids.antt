-- The rids that a commit gives: different ones, where its parents agree and its rows rise.
use Rattle.std.proofs.Common.{◌≡◌, ◌≤◌, ◌<◌, ℕ, zero, suc, ◌+◌, Bool, true, false, ◌==◌, List, [], ◌∷◌, length, refl, sym, ◌∙◌, ap, inl, inr, arith}
use Rattle.std.specs.Prelude.{◌⊎◌, Option, Some, None, not, if◌then◌else◌}
use Rattle.std.specs.declared.cmp.Ordering.TheVariants.{Less}
use Rattle.std.proofs.lemmas.Bool.{eqb-true, false_from_ne_true}
use Rattle.std.proofs.lemmas.Option.{same_Some}
use Rattle.ov_value.specs.Rows.{key_cmp}
use Rattle.ov_value.specs.Shapes.{Shape}
use Rattle.ov_model.specs.Assigned.{rid_of_row, rid_by, or_next, next_after, assigned, fresh_rows}
use Rattle.ov_model.specs.Book.{Row}
use Rattle.ov_model.specs.Lists.{IsIn, IsBelow, Rises, joined}
use Rattle.ov_model.specs.Placed.{times}
use Rattle.ov_model.specs.Records.{is_same_row}
use Rattle.ov_model.specs.World.{is_one}
use Rattle.ov_model.proofs.Counting.{one_if, listed}
use Rattle.ov_model.proofs.Origins.{first_is}
use Rattle.ov_model.proofs.Rids.{not_same}
use Rattle.ov_model.proofs.Widening.{same_rows}
use Rattle.ov_catalog.proofs.Members.{left_in, right_in}
use Rattle.law_commits.specs.Differing.{NoneDiffer}
use Rattle.law_commits.specs.Committing.{lacking_of}
use Rattle.law_commits.proofs.Times.{times_in}

-- ---- rids that parents give

found_row : (parent : List (ℕ × Row)) (row : Row) (n : ℕ) → rid_of_row parent row ≡ Some n → IsIn parent (n, row)
found_row [] row n e = cc
found_row (r ∷ rs) row n e = by (is_same_row row r.1) (same_rows row r.1) e (found_row rs row n)
  where
    by : (t : Bool) → (t ≡ true → row ≡ r.1) → (if t then Some r.0 else rid_of_row rs row) ≡ Some n → (rid_of_row rs row ≡ Some n → IsIn rs (n, row)) → ((n, row) ≡ r) ⊎ IsIn rs (n, row)
    by true same here later = inl (λ i. (sym (same_Some r.0 n here) i, same refl i))
    by false same here later = inr (later here)

pub found_by : (parents : List (List (ℕ × Row))) (row : Row) (n : ℕ) → rid_by parents row ≡ Some n → IsIn (joined parents) (n, row)
found_by [] row n e = cc
found_by (p ∷ ps) row n e =
    elim (first_is (rid_of_row p row) (rid_by ps row) n e) [
      | inl here ↦ left_in p (joined ps) (n, row) (found_row p row n here)
      | inr later ↦ right_in p (joined ps) (n, row) (found_by ps row n later)
    ]

-- ---- the rids of rows

abbrev IsNew : List Row → List (List (ℕ × Row)) → ℕ → ℕ → Type 0
IsNew rows parents next n = (next ≤ n) × (n < next + fresh_rows rows parents)

abbrev IsOld : List Row → List (List (ℕ × Row)) → ℕ → Type 0
IsOld rows parents n = (row : Row) × (IsIn rows row × (rid_by parents row ≡ Some n))

pub of_assigned : (rows : List Row) (parents : List (List (ℕ × Row))) (next n : ℕ) → IsIn (assigned rows parents next) n → IsOld rows parents n ⊎ IsNew rows parents next n
of_assigned [] parents next n is = absurd is
of_assigned (row ∷ rows) parents next n is = by (rid_by parents row) refl is (of_assigned rows parents next n) (of_assigned rows parents (next + 1) n)
  where
    by : (o : Option ℕ) → rid_by parents row ≡ o → IsIn (or_next o next ∷ assigned rows parents (next_after o next)) n
        → (IsIn (assigned rows parents next) n → IsOld rows parents n ⊎ IsNew rows parents next n)
        → (IsIn (assigned rows parents (next + 1)) n → IsOld rows parents n ⊎ IsNew rows parents (next + 1) n)
        → IsOld (row ∷ rows) parents n ⊎ ((next ≤ n) × (n < next + next_after (rid_by parents row) (fresh_rows rows parents)))
    by (Some rid) e (inl here) old fresh = inl (row, (inl refl, e ∙ ap Some (sym here)))
    by (Some rid) e (inr later) old fresh =
        elim (old later) [
          | inl found ↦ inl (found.0, (inr found.1.0, found.1.1))
          | inr new ↦ inr (new.0, omega (arith, new.1, ap (λ o. next_after o (fresh_rows rows parents)) e))
        ]
    by None e (inl here) old fresh = inr (omega (arith, here), omega (arith, here, ap (λ o. next_after o (fresh_rows rows parents)) e))
    by None e (inr later) old fresh =
        elim (fresh later) [
          | inl found ↦ inl (found.0, (inr found.1.0, found.1.1))
          | inr new ↦ inr (omega (arith, new.0), omega (arith, new.1, ap (λ o. next_after o (fresh_rows rows parents)) e))
        ]

pub below_at : (schema : Shape) (row : Row) (rows : List Row) (x : Row) → IsBelow (key_cmp schema) row rows → IsIn rows x → key_cmp schema row x ≡ Less
below_at schema row [] x below is = absurd is
below_at schema row (y ∷ rows) x below (inl same) = ap (key_cmp schema row) same ∙ below.0
below_at schema row (y ∷ rows) x below (inr later) = below_at schema row rows x below.1 later

none_of : (b : Bool) → b ≡ true → b ≡ false → ⊥
none_of true e f = cc
none_of false e f = cc

module _ (schema : Shape) (parents : List (List (ℕ × Row))) (agree : NoneDiffer (joined parents)) where
  -- two rows that rise get no rid from the parents twice
  one_row : (row x : Row) (n : ℕ) → key_cmp schema row x ≡ Less → rid_by parents row ≡ Some n → rid_by parents x ≡ Some n → ⊥
  one_row row x n below e f =
      none_of (is_same_row x row) (agree (n, x) (n, row) (found_by parents x n f) (found_by parents row n e) refl) (not_same schema row x below)

  pub once : (rows : List Row) (next : ℕ) → Rises (key_cmp schema) rows → ((p : ℕ × Row) → IsIn (joined parents) p → p.0 < next) → (n : ℕ) → times (assigned rows parents next) n ≤ 1
  once [] next rises low n = omega arith
  once (row ∷ rows) next rises low n = by (rid_by parents row) refl
      (once rows next rises.1 low n) (once rows (next + 1) rises.1 (λ p is. omega (arith, low p is)) n)
    where
      none_later : (rid start : ℕ) → (IsOld rows parents rid → ⊥) → rid < start → times (assigned rows parents start) rid ≡ 0
      none_later rid start other before = some (times (assigned rows parents start) rid) refl
        where
          some : (k : ℕ) → times (assigned rows parents start) rid ≡ k → times (assigned rows parents start) rid ≡ 0
          some zero e = e
          some (suc k) e =
              elim (of_assigned rows parents start rid (times_in (assigned rows parents start) rid (omega (arith, e)))) [
                | inl found ↦ absurd (other found)
                | inr new ↦ absurd (omega (arith, before, new.0))
              ]

      head : (rid start : ℕ) → (IsOld rows parents rid → ⊥) → rid < start → times (assigned rows parents start) n ≤ 1 → one_if (rid == n) + times (assigned rows parents start) n ≤ 1
      head rid start other before rest = split (rid == n) (eqb-true rid n)
        where
          split : (t : Bool) → (t ≡ true → rid ≡ n) → one_if t + times (assigned rows parents start) n ≤ 1
          split true same = omega (arith, ap (times (assigned rows parents start)) (same refl), none_later rid start other before)
          split false same = omega (arith, rest)

      by : (o : Option ℕ) → rid_by parents row ≡ o → times (assigned rows parents next) n ≤ 1 → times (assigned rows parents (next + 1)) n ≤ 1 → times (or_next o next ∷ assigned rows parents (next_after o next)) n ≤ 1
      by (Some rid) e old fresh =
          head rid next (λ found. one_row row found.0 rid (below_at schema row rows found.0 rises.0 found.1.0) e found.1.1) (low (rid, row) (found_by parents row rid e)) old
      by None e old fresh =
          head next (next + 1) (λ found. omega (arith, low (next, found.0) (found_by parents found.0 next found.1.1))) (omega arith) fresh

pub length-assigned : (rows : List Row) (parents : List (List (ℕ × Row))) (next : ℕ) → length (assigned rows parents next) ≡ length rows
length-assigned [] parents next = refl
length-assigned (row ∷ rows) parents next = ap (λ n. suc n) (length-assigned rows parents (next_after (rid_by parents row) next))

pub fresh_few : (rows : List Row) (parents : List (List (ℕ × Row))) → fresh_rows rows parents ≤ length rows
fresh_few [] parents = omega arith
fresh_few (row ∷ rows) parents = by (rid_by parents row) (fresh_few rows parents)
  where
    by : (o : Option ℕ) → fresh_rows rows parents ≤ length rows → next_after o (fresh_rows rows parents) ≤ length (row ∷ rows)
    by (Some rid) few = omega (arith, few)
    by None few = omega (arith, few)

-- ---- new rids aren't held

not_held : (held : List ℕ) (next : ℕ) → ((n : ℕ) → IsIn held n → n < next) → is_one held next ≡ false
not_held held next low = false_from_ne_true (is_one held next) (λ there. omega (arith, low next (times_in held next (listed held next there))))

pub fresh_lacking : (rows : List Row) (parents : List (List (ℕ × Row))) (next : ℕ) (held : List ℕ) → ((n : ℕ) → IsIn held n → n < next)
    → fresh_rows rows parents ≤ length (lacking_of (assigned rows parents next) held)
fresh_lacking [] parents next held low = omega arith
fresh_lacking (row ∷ rows) parents next held low =
    by (rid_by parents row) (fresh_lacking rows parents next held low) (fresh_lacking rows parents (next + 1) held (λ n is. omega (arith, low n is)))
  where
    old_if : (t : Bool) (rid : ℕ) (rest : List ℕ) → length rest ≤ length (if t then rid ∷ rest else rest)
    old_if true rid rest = omega arith
    old_if false rid rest = omega arith

    new_if : (t : Bool) (rest : List ℕ) → t ≡ false → length rest + 1 ≤ length (if not t then next ∷ rest else rest)
    new_if true rest e = cc
    new_if false rest e = omega arith

    by : (o : Option ℕ) → fresh_rows rows parents ≤ length (lacking_of (assigned rows parents next) held) → fresh_rows rows parents ≤ length (lacking_of (assigned rows parents (next + 1)) held)
        → next_after o (fresh_rows rows parents) ≤ length (lacking_of (or_next o next ∷ assigned rows parents (next_after o next)) held)
    by (Some rid) old fresh = omega (arith, old, old_if (not (is_one held rid)) rid (lacking_of (assigned rows parents next) held))
    by None old fresh = omega (arith, fresh, new_if (is_one held next) (lacking_of (assigned rows parents (next + 1)) held) (not_held held next low))
