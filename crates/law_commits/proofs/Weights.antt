-- A weight is at most the rows of either version.
use Rattle.std.proofs.Common.{◌≡◌, ◌≤◌, ℕ, ◌+◌, Bool, true, false, ◌==◌, List, [], ◌∷◌, length, filter, cond, refl, ◌∙◌, ap, inl, inr, arith}
use Rattle.std.specs.Prelude.{◌&&◌, ◌||◌, if◌then◌else◌}
use Rattle.std.specs.List.{zip}
use Rattle.std.proofs.lemmas.List.Sums.{sum_by-cons, count_by-le-length}
use Rattle.std.proofs.lemmas.Bool.{cases_Bool, eqb-true}
use Rattle.ov_segment.specs.declared.numbered.Record.{Record}
use Rattle.ov_model.specs.Book.{Row}
use Rattle.ov_model.specs.Placed.{times}
use Rattle.ov_model.specs.Records.{is_same_row}
use Rattle.ov_model.specs.World.{is_one}
use Rattle.ov_model.proofs.Counting.{one_if, filter_times, listed}
use Rattle.ov_records.specs.Records.{pairs_of, has_record, shared}
use Rattle.law_commits.specs.Differing.{rids_of}
use Rattle.law_commits.proofs.Times.{no_more}

-- a record that the parent has, by its rid alone
has_rid : (records : List Record) (rid : ℕ) (row : Row) → has_record (pairs_of records) (rid, row) ≡ true → is_one (rids_of records) rid ≡ true
has_rid [] rid row e = cc
has_rid (r ∷ records) rid row e = by (r.rid == rid) (is_same_row row r.row) (has_record (pairs_of records) (rid, row)) (is_one (rids_of records) rid) (has_rid records rid row) e
  where
    by : (a b rest other : Bool) → (rest ≡ true → other ≡ true) → ((a && b) || rest) ≡ true → (a || other) ≡ true
    by true b rest other later e = refl
    by false b rest other later e = later e

kept_if : (t u : Bool) (rid : ℕ) (rest : List ℕ) (n : ℕ) → (t ≡ true → u ≡ true) → n ≤ length rest → cond t 1 0 + n ≤ length (if u then rid ∷ rest else rest)
kept_if true true rid rest n passes few = omega (arith, few)
kept_if true false rid rest n passes few = absurd (clash (passes refl))
  where
    clash : false ≡ true → ⊥
    clash e = cc
kept_if false true rid rest n passes few = omega (arith, few)
kept_if false false rid rest n passes few = omega (arith, few)

shared_rids : (records : List Record) (rids : List ℕ) (rows : List Row) → shared (zip rids rows) (pairs_of records) ≤ length (filter (is_one (rids_of records)) rids)
shared_rids records [] rows = omega arith
shared_rids records (rid ∷ rids) [] = omega arith
shared_rids records (rid ∷ rids) (row ∷ rows) =
    omega (
      arith,
      sum_by-cons (λ x. cond (has_record (pairs_of records) x) 1 0) (rid, row) (zip rids rows),
      kept_if (has_record (pairs_of records) (rid, row)) (is_one (rids_of records) rid) rid (filter (is_one (rids_of records)) rids) (shared (zip rids rows) (pairs_of records))
          (has_rid records rid row) (shared_rids records rids rows),
    )

-- what passes a test passes it
fails_if : (t u : Bool) (x n : ℕ) (rest : List ℕ) → (u ≡ true → t ≡ false) → times rest n ≡ 0 → one_if u ≡ one_if (x == n) → times (if t then x ∷ rest else rest) n ≡ 0
fails_if false u x n rest fails none e = none
fails_if true false x n rest fails none e = omega (arith, e, none)
fails_if true true x n rest fails none e = absurd (clash (fails refl))
  where
    clash : true ≡ false → ⊥
    clash f = cc

fails : (p : ℕ → Bool) (xs : List ℕ) (n : ℕ) → p n ≡ false → times (filter p xs) n ≡ 0
fails p [] n out = refl
fails p (x ∷ xs) n out = fails_if (p x) (x == n) x n (filter p xs) (λ same. ap p (eqb-true x n same) ∙ out) (fails p xs n out) refl

within : (ps rids : List ℕ) → ((n : ℕ) → times rids n ≤ 1) → (n : ℕ) → times (filter (is_one ps) rids) n ≤ times ps n
within ps rids once n =
    elim (cases_Bool (is_one ps n)) [
      | inl there ↦ omega (arith, once n, filter_times (is_one ps) rids n, listed ps n there)
      | inr other ↦ omega (arith, fails (is_one ps) rids n other)
    ]

pub shared_own : (rids : List ℕ) (rows : List Row) (parent : List (ℕ × Row)) → shared (zip rids rows) parent ≤ length rows
shared_own rids rows parent = omega (arith, count_by-le-length (has_record parent) (zip rids rows), short rids rows)
  where
    short : (a : List ℕ) (b : List Row) → length (zip a b) ≤ length b
    short [] b = omega arith
    short (x ∷ a) [] = omega arith
    short (x ∷ a) (y ∷ b) = omega (arith, short a b)

pub shared_other : (rids : List ℕ) (rows : List Row) (records : List Record) → ((n : ℕ) → times rids n ≤ 1) → shared (zip rids rows) (pairs_of records) ≤ length (rids_of records)
shared_other rids rows records once =
    omega (arith, shared_rids records rids rows, no_more (filter (is_one (rids_of records)) rids) (rids_of records) (within (rids_of records) rids once))
