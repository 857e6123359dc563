-- How many records a generated version brings: rows that its parent doesn't have.
use Rattle.std.proofs.Common.{◌≡◌, ◌≤◌, ◌<◌, ℕ, zero, suc, ◌+◌, ◌-◌, ◌/◌, Bool, true, false, ◌==◌, List, [], ◌∷◌, ◌++◌, length, map, get_or, refl, sym, ◌∙◌, ap, subst, inl, inr, arith, append_assoc}
use Rattle.std.specs.Prelude.{◌||◌, if◌then◌else◌, Option, Some, None}
use Rattle.std.specs.List.{list_any}
use Rattle.std.proofs.lemmas.Bool.{cond-true, cond-false, cases_Bool, ne_eqb}
use Rattle.std.proofs.lemmas.List.{map-append, append-nil}
use Rattle.std.proofs.Math.ListN.{get_or-map}
use Rattle.ov_gen.specs.Versions.{Ascend, Begin, IsRowOf}
use Rattle.ov_gen.proofs.Growing.{begin-with}
use Rattle.ov_model.specs.Book.{Row, Version}
use Rattle.ov_model.specs.Generator.{Drawn, change_one, changes, child_of, draw, fresh_row, with_number}
use Rattle.ov_model.specs.Records.{Rec, fresh_in, is_same_row, of_version, or_own, origin_by, origin_in, record_of, records_of, recs, rows_at}
use Rattle.ov_model.proofs.Growing.{same_row-refl}
use Rattle.ov_model.proofs.Own.{AllBelow, by_below, recs_below}

-- ---- rows that others don't have

abbrev pub one_off : Bool → ℕ
one_off among = if among then 0 else 1

abbrev pub strangers : List Row → List Row → ℕ
strangers all [] = 0
strangers all (row ∷ rows) = one_off (list_any (is_same_row row) all) + strangers all rows

one_most : (b : Bool) → one_off b ≤ 1
one_most true = omega arith
one_most false = omega arith

strangers-push : (all rows : List Row) (row : Row) → strangers all (rows ++ row ∷ []) ≤ strangers all rows + 1
strangers-push all [] row = omega (arith, one_most (list_any (is_same_row row) all))
strangers-push all (r ∷ rows) row = omega (arith, strangers-push all rows row)

any_later : (row r : Row) (all : List Row) → list_any (is_same_row row) all ≡ true → list_any (is_same_row row) (r ∷ all) ≡ true
any_later row r all is = by (is_same_row row r) is
  where
    by : (b : Bool) → list_any (is_same_row row) all ≡ true → (b || list_any (is_same_row row) all) ≡ true
    by true e = refl
    by false e = e

any_here : (row : Row) (all : List Row) → list_any (is_same_row row) (row ∷ all) ≡ true
any_here row all = ap (λ b. b || list_any (is_same_row row) all) (same_row-refl row)

more_known : (all rows : List Row) (r : Row) → strangers (r ∷ all) rows ≤ strangers all rows
more_known all [] r = omega arith
more_known all (row ∷ rows) r =
    elim (cases_Bool (list_any (is_same_row row) all)) [
      | inl there ↦ omega (arith, ap one_off there, ap one_off (any_later row r all there), more_known all rows r)
      | inr none ↦ omega (arith, ap one_off none, one_most (list_any (is_same_row row) (r ∷ all)), more_known all rows r)
    ]

none_strange : (rows : List Row) → strangers rows rows ≤ 0
none_strange [] = omega arith
none_strange (row ∷ rows) = omega (arith, ap one_off (any_here row rows), more_known rows rows row, none_strange rows)

-- ---- a change of one row

row_off : (id i a : ℕ) (row : Row) → (id == i) ≡ false → IsRowOf id row → with_number i a row ≡ row
row_off id i a row e r = rw r.is (rw e refl)

-- rows whose ids are above stay
later_stay : (id end i a : ℕ) (rows : List Row) → i < id → Ascend id end rows → map (with_number i a) rows ≡ rows
later_stay id end i a [] below are = refl
later_stay id end i a (row ∷ rows) below (n, from, under, r, rest) =
    let other : (n == i) ≡ false = ne_eqb n i (λ e. omega (arith, e, from, below))
    in rw (row_off n i a row other r, later_stay (n + 1) end i a rows (omega arith) rest) refl

begin_stay : (count id end i a : ℕ) (rows : List Row) → i < id → Begin count id end rows → map (with_number i a) rows ≡ rows
begin_stay zero id end i a rows below are = later_stay id end i a rows below are
begin_stay (suc count) id end i a [] below are = refl
begin_stay (suc count) id end i a (row ∷ rows) below (r, rest) =
    let other : (id == i) ≡ false = ne_eqb id i (λ e. omega (arith, e, below))
    in rw (row_off id i a row other r, begin_stay count (id + 1) end i a rows (omega arith) rest) refl

-- the first row changes, and the rest stays; or it stays
here_or : (all : List Row) (row new : Row) (rows news : List Row) → news ≡ rows → strangers all (new ∷ news) ≤ strangers all (row ∷ rows) + 1
here_or all row new rows news same =
    omega (arith, ap (strangers all) same, one_most (list_any (is_same_row new) all))

later_or : (all : List Row) (row new : Row) (rows news : List Row) → new ≡ row → strangers all news ≤ strangers all rows + 1 → strangers all (new ∷ news) ≤ strangers all (row ∷ rows) + 1
later_or all row new rows news same le =
    omega (arith, ap (λ (r : Row). one_off (list_any (is_same_row r) all)) same, le)

later_change : (all : List Row) (id end i a : ℕ) (rows : List Row) → Ascend id end rows → strangers all (map (with_number i a) rows) ≤ strangers all rows + 1
later_change all id end i a [] are = omega arith
later_change all id end i a (row ∷ rows) (n, from, under, r, rest) =
    elim (cases_Bool (n == i)) [
      | inl same ↦ here_or all row (with_number i a row) rows (map (with_number i a) rows)
          (later_stay (n + 1) end i a rows (grind arith) rest)
      | inr other ↦ later_or all row (with_number i a row) rows (map (with_number i a) rows) (row_off n i a row other r)
          (later_change all (n + 1) end i a rows rest)
    ]

begin_change : (all : List Row) (count id end i a : ℕ) (rows : List Row) → Begin count id end rows → strangers all (map (with_number i a) rows) ≤ strangers all rows + 1
begin_change all zero id end i a rows are = later_change all id end i a rows are
begin_change all (suc count) id end i a [] are = omega arith
begin_change all (suc count) id end i a (row ∷ rows) (r, rest) =
    elim (cases_Bool (id == i)) [
      | inl same ↦ here_or all row (with_number i a row) rows (map (with_number i a) rows)
          (begin_stay count (id + 1) end i a rows (grind arith) rest)
      | inr other ↦ later_or all row (with_number i a row) rows (map (with_number i a) rows) (row_off id i a row other r)
          (begin_change all count (id + 1) end i a rows rest)
    ]

number_small : (x : ℕ) → (draw 1000 x).is < 1000
number_small x = grind arith

-- as many changes bring no more strangers than that
changes_few : (all : List Row) (left count end : ℕ) (drawn : Drawn (List Row)) → Begin count 1 end drawn.is
    → strangers all (changes left count drawn).is ≤ strangers all drawn.is + left
changes_few all zero count end drawn are = omega arith
changes_few all (suc left) count end drawn are =
    let id : ℕ = 1 + (draw count drawn.state).is
    in let a : ℕ = (draw 1000 (draw count drawn.state).state).is
    in omega (
      arith,
      changes_few all left count end (change_one count drawn.state drawn.is)
          (begin-with count 1 end id a drawn.is (number_small (draw count drawn.state).state) are),
      begin_change all count 1 end id a drawn.is are,
    )

pub child_strangers : (count vid x : ℕ) (parent : List Row) → Begin count 1 (count + vid) parent → strangers parent (child_of count vid x parent).is ≤ 2 + count / 100
child_strangers count vid x parent are =
    let changed : Drawn (List Row) = changes (1 + count / 100) count (record { state = x; is = parent })
    in omega (
      arith,
      strangers-push parent changed.is (fresh_row (count + vid) changed.state).is,
      changes_few parent (1 + count / 100) count (count + vid) (record { state = x; is = parent }) are,
      none_strange parent,
    )

-- ---- fresh records

found_known : (rs : List Rec) (row : Row) → list_any (is_same_row row) (map (λ r. r.row) rs) ≡ true → (o : ℕ) × (origin_in rs row ≡ Some o)
found_known [] row is = absurd cc
found_known (r ∷ rs) row is =
    elim (cases_Bool (is_same_row row r.row)) [
      | inl same ↦ (r.origin, cond-true (is_same_row row r.row) (Some r.origin) (origin_in rs row) same)
      | inr differs ↦
          let later : list_any (is_same_row row) (map (λ r. r.row) rs) ≡ true = sym (ap (λ b. b || list_any (is_same_row row) (map (λ (r : Rec). r.row) rs)) differs) ∙ is
          in let found = found_known rs row later
          in (found.0, cond-false (is_same_row row r.row) (Some r.origin) (origin_in rs row) differs ∙ found.1)
    ]

few_fresh : (f : Row → Rec) (rows all : List Row) (n : ℕ) → ((row : Row) → list_any (is_same_row row) all ≡ true → (f row).origin ≤ n)
    → length (fresh_in (map f rows) (n + 1)) ≤ strangers all rows
few_fresh f [] all n low = omega arith
few_fresh f (row ∷ rows) all n low =
    elim (cases_Bool (list_any (is_same_row row) all)) [
      | inl there ↦
          let le : (f row).origin ≤ n = low row there
          in let off : ((f row).origin == n + 1) ≡ false = ne_eqb (f row).origin (n + 1) (λ e. omega (arith, le, e))
          in omega (
            arith,
            ap one_off there,
            few_fresh f rows all n low,
            ap length (cond-false ((f row).origin == n + 1) (f row ∷ fresh_in (map f rows) (n + 1)) (fresh_in (map f rows) (n + 1)) off),
          )
      | inr none ↦ omega (arith, ap one_off none, few_fresh f rows all n low, kept ((f row).origin == n + 1) (f row) (fresh_in (map f rows) (n + 1)))
    ]
  where
    kept : (b : Bool) (r : Rec) (rs : List Rec) → length (if b then r ∷ rs else rs) ≤ 1 + length rs
    kept true r rs = omega arith
    kept false r rs = omega arith

own_rows : (ps : List ℕ) (done : List (List Rec)) (rows : List Row) → map (λ r. r.row) (map (record_of ps done) rows) ≡ rows
own_rows ps done [] = refl
own_rows ps done (row ∷ rows) = ap (λ rest. row ∷ rest) (own_rows ps done rows)

recs_rows : (vs : List Version) (done : List (List Rec)) → map (map (λ r. r.row)) (recs vs done) ≡ map (map (λ r. r.row)) done ++ map (λ v. v.rows) vs
recs_rows [] done = sym (append-nil (map (map (λ r. r.row)) done))
recs_rows (v ∷ vs) done =
    recs_rows vs (done ++ records_of v done ∷ [])
    ∙ ap (λ all. all ++ map (λ v. v.rows) vs) (map-append (map (λ r. r.row)) done (records_of v done ∷ []))
    ∙ append_assoc (map (map (λ r. r.row)) done) (map (λ r. r.row) (records_of v done) ∷ []) (map (λ v. v.rows) vs)
    ∙ ap (λ rows. map (map (λ r. r.row)) done ++ rows ∷ map (λ v. v.rows) vs) (own_rows v.parents done v.rows)

version_rows : (vs : List Version) (vid : ℕ) → map (λ r. r.row) (of_version (recs vs []) vid) ≡ rows_at vs vid
version_rows vs vid =
    sym (get_or-map (map (λ r. r.row)) (recs vs []) (vid - 1) [])
    ∙ ap (λ all. get_or all (vid - 1) []) (recs_rows vs [])

found_by_one : (a : Option ℕ) (o : ℕ) → a ≡ Some o → (p : ℕ) (done : List (List Rec)) (row : Row) → a ≡ origin_in (of_version done p) row → origin_by (p ∷ []) done row ≡ Some o
found_by_one None o e p done row is = absurd cc
found_by_one (Some x) o e p done row is = rw (sym is) e

-- a version with one parent brings no more records than it has rows that the parent doesn't have
pub fresh_strangers : (vs : List Version) (message : List ℕ) (vid : ℕ) (rows : List Row)
    → length (fresh_in (records_of (record { parents = vid ∷ []; message = message; rows = rows }) (recs vs [])) (length vs + 1)) ≤ strangers (rows_at vs vid) rows
fresh_strangers vs message vid rows =
    let none : 0 + length vs ≡ length vs = omega arith
    in let below : AllBelow (length vs) (recs vs []) = subst (λ n. AllBelow n (recs vs [])) none (recs_below vs [] tt)
    in few_fresh (record_of (vid ∷ []) (recs vs [])) rows (rows_at vs vid) (length vs)
    (λ row there.
    let found = found_known (of_version (recs vs []) vid) row (subst (λ all. list_any (is_same_row row) all ≡ true) (sym (version_rows vs vid)) there)
    in let by : origin_by (vid ∷ []) (recs vs []) row ≡ Some found.0 = found_by_one (origin_in (of_version (recs vs []) vid) row) found.0 found.1 vid (recs vs []) row refl
    in let origin : (record_of (vid ∷ []) (recs vs []) row).origin ≡ found.0 = ap (λ f. or_own f (length (recs vs []) + 1)) by
    in omega (arith, origin, by_below (length vs) (vid ∷ []) (recs vs []) row found.0 below by))
