-- A version's own rows once more.
use Rattle.std.proofs.Common.{◌≡◌, ◌≤◌, ℕ, ◌+◌, ◌-◌, false, ◌==◌, List, [], ◌∷◌, ◌++◌, length, map, get_or, suc, zero, refl, sym, ◌∙◌, ap, subst, inl, inr, arith, append_assoc}
use Rattle.std.specs.Prelude.{Option, Some, None}
use Rattle.std.proofs.lemmas.List.{length-append, map-append, append-nil}
use Rattle.std.proofs.Math.ListN.{get_or-map}
use Rattle.std.proofs.lemmas.Bool.{cond-true, cond-false, cases_Bool, ne_eqb}
use Rattle.ov_model.specs.Book.{Row, Version}
use Rattle.ov_model.specs.Lists.{IsIn, AreIn}
use Rattle.ov_model.specs.Records.{Rec, is_same_row, origin_in, origin_by, of_version, first_of, or_own, record_of, records_of, recs, fresh_in, rows_at}
use Rattle.ov_model.proofs.Growing.{same_row-refl}
use Rattle.ov_model.proofs.Origins.{first_is, all_in}

-- no origin is above n
abbrev pub Below : ℕ → List Rec → Type 0
Below n [] = Unit {0}
Below n (r ∷ rs) = (r.origin ≤ n) × Below n rs

abbrev pub AllBelow : ℕ → List (List Rec) → Type 0
AllBelow n [] = Unit {0}
AllBelow n (rs ∷ rss) = Below n rs × AllBelow n rss

below_more : (n m : ℕ) (rs : List Rec) → n ≤ m → Below n rs → Below m rs
below_more n m [] le b = tt
below_more n m (r ∷ rs) le b = (omega (arith, le, b.0), below_more n m rs le b.1)

all_below_more : (n m : ℕ) (rss : List (List Rec)) → n ≤ m → AllBelow n rss → AllBelow m rss
all_below_more n m [] le b = tt
all_below_more n m (rs ∷ rss) le b = (below_more n m rs le b.0, all_below_more n m rss le b.1)

all_below_append : (n : ℕ) (rss : List (List Rec)) (rs : List Rec) → AllBelow n rss → Below n rs → AllBelow n (rss ++ rs ∷ [])
all_below_append n [] rs a b = (b, tt)
all_below_append n (l ∷ ls) rs a b = (a.0, all_below_append n ls rs a.1 b)

some_same : (a b : ℕ) → Some a ≡ Some b → a ≡ b
some_same a b e = cc

origin_below : (n : ℕ) (rs : List Rec) (row : Row) (o : ℕ) → Below n rs → origin_in rs row ≡ Some o → o ≤ n
origin_below n [] row o b e = cc
origin_below n (r ∷ rs) row o b e =
    elim (cases_Bool (is_same_row row r.row)) [
      | inl same ↦
          let there : r.origin ≡ o = some_same r.origin o (sym (cond-true _ (Some r.origin) (origin_in rs row) same) ∙ e)
          in omega (arith, there, b.0)
      | inr differs ↦ origin_below n rs row o b.1 (sym (cond-false _ (Some r.origin) (origin_in rs row) differs) ∙ e)
    ]

pub at_below : (n : ℕ) (rss : List (List Rec)) (k : ℕ) → AllBelow n rss → Below n (get_or rss k [])
at_below n [] k b = tt
at_below n (l ∷ ls) zero b = b.0
at_below n (l ∷ ls) (suc k) b = at_below n ls k b.1

pub by_below : (n : ℕ) (ps : List ℕ) (done : List (List Rec)) (row : Row) (o : ℕ) → AllBelow n done → origin_by ps done row ≡ Some o → o ≤ n
by_below n [] done row o b e = cc
by_below n (p ∷ ps) done row o b e =
    elim (first_is (origin_in (of_version done p) row) (origin_by ps done row) o e) [
      | inl here ↦ origin_below n (of_version done p) row o (at_below n done (p - 1) b) here
      | inr later ↦ by_below n ps done row o b later
    ]

own_below : (ps : List ℕ) (done : List (List Rec)) (row : Row) (found : Option ℕ) → AllBelow (length done) done → origin_by ps done row ≡ found → (record_of ps done row).origin ≤ length done + 1
own_below ps done row None b e = let is : (record_of ps done row).origin ≡ length done + 1 = ap (λ f. or_own f (length done + 1)) e in omega (arith, is)
own_below ps done row (Some o) b e =
    let is : (record_of ps done row).origin ≡ o = ap (λ f. or_own f (length done + 1)) e
    in omega (arith, is, by_below (length done) ps done row o b e)

map_below : (ps : List ℕ) (done : List (List Rec)) (rows : List Row) → AllBelow (length done) done → Below (length done + 1) (map (record_of ps done) rows)
map_below ps done [] b = tt
map_below ps done (row ∷ rows) b = (own_below ps done row (origin_by ps done row) b refl, map_below ps done rows b)

-- with the records of one version more
pub one_more_below : (v : Version) (done : List (List Rec)) → AllBelow (length done) done → AllBelow (length (done ++ records_of v done ∷ [])) (done ++ records_of v done ∷ [])
one_more_below v done b =
    let one : length (done ++ records_of v done ∷ []) ≡ length done + 1 = length-append done (records_of v done ∷ [])
    in subst (λ n. AllBelow n (done ++ records_of v done ∷ [])) (sym one)
    (all_below_append (length done + 1) done (records_of v done) (all_below_more (length done) (length done + 1) done (omega arith) b)
    (map_below v.parents done v.rows b))

pub recs_below : (vs : List Version) (done : List (List Rec)) → AllBelow (length done) done → AllBelow (length done + length vs) (recs vs done)
recs_below [] done b = all_below_more (length done) (length done + 0) done (omega arith) b
recs_below (v ∷ vs) done b =
    let one : length (done ++ records_of v done ∷ []) ≡ length done + 1 = length-append done (records_of v done ∷ [])
    in let next : AllBelow (length done + 1) (done ++ records_of v done ∷ []) =
    all_below_append (length done + 1) done (records_of v done)
    (all_below_more (length done) (length done + 1) done (omega arith) b)
    (map_below v.parents done v.rows b)
    in all_below_more (length (done ++ records_of v done ∷ []) + length vs) (length done + length (v ∷ vs)) (recs (v ∷ vs) done)
    (omega (arith, one))
    (recs_below vs (done ++ records_of v done ∷ []) (subst (λ n. AllBelow n (done ++ records_of v done ∷ [])) (sym one) next))

map_rows : (ps : List ℕ) (done : List (List Rec)) (rows : List Row) → map (λ r. r.row) (map (record_of ps done) rows) ≡ rows
map_rows ps done [] = refl
map_rows ps done (row ∷ rows) = ap (λ rest. row ∷ rest) (map_rows ps done rows)

recs_rows : (vs : List Version) (done : List (List Rec)) → map (map (λ r. r.row)) (recs vs done) ≡ map (map (λ r. r.row)) done ++ map (λ v. v.rows) vs
recs_rows [] done = sym (append-nil (map (map (λ r. r.row)) done))
recs_rows (v ∷ vs) done =
    recs_rows vs (done ++ records_of v done ∷ [])
    ∙ ap (λ all. all ++ map (λ v. v.rows) vs) (map-append (map (λ r. r.row)) done (records_of v done ∷ []))
    ∙ append_assoc (map (map (λ r. r.row)) done) (map (λ r. r.row) (records_of v done) ∷ []) (map (λ v. v.rows) vs)
    ∙ ap (λ rows. map (map (λ r. r.row)) done ++ rows ∷ map (λ v. v.rows) vs) (map_rows v.parents done v.rows)

-- a version's records have its rows
version_rows : (vs : List Version) (vid : ℕ) → map (λ r. r.row) (of_version (recs vs []) vid) ≡ rows_at vs vid
version_rows vs vid =
    sym (get_or-map (map (λ r. r.row)) (recs vs []) (vid - 1) [])
    ∙ ap (λ all. get_or all (vid - 1) []) (recs_rows vs [])

found_known : (rs : List Rec) (row : Row) → IsIn (map (λ r. r.row) rs) row → (o : ℕ) × (origin_in rs row ≡ Some o)
found_known [] row is = absurd is
found_known (r ∷ rs) row (inl same) =
    (r.origin, cond-true (is_same_row row r.row) (Some r.origin) (origin_in rs row) (ap (is_same_row row) (sym same) ∙ same_row-refl row))
found_known (r ∷ rs) row (inr later) =
    elim (cases_Bool (is_same_row row r.row)) [
      | inl same ↦ (r.origin, cond-true (is_same_row row r.row) (Some r.origin) (origin_in rs row) same)
      | inr differs ↦
          let found = found_known rs row later
          in (found.0, cond-false (is_same_row row r.row) (Some r.origin) (origin_in rs row) differs ∙ found.1)
    ]

first_some : (a b : Option ℕ) (o : ℕ) → a ≡ Some o → first_of a b ≡ Some o
first_some a b o e = ap (λ x. first_of x b) e

none_fresh : (f : Row → Rec) (rows all : List Row) (n : ℕ) → ((row : Row) → IsIn all row → (f row).origin ≤ n) → AreIn rows all → fresh_in (map f rows) (n + 1) ≡ []
none_fresh f [] all n low are = refl
none_fresh f (row ∷ rows) all n low are =
    let le : (f row).origin ≤ n = low row are.0
    in let off : ((f row).origin == n + 1) ≡ false = ne_eqb (f row).origin (n + 1) (λ e. omega (arith, le, e))
    in cond-false ((f row).origin == n + 1) (f row ∷ fresh_in (map f rows) (n + 1)) (fresh_in (map f rows) (n + 1)) off
    ∙ none_fresh f rows all n low are.1

pub own_rows : (vs : List Version) (message : List ℕ) (vid : ℕ) → fresh_in (records_of (record { parents = vid ∷ []; message = message; rows = rows_at vs vid }) (recs vs [])) (length vs + 1) ≡ []
own_rows vs message vid =
    let below : AllBelow (length vs) (recs vs []) = all_below_more (0 + length vs) (length vs) (recs vs []) (omega arith) (recs_below vs [] tt)
    in none_fresh (record_of (vid ∷ []) (recs vs [])) (rows_at vs vid) (rows_at vs vid) (length vs)
    (λ row is.
    let found = found_known (of_version (recs vs []) vid) row (subst (λ rows. IsIn rows row) (sym (version_rows vs vid)) is)
    in let by : origin_by (vid ∷ []) (recs vs []) row ≡ Some found.0 = first_some _ (origin_by [] (recs vs []) row) found.0 found.1
    in let origin : (record_of (vid ∷ []) (recs vs []) row).origin ≡ found.0 = ap (λ f. or_own f (length (recs vs []) + 1)) by
    in omega (arith, origin, by_below (length vs) (vid ∷ []) (recs vs []) row found.0 below by))
    (all_in (rows_at vs vid))
