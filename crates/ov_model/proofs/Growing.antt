-- A version more: what the records and their rids were, they stay.
use Rattle.std.proofs.Common.{◌≡◌, ℕ, ◌+◌, Bool, true, false, cond, ◌==◌, List, [], ◌∷◌, ◌++◌, length, refl, sym, ◌∙◌, ap, inl, inr, arith, append_assoc}
use Rattle.std.proofs.lemmas.List.{append-nil, length-append}
use Rattle.std.proofs.lemmas.Bool.{cond-true, eq-eqb}
use Rattle.std.proofs.lemmas.Cmp.{lists_equiv, eq_by_cmp_equiv}
use Rattle.std.specs.Prelude.{◌&&◌}
use Rattle.ov_value.specs.Order.{value_cmp_total}
use Rattle.ov_model.specs.Book.{Row, Version}
use Rattle.ov_model.specs.Lists.{IsIn}
use Rattle.ov_model.specs.Records.{Rec, is_same_row, is_same_rec, recs, records_of, fresh_in, order, order_of, rid_in}

pub same_row-refl : (row : Row) → is_same_row row row ≡ true
same_row-refl row = (lists_equiv (eq_by_cmp_equiv value_cmp_total)).refl row

and_true : (a b : Bool) → a ≡ true → b ≡ true → (a && b) ≡ true
and_true true b e f = f
and_true false b e f = cc

pub same_rec-refl : (r : Rec) → is_same_rec r r ≡ true
same_rec-refl r = and_true (r.origin == r.origin) (is_same_row r.row r.row) ((eq-eqb r.origin r.origin refl)) (same_row-refl r.row)

-- the records of one version more
pub recs_more : (vs : List Version) (v : Version) (done : List (List Rec)) → recs (vs ++ v ∷ []) done ≡ recs vs done ++ records_of v (recs vs done) ∷ []
recs_more [] v done = refl
recs_more (w ∷ ws) v done = recs_more ws v (done ++ records_of w done ∷ [])

pub length_recs : (vs : List Version) (done : List (List Rec)) → length (recs vs done) ≡ length done + length vs
length_recs [] done = omega arith
length_recs (v ∷ vs) done = length_recs vs (done ++ records_of v done ∷ []) ∙ omega (arith, length-append done (records_of v done ∷ []))

pub order_more : (ls : List (List Rec)) (l : List Rec) (n : ℕ) → order (ls ++ l ∷ []) n ≡ order ls n ++ fresh_in l (n + length ls)
order_more [] l n =
    let same : n ≡ n + 0 = omega arith
    in append-nil (fresh_in l n) ∙ ap (fresh_in l) same
order_more (k ∷ ks) l n =
    let same : n + 1 + length ks ≡ n + length (k ∷ ks) = omega arith
    in ap (λ rest. fresh_in k n ++ rest) (order_more ks l (n + 1) ∙ ap (λ m. order ks (n + 1) ++ fresh_in l m) same)
    ∙ sym (append_assoc (fresh_in k n) (order ks (n + 1)) (fresh_in l (n + length (k ∷ ks))))

-- all records of one version more: those that were there, and then its fresh ones
pub order_of_more : (vs : List Version) (v : Version) → order_of (vs ++ v ∷ []) ≡ order_of vs ++ fresh_in (records_of v (recs vs [])) (1 + length (recs vs []))
order_of_more vs v = ap (λ rss. order rss 1) (recs_more vs v []) ∙ order_more (recs vs []) (records_of v (recs vs [])) 1

-- a record that is there keeps its place when more come
pub rid_more : (xs ys : List Rec) (r : Rec) → IsIn xs r → rid_in (xs ++ ys) r ≡ rid_in xs r
rid_more [] ys r is = absurd is
rid_more (x ∷ xs) ys r (inl same) =
    let e : is_same_rec r x ≡ true = ap (is_same_rec r) (sym same) ∙ same_rec-refl r
    in cond-true (is_same_rec r x) 1 (rid_in (xs ++ ys) r + 1) e ∙ sym (cond-true (is_same_rec r x) 1 (rid_in xs r + 1) e)
rid_more (x ∷ xs) ys r (inr later) = ap (λ k. cond (is_same_rec r x) 1 (k + 1)) (rid_more xs ys r later)

pub kept_rid : (vs : List Version) (v : Version) (r : Rec) → IsIn (order_of vs) r → rid_in (order_of (vs ++ v ∷ [])) r ≡ rid_in (order_of vs) r
kept_rid vs v r is =
    ap (λ all. rid_in all r) (order_of_more vs v)
    ∙ rid_more (order_of vs) (fresh_in (records_of v (recs vs [])) (1 + length (recs vs []))) r is
