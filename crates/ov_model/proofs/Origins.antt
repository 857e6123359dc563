-- Where records come from: each is one of those before, or fresh in its version.
use Rattle.std.proofs.Common.{◌≡◌, ◌⊎◌, ℕ, ◌+◌, ◌-◌, Bool, true, false, ◌==◌, List, [], ◌∷◌, ◌++◌, length, map, get_or, suc, zero, refl, sym, ◌∙◌, ap, subst, inl, inr, arith}
use Rattle.std.specs.Prelude.{◌&&◌, filter, Option, Some, None, unwrap_or}
use Rattle.std.proofs.lemmas.Bool.{cond-true, cond-false, cases_Bool, eq-eqb}
use Rattle.std.specs.Ordering.{eq_by_cmp, is_eq}
use Rattle.std.specs.declared.cmp.Ordering.{Ordering}
use Rattle.std.specs.declared.cmp.Ordering.TheVariants.{Less, Equal, Greater}
use Rattle.ov_value.specs.Rows.{value_cmp}
use Rattle.ov_value.specs.Order.{value_cmp-ties}
use Rattle.ov_model.specs.Book.{Row, Version}
use Rattle.ov_model.specs.Lists.{IsIn, AreIn, AllAreIn}
use Rattle.ov_model.specs.Records.{Rec, is_same_row, origin_in, origin_by, of_version, first_of, or_own, record_of, records_of, recs, fresh_in, order, order_of}
use Rattle.ov_model.proofs.Growing.{recs_more, order_more}

left_true : (a b : Bool) → (a && b) ≡ true → a ≡ true
left_true true b e = refl
left_true false b e = cc

right_true : (a b : Bool) → (a && b) ≡ true → b ≡ true
right_true true b e = e
right_true false b e = cc

equal_of : (o : Ordering) → is_eq o ≡ true → o ≡ Equal
equal_of Less e = cc
equal_of Equal e = refl
equal_of Greater e = cc

-- rows that pass the test are the same
pub same_row_is : (a b : Row) → is_same_row a b ≡ true → a ≡ b
same_row_is [] [] e = refl
same_row_is [] (y ∷ ys) e = cc
same_row_is (x ∷ xs) [] e = cc
same_row_is (x ∷ xs) (y ∷ ys) e =
    let head : x ≡ y = value_cmp-ties x y (equal_of (value_cmp x y) (left_true _ (is_same_row xs ys) e))
    in let tail : xs ≡ ys = same_row_is xs ys (right_true (eq_by_cmp value_cmp x y) _ e)
    in ap (λ v. v ∷ xs) head ∙ ap (λ vs. y ∷ vs) tail

-- a record with the origin that was found is among those that were looked through
pub found_in : (rs : List Rec) (row : Row) (o : ℕ) → origin_in rs row ≡ Some o → IsIn rs (record { origin = o; row = row })
found_in [] row o e = cc
found_in (r ∷ rs) row o e =
    elim (cases_Bool (is_same_row row r.row)) [
      | inl same ↦
          let there : r.origin ≡ o = ap (λ x. unwrap_or x 0) (sym (cond-true _ (Some r.origin) (origin_in rs row) same) ∙ e)
          in let back = sym there
          in let rows = same_row_is row r.row same
          in inl (λ i. record { origin = back i; row = rows i })
      | inr differs ↦ inr (found_in rs row o (sym (cond-false _ (Some r.origin) (origin_in rs row) differs) ∙ e))
    ]

pub first_is : (a b : Option ℕ) (o : ℕ) → first_of a b ≡ Some o → (a ≡ Some o) ⊎ (b ≡ Some o)
first_is None b o e = inr e
first_is (Some x) b o e = inl e

are_in_is : (rs all : List Rec) (r : Rec) → AreIn rs all → IsIn rs r → IsIn all r
are_in_is [] all r are is = absurd is
are_in_is (x ∷ xs) all r are (inl same) = subst (IsIn all) (sym same) are.0
are_in_is (x ∷ xs) all r are (inr later) = are_in_is xs all r are.1 later

at_known : (done : List (List Rec)) (k : ℕ) (all : List Rec) (r : Rec) → AllAreIn done all → IsIn (get_or done k []) r → IsIn all r
at_known [] k all r are is = absurd is
at_known (l ∷ ls) zero all r are is = are_in_is l all r are.0 is
at_known (l ∷ ls) (suc k) all r are is = at_known ls k all r are.1 is

pub found_by : (ps : List ℕ) (done : List (List Rec)) (row : Row) (o : ℕ) (all : List Rec) → AllAreIn done all → origin_by ps done row ≡ Some o → IsIn all (record { origin = o; row = row })
found_by [] done row o all are e = cc
found_by (p ∷ ps) done row o all are e =
    elim (first_is (origin_in (of_version done p) row) (origin_by ps done row) o e) [
      | inl here ↦ at_known done (p - 1) all (record { origin = o; row = row }) are (found_in (of_version done p) row o here)
      | inr later ↦ found_by ps done row o all are later
    ]

pub in_left : (xs ys : List Rec) (r : Rec) → IsIn xs r → IsIn (xs ++ ys) r
in_left [] ys r is = absurd is
in_left (x ∷ xs) ys r (inl same) = inl same
in_left (x ∷ xs) ys r (inr later) = inr (in_left xs ys r later)

pub in_right : (xs ys : List Rec) (r : Rec) → IsIn ys r → IsIn (xs ++ ys) r
in_right [] ys r is = is
in_right (x ∷ xs) ys r is = inr (in_right xs ys r is)

pub in_filter : (p : Rec → Bool) (xs : List Rec) (r : Rec) → p r ≡ true → IsIn xs r → IsIn (filter p xs) r
in_filter p [] r passes is = absurd is
in_filter p (x ∷ xs) r passes (inl same) =
    subst (λ ys. IsIn ys r) (sym (cond-true (p x) (x ∷ filter p xs) (filter p xs) (ap p (sym same) ∙ passes))) (inl same)
in_filter p (x ∷ xs) r passes (inr later) =
    elim (cases_Bool (p x)) [
      | inl yes_ ↦ subst (λ ys. IsIn ys r) (sym (cond-true (p x) (x ∷ filter p xs) (filter p xs) yes_)) (inr (in_filter p xs r passes later))
      | inr other ↦ subst (λ ys. IsIn ys r) (sym (cond-false (p x) (x ∷ filter p xs) (filter p xs) other)) (in_filter p xs r passes later)
    ]

in_map : (f : Row → Rec) (rows : List Row) (row : Row) → IsIn rows row → IsIn (map f rows) (f row)
in_map f [] row is = absurd is
in_map f (x ∷ xs) row (inl same) = inl (ap f same)
in_map f (x ∷ xs) row (inr later) = inr (in_map f xs row later)

map_are : (f : Row → Rec) (rows all : List Row) (target : List Rec) → ((row : Row) → IsIn all row → IsIn target (f row)) → AreIn rows all → AreIn (map f rows) target
map_are f [] all target there are = tt
map_are f (row ∷ rows) all target there are = (there row are.0, map_are f rows all target there are.1)

more_in : (x : Row) (rows all : List Row) → AreIn rows all → AreIn rows (x ∷ all)
more_in x [] all are = tt
more_in x (row ∷ rows) all are = (inr are.0, more_in x rows all are.1)

pub all_in : (rows : List Row) → AreIn rows rows
all_in [] = tt
all_in (row ∷ rows) = (inl refl, more_in row rows rows (all_in rows))

pub are_more : (rs xs ys : List Rec) → AreIn rs xs → AreIn rs (xs ++ ys)
are_more [] xs ys are = tt
are_more (r ∷ rs) xs ys are = (in_left xs ys r are.0, are_more rs xs ys are.1)

all_are_more : (rss : List (List Rec)) (xs ys : List Rec) → AllAreIn rss xs → AllAreIn rss (xs ++ ys)
all_are_more [] xs ys are = tt
all_are_more (rs ∷ rss) xs ys are = (are_more rs xs ys are.0, all_are_more rss xs ys are.1)

all_are_append : (rss : List (List Rec)) (rs all : List Rec) → AllAreIn rss all → AreIn rs all → AllAreIn (rss ++ rs ∷ []) all
all_are_append [] rs all are is = (is, tt)
all_are_append (l ∷ ls) rs all are is = (are.0, all_are_append ls rs all are.1 is)

-- a record of the next version was there, or is fresh
own_or_old : (v : Version) (done : List (List Rec)) (all : List Rec) → AllAreIn done all → (found : Option ℕ) (row : Row) → origin_by v.parents done row ≡ found → IsIn v.rows row → IsIn (all ++ fresh_in (records_of v done) (1 + length done)) (record_of v.parents done row)
own_or_old v done all are (Some o) row e is =
    in_left all _ (record_of v.parents done row)
    (subst (λ origin. IsIn all (record { origin = or_own origin (length done + 1); row = row })) (sym e) (found_by v.parents done row o all are e))
own_or_old v done all are None row e is =
    let own : (record_of v.parents done row).origin ≡ length done + 1 = ap (λ origin. or_own origin (length done + 1)) e
    in let number : length done + 1 ≡ 1 + length done = omega arith
    in let passes : ((record_of v.parents done row).origin == 1 + length done) ≡ true =
    ap (λ n. n == 1 + length done) (own ∙ number) ∙ eq-eqb (1 + length done) (1 + length done) refl
    in in_right all _ (record_of v.parents done row)
    (in_filter (λ r. r.origin == 1 + length done) (records_of v done) (record_of v.parents done row) passes (in_map (record_of v.parents done) v.rows row is))

-- each record of each version has a place
pub known_more : (vs : List Version) (done : List (List Rec)) → AllAreIn done (order done 1) → AllAreIn (recs vs done) (order (recs vs done) 1)
known_more [] done are = are
known_more (v ∷ vs) done are =
    let fresh = fresh_in (records_of v done) (1 + length done)
    in let next : AreIn (records_of v done) (order done 1 ++ fresh) =
    map_are (record_of v.parents done) v.rows v.rows (order done 1 ++ fresh)
    (λ row is. own_or_old v done (order done 1) are (origin_by v.parents done row) row refl is)
    (all_in v.rows)
    in known_more vs (done ++ records_of v done ∷ [])
    (subst (AllAreIn (done ++ records_of v done ∷ [])) (sym (order_more done (records_of v done) 1))
    (all_are_append done (records_of v done) (order done 1 ++ fresh) (all_are_more done (order done 1) fresh are) next))

pub all_known : (vs : List Version) → AllAreIn (recs vs []) (order_of vs)
all_known vs = known_more vs [] tt

last_are : (done : List (List Rec)) (l all : List Rec) → AllAreIn (done ++ l ∷ []) all → AreIn l all
last_are [] l all are = are.0
last_are (x ∷ done) l all are = last_are done l all are.1

-- those of a version that comes are known then
pub next_known : (vs : List Version) (v : Version) → AreIn (records_of v (recs vs [])) (order_of (vs ++ v ∷ []))
next_known vs v =
    last_are (recs vs []) (records_of v (recs vs [])) (order_of (vs ++ v ∷ []))
    (subst (λ rss. AllAreIn rss (order_of (vs ++ v ∷ []))) (recs_more vs v []) (all_known (vs ++ v ∷ [])))
