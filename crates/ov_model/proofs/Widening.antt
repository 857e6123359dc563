-- Columns more leave records, their order and their rids as they were, but for the NULLs at their rows' ends.
use Rattle.std.proofs.Common.{◌≡◌, ℕ, zero, suc, ◌+◌, ◌-◌, Bool, true, false, List, [], ◌∷◌, ◌++◌, map, get_or, refl, sym, ◌∙◌, ap, inl, inr}
use Rattle.std.specs.Prelude.{Option, Some, replicate, if◌then◌else◌}
use Rattle.std.proofs.lemmas.List.{length-map, map-append, append_cancel_right}
use Rattle.std.proofs.lemmas.Slice.Eq.{slice_eq-Decides}
use Rattle.std.proofs.Math.ListN.{get_or-map}
use Rattle.std.specs.Cmp.Lexicographic.{slice_cmp}
use Rattle.ov_value.specs.Order.{value_tie_decides}
use Rattle.ov_value.specs.Rows.{value_at, value_cmp, key_cmp}
use Rattle.ov_value.specs.Shapes.{Shape}
use Rattle.ov_value.specs.declared.value.Value.TheVariants.{Null}
use Rattle.ov_model.specs.Book.{Row, Version, extended}
use Rattle.ov_model.specs.Lists.{IsIn, AreIn, joined}
use Rattle.ov_model.specs.Moves.{wide_rec, wide_version}
use Rattle.ov_model.specs.Records.{Rec, is_same_row, origin_in, of_version, first_of, origin_by, or_own, record_of, records_of, recs}
use Rattle.ov_model.proofs.Growing.{same_row-refl}

-- a Bool that two statements decide is one Bool
pub same_bool : (a b : Bool) → (a ≡ true → b ≡ true) → (b ≡ true → a ≡ true) → a ≡ b
same_bool true true f g = refl
same_bool true false f g = sym (f refl)
same_bool false true f g = g refl
same_bool false false f g = refl

pub same_rows : (a b : Row) → is_same_row a b ≡ true → a ≡ b
same_rows a b same = (slice_eq-Decides value_tie_decides a b (is_same_row a b) refl).0 same

origin_if : (t u : Bool) (a : Option ℕ) (b c : Option ℕ) → t ≡ u → b ≡ c → (if t then a else b) ≡ (if u then a else c)
origin_if t u a b c e f = λ i. if e i then a else f i

in_map : {A B : Type 0} (f : A → B) (xs : List A) (x : A) → IsIn xs x → IsIn (map f xs) (f x)
in_map f [] x is = absurd is
in_map f (y ∷ ys) x (inl same) = inl (ap f same)
in_map f (y ∷ ys) x (inr later) = inr (in_map f ys x later)

pub map_are_in : {A B : Type 0} (f : A → B) (xs all : List A) → AreIn xs all → AreIn (map f xs) (map f all)
map_are_in f [] all are = tt
map_are_in f (x ∷ xs) all are = (in_map f all x are.0, map_are_in f xs all are.1)

pub joined_map : {A B : Type 0} (f : A → B) (xss : List (List A)) → joined (map (map f) xss) ≡ map f (joined xss)
joined_map f [] = refl
joined_map f (xs ∷ xss) = ap (λ rest. map f xs ++ rest) (joined_map f xss) ∙ sym (map-append f xs (joined xss))

-- keys stay as they are
pub value_wide : (row : Row) (n place : ℕ) → value_at (row ++ replicate n Null) place ≡ value_at row place
value_wide [] n place = nulls n place
  where
    nulls : (n place : ℕ) → get_or (replicate n Null) place Null ≡ Null
    nulls zero place = refl
    nulls (suc n) zero = refl
    nulls (suc n) (suc place) = nulls n place
value_wide (x ∷ row) n zero = refl
value_wide (x ∷ row) n (suc place) = value_wide row n place

key_wide : (row : Row) (n : ℕ) (places : List ℕ) → map (value_at (row ++ replicate n Null)) places ≡ map (value_at row) places
key_wide row n [] = refl
key_wide row n (place ∷ places) = λ i. value_wide row n place i ∷ key_wide row n places i

pub cmp_wide : (schema wider : Shape) (n : ℕ) (a b : Row) → wider.key ≡ schema.key → key_cmp wider (a ++ replicate n Null) (b ++ replicate n Null) ≡ key_cmp schema a b
cmp_wide schema wider n a b same =
    ap (λ key. slice_cmp value_cmp (map (value_at (a ++ replicate n Null)) key) (map (value_at (b ++ replicate n Null)) key)) same
    ∙ (λ i. slice_cmp value_cmp (key_wide a n schema.key i) (key_wide b n schema.key i))

module _ (n : ℕ) where
  pub wide_same : (a b : Row) → is_same_row (extended n a) (extended n b) ≡ is_same_row a b
  wide_same a b =
      same_bool (is_same_row (extended n a) (extended n b)) (is_same_row a b)
      (λ e. ap (is_same_row a) (sym (append_cancel_right a b (replicate n Null) (same_rows (extended n a) (extended n b) e))) ∙ same_row-refl a)
      (λ e. ap (λ x. is_same_row (extended n a) (extended n x)) (sym (same_rows a b e)) ∙ same_row-refl (extended n a))

  abbrev pub wide_all : List (List Rec) → List (List Rec)
  wide_all done = map (map (wide_rec n)) done

  wide_origin : (rs : List Rec) (row : Row) → origin_in (map (wide_rec n) rs) (extended n row) ≡ origin_in rs row
  wide_origin [] row = refl
  wide_origin (r ∷ rs) row =
      origin_if (is_same_row (extended n row) (extended n r.row)) (is_same_row row r.row) (Some r.origin)
      (origin_in (map (wide_rec n) rs) (extended n row)) (origin_in rs row) (wide_same row r.row) (wide_origin rs row)

  pub wide_version_recs : (done : List (List Rec)) (p : ℕ) → of_version (wide_all done) p ≡ map (wide_rec n) (of_version done p)
  wide_version_recs done p = (get_or-map (map (wide_rec n)) done (p - 1) [])

  wide_by : (ps : List ℕ) (done : List (List Rec)) (row : Row) → origin_by ps (wide_all done) (extended n row) ≡ origin_by ps done row
  wide_by [] done row = refl
  wide_by (p ∷ ps) done row =
      λ i. first_of ((ap (λ rs. origin_in rs (extended n row)) (wide_version_recs done p) ∙ wide_origin (of_version done p) row) i) (wide_by ps done row i)

  wide_record : (ps : List ℕ) (done : List (List Rec)) (row : Row) → record_of ps (wide_all done) (extended n row) ≡ wide_rec n (record_of ps done row)
  wide_record ps done row = λ i. record { origin = or_own (wide_by ps done row i) (length-map done (map (wide_rec n)) i + 1); row = extended n row }

  pub wide_rows : (ps : List ℕ) (done : List (List Rec)) (rows : List Row) → map (record_of ps (wide_all done)) (map (extended n) rows) ≡ map (wide_rec n) (map (record_of ps done) rows)
  wide_rows ps done [] = refl
  wide_rows ps done (row ∷ rows) = λ i. wide_record ps done row i ∷ wide_rows ps done rows i

  pub wide_recs : (vs : List Version) (done : List (List Rec)) → recs (map (wide_version n) vs) (wide_all done) ≡ wide_all (recs vs done)
  wide_recs [] done = refl
  wide_recs (v ∷ vs) done =
      ap (λ l. recs (map (wide_version n) vs) (wide_all done ++ l ∷ [])) (wide_rows v.parents done v.rows)
      ∙ ap (recs (map (wide_version n) vs)) (sym (map-append (map (wide_rec n)) done (records_of v done ∷ [])))
      ∙ wide_recs vs (done ++ records_of v done ∷ [])
