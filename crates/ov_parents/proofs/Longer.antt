-- Parents' records with columns more.
use Rattle.std.proofs.Common.{◌≡◌, ◌<◌, ◌≤◌, ◌+◌, ℕ, zero, suc, Bool, false, List, [], ◌∷◌, ◌++◌, length, map, get_or, refl, sym, ◌∙◌, ap, subst, arith}
use Rattle.std.specs.Prelude.{◌≢◌, replicate}
use Rattle.std.specs.List.{All}
use Rattle.std.specs.List.Sorted.{IsSortedBy}
use Rattle.std.specs.Ordering.{is_lt}
use Rattle.std.proofs.lemmas.List.Elements.{All-nil, All-cons, All-head, All-tail}
use Rattle.ov_segment.specs.Tables.{longer}
use Rattle.ov_segment.specs.declared.numbered.Record.{Record}
use Rattle.ov_value.specs.Rows.{Fits, key_cmp, value_at}
use Rattle.ov_value.specs.Shapes.{Shape}
use Rattle.ov_value.specs.declared.column.Column.{Column}
use Rattle.ov_value.specs.declared.value.Value.TheVariants.{Null}
use Rattle.ov_value.proofs.Longer.{kinds_longer}
use Rattle.ov_value.proofs.RowLemmas.{length-HasKinds}
use Rattle.ov_model.specs.Assigned.{stored, stored_parents}
use Rattle.ov_model.specs.Book.{Row, extended}
use Rattle.ov_model.specs.Moves.{wide, wide_rec, wide_version}
use Rattle.ov_model.specs.Records.{Rec, of_version, order_of, recs, rid_in}
use Rattle.ov_model.specs.World.{Dataset}
use Rattle.ov_model.proofs.Ordering.{order_wide}
use Rattle.ov_model.proofs.Widening.{cmp_wide, value_wide, wide_recs, wide_version_recs}
use Rattle.ov_records.specs.Records.{InKeyOrder, RowsFit, lists_of}
use Rattle.ov_catalog.specs.Numbers.{SetNumbers}
use Rattle.ov_catalog.proofs.Widened.{rid_wide}
use Rattle.law_commits.specs.Agreeing.{ParentsAgree}
use Rattle.law_commits.proofs.Longer.{lists_longer, pair_longer, parents_longer}
use Rattle.ov_parents.specs.Parents.{with_added}

pub agree_with : {L S : Type 0} (d : SetNumbers L S) (vids : List ℕ) (added : List Column) (parents : List (List Record)) → ParentsAgree d vids parents → ParentsAgree d vids (with_added added parents)
agree_with d vids [] parents agree = agree
agree_with d vids (column ∷ added) parents agree = parents_longer (length (column ∷ added)) d vids parents agree

-- ---- in key order

sorted_tail : {X : Type 0} (lt : X → X → Bool) (x : X) (xs : List X) → IsSortedBy lt (x ∷ xs) → IsSortedBy lt xs
sorted_tail lt x xs sorted k d low high =
    let next : suc k + 1 ≡ suc (k + 1) = omega arith in
    subst (λ n. lt (get_or (x ∷ xs) n d) (get_or xs k d) ≡ false) next (sorted (suc k) d (omega arith) (omega (arith, high)))

sorted_map : {X Y : Type 0} (f : X → Y) (lt : X → X → Bool) (below : Y → Y → Bool) → ((a b : X) → below (f a) (f b) ≡ lt a b) → (xs : List X) → IsSortedBy lt xs
    → IsSortedBy below (map f xs)
sorted_map f lt below same [] sorted k d low high = absurd (omega (arith, high))
sorted_map f lt below same (x ∷ []) sorted k d low high = absurd (omega (arith, high))
sorted_map f lt below same (x ∷ y ∷ xs) sorted zero d low high = same y x ∙ sorted 0 x (omega arith) (omega arith)
sorted_map f lt below same (x ∷ y ∷ xs) sorted (suc k) d low high =
    let next : suc (k + 1) ≡ suc k + 1 = omega arith in
    subst (λ n. below (get_or (f x ∷ f y ∷ map f xs) n d) (get_or (f y ∷ map f xs) k d) ≡ false) next
    (sorted_map f lt below same (y ∷ xs) (sorted_tail lt x (y ∷ xs) sorted) k d (omega arith) (omega (arith, high)))

order_longer : (n : ℕ) (schema wider : Shape) (records : List Record) → wider.key ≡ schema.key → InKeyOrder schema records → InKeyOrder wider (map (longer n) records)
order_longer n schema wider records same sorted =
    sorted_map (longer n) (λ a b. is_lt (key_cmp schema a.row b.row)) (λ a b. is_lt (key_cmp wider a.row b.row))
    (λ a b. ap is_lt (cmp_wide schema wider n a.row b.row same)) records sorted

orders_longer : (n : ℕ) (schema wider : Shape) (parents : List (List Record)) → wider.key ≡ schema.key → All (InKeyOrder schema) parents
    → All (InKeyOrder wider) (map (map (longer n)) parents)
orders_longer n schema wider [] same all = All-nil (InKeyOrder wider)
orders_longer n schema wider (records ∷ parents) same all =
    All-cons (InKeyOrder wider) (map (longer n) records) (map (map (longer n)) parents)
    (order_longer n schema wider records same (All-head (InKeyOrder schema) records parents all))
    (orders_longer n schema wider parents same (All-tail (InKeyOrder schema) records parents all))

pub order_with : (schema wider : Shape) (added : List Column) (parents : List (List Record)) → wider.key ≡ schema.key → All (InKeyOrder schema) parents
    → All (InKeyOrder wider) (with_added added parents)
order_with schema wider [] parents same all = same_key parents all
  where
    same_key : (ps : List (List Record)) → All (InKeyOrder schema) ps → All (InKeyOrder wider) ps
    same_key ps all = subst (λ (key : List ℕ). All (InKeyOrder (record { columns = wider.columns; key = key })) ps) (sym same) all
order_with schema wider (column ∷ added) parents same all = orders_longer (length (column ∷ added)) schema wider parents same all

-- ---- of the wider schema

keyed_longer : (row : Row) (n : ℕ) (places : List ℕ) → All (λ place. value_at row place ≢ Null) places → All (λ place. value_at (extended n row) place ≢ Null) places
keyed_longer row n [] all = All-nil (λ place. value_at (extended n row) place ≢ Null)
keyed_longer row n (place ∷ places) all =
    All-cons (λ k. value_at (extended n row) k ≢ Null) place places
    (λ none. All-head (λ k. value_at row k ≢ Null) place places all (sym (value_wide row n place) ∙ none))
    (keyed_longer row n places (All-tail (λ k. value_at row k ≢ Null) place places all))

fits_longer : (schema : Shape) (added : List Column) (row : Row) → Fits schema row → Fits (record { columns = schema.columns ++ added; key = schema.key }) (extended (length added) row)
fits_longer schema added row fits = record { kinds = kinds_longer row schema.columns added fits.kinds; keyed = keyed_longer row (length added) schema.key fits.keyed }

rows_longer : (schema : Shape) (added : List Column) (records : List Record) → RowsFit schema records
    → RowsFit (record { columns = schema.columns ++ added; key = schema.key }) (map (longer (length added)) records)
rows_longer schema added [] all = All-nil (Fits (record { columns = schema.columns ++ added; key = schema.key }))
rows_longer schema added (r ∷ records) all =
    All-cons (Fits (record { columns = schema.columns ++ added; key = schema.key })) (extended (length added) r.row) (map (λ x. x.row) (map (longer (length added)) records))
    (fits_longer schema added r.row (All-head (Fits schema) r.row (map (λ x. x.row) records) all))
    (rows_longer schema added records (All-tail (Fits schema) r.row (map (λ x. x.row) records) all))

all_longer : (schema : Shape) (added : List Column) (parents : List (List Record)) → All (RowsFit schema) parents
    → All (RowsFit (record { columns = schema.columns ++ added; key = schema.key })) (map (map (longer (length added))) parents)
all_longer schema added [] all = All-nil (RowsFit (record { columns = schema.columns ++ added; key = schema.key }))
all_longer schema added (records ∷ parents) all =
    All-cons (RowsFit (record { columns = schema.columns ++ added; key = schema.key })) (map (longer (length added)) records) (map (map (longer (length added))) parents)
    (rows_longer schema added records (All-head (RowsFit schema) records parents all))
    (all_longer schema added parents (All-tail (RowsFit schema) records parents all))

pub fit_with : (schema wider : Shape) (added : List Column) (parents : List (List Record)) → wider.key ≡ schema.key → wider.columns ≡ schema.columns ++ added
    → All (RowsFit schema) parents → All (RowsFit wider) (with_added added parents)
fit_with schema wider added parents key columns all =
    let same : record { columns = schema.columns ++ added; key = schema.key } ≡ wider = λ i. record { columns = sym columns i; key = sym key i }
    in subst (λ (s : Shape). All (RowsFit s) (with_added added parents)) same (by added)
  where
    none_longer : (columns : List Column) → columns ++ [] ≡ columns
    none_longer [] = refl
    none_longer (column ∷ columns) = ap (λ cs. column ∷ cs) (none_longer columns)

    by : (more : List Column) → All (RowsFit (record { columns = schema.columns ++ more; key = schema.key })) (with_added more parents)
    by [] = subst (λ (columns : List Column). All (RowsFit (record { columns = columns; key = schema.key })) parents) (sym (none_longer schema.columns)) all
    by (column ∷ more) = all_longer schema (column ∷ more) parents all

-- ---- those of the dataset with the columns

module _ (n : ℕ) where
  stored_longer : (rs all : List Rec) → stored (map (wide_rec n) rs) (map (wide_rec n) all) ≡ map (pair_longer n) (stored rs all)
  stored_longer [] all = refl
  stored_longer (r ∷ rs) all = λ i. (rid_wide n all r i, extended n r.row) ∷ stored_longer rs all i

  parents_stored : (vids : List ℕ) (done : List (List Rec)) (all : List Rec)
      → stored_parents vids (map (map (wide_rec n)) done) (map (wide_rec n) all) ≡ map (map (pair_longer n)) (stored_parents vids done all)
  parents_stored [] done all = refl
  parents_stored (vid ∷ vids) done all =
      λ i. (ap (λ rs. stored rs (map (wide_rec n) all)) (wide_version_recs n done vid) ∙ stored_longer (of_version done vid) all) i ∷ parents_stored vids done all i

pub stored_with : (d : Dataset) (vids : List ℕ) (added : List Column) (parents : List (List Record))
    → lists_of parents ≡ stored_parents vids (recs d.cvd.versions []) (order_of d.cvd.versions)
    → lists_of (with_added added parents) ≡ stored_parents vids (recs (wide added d).cvd.versions []) (order_of (wide added d).cvd.versions)
stored_with d vids [] parents is = is
stored_with d vids (column ∷ added) parents is =
    let n : ℕ = length (column ∷ added)
    in lists_longer n parents ∙ ap (map (map (pair_longer n))) is ∙ sym (parents_stored n vids (recs d.cvd.versions []) (order_of d.cvd.versions))
    ∙ sym (λ i. stored_parents vids (wide_recs n d.cvd.versions [] i) (order_wide n d.cvd.versions i))

-- ---- as many columns as a schema may have

abbrev pub HasRoom : ℕ → List Record → Type 0
HasRoom n records = All (λ r. length r.row + n ≤ 64) records

row_room : (schema : Shape) (n : ℕ) (records : List Record) → length schema.columns + n ≤ 64 → RowsFit schema records → HasRoom n records
row_room schema n [] few all = All-nil (λ r. length r.row + n ≤ 64)
row_room schema n (r ∷ records) few all =
    let fits = All-head (Fits schema) r.row (map (λ x. x.row) records) all
    in All-cons (λ x. length x.row + n ≤ 64) r records (omega (arith, few, length-HasKinds r.row schema.columns fits.kinds))
    (row_room schema n records few (All-tail (Fits schema) r.row (map (λ x. x.row) records) all))

pub all_room : (schema : Shape) (n : ℕ) (parents : List (List Record)) → length schema.columns + n ≤ 64 → All (RowsFit schema) parents → All (HasRoom n) parents
all_room schema n [] few all = All-nil (HasRoom n)
all_room schema n (records ∷ parents) few all =
    All-cons (HasRoom n) records parents (row_room schema n records few (All-head (RowsFit schema) records parents all))
    (all_room schema n parents few (All-tail (RowsFit schema) records parents all))
