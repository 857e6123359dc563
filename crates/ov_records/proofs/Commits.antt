-- Where the parents' lists are those of versions, what a commit gives are the records of the definitions.
use Rattle.std.proofs.Common.{◌≡◌, ◌≤◌, ℕ, suc, ◌+◌, ◌-◌, Bool, true, false, ◌==◌, List, [], ◌∷◌, ◌++◌, length, get_or, map, cond, refl, sym, ◌∙◌, ap, subst, inl, inr, arith}
use Rattle.std.specs.Prelude.{◌||◌, ◌&&◌, if◌then◌else◌}
use Rattle.std.specs.List.{zip, list_any}
use Rattle.std.proofs.lemmas.Bool.{cond-true, cond-false, cases_Bool, eqb-true, eq-eqb}
use Rattle.std.proofs.lemmas.List.Sums.{sum_by-cons}
use Rattle.ov_value.specs.Rows.{key_cmp}
use Rattle.ov_value.specs.Shapes.{Shape}
use Rattle.ov_model.specs.Assigned.{assigned, fresh_rows, stored, stored_parents}
use Rattle.ov_model.specs.Book.{Row, Version}
use Rattle.ov_model.specs.Lists.{IsIn, AreIn, AllAreIn, Rises}
use Rattle.ov_model.specs.Records.{Rec, is_same_row, is_same_rec, is_among, of_version, record_of, records_of, recs, fresh_in, order_of, rid_in, weight, weights}
use Rattle.ov_model.proofs.Assigning.{assigned_is}
use Rattle.ov_model.proofs.Growing.{same_row-refl, same_rec-refl, recs_more, order_of_more, rid_more}
use Rattle.ov_model.proofs.Holds.{same_recs, at_known}
use Rattle.ov_model.proofs.Origins.{all_known, are_more}
use Rattle.ov_model.proofs.Sharing.{fresh_is as fresh_records}
use Rattle.ov_model.proofs.Widening.{same_bool}
use Rattle.ov_records.specs.Records.{has_record, shared}
use Rattle.ov_records.specs.Committed.{AreRecords}

-- ---- a rid is one record's

rid_some : (xs : List Rec) (r : Rec) → 1 ≤ rid_in xs r
rid_some [] r = omega arith
rid_some (x ∷ xs) r = some_if (is_same_rec r x) (rid_in xs r)
  where
    some_if : (t : Bool) (n : ℕ) → 1 ≤ (if t then 1 else n + 1)
    some_if true n = omega arith
    some_if false n = omega arith

in_tail : (x r : Rec) (xs : List Rec) → is_same_rec r x ≡ false → IsIn (x ∷ xs) r → IsIn xs r
in_tail x r xs other (inl same) = absurd (clash (sym (ap (is_same_rec r) (sym same) ∙ same_rec-refl r) ∙ other))
  where
    clash : true ≡ false → ⊥
    clash e = cc
in_tail x r xs other (inr later) = later

-- the record stands where its rid says
at_place : (xs : List Rec) (r d : Rec) → IsIn xs r → get_or xs (rid_in xs r - 1) d ≡ r
at_place [] r d is = absurd is
at_place (x ∷ xs) r d is = elim (cases_Bool (is_same_rec r x)) [
  | inl same ↦ ap (λ n. get_or (x ∷ xs) (n - 1) d) (cond-true (is_same_rec r x) 1 (rid_in xs r + 1) same) ∙ sym (same_recs r x same)
  | inr other ↦
      let some = rid_some xs r
      in let later : rid_in xs r + 1 - 1 ≡ suc (rid_in xs r - 1) = omega arith
      in ap (λ n. get_or (x ∷ xs) (n - 1) d) (cond-false (is_same_rec r x) 1 (rid_in xs r + 1) other)
      ∙ ap (λ n. get_or (x ∷ xs) n d) later
      ∙ at_place xs r d (in_tail x r xs other is)
]

one_record : (xs : List Rec) (r q : Rec) → IsIn xs r → IsIn xs q → rid_in xs r ≡ rid_in xs q → r ≡ q
one_record xs r q is there same = sym (at_place xs r r is) ∙ ap (λ n. get_or xs (n - 1) r) same ∙ at_place xs q r there

-- ---- a parent has a record where it has its rid with its row

and_true : (a b : Bool) → (a && b) ≡ true → a ≡ true
and_true true b e = refl
and_true false b e = cc

both : (a b : Bool) → a ≡ true → b ≡ true → (a && b) ≡ true
both true b e f = f
both false b e f = cc

or_same : (a b c d : Bool) → a ≡ c → b ≡ d → (a || b) ≡ (c || d)
or_same a b c d e f = λ i. e i || f i

module _ (all : List Rec) where
  has_same : (rs : List Rec) (r : Rec) → IsIn all r → AreIn rs all → has_record (stored rs all) (rid_in all r, r.row) ≡ is_among rs r
  has_same [] r is are = refl
  has_same (x ∷ rs) r is are =
      or_same (rid_in all x == rid_in all r && is_same_row r.row x.row) (has_record (stored rs all) (rid_in all r, r.row)) (is_same_rec r x) (is_among rs r)
      (same_bool (rid_in all x == rid_in all r && is_same_row r.row x.row) (is_same_rec r x)
      (λ t.
      ap (is_same_rec r) (one_record all x r are.0 is (eqb-true (rid_in all x) (rid_in all r) (and_true (rid_in all x == rid_in all r) (is_same_row r.row x.row) t)))
      ∙ same_rec-refl r)
      (λ t.
      let same = same_recs r x t
      in both (rid_in all x == rid_in all r) (is_same_row r.row x.row)
      (eq-eqb (rid_in all x) (rid_in all r) (ap (rid_in all) (sym same)))
      (ap (λ q. is_same_row r.row q.row) (sym same) ∙ same_row-refl r.row)))
      (has_same rs r is are.1)

  shared_same : (rs parent : List Rec) → AreIn rs all → AreIn parent all → shared (stored rs all) (stored parent all) ≡ weight rs parent
  shared_same [] parent are known = refl
  shared_same (r ∷ rs) parent are known =
      let has = has_record (stored parent all)
      in sum_by-cons (λ x. cond (has x) 1 0) (rid_in all r, r.row) (stored rs all)
      ∙ (λ i. cond (has_same parent r are.0 known i) 1 0 + shared_same rs parent are.1 known i)
      ∙ sym (sum_by-cons (λ q. cond (list_any (is_same_rec q) parent) 1 0) r rs)

  zip_stored : (rs : List Rec) → zip (map (rid_in all) rs) (map (λ r. r.row) rs) ≡ stored rs all
  zip_stored [] = refl
  zip_stored (r ∷ rs) = ap (λ l. (rid_in all r, r.row) ∷ l) (zip_stored rs)

rows_back : (ps : List ℕ) (done : List (List Rec)) (rows : List Row) → map (λ r. r.row) (map (record_of ps done) rows) ≡ rows
rows_back ps done [] = refl
rows_back ps done (row ∷ rows) = ap (λ l. row ∷ l) (rows_back ps done rows)

-- a parent's rids stay as the version comes
stored_more : (rs all more : List Rec) → AreIn rs all → stored rs (all ++ more) ≡ stored rs all
stored_more [] all more are = refl
stored_more (r ∷ rs) all more are = λ i. (rid_more all more r are.0 i, r.row) ∷ stored_more rs all more are.1 i

last_known : (done : List (List Rec)) (l all : List Rec) → AllAreIn (done ++ l ∷ []) all → AreIn l all
last_known [] l all are = are.0
last_known (x ∷ done) l all are = last_known done l all are.1

all_weights : (done : List (List Rec)) (old more ours : List Rec) → AllAreIn done old → AreIn ours (old ++ more) → (ps : List ℕ)
    → map (shared (stored ours (old ++ more))) (stored_parents ps done old) ≡ map (λ w. w.1) (weights ps ours done)
all_weights done old more ours known own [] = refl
all_weights done old more ours known own (p ∷ ps) =
    let theirs : AreIn (of_version done p) old = at_known done (p - 1) old known
    in let one : shared (stored ours (old ++ more)) (stored (of_version done p) old) ≡ weight ours (of_version done p) =
    ap (shared (stored ours (old ++ more))) (sym (stored_more (of_version done p) old more theirs))
    ∙ shared_same (old ++ more) ours (of_version done p) own (are_more (of_version done p) old more theirs)
    in λ i. one i ∷ all_weights done old more ours known own ps i

-- ---- all three

pub are_records : (schema : Shape) (versions : List Version) (v : Version) (lists : List (List (ℕ × Row))) (next : ℕ) (rids ws : List ℕ) (fresh : ℕ)
    → Rises (key_cmp schema) v.rows
    → lists ≡ stored_parents v.parents (recs versions []) (order_of versions)
    → next ≡ length (order_of versions) + 1
    → rids ≡ assigned v.rows lists next
    → ws ≡ map (shared (zip rids v.rows)) lists
    → fresh ≡ fresh_rows v.rows lists
    → AreRecords versions v rids ws fresh
are_records schema versions v lists next rids ws fresh rises lists_are next_is rids_are ws_are fresh_is =
    let done : List (List Rec) = recs versions []
    in let ours : List Rec = records_of v done
    in let old : List Rec = order_of versions
    in let more : List Rec = fresh_in ours (1 + length done)
    in let all : order_of (versions ++ v ∷ []) ≡ old ++ more = order_of_more versions v
    in let own : AreIn ours (old ++ more) =
    subst (AreIn ours) all
    (last_known done ours (order_of (versions ++ v ∷ [])) (subst (λ rss. AllAreIn rss (order_of (versions ++ v ∷ []))) (recs_more versions v []) (all_known (versions ++ v ∷ []))))
    in let rids_is : rids ≡ map (rid_in (order_of (versions ++ v ∷ []))) ours =
    rids_are ∙ ap (λ l. assigned v.rows l next) lists_are ∙ ap (assigned v.rows (stored_parents v.parents done old)) next_is ∙ assigned_is schema versions v rises
    in let zipped : zip rids v.rows ≡ stored ours (old ++ more) =
    ap (λ l. zip l v.rows) (rids_is ∙ ap (λ l. map (rid_in l) ours) all)
    ∙ ap (zip (map (rid_in (old ++ more)) ours)) (sym (rows_back v.parents done v.rows))
    ∙ zip_stored (old ++ more) ours
    in record {
      rids_are = rids_is;
      weights_are =
          ws_are ∙ ap (λ l. map (shared l) lists) zipped ∙ ap (map (shared (stored ours (old ++ more)))) lists_are
          ∙ all_weights done old more ours (all_known versions) own v.parents;
      fresh_is = fresh_is ∙ ap (fresh_rows v.rows) lists_are ∙ fresh_records versions v;
    }
