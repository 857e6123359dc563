-- The rids that a World's records have are those that can be written.
use Rattle.std.proofs.Common.{◌≡◌, ◌≤◌, ◌+◌, ◌^◌, ℕ, suc, Bool, true, false, List, [], ◌∷◌, ◌++◌, length, map, refl, sym, ◌∙◌, ap, subst, arith}
use Rattle.std.specs.Prelude.{nat_eq, if◌then◌else◌}
use Rattle.std.specs.List.{All, AllByRecursion, IsDistinct}
use Rattle.std.proofs.lemmas.Bool.{ne_eqb}
use Rattle.std.proofs.lemmas.List.{length-map}
use Rattle.std.proofs.lemmas.List.Elements.{All-nil, All-cons}
use Rattle.ov_value.specs.Rows.{key_cmp}
use Rattle.ov_value.specs.Shapes.{Shape}
use Rattle.ov_model.specs.Book.{Row, Version}
use Rattle.ov_model.specs.Lists.{IsIn, AreIn, IsBelow, Rises}
use Rattle.ov_model.specs.Records.{Rec, is_same_rec, is_same_row, recs, record_of, records_of, order_of, rid_in}
use Rattle.ov_model.proofs.Growing.{same_row-refl}
use Rattle.ov_model.proofs.Rids.{not_same}
use Rattle.ov_records.specs.Committed.{AreRecords}
use Rattle.ov_version_bytes.specs.Written.{AreGiven}
use Rattle.ov_version_bytes.proofs.Following.{ours_known, rest_in, rid_own, rid_some}

rid_low : (all : List Rec) (r : Rec) → IsIn all r → rid_in all r ≤ length all
rid_low [] r is = absurd is
rid_low (x ∷ all) r is = at (is_same_rec r x) refl (λ off. rid_low all r (rest_in x r all is off))
  where
    at : (b : Bool) → is_same_rec r x ≡ b → (is_same_rec r x ≡ false → rid_in all r ≤ length all) → (if b then 1 else rid_in all r + 1) ≤ suc (length all)
    at true e later = omega arith
    at false e later = omega (arith, later e)

rids_apart : (schema : Shape) (all : List Rec) (ps : List ℕ) (done : List (List Rec)) (row : Row) (rows : List Row) → IsIn all (record_of ps done row)
    → AreIn (map (record_of ps done) rows) all → IsBelow (key_cmp schema) row rows
    → AllByRecursion (λ n. nat_eq (rid_in all (record_of ps done row)) n ≡ false) (map (rid_in all) (map (record_of ps done) rows))
rids_apart schema all ps done row [] is are below = tt
rids_apart schema all ps done row (next ∷ rows) is are below = (
  ne_eqb (rid_in all (record_of ps done row)) (rid_in all (record_of ps done next)) (λ same.
      let one : row ≡ next = ap (λ r. r.row) (rid_own all (record_of ps done row) (record_of ps done next) is are.0 same)
      in clash (ap (is_same_row next) one ∙ same_row-refl next) (not_same schema row next below.0)),
  rids_apart schema all ps done row rows is are.1 below.1,
)
  where
    clash : {b : Bool} → b ≡ true → b ≡ false → ⊥
    clash t f = cc

rids_once : (schema : Shape) (all : List Rec) (ps : List ℕ) (done : List (List Rec)) (rows : List Row) → AreIn (map (record_of ps done) rows) all → Rises (key_cmp schema) rows
    → IsDistinct nat_eq (map (rid_in all) (map (record_of ps done) rows))
unfolding IsDistinct
rids_once schema all ps done [] are rises = tt
rids_once schema all ps done (row ∷ rows) are rises = (rids_apart schema all ps done row rows are.0 are.1 rises.0, rids_once schema all ps done rows are.1 rises.1)

all_some : (all rs : List Rec) → All (λ rid. 1 ≤ rid) (map (rid_in all) rs)
all_some all [] = All-nil (λ rid. 1 ≤ rid)
all_some all (r ∷ rs) = All-cons (λ rid. 1 ≤ rid) (rid_in all r) (map (rid_in all) rs) (rid_some all r) (all_some all rs)

all_low : (all rs : List Rec) → length all ≤ 2 ^ 31 → AreIn rs all → All (λ rid. rid ≤ 2 ^ 31) (map (rid_in all) rs)
all_low all [] few are = All-nil (λ rid. rid ≤ 2 ^ 31)
all_low all (r ∷ rs) few are =
    All-cons (λ rid. rid ≤ 2 ^ 31) (rid_in all r) (map (rid_in all) rs) (omega (arith, rid_low all r are.0, few)) (all_low all rs few are.1)

pub records_given : (schema : Shape) (versions : List Version) (v : Version) (rids weights : List ℕ) (fresh : ℕ) → Rises (key_cmp schema) v.rows
    → length (order_of (versions ++ v ∷ [])) ≤ 2 ^ 31 → AreRecords versions v rids weights fresh → AreGiven rids v.rows
records_given schema versions v rids weights fresh rises few are =
    let done : List (List Rec) = recs versions []
    in let all : List Rec = order_of (versions ++ v ∷ [])
    in let known : AreIn (records_of v done) all = ours_known versions v
    in record {
      as_many = ap (λ (ns : List ℕ). length ns) are.rids_are ∙ length-map (records_of v done) (rid_in all) ∙ length-map v.rows (record_of v.parents done);
      once = subst (IsDistinct nat_eq) (sym are.rids_are) (rids_once schema all v.parents done v.rows known rises);
      some = subst (All (λ rid. 1 ≤ rid)) (sym are.rids_are) (all_some all (records_of v done));
      low = subst (All (λ rid. rid ≤ 2 ^ 31)) (sym are.rids_are) (all_low all (records_of v done) few known);
    }
