-- The rids of a version's records: as many as its rows, each once, from 1 to the number of the dataset's records.
use Rattle.std.proofs.Common.{◌≡◌, ◌≤◌, ℕ, zero, suc, ◌+◌, ◌-◌, Bool, true, false, ◌==◌, List, [], ◌∷◌, ◌++◌, length, get_or, map, refl, sym, ◌∙◌, ap, subst, inl, inr, arith, append_assoc}
use Rattle.std.specs.Prelude.{if◌then◌else◌}
use Rattle.std.proofs.Math.ListN.{get_or-map as get_or-mapped}
use Rattle.std.proofs.lemmas.Bool.{eqb-true}
use Rattle.std.proofs.lemmas.List.{append-nil, map-append, length-map}
use Rattle.ov_value.specs.Rows.{key_cmp}
use Rattle.ov_value.specs.Shapes.{Shape}
use Rattle.ov_segment.specs.declared.numbered.Record.{Record}
use Rattle.ov_model.specs.Assigned.{stored, stored_parents}
use Rattle.ov_model.specs.Book.{Row, Version}
use Rattle.ov_model.specs.Lists.{IsIn, AreIn, Rises}
use Rattle.ov_model.specs.Placed.{times}
use Rattle.ov_model.specs.Records.{Rec, is_same_row, is_same_rec, record_of, records_of, of_version, recs, order_of, rid_in, rows_at, AllRise}
use Rattle.ov_model.specs.World.{Dataset}
use Rattle.ov_model.proofs.Counting.{one_if}
use Rattle.ov_model.proofs.Growing.{same_row-refl}
use Rattle.ov_model.proofs.Holds.{at_known}
use Rattle.ov_model.proofs.Origins.{all_known}
use Rattle.ov_model.proofs.Rids.{not_same}
use Rattle.ov_records.specs.Records.{pairs_of, lists_of}
use Rattle.ov_catalog.specs.Applying.{rows_at as numbers_at}
use Rattle.ov_catalog.specs.Numbers.{VersionNumbers}
use Rattle.ov_catalog.specs.Shown.{Rids, shown_versions, shown_set}
use Rattle.ov_catalog.proofs.Members.{heads, tails}
use Rattle.law_commits.specs.Differing.{rids_of}
use Rattle.law_commits.specs.Agreeing.{AreRids, EachAgrees, ParentsAgree}
use Rattle.law_commits.proofs.Rids.{below_at}
use Rattle.law_commits.proofs.Same.{rid_some, in_tail, one_record, are_at, versions_agree}
use Rattle.law_commits.proofs.Times.{times_in}

abbrev rows_of : List Rec → List Row
rows_of rs = map (λ r. r.row) rs

-- ---- a version's records have its rows

rows_back : (ps : List ℕ) (done : List (List Rec)) (rows : List Row) → rows_of (map (record_of ps done) rows) ≡ rows
rows_back ps done [] = refl
rows_back ps done (row ∷ rows) = ap (λ l. row ∷ l) (rows_back ps done rows)

all_rows : (vs : List Version) (done : List (List Rec)) → map rows_of (recs vs done) ≡ map rows_of done ++ map (λ v. v.rows) vs
all_rows [] done = sym (append-nil (map rows_of done))
all_rows (v ∷ vs) done =
    all_rows vs (done ++ records_of v done ∷ [])
    ∙ ap (λ l. l ++ map (λ x. x.rows) vs) (map-append rows_of done (records_of v done ∷ []))
    ∙ ap (λ rows. (map rows_of done ++ rows ∷ []) ++ map (λ x. x.rows) vs) (rows_back v.parents done v.rows)
    ∙ append_assoc (map rows_of done) (v.rows ∷ []) (map (λ x. x.rows) vs)

version_rows : (vs : List Version) (vid : ℕ) → rows_of (of_version (recs vs []) vid) ≡ rows_at vs vid
version_rows vs vid = sym (get_or-mapped rows_of (recs vs []) (vid - 1) []) ∙ ap (λ ls. get_or ls (vid - 1) []) (all_rows vs [])

rise_at : (schema : Shape) (vs : List Version) (k : ℕ) → AllRise schema vs → Rises (key_cmp schema) (get_or (map (λ v. v.rows) vs) k [])
rise_at schema [] k rise = tt
rise_at schema (v ∷ vs) zero rise = rise.0
rise_at schema (v ∷ vs) (suc k) rise = rise_at schema vs k rise.1

-- ---- their rids

abbrev rids_in : List Rec → List Rec → List ℕ
rids_in rs all = map (λ p. p.0) (stored rs all)

of_rids : (rs all : List Rec) (n : ℕ) → IsIn (rids_in rs all) n → (r : Rec) × (IsIn rs r × (n ≡ rid_in all r))
of_rids [] all n is = absurd is
of_rids (r ∷ rs) all n (inl same) = (r, (inl refl, same))
of_rids (r ∷ rs) all n (inr later) = let found : (q : Rec) × (IsIn rs q × (n ≡ rid_in all q)) = of_rids rs all n later in (found.0, (inr found.1.0, found.1.1))

row_in : (rs : List Rec) (r : Rec) → IsIn rs r → IsIn (rows_of rs) r.row
row_in [] r is = absurd is
row_in (x ∷ rs) r (inl same) = inl (ap (λ q. q.row) same)
row_in (x ∷ rs) r (inr later) = inr (row_in rs r later)

rid_most : (xs : List Rec) (r : Rec) → IsIn xs r → rid_in xs r ≤ length xs
rid_most [] r is = absurd is
rid_most (x ∷ xs) r is = by (is_same_rec r x) refl (λ later. rid_most xs r later)
  where
    by : (t : Bool) → is_same_rec r x ≡ t → (IsIn xs r → rid_in xs r ≤ length xs) → (if t then 1 else rid_in xs r + 1) ≤ length (x ∷ xs)
    by true same rest = omega arith
    by false other rest = omega (arith, rest (in_tail x r xs other is))

once : (schema : Shape) (all rs : List Rec) → AreIn rs all → Rises (key_cmp schema) (rows_of rs) → (n : ℕ) → times (rids_in rs all) n ≤ 1
once schema all [] are rise n = omega arith
once schema all (r ∷ rs) are rise n = by (rid_in all r == n) (eqb-true (rid_in all r) n) (once schema all rs are.1 rise.1 n)
  where
    clash : (b : Bool) → b ≡ true → b ≡ false → ⊥
    clash true e f = cc
    clash false e f = cc

    none_later : (k : ℕ) → times (rids_in rs all) (rid_in all r) ≡ k → times (rids_in rs all) (rid_in all r) ≡ 0
    none_later zero e = e
    none_later (suc k) e =
        let found : (q : Rec) × (IsIn rs q × (rid_in all r ≡ rid_in all q)) = of_rids rs all (rid_in all r) (times_in (rids_in rs all) (rid_in all r) (omega (arith, e)))
        in let q : Rec = found.0
        in let one : r ≡ q = one_record all r q are.0 (are_at rs all q are.1 found.1.0) found.1.1
        in absurd (clash (is_same_row q.row r.row) (ap (λ x. is_same_row q.row x.row) one ∙ same_row-refl q.row)
        (not_same schema r.row q.row (below_at schema r.row (rows_of rs) q.row rise.0 (row_in rs q found.1.0))))

    by : (t : Bool) → (t ≡ true → rid_in all r ≡ n) → times (rids_in rs all) n ≤ 1 → one_if t + times (rids_in rs all) n ≤ 1
    by true same rest = omega (arith, ap (times (rids_in rs all)) (same refl), none_later (times (rids_in rs all) (rid_in all r)) refl)
    by false same rest = omega (arith, rest)

pub listed_once : (schema : Shape) (vs : List Version) (vid : ℕ) → AllRise schema vs → AreRids (length (rows_at vs vid)) (length (order_of vs)) (rids_in (of_version (recs vs []) vid) (order_of vs))
listed_once schema vs vid rise =
    let all : List Rec = order_of vs
    in let rs : List Rec = of_version (recs vs []) vid
    in let known : AreIn rs all = at_known (recs vs []) (vid - 1) all (all_known vs)
    in record {
      all = omega (
        arith,
        length-map (stored rs all) (λ p. p.0),
        length-map {B = ℕ × Row} rs (λ r. (rid_in all r, r.row)),
        length-map rs (λ r. r.row),
        ap (λ (rows : List Row). length rows) (version_rows vs vid),
      );
      once = once schema all rs known (subst (Rises (key_cmp schema)) (sym (version_rows vs vid)) (rise_at schema vs (vid - 1) rise));
      from_one = λ n is. let found : (r : Rec) × (IsIn rs r × (n ≡ rid_in all r)) = of_rids rs all n is in omega (arith, rid_some all found.0, found.1.1);
      there = λ n is.
          let found : (r : Rec) × (IsIn rs r × (n ≡ rid_in all r)) = of_rids rs all n is
          in omega (arith, rid_most all found.0 (are_at rs all found.0 known found.1.0), found.1.1);
    }

-- ---- in a World

shown_rows : (all : List Rec) (done : List (List Rec)) (vs : List Version) → map (λ (v : VersionNumbers Rids). v.rows) (shown_versions all done vs) ≡ map (λ (rows : List Row). length rows) (map (λ (v : Version). v.rows) vs)
shown_rows all done [] = refl
shown_rows all done (v ∷ vs) = ap (λ ns. length v.rows ∷ ns) (shown_rows all (done ++ records_of v done ∷ []) vs)

rows_shown : (all : List Rec) (vs : List Version) (vid : ℕ) → numbers_at (shown_versions all [] vs) vid ≡ length (rows_at vs vid)
rows_shown all vs vid = ap (λ ns. get_or ns (vid - 1) 0) (shown_rows all [] vs) ∙ get_or-mapped (λ (rows : List Row). length rows) (map (λ (v : Version). v.rows) vs) (vid - 1) []

pairs_rids : (records : List Record) → map (λ p. p.0) (pairs_of records) ≡ rids_of records
pairs_rids [] = refl
pairs_rids (r ∷ records) = ap (λ rids. r.rid ∷ rids) (pairs_rids records)

module _ (d : Dataset) (rise : AllRise d.cvd.schema d.cvd.versions) where
  one_agrees : (vid : ℕ) (records : List Record) → pairs_of records ≡ stored (of_version (recs d.cvd.versions []) vid) (order_of d.cvd.versions)
      → AreRids (numbers_at (shown_set d).versions vid) (shown_set d).records (rids_of records)
  one_agrees vid records are =
      subst (λ rids. AreRids (numbers_at (shown_set d).versions vid) (shown_set d).records rids) (sym (ap (map (λ p. p.0)) are) ∙ pairs_rids records)
      (subst (λ count. AreRids count (length (order_of d.cvd.versions)) (rids_in (of_version (recs d.cvd.versions []) vid) (order_of d.cvd.versions)))
      (sym (rows_shown (order_of d.cvd.versions) d.cvd.versions vid)) (listed_once d.cvd.schema d.cvd.versions vid rise))

  each_agrees : (vids : List ℕ) (parents : List (List Record)) → lists_of parents ≡ stored_parents vids (recs d.cvd.versions []) (order_of d.cvd.versions) → EachAgrees (shown_set d) vids parents
  each_agrees [] [] are = tt
  each_agrees [] (records ∷ parents) are = cc
  each_agrees (vid ∷ vids) [] are = cc
  each_agrees (vid ∷ vids) (records ∷ parents) are =
      let ours : List (ℕ × Row) = stored (of_version (recs d.cvd.versions []) vid) (order_of d.cvd.versions)
      in let others : List (List (ℕ × Row)) = stored_parents vids (recs d.cvd.versions []) (order_of d.cvd.versions)
      in (one_agrees vid records (heads (pairs_of records) ours (lists_of parents) others are), each_agrees vids parents (tails (pairs_of records) ours (lists_of parents) others are))

  pub world_agrees : (vids : List ℕ) (parents : List (List Record)) → lists_of parents ≡ stored_parents vids (recs d.cvd.versions []) (order_of d.cvd.versions) → ParentsAgree (shown_set d) vids parents
  world_agrees vids parents are = record { each = each_agrees vids parents are; none_differ = versions_agree d.cvd.versions vids parents are }
