-- The rows of a version in a scan are the version's.
use Rattle.std.proofs.Common.{◌≡◌, ◌≤◌, ◌-◌, ◌==◌, ℕ, zero, suc, cond, List, [], ◌∷◌, map, refl, sym, ◌∙◌, ap, subst, arith}
use Rattle.std.specs.Prelude.{slice_get, Some}
use Rattle.std.specs.List.{All, AllZip}
use Rattle.std.proofs.lemmas.List.Elements.{All-head, All-tail}
use Rattle.std.proofs.lemmas.List.Sorted.{list_any-IsPermutation, sum_by-IsPermutation}
use Rattle.ov_value.specs.Rows.{key_cmp}
use Rattle.ov_value.specs.Shapes.{Shape}
use Rattle.ov_segment.specs.declared.numbered.Record.{Record}
use Rattle.ov_member.specs.Rids.{AreRids, has}
use Rattle.ov_member.proofs.RangeLemmas.{RiseFrom-apart}
use Rattle.ov_fetch.specs.Extents.{IsList, rids_of}
use Rattle.ov_fetch.specs.Rows.{record_of}
use Rattle.ov_fetch.specs.Scans.{row_at, rows_of, rows_at as picked_rows}
use Rattle.law_events.proofs.Counts.{are_at}
use Rattle.ov_model.specs.Assigned.{stored, stored_parents}
use Rattle.ov_model.specs.Lists.{IsIn, IsBelow, Rises, joined}
use Rattle.ov_model.specs.Records.{Rec, recs, of_version, order_of, rid_in, rows_at}
use Rattle.ov_model.specs.World.{Dataset, World}
use Rattle.ov_model.proofs.Holds.{at_known}
use Rattle.ov_model.proofs.Origins.{all_known}
use Rattle.ov_catalog.proofs.Members.{all_at, heads, tails, in_map, of_map, in_sorted, of_sorted, same_rising}
use Rattle.ov_records.specs.Records.{pairs_of}
use Rattle.ov_read.specs.Agreement.{Numbers, IsThere, list_of, segments_of}
use Rattle.ov_read.specs.Found.{IsScanned}
use Rattle.ov_read.specs.OfWorld.{IsSetOf, rids_in}
use Rattle.law_reads.specs.Sights.{record_in, records_in}
use Rattle.law_reads.proofs.Ascending.{count_of, count_once, record_cmp, record_total, rise_picked}
use Rattle.law_reads.proofs.Counted.{numbers}
use Rattle.law_reads.proofs.Founds.{some_is}
use Rattle.law_reads.proofs.Listed as listed
use Rattle.law_reads.proofs.Orders.{place_same}
use Rattle.law_reads.proofs.Parted.{facts}
use Rattle.law_reads.proofs.Rowed.{rows, version_rows, rise_at}
use Rattle.law_reads.proofs.Served.{Serves, serving_at, from_contents, record_there}
use Rattle.law_reads.proofs.Stored.{segments_once}
use Rattle.law_reads.proofs.Together.{in_has, has_in}

-- ---- the records of a version, as they should be found

below_map : (schema : Shape) (all : List Rec) (r : Rec) (rs : List Rec) → IsBelow (key_cmp schema) r.row (rows rs) → IsBelow (record_cmp schema) (record_in all r) (map (record_in all) rs)
below_map schema all r [] below = tt
below_map schema all r (x ∷ rs) below = (below.0, below_map schema all r rs below.1)

rise_map : (schema : Shape) (all rs : List Rec) → Rises (key_cmp schema) (rows rs) → Rises (record_cmp schema) (map (record_in all) rs)
rise_map schema all [] rise = tt
rise_map schema all (r ∷ rs) rise = (below_map schema all r rs rise.0, rise_map schema all rs rise.1)

version_rise : (w : World) (area : List ℕ) (s : Numbers) (d : Dataset) (vid : ℕ) → IsSetOf w d area s
    → Rises (record_cmp s.schema) (map (record_in (order_of d.cvd.versions)) (of_version (recs d.cvd.versions []) vid))
version_rise w area s d vid of_world =
    subst (λ schema. Rises (record_cmp schema) (map (record_in (order_of d.cvd.versions)) (of_version (recs d.cvd.versions []) vid))) (sym (numbers w area s d of_world).schema)
    (rise_map d.cvd.schema (order_of d.cvd.versions) (of_version (recs d.cvd.versions []) vid)
    (subst (Rises (key_cmp d.cvd.schema)) (sym (version_rows d.cvd.versions vid)) (rise_at d.cvd.schema d.cvd.versions vid (facts w area s d of_world).rowed.rows)))

list_rises : (area : List ℕ) (s : Numbers) (vid : ℕ) (rids : List ℕ) → IsList area (list_of s vid) rids → AreRids rids
list_rises area s vid rids list = subst AreRids (sym list.spells.listed) (RiseFrom-apart 0 list.spells.ranges list.spells.apart)

pub found_is : (w : World) (area : List ℕ) (s : Numbers) (d : Dataset) (records : List Record) (vid : ℕ) (pick : List ℕ) → IsSetOf w d area s → IsThere s vid
    → (is : IsScanned area s records vid pick) → is.found ≡ map (record_in (order_of d.cvd.versions)) (of_version (recs d.cvd.versions []) vid)
found_is w area s d records vid pick of_world there is =
    same_rising (record_cmp s.schema) (record_total s.schema) is.found (map (record_in all) rs)
    (rise_picked s.schema (map (record_in all) rs) is.found (version_rise w area s d vid of_world) forth is.picked.ordered once)
    (version_rise w area s d vid of_world) forth back
  where
    all : List Rec
    all = order_of d.cvd.versions

    rs : List Rec
    rs = of_version (recs d.cvd.versions []) vid

    at : Serves area s d vid
    at = serving_at w area s d vid of_world there

    list : is.rids ≡ rids_in d vid
    list = listed.only w area s d vid is.rids of_world there is.list

    same : is.first.contents ≡ map (records_in (order_of d.cvd.versions)) at.pieces
    same = segments_once s.schema area (segments_of s vid) is.first.contents (map (records_in (order_of d.cvd.versions)) at.pieces) is.first.read at.read

    known : (r : Rec) → IsIn rs r → IsIn all r
    known r here = are_at rs all r (at_known (recs d.cvd.versions []) (vid - 1) all (all_known d.cvd.versions)) here

    once : (n : ℕ) → count_of n (rids_of is.found) ≤ 1
    once n = omega (arith, sum_by-IsPermutation (λ (x : ℕ). cond (x == n) 1 0) is.rids (rids_of is.found) is.picked.same, count_once 1 n is.rids (list_rises area s vid is.rids is.list))

    member : (n : ℕ) → has is.rids n ≡ has (rids_of is.found) n
    member n = list_any-IsPermutation (λ x. x == n) is.rids (rids_of is.found) is.picked.same

    -- a rid of the list is that of one of the version's records
    listed_rid : (n : ℕ) → IsIn (rids_of is.found) n → (r : Rec) × (IsIn rs r × (n ≡ rid_in all r))
    listed_rid n here =
        of_map (rid_in all) rs n (of_sorted (λ k. k) (map (rid_in all) rs) n
        (has_in (rids_in d vid) n (ap (λ l. has l n) (sym list) ∙ member n ∙ in_has (rids_of is.found) n here)))

    -- what was found is what a record of the partition stands for
    kept : (x : Record) → IsIn is.found x → (r : Rec) × (IsIn (joined at.pieces) r × (x ≡ record_in all r))
    kept x here =
        from_contents all at.pieces x (subst (λ cs. IsIn (joined cs) x) same
        (record_there (joined is.first.contents) x.rid x (all_at (λ r. record_of (joined is.first.contents) r.rid ≡ Some r) is.found x is.first.first here)))

    forth : (x : Record) → IsIn is.found x → IsIn (map (record_in all) rs) x
    forth x here =
        let it = kept x here
        in let of = listed_rid x.rid (in_map (λ r. r.rid) is.found x here)
        in let one : it.0 ≡ of.0 = place_same all it.0 of.0 (at.known it.0 it.1.0) (known of.0 of.1.0) (sym (ap (λ y. y.rid) it.1.1) ∙ of.1.1)
        in subst (IsIn (map (record_in all) rs)) (sym (it.1.1 ∙ ap (record_in all) one)) (in_map (record_in all) rs of.0 of.1.0)

    back : (x : Record) → IsIn (map (record_in all) rs) x → IsIn is.found x
    back x here =
        let of = of_map (record_in all) rs x here
        in let rid : IsIn (rids_of is.found) (rid_in all of.0) =
        has_in (rids_of is.found) (rid_in all of.0) (sym (member (rid_in all of.0)) ∙ ap (λ l. has l (rid_in all of.0)) list
        ∙ in_has (rids_in d vid) (rid_in all of.0) (in_sorted (λ k. k) (map (rid_in all) rs) (rid_in all of.0) (in_map (rid_in all) rs of.0 of.1.0)))
        in let it = of_map (λ (r : Record). r.rid) is.found (rid_in all of.0) rid
        in let that = of_map (record_in all) rs it.0 (forth it.0 it.1.0)
        in let one : that.0 ≡ of.0 = place_same all that.0 of.0 (known that.0 that.1.0) (known of.0 of.1.0) (sym (ap (λ y. y.rid) that.1.1) ∙ sym it.1.1)
        in subst (IsIn is.found) (that.1.1 ∙ ap (record_in all) one ∙ sym of.1.1) it.1.0

-- ---- what a caller takes of it

some_once : (a b : List Record) → map Some a ≡ map Some b → a ≡ b
some_once [] [] e = refl
some_once [] (y ∷ b) e = cc
some_once (x ∷ a) [] e = cc
some_once (x ∷ a) (y ∷ b) e =
    let first : x ≡ y = some_is x y (heads (Some x) (Some y) (map Some a) (map Some b) e)
    in let rest : a ≡ b = some_once a b (tails (Some x) (Some y) (map Some a) (map Some b) e)
    in λ i. first i ∷ rest i

pairs_in : (all rs : List Rec) → pairs_of (map (record_in all) rs) ≡ stored rs all
pairs_in all [] = refl
pairs_in all (r ∷ rs) = ap (λ l. (rid_in all r, r.row) ∷ l) (pairs_in all rs)

rows_in : (all rs : List Rec) → rows_of (map (record_in all) rs) ≡ rows rs
rows_in all [] = refl
rows_in all (r ∷ rs) = ap (λ l. r.row ∷ l) (rows_in all rs)

row_is : (records : List Record) (place : ℕ) (r : Record) → slice_get records place ≡ Some r → row_at records place ≡ r.row
row_is [] place r e = cc
row_is (x ∷ records) zero r e = ap (λ (y : Record). y.row) (some_is x r e)
row_is (x ∷ records) (suc place) r e = row_is records place r e

rows_are : (records : List Record) (pick : List ℕ) (found : List Record) → map (slice_get records) pick ≡ map Some found → picked_rows records pick ≡ rows_of found
rows_are records [] [] e = refl
rows_are records [] (r ∷ found) e = cc
rows_are records (p ∷ pick) [] e = cc
rows_are records (p ∷ pick) (r ∷ found) e =
    let first : row_at records p ≡ r.row = row_is records p r (heads (slice_get records p) (Some r) (map (slice_get records) pick) (map Some found) e)
    in let rest : picked_rows records pick ≡ rows_of found = rows_are records pick found (tails (slice_get records p) (Some r) (map (slice_get records) pick) (map Some found) e)
    in λ i. first i ∷ rest i

pub is_stored : (w : World) (area : List ℕ) (s : Numbers) (d : Dataset) (records : List Record) (vid : ℕ) (pick : List ℕ) (found : List Record) → IsSetOf w d area s → IsThere s vid
    → IsScanned area s records vid pick → map (slice_get records) pick ≡ map Some found → pairs_of found ≡ stored (of_version (recs d.cvd.versions []) vid) (order_of d.cvd.versions)
is_stored w area s d records vid pick found of_world there is picked =
    ap pairs_of (some_once found is.found (sym picked ∙ is.picked.at) ∙ found_is w area s d records vid pick of_world there is)
    ∙ pairs_in (order_of d.cvd.versions) (of_version (recs d.cvd.versions []) vid)

pub are_parents : (w : World) (area : List ℕ) (s : Numbers) (d : Dataset) (records : List Record) (vids : List ℕ) (picks : List (List ℕ)) (founds : List (List Record)) → IsSetOf w d area s
    → All (IsThere s) vids → AllZip (IsScanned area s records) vids picks → map (λ pick. map (slice_get records) pick) picks ≡ map (λ found. map Some found) founds
    → map pairs_of founds ≡ stored_parents vids (recs d.cvd.versions []) (order_of d.cvd.versions)
are_parents w area s d records [] [] [] of_world there are picked = refl
are_parents w area s d records [] [] (f ∷ founds) of_world there are picked = cc
are_parents w area s d records [] (p ∷ picks) founds of_world there are picked = absurd are
are_parents w area s d records (v ∷ vids) [] founds of_world there are picked = absurd are
are_parents w area s d records (v ∷ vids) (p ∷ picks) [] of_world there are picked = cc
are_parents w area s d records (v ∷ vids) (p ∷ picks) (f ∷ founds) of_world there are picked =
    let first : pairs_of f ≡ stored (of_version (recs d.cvd.versions []) v) (order_of d.cvd.versions) =
    is_stored w area s d records v p f of_world (All-head (IsThere s) v vids there) are.0 (heads _ _ _ _ picked)
    in let rest : map pairs_of founds ≡ stored_parents vids (recs d.cvd.versions []) (order_of d.cvd.versions) =
    are_parents w area s d records vids picks founds of_world (All-tail (IsThere s) v vids there) are.1 (tails _ _ _ _ picked)
    in λ i. first i ∷ rest i

pub has_rows : (w : World) (area : List ℕ) (s : Numbers) (d : Dataset) (records : List Record) (vid : ℕ) (pick : List ℕ) → IsSetOf w d area s → IsThere s vid
    → IsScanned area s records vid pick → picked_rows records pick ≡ rows_at d.cvd.versions vid
has_rows w area s d records vid pick of_world there is =
    rows_are records pick is.found is.picked.at
    ∙ ap rows_of (found_is w area s d records vid pick of_world there is)
    ∙ rows_in (order_of d.cvd.versions) (of_version (recs d.cvd.versions []) vid)
    ∙ version_rows d.cvd.versions vid

pub have_rows : (w : World) (area : List ℕ) (s : Numbers) (d : Dataset) (records : List Record) (vids : List ℕ) (picks : List (List ℕ)) → IsSetOf w d area s
    → All (IsThere s) vids → AllZip (IsScanned area s records) vids picks → map (picked_rows records) picks ≡ map (rows_at d.cvd.versions) vids
have_rows w area s d records [] [] of_world there are = refl
have_rows w area s d records [] (p ∷ picks) of_world there are = absurd are
have_rows w area s d records (v ∷ vids) [] of_world there are = absurd are
have_rows w area s d records (v ∷ vids) (p ∷ picks) of_world there are =
    let first : picked_rows records p ≡ rows_at d.cvd.versions v = has_rows w area s d records v p of_world (All-head (IsThere s) v vids there) are.0
    in let rest : map (picked_rows records) picks ≡ map (rows_at d.cvd.versions) vids = have_rows w area s d records vids picks of_world (All-tail (IsThere s) v vids there) are.1
    in λ i. first i ∷ rest i
