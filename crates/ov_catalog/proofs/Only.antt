-- Two Worlds that are told by their numbers and show the same are the same. The rows of a version are found by its list, whose rids the
-- segments give rows; parents and messages are shown as they are. So the versions are the same, with them all records, then the
-- pieces, which have their records in the order of rids, and the plans.
use Rattle.std.proofs.Common.{◌≡◌, ◌≤◌, ◌<◌, ◌⊎◌, ℕ, zero, suc, ◌+◌, ◌-◌, Bool, true, false, ◌==◌, List, [], ◌∷◌, ◌++◌, length, map, get_or, refl, sym, ◌∙◌, ap, subst, inl, inr, arith}
use Rattle.std.specs.Prelude.{◌||◌, filter, if◌then◌else◌, Option, Some, None, unwrap_or}
use Rattle.std.specs.List.{All}
use Rattle.std.proofs.lemmas.Bool.{cases_Bool, eqb-true}
use Rattle.ov_value.specs.declared.spelled.RowBytes.{RowBytes}
use Rattle.ov_value.specs.Order.{key_cmp_total}
use Rattle.ov_value.specs.Rows.{key_cmp}
use Rattle.ov_value.specs.Shapes.{Shape}
use Rattle.ov_value.specs.Spelling.{IsRow}
use Rattle.ov_value.proofs.MarkLemmas.{rows_same}
use Rattle.ov_model.specs.Book.{Row, Version}
use Rattle.ov_model.specs.Holding.{VersionsAreIn, PartsHold, IsHeld, AreHeld}
use Rattle.ov_model.specs.Lists.{IsIn, AreIn, AllAreIn, joined}
use Rattle.ov_model.specs.Ordered.{IsInOrder, AreInOrder, PartsAreInOrder, CopiesAreInOrder, HasOrder, HaveOrder}
use Rattle.ov_model.specs.Placed.{IsPlaced, ArePlaced, part_times}
use Rattle.ov_model.specs.Records.{Rec, is_among, record_of, records_of, recs, of_version, fresh_in, order, order_of, rid_in, weights}
use Rattle.ov_model.specs.World.{Part, Target, Plan, Dataset, World, held, is_one}
use Rattle.ov_model.proofs.Counting.{not_listed}
use Rattle.ov_model.proofs.Growing.{length_recs}
use Rattle.ov_model.proofs.Holds.{among_in, in_among}
use Rattle.ov_model.proofs.Ordering.{filter_same}
use Rattle.ov_model.proofs.Widening.{same_bool}
use Rattle.ov_catalog.specs.Numbers.{VersionNumbers, PartNumbers}
use Rattle.ov_catalog.specs.Shown.{Rids, Records, list_of, kept_as, segment_of, shown_version, shown_versions, shown_part, shown_target, shown_plan, shown_set, shown}
use Rattle.ov_catalog.specs.Told.{HaveRows, IsRowed, AreRowed, IsTold}
use Rattle.ov_catalog.proofs.Members.{all_at, left_in, right_in, of_append, in_map, of_map, in_sorted, of_sorted, same_rising, heads, tails}
use Rattle.ov_catalog.proofs.Ranking.{place_same, are_in_at, order_known}
use Rattle.ov_catalog.proofs.Showing.{PiecesAreIn, before_in, done_in}

-- ---- what partitions hold, and what their segments have

abbrev held_all : List Part → List Rec
held_all [] = []
held_all (part ∷ parts) = held part ++ held_all parts

abbrev kept_all : List (PartNumbers Records) → List (ℕ × RowBytes)
kept_all [] = []
kept_all (part ∷ parts) = joined part.segments ++ kept_all parts

to_pieces : (all : List Rec) (pieces : List (List Rec)) (r : Rec) → IsIn (joined pieces) r → IsIn (joined (map (segment_of all) pieces)) (kept_as all r)
to_pieces all [] r is = absurd is
to_pieces all (piece ∷ pieces) r is = by (of_append piece (joined pieces) r is) (to_pieces all pieces r)
  where
    by : IsIn piece r ⊎ IsIn (joined pieces) r → (IsIn (joined pieces) r → IsIn (joined (map (segment_of all) pieces)) (kept_as all r)) → IsIn (joined (map (segment_of all) (piece ∷ pieces))) (kept_as all r)
    by (inl here) rest =
        left_in (segment_of all piece) (joined (map (segment_of all) pieces)) (kept_as all r) (in_sorted (λ k. k.0) (map (kept_as all) piece) (kept_as all r) (in_map (kept_as all) piece r here))
    by (inr later) rest = right_in (segment_of all piece) (joined (map (segment_of all) pieces)) (kept_as all r) (rest later)

-- it is what some record of these is kept as
abbrev IsKeptOf : List Rec → List Rec → ℕ × RowBytes → Type 0
IsKeptOf all rs k = (r : Rec) × (IsIn rs r × (k ≡ kept_as all r))

kept_left : (all a b : List Rec) (k : ℕ × RowBytes) → IsKeptOf all a k → IsKeptOf all (a ++ b) k
kept_left all a b k is = (is.0, (left_in a b is.0 is.1.0, is.1.1))

kept_right : (all a b : List Rec) (k : ℕ × RowBytes) → IsKeptOf all b k → IsKeptOf all (a ++ b) k
kept_right all a b k is = (is.0, (right_in a b is.0 is.1.0, is.1.1))

from_pieces : (all : List Rec) (pieces : List (List Rec)) (k : ℕ × RowBytes) → IsIn (joined (map (segment_of all) pieces)) k → IsKeptOf all (joined pieces) k
from_pieces all [] k is = absurd is
from_pieces all (piece ∷ pieces) k is = by (of_append (segment_of all piece) (joined (map (segment_of all) pieces)) k is) (from_pieces all pieces k)
  where
    by : IsIn (segment_of all piece) k ⊎ IsIn (joined (map (segment_of all) pieces)) k → (IsIn (joined (map (segment_of all) pieces)) k → IsKeptOf all (joined pieces) k) → IsKeptOf all (piece ++ joined pieces) k
    by (inl here) rest = kept_left all piece (joined pieces) k (of_map (kept_as all) piece k (of_sorted (λ x. x.0) (map (kept_as all) piece) k here))
    by (inr later) rest = kept_right all piece (joined pieces) k (rest later)

to_kept : (all : List Rec) (parts : List Part) (r : Rec) → IsIn (held_all parts) r → IsIn (kept_all (map (shown_part all) parts)) (kept_as all r)
to_kept all [] r is = absurd is
to_kept all (part ∷ parts) r is = by (of_append (held part) (held_all parts) r is) (to_kept all parts r)
  where
    by : IsIn (held part) r ⊎ IsIn (held_all parts) r → (IsIn (held_all parts) r → IsIn (kept_all (map (shown_part all) parts)) (kept_as all r)) → IsIn (kept_all (map (shown_part all) (part ∷ parts))) (kept_as all r)
    by (inl here) rest = left_in (joined (map (segment_of all) part.pieces)) (kept_all (map (shown_part all) parts)) (kept_as all r) (to_pieces all part.pieces r here)
    by (inr later) rest = right_in (joined (map (segment_of all) part.pieces)) (kept_all (map (shown_part all) parts)) (kept_as all r) (rest later)

from_kept : (all : List Rec) (parts : List Part) (k : ℕ × RowBytes) → IsIn (kept_all (map (shown_part all) parts)) k → IsKeptOf all (held_all parts) k
from_kept all [] k is = absurd is
from_kept all (part ∷ parts) k is = by (of_append (joined (map (segment_of all) part.pieces)) (kept_all (map (shown_part all) parts)) k is) (from_kept all parts k)
  where
    by : IsIn (joined (map (segment_of all) part.pieces)) k ⊎ IsIn (kept_all (map (shown_part all) parts)) k → (IsIn (kept_all (map (shown_part all) parts)) k → IsKeptOf all (held_all parts) k)
        → IsKeptOf all (held part ++ held_all parts) k
    by (inl here) rest = kept_left all (held part) (held_all parts) k (from_pieces all part.pieces k here)
    by (inr later) rest = kept_right all (held part) (held_all parts) k (rest later)

-- ---- the versions are the same

-- each record that is held on one side is found on the other, by its rid and the bytes of its row
record Finds (schema : Shape) (all other held_here held_there : List Rec) : Type 0 where
  known : (r : Rec) → IsIn held_there r → IsIn other r
  rows : (r : Rec) → IsIn held_here r → IsRow schema r.row
  rows_there : (r : Rec) → IsIn held_there r → IsRow schema r.row
  found : (r : Rec) → IsIn held_here r → IsKeptOf other held_there (kept_as all r)

row_there : (schema : Shape) (all other ours theirs : List Rec) → Finds schema all other ours theirs → (rs qs : List Rec) → AreIn rs ours → AreIn qs theirs
    → list_of all rs ≡ list_of other qs → (r : Rec) → IsIn rs r → (q : Rec) × (IsIn qs q × (q.row ≡ r.row))
row_there schema all other ours theirs finds rs qs here there same r is =
    let it = finds.found r (are_in_at rs ours r here is)
    in let row : r.row ≡ it.0.row =
    rows_same schema r.row it.0.row (finds.rows r (are_in_at rs ours r here is)) (finds.rows_there it.0 it.1.0) (ap (λ k. k.1) it.1.1)
    in let listed : IsIn (list_of other qs) (rid_in all r) =
    subst (λ rids. IsIn rids (rid_in all r)) same (in_sorted (λ n. n) (map (rid_in all) rs) (rid_in all r) (in_map (rid_in all) rs r is))
    in let that = of_map (rid_in other) qs (rid_in all r) (of_sorted (λ n. n) (map (rid_in other) qs) (rid_in all r) listed)
    in let one : that.0 ≡ it.0 =
    place_same other that.0 it.0 (finds.known that.0 (are_in_at qs theirs that.0 there that.1.0)) (finds.known it.0 it.1.0)
    (sym that.1.1 ∙ ap (λ k. k.0) it.1.1)
    in (that.0, (that.1.0, ap (λ x. x.row) one ∙ sym row))

member_rows : (schema : Shape) (all other ours theirs : List Rec) → Finds schema all other ours theirs → (ps qs : List ℕ) (done also : List (List Rec)) (rows others : List Row)
    → AreIn (map (record_of ps done) rows) ours → AreIn (map (record_of qs also) others) theirs
    → list_of all (map (record_of ps done) rows) ≡ list_of other (map (record_of qs also) others) → (row : Row) → IsIn rows row → IsIn others row
member_rows schema all other ours theirs finds ps qs done also rows others here there same row is =
    let it = row_there schema all other ours theirs finds (map (record_of ps done) rows) (map (record_of qs also) others) here there same
    (record_of ps done row) (in_map (record_of ps done) rows row is)
    in let of = of_map (record_of qs also) others it.0 it.1.0
    in let same_row : of.0 ≡ row = ap (λ x. x.row) (sym of.1.1) ∙ it.1.1
    in subst (IsIn others) same_row of.1.0

next_in : (v : Version) (vs : List Version) (done : List (List Rec)) (all : List Rec) → AllAreIn (recs (v ∷ vs) done) all → AreIn (records_of v done) all
next_in v vs done all are = (before_in done (records_of v done) all (done_in vs (done ++ records_of v done ∷ []) all are)).1

weights_parents : (ps : List ℕ) (rs : List Rec) (done : List (List Rec)) → map (λ p. p.0) (weights ps rs done) ≡ ps
weights_parents [] rs done = refl
weights_parents (p ∷ ps) rs done = ap (λ qs. p ∷ qs) (weights_parents ps rs done)

versions_equal : (schema : Shape) (all other ours theirs : List Rec) → Finds schema all other ours theirs → Finds schema other all theirs ours → (done also : List (List Rec)) (vs us : List Version)
    → HaveRows schema vs → HaveRows schema us → AllAreIn (recs vs done) ours → AllAreIn (recs us also) theirs → shown_versions all done vs ≡ shown_versions other also us → vs ≡ us
versions_equal schema all other ours theirs forth back done also [] [] rows others here there same = refl
versions_equal schema all other ours theirs forth back done also [] (u ∷ us) rows others here there same = cc
versions_equal schema all other ours theirs forth back done also (v ∷ vs) [] rows others here there same = cc
versions_equal schema all other ours theirs forth back done also (v ∷ vs) (u ∷ us) rows others here there same =
    let rest_here : List (VersionNumbers Rids) = shown_versions all (done ++ records_of v done ∷ []) vs
    in let rest_there : List (VersionNumbers Rids) = shown_versions other (also ++ records_of u also ∷ []) us
    in let first : shown_version all done v ≡ shown_version other also u = heads (shown_version all done v) (shown_version other also u) rest_here rest_there same
    in let lists : list_of all (records_of v done) ≡ list_of other (records_of u also) = ap (λ n. n.list) first
    in let parents : v.parents ≡ u.parents =
    sym (weights_parents v.parents (records_of v done) done) ∙ ap (λ n. map (λ p. p.0) n.parents) first ∙ weights_parents u.parents (records_of u also) also
    in let ours_in : AreIn (records_of v done) ours = next_in v vs done ours here
    in let theirs_in : AreIn (records_of u also) theirs = next_in u us also theirs there
    in let same_rows : v.rows ≡ u.rows =
    same_rising (key_cmp schema) (key_cmp_total schema) v.rows u.rows rows.0.0 others.0.0
    (member_rows schema all other ours theirs forth v.parents u.parents done also v.rows u.rows ours_in theirs_in lists)
    (member_rows schema other all theirs ours back u.parents v.parents also done u.rows v.rows theirs_in ours_in (sym lists))
    in let later : vs ≡ us =
    versions_equal schema all other ours theirs forth back (done ++ records_of v done ∷ []) (also ++ records_of u also ∷ []) vs us rows.1 others.1 here there
    (tails (shown_version all done v) (shown_version other also u) rest_here rest_there same)
    in λ i. record { parents = parents i; message = ap (λ n. n.message) first i; rows = same_rows i } ∷ later i

-- ---- and the pieces

member_recs : (all p q : List Rec) → AreIn p all → AreIn q all → segment_of all p ≡ segment_of all q → (r : Rec) → IsIn p r → IsIn q r
member_recs all p q here there same r is =
    let listed : IsIn (segment_of all q) (kept_as all r) =
    subst (λ s. IsIn s (kept_as all r)) same (in_sorted (λ k. k.0) (map (kept_as all) p) (kept_as all r) (in_map (kept_as all) p r is))
    in let that = of_map (kept_as all) q (kept_as all r) (of_sorted (λ k. k.0) (map (kept_as all) q) (kept_as all r) listed)
    in let one : that.0 ≡ r =
    place_same all that.0 r (are_in_at q all that.0 there that.1.0) (are_in_at p all r here is) (sym (ap (λ k. k.0) that.1.1))
    in subst (IsIn q) one that.1.0

-- two pieces in the order of rids that have the same segment
piece_equal : (all p q : List Rec) → AreIn p all → AreIn q all → IsInOrder all p → IsInOrder all q → segment_of all p ≡ segment_of all q → p ≡ q
piece_equal all p q here there order other same = order ∙ filter_same (is_among p) (is_among q) all (λ r is. among r) ∙ sym other
  where
    among : (r : Rec) → is_among p r ≡ is_among q r
    among r =
        same_bool (is_among p r) (is_among q r)
        (λ e. in_among q r (member_recs all p q here there same r (among_in p r e)))
        (λ e. in_among p r (member_recs all q p there here (sym same) r (among_in q r e)))

pieces_equal : (all : List Rec) (ps qs : List (List Rec)) → AllAreIn ps all → AllAreIn qs all → AreInOrder all ps → AreInOrder all qs
    → map (segment_of all) ps ≡ map (segment_of all) qs → ps ≡ qs
pieces_equal all [] [] here there order other same = refl
pieces_equal all [] (q ∷ qs) here there order other same = cc
pieces_equal all (p ∷ ps) [] here there order other same = cc
pieces_equal all (p ∷ ps) (q ∷ qs) here there order other same =
    let first : segment_of all p ≡ segment_of all q = heads (segment_of all p) (segment_of all q) (map (segment_of all) ps) (map (segment_of all) qs) same
    in let one : p ≡ q = piece_equal all p q here.0 there.0 order.0 other.0 first
    in let later : ps ≡ qs = pieces_equal all ps qs here.1 there.1 order.1 other.1 (tails (segment_of all p) (segment_of all q) (map (segment_of all) ps) (map (segment_of all) qs) same)
    in λ i. one i ∷ later i

parts_equal : (all : List Rec) (ps qs : List Part) → PiecesAreIn all ps → PiecesAreIn all qs → PartsAreInOrder all ps → PartsAreInOrder all qs
    → map (shown_part all) ps ≡ map (shown_part all) qs → ps ≡ qs
parts_equal all [] [] here there order other same = refl
parts_equal all [] (q ∷ qs) here there order other same = cc
parts_equal all (p ∷ ps) [] here there order other same = cc
parts_equal all (p ∷ ps) (q ∷ qs) here there order other same =
    let first : shown_part all p ≡ shown_part all q = heads (shown_part all p) (shown_part all q) (map (shown_part all) ps) (map (shown_part all) qs) same
    in let pieces : p.pieces ≡ q.pieces = pieces_equal all p.pieces q.pieces here.0 there.0 order.0 other.0 (ap (λ x. x.segments) first)
    in let later : ps ≡ qs = parts_equal all ps qs here.1 there.1 order.1 other.1 (tails (shown_part all p) (shown_part all q) (map (shown_part all) ps) (map (shown_part all) qs) same)
    in λ i. record { id = ap (λ x. x.id) first i; versions = ap (λ x. x.versions) first i; holds = ap (λ x. x.holds) first i; pieces = pieces i } ∷ later i

-- ---- and the plans

targets_equal : (d e : Dataset) (ts us : List Target) → map (shown_target d) ts ≡ map (shown_target e) us → ts ≡ us
targets_equal d e [] [] same = refl
targets_equal d e [] (u ∷ us) same = cc
targets_equal d e (t ∷ ts) [] same = cc
targets_equal d e (t ∷ ts) (u ∷ us) same =
    let first : shown_target d t ≡ shown_target e u = heads (shown_target d t) (shown_target e u) (map (shown_target d) ts) (map (shown_target e) us) same
    in let later : ts ≡ us = targets_equal d e ts us (tails (shown_target d t) (shown_target e u) (map (shown_target d) ts) (map (shown_target e) us) same)
    in λ i. record { versions = ap (λ x. x.versions) first i; source = ap (λ x. x.source) first i; kept = ap (λ x. x.kept) first i; kept_records = ap (λ x. x.kept_records) first i } ∷ later i

some_is : {X : Type 0} (a b : X) → Some a ≡ Some b → a ≡ b
some_is a b e = ap (λ o. unwrap_or o a) e

plan_equal : (d e : Dataset) (all : List Rec) → order_of d.cvd.versions ≡ all → order_of e.cvd.versions ≡ all → (p q : Option Plan) → CopiesAreInOrder all p → CopiesAreInOrder all q
    → shown_plan d p ≡ shown_plan e q → p ≡ q
plan_equal d e all here there None None order other same = refl
plan_equal d e all here there None (Some q) order other same = cc
plan_equal d e all here there (Some p) None order other same = cc
plan_equal d e all here there (Some p) (Some q) order other same =
    let it = some_is _ _ same
    in let copied : p.copied ≡ q.copied =
    pieces_equal all p.copied q.copied (order_known all p.copied order) (order_known all q.copied other) order other
    (ap (λ xs. map (segment_of xs) p.copied) (sym here) ∙ ap (λ x. x.segments) it ∙ ap (λ xs. map (segment_of xs) q.copied) there)
    in let targets : p.targets ≡ q.targets = targets_equal d e p.targets q.targets (ap (λ x. x.targets) it)
    in λ i. Some (record { p = ap (λ x. x.p) it i; q = ap (λ x. x.q) it i; targets = targets i; at = ap (λ x. x.at) it i; copied = copied i })

parts_known : (all : List Rec) (parts : List Part) → PartsAreInOrder all parts → PiecesAreIn all parts
parts_known all [] are = tt
parts_known all (part ∷ parts) are = (order_known all part.pieces are.0, parts_known all parts are.1)

-- ---- what holds of a dataset's records

known_pieces : (pieces : List (List Rec)) (all : List Rec) (r : Rec) → AllAreIn pieces all → IsIn (joined pieces) r → IsIn all r
known_pieces [] all r are is = absurd is
known_pieces (piece ∷ pieces) all r are is = by (of_append piece (joined pieces) r is) (known_pieces pieces all r are.1)
  where
    by : IsIn piece r ⊎ IsIn (joined pieces) r → (IsIn (joined pieces) r → IsIn all r) → IsIn all r
    by (inl here) rest = are_in_at piece all r are.0 here
    by (inr later) rest = rest later

known_all : (parts : List Part) (all : List Rec) (r : Rec) → PiecesAreIn all parts → IsIn (held_all parts) r → IsIn all r
known_all [] all r are is = absurd is
known_all (part ∷ parts) all r are is = by (of_append (held part) (held_all parts) r is) (known_all parts all r are.1)
  where
    by : IsIn (held part) r ⊎ IsIn (held_all parts) r → (IsIn (held_all parts) r → IsIn all r) → IsIn all r
    by (inl here) rest = known_pieces part.pieces all r are.0 here
    by (inr later) rest = rest later

-- rows of records
abbrev AllRows : Shape → List (List Rec) → Type 0
AllRows schema [] = Unit {0}
AllRows schema (rs ∷ rss) = ((r : Rec) → IsIn rs r → IsRow schema r.row) × AllRows schema rss

rows_more : (schema : Shape) (rss : List (List Rec)) (rs : List Rec) → AllRows schema rss → ((r : Rec) → IsIn rs r → IsRow schema r.row) → AllRows schema (rss ++ rs ∷ [])
rows_more schema [] rs all more = (more, tt)
rows_more schema (l ∷ rss) rs all more = (all.0, rows_more schema rss rs all.1 more)

ours_rows : (schema : Shape) (v : Version) (done : List (List Rec)) → All (IsRow schema) v.rows → (r : Rec) → IsIn (records_of v done) r → IsRow schema r.row
ours_rows schema v done all r is =
    let of = of_map (record_of v.parents done) v.rows r is
    in subst (IsRow schema) (sym (ap (λ x. x.row) of.1.1)) (all_at (IsRow schema) v.rows of.0 all of.1.0)

recs_rows : (schema : Shape) (vs : List Version) (done : List (List Rec)) → HaveRows schema vs → AllRows schema done → AllRows schema (recs vs done)
recs_rows schema [] done have all = all
recs_rows schema (v ∷ vs) done have all = recs_rows schema vs (done ++ records_of v done ∷ []) have.1 (rows_more schema done (records_of v done) all (ours_rows schema v done have.0.1))

of_filter : (p : Rec → Bool) (xs : List Rec) (r : Rec) → IsIn (filter p xs) r → IsIn xs r
of_filter p [] r is = is
of_filter p (x ∷ xs) r is = by (p x) is (of_filter p xs r)
  where
    by : (b : Bool) → IsIn (if b then x ∷ filter p xs else filter p xs) r → (IsIn (filter p xs) r → IsIn xs r) → IsIn (x ∷ xs) r
    by true (inl same) rest = inl same
    by true (inr later) rest = inr (rest later)
    by false is rest = inr (rest is)

order_rows : (schema : Shape) (rss : List (List Rec)) (n : ℕ) → AllRows schema rss → (r : Rec) → IsIn (order rss n) r → IsRow schema r.row
order_rows schema [] n all r is = absurd is
order_rows schema (rs ∷ rss) n all r is = by (of_append (fresh_in rs n) (order rss (n + 1)) r is) (order_rows schema rss (n + 1) all.1 r)
  where
    by : IsIn (fresh_in rs n) r ⊎ IsIn (order rss (n + 1)) r → (IsIn (order rss (n + 1)) r → IsRow schema r.row) → IsRow schema r.row
    by (inl here) rest = all.0 r (of_filter (λ x. x.origin == n) rs r here)
    by (inr later) rest = rest later

-- each version's records are held
served_in : (done : List (List Rec)) (vids : List ℕ) (vid : ℕ) (all : List Rec) → VersionsAreIn done vids all → is_one vids vid ≡ true → AreIn (of_version done vid) all
served_in done [] vid all are there = cc
served_in done (v ∷ vids) vid all are there = by (v == vid) (λ e. eqb_is v vid e) there (served_in done vids vid all are.1)
  where
    eqb_is : (a b : ℕ) → (a == b) ≡ true → a ≡ b
    eqb_is a b e = eqb-true a b e

    by : (b : Bool) → (b ≡ true → v ≡ vid) → (b || is_one vids vid) ≡ true → (is_one vids vid ≡ true → AreIn (of_version done vid) all) → AreIn (of_version done vid) all
    by true is e rest = subst (λ k. AreIn (of_version done k) all) (is refl) are.0.1
    by false is e rest = rest e

are_left : (rs a b : List Rec) → AreIn rs a → AreIn rs (a ++ b)
are_left [] a b are = tt
are_left (r ∷ rs) a b are = (left_in a b r are.0, are_left rs a b are.1)

are_right : (rs a b : List Rec) → AreIn rs b → AreIn rs (a ++ b)
are_right [] a b are = tt
are_right (r ∷ rs) a b are = (right_in a b r are.0, are_right rs a b are.1)

version_held : (done : List (List Rec)) (parts : List Part) (vid : ℕ) → PartsHold done parts → 1 ≤ part_times parts vid → AreIn (of_version done vid) (held_all parts)
version_held done [] vid hold some = absurd (omega (arith, some))
version_held done (part ∷ parts) vid hold some =
    elim (cases_Bool (is_one part.versions vid)) [
      | inl there ↦ are_left (of_version done vid) (held part) (held_all parts) (served_in done part.versions vid (held part) hold.0 there)
      | inr none ↦ are_right (of_version done vid) (held part) (held_all parts) (version_held done parts vid hold.1 (omega (arith, some, not_listed part.versions vid none)))
    ]

all_from : (rss : List (List Rec)) (all : List Rec) → ((k : ℕ) → k < length rss → AreIn (get_or rss k []) all) → AllAreIn rss all
all_from [] all each = tt
all_from (rs ∷ rss) all each = (each zero (omega arith), all_from rss all (λ k low. each (suc k) (omega (arith, low))))

all_held : (d : Dataset) → IsPlaced d → IsHeld d → AllAreIn (recs d.cvd.versions []) (held_all d.parts)
all_held d placed hold = all_from (recs d.cvd.versions []) (held_all d.parts) at
  where
    at : (k : ℕ) → k < length (recs d.cvd.versions []) → AreIn (get_or (recs d.cvd.versions []) k []) (held_all d.parts)
    at k low =
        let count : length (recs d.cvd.versions []) ≡ 0 + length d.cvd.versions = length_recs d.cvd.versions []
        in let place : suc k - 1 ≡ k = omega arith
        in subst (λ n. AreIn (get_or (recs d.cvd.versions []) n []) (held_all d.parts)) place
        (version_held (recs d.cvd.versions []) d.parts (suc k) hold (omega (arith, placed.each (suc k) (omega arith) (omega (arith, low, count)))))

-- ---- datasets and Worlds

record IsFit (d : Dataset) : Type 0 where
  placed : IsPlaced d
  hold : IsHeld d
  rowed : IsRowed d
  ordered : HasOrder d

finds : (schema : Shape) (d e : Dataset) → IsFit d → IsFit e → HaveRows schema d.cvd.versions → HaveRows schema e.cvd.versions
    → map (shown_part (order_of d.cvd.versions)) d.parts ≡ map (shown_part (order_of e.cvd.versions)) e.parts
    → Finds schema (order_of d.cvd.versions) (order_of e.cvd.versions) (held_all d.parts) (held_all e.parts)
finds schema d e is it rows others same = record {
  known = λ r there. known_all e.parts (order_of e.cvd.versions) r (parts_known (order_of e.cvd.versions) e.parts it.ordered.parts) there;
  rows = λ r here. order_rows schema (recs d.cvd.versions []) 1 (recs_rows schema d.cvd.versions [] rows tt) r (known_all d.parts (order_of d.cvd.versions) r (parts_known (order_of d.cvd.versions) d.parts is.ordered.parts) here);
  rows_there = λ r there. order_rows schema (recs e.cvd.versions []) 1 (recs_rows schema e.cvd.versions [] others tt) r (known_all e.parts (order_of e.cvd.versions) r (parts_known (order_of e.cvd.versions) e.parts it.ordered.parts) there);
  found = λ r here. from_kept (order_of e.cvd.versions) e.parts (kept_as (order_of d.cvd.versions) r)
      (subst (λ parts. IsIn (kept_all parts) (kept_as (order_of d.cvd.versions) r)) same (to_kept (order_of d.cvd.versions) d.parts r here));
}

set_equal : (d e : Dataset) → IsFit d → IsFit e → shown_set d ≡ shown_set e → d ≡ e
set_equal d e is it same =
    let schema : d.cvd.schema ≡ e.cvd.schema = ap (λ n. n.schema) same
    in let rows : HaveRows d.cvd.schema e.cvd.versions = subst (λ s. HaveRows s e.cvd.versions) (sym schema) it.rowed.rows
    in let parts_shown : map (shown_part (order_of d.cvd.versions)) d.parts ≡ map (shown_part (order_of e.cvd.versions)) e.parts = ap (λ n. n.parts) same
    in let versions : d.cvd.versions ≡ e.cvd.versions =
    versions_equal d.cvd.schema (order_of d.cvd.versions) (order_of e.cvd.versions) (held_all d.parts) (held_all e.parts)
    (finds d.cvd.schema d e is it is.rowed.rows rows parts_shown) (finds d.cvd.schema e d it is rows is.rowed.rows (sym parts_shown))
    [] [] d.cvd.versions e.cvd.versions is.rowed.rows rows (all_held d is.placed is.hold) (all_held e it.placed it.hold) (ap (λ n. n.versions) same)
    in let all : order_of e.cvd.versions ≡ order_of d.cvd.versions = ap order_of (sym versions)
    in let parts : d.parts ≡ e.parts =
    parts_equal (order_of d.cvd.versions) d.parts e.parts (parts_known (order_of d.cvd.versions) d.parts is.ordered.parts) (subst (λ a. PiecesAreIn a e.parts) all (parts_known (order_of e.cvd.versions) e.parts it.ordered.parts))
    is.ordered.parts (subst (λ a. PartsAreInOrder a e.parts) all it.ordered.parts) (parts_shown ∙ ap (λ a. map (shown_part a) e.parts) all)
    in let plan : d.plan ≡ e.plan =
    plan_equal d e (order_of d.cvd.versions) refl all d.plan e.plan is.ordered.plan (subst (λ a. CopiesAreInOrder a e.plan) all it.ordered.plan) (ap (λ n. n.plan) same)
    in λ i. record {
      cvd = record { number = ap (λ n. n.number) same i; name = ap (λ n. n.name) same i; schema = schema i; versions = versions i };
      parts = parts i;
      next_part = ap (λ n. n.next_part) same i;
      threshold = ap (λ n. n.threshold) same i;
      plan = plan i;
    }

sets_equal : (ds es : List Dataset) → ArePlaced ds → ArePlaced es → AreHeld ds → AreHeld es → AreRowed ds → AreRowed es → HaveOrder ds → HaveOrder es
    → map shown_set ds ≡ map shown_set es → ds ≡ es
sets_equal [] [] a b c d e f g h same = refl
sets_equal [] (y ∷ ys) a b c d e f g h same = cc
sets_equal (x ∷ xs) [] a b c d e f g h same = cc
sets_equal (x ∷ xs) (y ∷ ys) placed placed_there hold hold_there rowed rowed_there order order_there same =
    let first : x ≡ y =
    set_equal x y (record { placed = placed.0; hold = hold.0; rowed = rowed.0; ordered = order.0 })
    (record { placed = placed_there.0; hold = hold_there.0; rowed = rowed_there.0; ordered = order_there.0 })
    (heads (shown_set x) (shown_set y) (map shown_set xs) (map shown_set ys) same)
    in let later : xs ≡ ys =
    sets_equal xs ys placed.1 placed_there.1 hold.1 hold_there.1 rowed.1 rowed_there.1 order.1 order_there.1 (tails (shown_set x) (shown_set y) (map shown_set xs) (map shown_set ys) same)
    in λ i. first i ∷ later i

pub shown_once : (w v : World) → IsTold w → IsTold v → shown w ≡ shown v → (w.sets ≡ v.sets) × (w.next ≡ v.next)
shown_once w v is it same = (
  sets_equal w.sets v.sets is.placed it.placed is.held it.held is.rowed it.rowed is.ordered it.ordered (ap (λ n. n.sets) same),
  ap (λ n. n.next) same,
)
