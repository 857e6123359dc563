-- What the tight partitions of a dataset keep, by rids and by records.
use Rattle.std.proofs.Common.{◌≡◌, ◌+◌, ℕ, zero, suc, List, [], ◌∷◌, length, get_or, map, refl, sym, ◌∙◌, ap}
use Rattle.std.specs.Prelude.{◌-◌, ◌||◌}
use Rattle.std.specs.List.{All, list_any, range_with_len}
use Rattle.std.proofs.lemmas.List.{length-map}
use Rattle.ov_graph.specs.Splits.{cost, stored}
use Rattle.ov_member.specs.Rids.{AreRids, has}
use Rattle.ov_model.specs.Budget as model
use Rattle.ov_model.specs.Plans.{nodes_of_set, parts_at, records_in, sizes_of}
use Rattle.ov_model.specs.Records.{Rec, counted as counted_from, order_of, recs, rid_in}
use Rattle.ov_model.specs.World.{Dataset}
use Rattle.law_partitions.specs.Pieces.{HaveNoRowTwice}
use Rattle.ov_catalog.specs.Shown.{list_of}
use Rattle.ov_catalog.proofs.Rising as rising
use Rattle.ov_read.specs.OfWorld.{rids_in as rids_of}
use Rattle.law_steps.proofs.Wanted.{is_wanted, wanted_listed}
use Rattle.ov_budget.specs.Tables as budget
use Rattle.ov_budget.specs.Tables.{line_at, list_at, rids_in, table}
use Rattle.ov_budget.proofs.Together.{counted}
use Rattle.law_budget.specs.Told.{lists_of, told}
use Rattle.law_budget.proofs.Uniting.{is_together, together}

module _ (d : Dataset) (rows : HaveNoRowTwice d.cvd.versions) (sets : All AreRids (lists_of d)) where
  abbrev all : List Rec
  all = order_of d.cvd.versions

  list_is : (vid : ℕ) → list_at (lists_of d) vid ≡ rids_of d vid
  list_is vid = by (recs d.cvd.versions []) (vid - 1)
    where
      by : (rss : List (List Rec)) (k : ℕ) → get_or (map (list_of all) rss) k [] ≡ list_of all (get_or rss k [])
      by [] k = refl
      by (rs ∷ rss) zero = refl
      by (rs ∷ rss) (suc k) = by rss k

  same_wanted : (vids : List ℕ) (rid : ℕ) → list_any (λ vid. has (list_at (lists_of d) vid) rid) vids ≡ is_wanted d vids rid
  same_wanted [] rid = refl
  same_wanted (vid ∷ vids) rid = λ i. has (list_is vid i) rid || same_wanted vids rid i

  size_is : (vids : List ℕ) → length (rids_in (lists_of d) vids) ≡ length (records_in d.cvd vids)
  size_is vids =
      let is = is_together (lists_of d) vids sets in
      let listed = wanted_listed d vids (together (lists_of d) vids) rows is.set (λ rid. is.together rid ∙ same_wanted vids rid) in
      sym (counted (lists_of d) vids (together (lists_of d) vids) is) ∙ ap length listed
      ∙ rising.sorted_long (λ n. n) (map (rid_in all) (records_in d.cvd vids)) ∙ length-map (records_in d.cvd vids) (rid_in all)

  sizes_are : (parts : List (List ℕ)) → budget.sizes_of (lists_of d) parts ≡ sizes_of d parts
  sizes_are [] = refl
  sizes_are (part ∷ parts) = λ i. (length part, size_is part i) ∷ sizes_are parts i

  line_is : (p : ℕ) → told (line_at (nodes_of_set d) (lists_of d) p) ≡ model.line_at d p
  line_is p =
      let sizes = sizes_are (parts_at d p 100) in
      λ i. record {
        depth = (model.line_at d p).depth;
        partitions = (model.line_at d p).partitions;
        stored = stored (sizes i);
        cost = cost (sizes i);
      }

  lines_are : (n count : ℕ) → map told (map (line_at (nodes_of_set d) (lists_of d)) (range_with_len n count)) ≡ map (model.line_at d) (counted_from n count)
  lines_are n zero = refl
  lines_are n (suc count) = λ i. line_is n i ∷ lines_are (n + 1) count i

  pub table_is : map told (table (nodes_of_set d) (lists_of d)) ≡ model.table d
  unfolding table
  table_is = lines_are 1 100
