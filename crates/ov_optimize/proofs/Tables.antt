-- The table of a dataset's thresholds: what it is made of fits, and where the pages stand for a World, it is the World's.
use Rattle.std.proofs.Common.{◌≡◌, ℕ, suc, List, [], ◌∷◌, length, map, refl, ◌∙◌, ap, subst}
use Rattle.std.specs.List.{All, AllByRecursion, AllZip}
use Rattle.std.proofs.lemmas.List.Elements.{All-from_recursion}
use Rattle.std.proofs.lemmas.List.FromFn.{length-range_with_len}
use Rattle.ov_budget.specs.Tables.{table}
use Rattle.ov_graph.specs.Versions.{reduced}
use Rattle.ov_member.specs.Rids.{AreRids}
use Rattle.ov_model.specs.Budget as model
use Rattle.ov_model.specs.World.{Dataset, World}
use Rattle.law_budget.specs.Told.{lists_of, told}
use Rattle.law_budget.proofs.Told.{table_is}
use Rattle.law_reads.proofs.Parted.{facts}
use Rattle.ov_catalog.specs.Events.{graph_of}
use Rattle.ov_catalog.specs.Numbers.{VersionNumbers}
use Rattle.ov_read.specs.Agreement.{Numbers}
use Rattle.ov_read.specs.OfWorld.{IsSetOf}
use Rattle.ov_read.proofs.Gatherings.{zip_length}
use Rattle.ov_optimize.specs.Reading.{IsListAt, IsListOf, all_vids}
use Rattle.ov_optimize.proofs.Worlds.{graph_same, lists_are}

-- there is a node and a list for each version
pub nodes_long : {L : Type 0} (vs : List (VersionNumbers L)) → length (reduced (graph_of vs)) ≡ length vs
nodes_long [] = refl
nodes_long (v ∷ vs) = ap suc (nodes_long vs)

pub lists_long : (s : Numbers) (lists : List (List ℕ)) → AllZip (IsListOf s) (all_vids s) lists → length lists ≡ length s.versions
lists_long s lists are = zip_length (IsListOf s) (all_vids s) lists are ∙ length-range_with_len 1 (length s.versions)

module _ (area : List ℕ) (s : Numbers) where
  each_set : (vids : List ℕ) (lists : List (List ℕ)) → AllZip (IsListAt area s) vids lists → AllByRecursion AreRids lists
  each_set vids [] are = tt
  each_set [] (l ∷ lists) are = absurd are
  each_set (vid ∷ vids) (l ∷ lists) are = (are.0.is.set, each_set vids lists are.1)

  pub table_shown : (w : World) (ds : Dataset) (lists : List (List ℕ)) → IsSetOf w ds area s → AllZip (IsListAt area s) (all_vids s) lists
      → map told (table (reduced (graph_of s.versions)) lists) ≡ model.table ds
  table_shown w ds lists of are =
      let listed : lists ≡ lists_of ds = lists_are w ds area s of lists are in
      let sets : All AreRids (lists_of ds) = subst (All AreRids) listed (All-from_recursion AreRids lists (each_set (all_vids s) lists are)) in
      (λ i. map told (table (reduced (graph_same w ds area s of i)) (listed i)))
      ∙ table_is ds (facts w area s ds of).pieces.rows sets
