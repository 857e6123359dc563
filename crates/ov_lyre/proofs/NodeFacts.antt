-- A sound list of nodes is a sound tree.
use Rattle.std.proofs.Common.{ℕ, zero, suc, ◌-◌, ◌≤◌, List, length, get_or, inl, inr, arith}
use Rattle.std.proofs.lemmas.Bool.{cases_lt}
use Rattle.std.proofs.lemmas.List.{get_or_past}
use Rattle.ov_graph.specs.declared.nodes.Node.{Node}
use Rattle.ov_graph.specs.Trees.{no_node, tree_of, IsSound}
use Rattle.ov_lyre.proofs.UnderFacts.{IsSoundTree}

record IsSoundAt (k : ℕ) (node : Node) : Type 0 where
  lower : node.parent ≤ k
  within : node.weight ≤ node.records

sound-at : (nodes : List Node) → IsSound nodes → (k : ℕ) → IsSoundAt k (get_or nodes k no_node)
sound-at nodes sound zero = let p = sound.root_parent in let w = sound.root_weight in record { lower = omega arith; within = omega arith }
sound-at nodes sound (suc k) =
    elim (cases_lt (suc k) (length nodes)) [
      | inl lt ↦ let edge = sound.edges (suc k) (omega arith) lt in let below = edge.below in record { lower = omega arith; within = edge.within_own }
      | inr past ↦ rw (get_or_past nodes (suc k) no_node past) (record { lower = omega arith; within = omega arith })
    ]

pub sound-tree : (nodes : List Node) → IsSound nodes → IsSoundTree (tree_of nodes)
sound-tree nodes sound = record {
  lower = λ vid. (sound-at nodes sound (vid - 1)).lower;
  within = λ vid. (sound-at nodes sound (vid - 1)).within;
}
