use Rattle.std.specs.List.{zip}
use Rattle.ov_graph.specs.Versions.{heaviest}
use Rattle.ov_catalog.specs.Applying.{part_serving}
use Rattle.ov_catalog.proofs.Members.{in_map}
use Rattle.law_commits.proofs.Same.{tree_parent}
use Rattle.law_commits.proofs.edges.the_tree_parent_is_a_parent.Goals as goal

pub returns-clause-parent : goal.returns-clause-parent
returns-clause-parent c = tree_parent

pub returns-clause-part : goal.returns-clause-part
returns-clause-part c = λ parts vids weights some same. in_map (part_serving parts) vids (heaviest (zip vids weights)).0 (tree_parent vids weights some same)
