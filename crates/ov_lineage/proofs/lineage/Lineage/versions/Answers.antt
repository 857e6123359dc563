-- The graph's ancestors and descendants are the relatives by the parents.
use Rattle.std.proofs.Common.{◌≡◌, ◌↔◌, List, ◌∙◌, ap, subst}
use Rattle.std.specs.List.{Contains}
use Rattle.std.proofs.lemmas.Result.{IfOk-weaker}
use Rattle.ov_graph.specs.Versions.{Version, IsAncestor}
use Rattle.ov_model.specs.declared.query.LineageKind.TheVariants.{Parents}
use Rattle.ov_lineage.specs.Bare.{bare_graph}
use Rattle.ov_lineage.specs.Related.{AreParents}
use Rattle.ov_lineage.proofs.Rising.{IfOk-both, ancestors-found, descendants-found, relatives-ascend}
use Rattle.ov_lineage.proofs.lineage.Lineage.versions.Goals as goal

pub returns-in-Parents-clause-ascending : goal.returns-in-Parents-clause-ascending
returns-in-Parents-clause-ascending c =
    IfOk-weaker c.parents_of.result _ _ (λ vids is. rw is (relatives-ascend c.args.self.now Parents c.args.vid)) c.parents_of.ensures

pub returns-in-Ancestors-clause-relatives : goal.returns-in-Ancestors-clause-relatives
returns-in-Ancestors-clause-relatives c =
    let parents = c.args.self.now in
    let are : AreParents parents = subst AreParents c.self.view_is c.self.invariant.0 in
    let graph : c.self.inside.graph ≡ bare_graph parents = c.self.invariant.1 ∙ ap bare_graph c.self.view_is in
    rw c.in-Ancestors.is
    (IfOk-both c.ancestors.result _ _ _
    (λ vids up same. ancestors-found parents c.args.vid vids.items are c.requires.is_there up
    (λ other. subst (λ (versions : List Version). Contains vids.items other ↔ IsAncestor versions other c.args.vid) graph (same other)))
    c.ancestors.ensures.ascending c.ancestors.ensures.ancestors)

pub returns-in-Descendants-clause-relatives : goal.returns-in-Descendants-clause-relatives
returns-in-Descendants-clause-relatives c =
    let parents = c.args.self.now in
    let are : AreParents parents = subst AreParents c.self.view_is c.self.invariant.0 in
    let graph : c.self.inside.graph ≡ bare_graph parents = c.self.invariant.1 ∙ ap bare_graph c.self.view_is in
    rw c.in-Descendants.is
    (IfOk-both c.descendants.result _ _ _
    (λ vids up same. descendants-found parents c.args.vid vids.items are c.requires.is_there up
    (λ other. subst (λ (versions : List Version). Contains vids.items other ↔ IsAncestor versions c.args.vid other) graph (same other)))
    c.descendants.ensures.ascending c.descendants.ensures.descendants)
