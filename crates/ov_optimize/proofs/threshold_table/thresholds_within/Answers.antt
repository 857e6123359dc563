use Rattle.std.proofs.Common.{◌≡◌, length, map, sym, ◌∙◌, ap}
use Rattle.std.proofs.lemmas.Result.{IfOk-weaker}
use Rattle.ov_budget.specs.Tables.{table as table_of}
use Rattle.ov_graph.specs.Versions.{reduced}
use Rattle.law_budget.specs.Told.{told}
use Rattle.ov_catalog.specs.Events.{graph_of}
use Rattle.ov_catalog.specs.Sets.{set_in, version_in}
use Rattle.ov_optimize.proofs.Making.{split_for}
use Rattle.ov_optimize.proofs.Tables.{lists_long, nodes_long, table_shown}
use Rattle.ov_optimize.proofs.threshold_table.thresholds_within.Goals as goal

pub table_within-requires-clause-listed : goal.table_within-requires-clause-listed
table_within-requires-clause-listed c =
    let nodes : c.in_ok-tree.tree.nodes.items ≡ reduced (graph_of (set_in c.args.d.now).versions) =
    c.in_ok-tree.ensures.nodes ∙ ap (λ vs. reduced (graph_of (map version_in vs))) c.deref.ensures.value in
    lists_long (set_in c.args.d.now) c.args.lists.now c.requires.lists ∙ sym (ap length nodes ∙ nodes_long (set_in c.args.d.now).versions)

pub returns-clause-world : goal.returns-clause-world
returns-clause-world c w ds area of at =
    let nodes : c.in_ok-tree.tree.nodes.items ≡ reduced (graph_of (set_in c.args.d.now).versions) =
    c.in_ok-tree.ensures.nodes ∙ ap (λ vs. reduced (graph_of (map version_in vs))) c.deref.ensures.value in
    ap (map told) (c.in_ok-found.ensures.lines ∙ ap (λ ns. table_of ns c.args.lists.now) nodes) ∙ table_shown area (set_in c.args.d.now) w ds c.args.lists.now of at

pub returns-clause-split : goal.returns-clause-split
returns-clause-split c =
    IfOk-weaker c.in_ok-found.found.best _ _
    (λ offer is. split_for c.args.d.now offer.p 100 c.deref.result.now c.in_ok-tree.tree.nodes.items offer.split
    c.in_ok-tree.ensures.nodes c.deref.ensures.value is.parts_are is.depth_is is.division)
    c.in_ok-found.ensures.split
