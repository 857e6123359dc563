use Rattle.std.proofs.Common.{◌≡◌, length, map, sym, ◌∙◌, ap}
use Rattle.std.proofs.lemmas.Result.{IfOk-weaker}
use Rattle.ov_budget.specs.Tables.{table as table_of}
use Rattle.ov_graph.specs.Versions.{reduced}
use Rattle.law_budget.specs.Told.{told}
use Rattle.ov_catalog.specs.Events.{graph_of}
use Rattle.ov_catalog.specs.Sets.{set_in, version_in}
use Rattle.ov_optimize.proofs.Tables.{lists_long, nodes_long, table_shown}
use Rattle.ov_optimize.proofs.threshold_table.thresholds.Goals as goal

pub table-requires-clause-listed : goal.table-requires-clause-listed
table-requires-clause-listed c =
    let nodes : c.in_ok-tree.tree.nodes.items ≡ reduced (graph_of (set_in c.args.d.now).versions) =
    c.in_ok-tree.ensures.nodes ∙ ap (λ vs. reduced (graph_of (map version_in vs))) c.deref.ensures.value in
    lists_long (set_in c.args.d.now) c.args.lists.now c.requires.lists ∙ sym (ap length nodes ∙ nodes_long (set_in c.args.d.now).versions)

pub returns-clause-world : goal.returns-clause-world
returns-clause-world c w ds area of at =
    let nodes : c.in_ok-tree.tree.nodes.items ≡ reduced (graph_of (set_in c.args.d.now).versions) =
    c.in_ok-tree.ensures.nodes ∙ ap (λ vs. reduced (graph_of (map version_in vs))) c.deref.ensures.value in
    IfOk-weaker c.table.result _ _
    (λ lines is. ap (map told) (is ∙ ap (λ ns. table_of ns c.args.lists.now) nodes) ∙ table_shown area (set_in c.args.d.now) w ds c.args.lists.now of at)
    c.table.ensures.lines
