use Rattle.std.proofs.Common.{leb, leb-true, leb-false, arith, rules, sym, ◌∙◌, false}
use Rattle.std.proofs.lemmas.List.Sorted.{IsPartitionPoint-from_clause, IsPartitionedBy-leb}
use Rattle.ov_member.proofs.EdgeLemmas.{Ascend-ordered, status-turned, turned-odd, has-between}
use Rattle.ov_member.proofs.edges.contains.Goals as goal

pub returns : goal.returns
returns c =
    let edges = c.args.edges.now in
    let rid = c.args.rid in
    let parted = IsPartitionedBy-leb (λ x. x) edges rid (Ascend-ordered 0 edges c.requires.ascend) in
    let point = IsPartitionPoint-from_clause (λ x. leb x rid) edges _ c.partition_point.ensures.partitioned parted (λ a r q k. search rules) in
    let turns = status-turned false edges rid c.partition_point.result c.partition_point.ensures.bound (λ k lt. leb-true _ _ (point.0 k 0 (omega arith) lt)) (λ k from lt. leb-false _ _ (point.1 k 0 from lt)) in
    sym (has-between 0 edges rid c.requires.ascend c.requires.closed ∙ turns ∙ turned-odd c.partition_point.result)
