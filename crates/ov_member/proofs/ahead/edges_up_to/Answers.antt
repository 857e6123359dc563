use Rattle.std.proofs.Common.{leb, leb-true, leb-false, arith, rules}
use Rattle.std.proofs.lemmas.List.Sorted.{IsPartitionPoint-from_clause, IsPartitionedBy-leb}
use Rattle.ov_member.proofs.EdgeLemmas.{Ascend-ordered}
use Rattle.ov_member.proofs.ahead.edges_up_to.Goals as goal

pub returns-clause-before : goal.returns-clause-before
returns-clause-before c k lt =
    let edges = c.args.edges.now in
    let rid = c.args.rid in
    let parted = IsPartitionedBy-leb (λ x. x) edges rid (Ascend-ordered 0 edges c.requires) in
    let point = IsPartitionPoint-from_clause (λ x. leb x rid) edges _ c.partition_point.ensures.partitioned parted (λ a r q k. search rules) in
    leb-true _ _ (point.0 k 0 (omega arith) lt)

pub returns-clause-behind : goal.returns-clause-behind
returns-clause-behind c k from lt =
    let edges = c.args.edges.now in
    let rid = c.args.rid in
    let parted = IsPartitionedBy-leb (λ x. x) edges rid (Ascend-ordered 0 edges c.requires) in
    let point = IsPartitionPoint-from_clause (λ x. leb x rid) edges _ c.partition_point.ensures.partitioned parted (λ a r q k. search rules) in
    leb-false _ _ (point.1 k 0 from lt)
