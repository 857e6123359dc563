use Rattle.std.proofs.Common.{ltb, rules, sym, ◌∙◌}
use Rattle.std.proofs.lemmas.Bool.{le-ltb}
use Rattle.std.proofs.lemmas.List.Sorted.{IsPartitionPoint-from_clause, IsPartitionedBy-ltb}
use Rattle.ov_layout.proofs.VidLemmas.{ids-ordered, among-point, among-past}
use Rattle.ov_catalog.proofs.finding.is_among.Goals as goal

pub returns-then-at-numbers : goal.returns-then-at-numbers
returns-then-at-numbers c =
    let numbers = c.args.numbers.now in
    let parted = IsPartitionedBy-ltb (λ n. n) numbers c.args.number (ids-ordered numbers 0 c.requires) in
    let point = IsPartitionPoint-from_clause (λ x. ltb x c.args.number) numbers _ c.partition_point-at.ensures.partitioned parted (λ a r q k. search rules) in
    among-point numbers c.args.number c.partition_point-at.result c.requires point c.if-at-numbers.true

pub returns-else-at-numbers : goal.returns-else-at-numbers
returns-else-at-numbers c =
    let numbers = c.args.numbers.now in
    let parted = IsPartitionedBy-ltb (λ n. n) numbers c.args.number (ids-ordered numbers 0 c.requires) in
    let point = IsPartitionPoint-from_clause (λ x. ltb x c.args.number) numbers _ c.partition_point-at.ensures.partitioned parted (λ a r q k. search rules) in
    le-ltb _ _ c.if-at-numbers.false ∙ sym (among-past numbers c.args.number c.partition_point-at.result c.requires point c.if-at-numbers.false)
