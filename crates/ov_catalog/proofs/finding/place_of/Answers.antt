use Rattle.std.proofs.Common.{ltb, rules, arith, ap, ◌∙◌}
use Rattle.std.proofs.lemmas.List.Sorted.{IsPartitionPoint-from_clause, IsPartitionedBy-ltb}
use Rattle.ov_layout.proofs.VidLemmas.{keys-ordered}
use Rattle.ov_catalog.proofs.SetLemmas.{find-none, number_of, missing, get-any}
use Rattle.ov_catalog.proofs.finding.place_of.Goals.{else-at-sets-via-then-at-sets+else-sets-at, else-at-sets-via-else-at-sets}
use Rattle.ov_catalog.proofs.finding.place_of.Goals as goal

pub returns-else-at-sets : goal.returns-else-at-sets
returns-else-at-sets c =
    let sets = c.args.sets.now in
    let n = c.args.number in
    let at = c.partition_point-at.result in
    let parted = IsPartitionedBy-ltb number_of sets n (keys-ordered number_of sets 0 c.requires) in
    let point = IsPartitionPoint-from_clause (λ x. ltb (number_of x) n) sets _ c.partition_point-at.ensures.partitioned parted (λ a r q k. search rules) in
    elim c.else-at-sets.branch [
      | else-at-sets-via-then-at-sets+else-sets-at w ↦
          find-none n sets (missing n at sets c.requires point (λ d lt same. w.if-sets-at.false (ap number_of (get-any sets at w.index-sets-at.result d lt) ∙ same)))
      | else-at-sets-via-else-at-sets w ↦
          let past = w.if-at-sets.false in
          find-none n sets (missing n at sets c.requires point (λ d lt same. absurd (omega arith)))
    ]
