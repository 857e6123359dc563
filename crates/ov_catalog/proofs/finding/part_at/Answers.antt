use Rattle.std.proofs.Common.{ℕ, [], ltb, rules, arith}
use Rattle.std.proofs.lemmas.List.Sorted.{IsPartitionPoint-from_clause, IsPartitionedBy-ltb}
use Rattle.ov_layout.specs.declared.part.Part.{Part}
use Rattle.ov_layout.proofs.FlipLemmas.{numbered-none}
use Rattle.ov_layout.proofs.VidLemmas.{keys-ordered, point-missing}
use Rattle.ov_catalog.proofs.finding.part_at.Goals.{else-at-parts-via-then-at-parts+else-parts-at, else-at-parts-via-else-at-parts}
use Rattle.ov_catalog.proofs.finding.part_at.Goals as goal

no_part : Part
no_part = record { id = 0; versions = []; holds = []; records = 0; segments = [] }

pub returns-else-at-parts : goal.returns-else-at-parts
returns-else-at-parts c =
    let parts = c.args.parts.now in
    let id = c.args.id in
    let at = c.partition_point-at.result in
    let key : Part → ℕ = λ part. part.id in
    let parted = IsPartitionedBy-ltb key parts id (keys-ordered key parts 0 c.requires) in
    let point = IsPartitionPoint-from_clause (λ x. ltb (key x) id) parts _ c.partition_point-at.ensures.partitioned parted (λ a r q k. search rules) in
    elim c.else-at-parts.branch [
      | else-at-parts-via-then-at-parts+else-parts-at w ↦
          numbered-none parts id (point-missing key parts w.index-parts-at.result 0 id at c.requires point (λ lt same. w.if-parts-at.false same))
      | else-at-parts-via-else-at-parts w ↦
          let past = w.if-at-parts.false in
          numbered-none parts id (point-missing key parts no_part 0 id at c.requires point (λ lt same. absurd (omega arith)))
    ]
