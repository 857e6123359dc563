use Rattle.std.proofs.Common.{ℕ, ltb, rules, arith}
use Rattle.std.proofs.lemmas.List.Sorted.{IsPartitionPoint-from_clause, IsPartitionedBy-ltb}
use Rattle.ov_layout.specs.declared.index.Entry.{Entry}
use Rattle.ov_layout.proofs.VidLemmas.{keys-ordered, point-missing}
use Rattle.ov_layout.proofs.SumLemmas.{entries-ascend, number_at-none}
use Rattle.ov_layout.proofs.index.place_in.Goals.{else-at-index-via-then-at-index+else-index-at, else-at-index-via-else-at-index}
use Rattle.ov_layout.proofs.index.place_in.Goals as goal

pub returns-else-at-index : goal.returns-else-at-index
returns-else-at-index c =
    let index = c.args.index.now in
    let key : Entry → ℕ = λ entry. entry.vid in
    let ascend = entries-ascend 0 index c.requires in
    let parted = IsPartitionedBy-ltb key index c.args.vid (keys-ordered key index 0 ascend) in
    let point = IsPartitionPoint-from_clause (λ x. ltb (key x) c.args.vid) index _ c.partition_point-at.ensures.partitioned parted (λ a r q k. search rules) in
    let none : Entry = record { vid = 0; part = 0 } in
    elim c.else-at-index.branch [
      | else-at-index-via-then-at-index+else-index-at w ↦
          number_at-none index c.args.vid (point-missing key index none 0 c.args.vid c.partition_point-at.result ascend point (λ lt same. w.if-index-at.false same))
      | else-at-index-via-else-at-index w ↦
          let past = w.if-at-index.false in
          number_at-none index c.args.vid (point-missing key index none 0 c.args.vid c.partition_point-at.result ascend point (λ lt same. absurd (omega arith)))
    ]
