use Rattle.std.proofs.Common.{ltb, rules}
use Rattle.std.proofs.Common.{ℕ, []}
use Rattle.std.proofs.lemmas.List.Sorted.{IsPartitionPoint-from_clause, IsPartitionedBy-ltb}
use Rattle.ov_layout.specs.declared.part.Part.{Part}
use Rattle.ov_layout.proofs.VidLemmas.{keys-ordered, point-found}
use Rattle.ov_layout.proofs.search.place_of.Goals as goal

no_part : Part
no_part = record { id = 0; versions = []; holds = []; records = 0; segments = [] }

pub returns : goal.returns
returns c =
    let parts = c.args.parts.now in
    let id = c.args.id in
    let key : Part → ℕ = λ part. part.id in
    let parted = IsPartitionedBy-ltb key parts id (keys-ordered key parts 0 c.requires.ascend) in
    let point = IsPartitionPoint-from_clause (λ part. ltb (key part) id) parts _ c.partition_point.ensures.partitioned parted (λ a r q k. search rules) in
    record {
      bound = (point-found key parts no_part 0 id c.partition_point.result c.requires.ascend point c.requires.is_there).0;
      place = λ d. (point-found key parts d 0 id c.partition_point.result c.requires.ascend point c.requires.is_there).1;
    }
