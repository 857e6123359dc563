use Rattle.std.proofs.Common.{◌≡◌, ◌<◌, ◌++◌, ◌∷◌, [], List, length, take, get_or, map, refl, sym, ◌∙◌, ap, subst, arith}
use Rattle.std.specs.List.{AllZip}
use Rattle.std.proofs.lemmas.List.{take_all, take_more}
use Rattle.ov_fetch.specs.Extents.{page_bytes}
use Rattle.ov_fetch.proofs.Gathered.{passed_on}
use Rattle.ov_layout.specs.declared.part.Part.{Part}
use Rattle.ov_catalog.specs.Sets.{part_in, set_in}
use Rattle.ov_read.specs.Sizes.{segment_bytes_for}
use Rattle.ov_targets.specs.declared.candidates.Partition.{Partition}
use Rattle.ov_optimize.specs.Damages.{RefusesParts}
use Rattle.ov_optimize.specs.Reading.{IsPartitionAt, all_vids}
use Rattle.ov_optimize.proofs.Partitions.{HasPartitions, all_bytes, goes_on, stops, within}
use Rattle.ov_optimize.proofs.VersionLists.{vids_of_set}
use Rattle.ov_optimize.proofs.parting.all_partitions.Goals as goal

pub returns-in_err-partition_of-clause-fetched : goal.returns-in_err-partition_of-clause-fetched
returns-in_err-partition_of-clause-fetched g c =
    let d = c.args.d.now in
    let part : Part = c.part-item.result in
    let k = c.loop-part.part-index in
    let s0 = g.H.Host.state c.args.host.now in
    let s1 = g.H.Host.state c.loop-part.host in
    let same : c.parts-parts.result.now ≡ c.args.d.now.layout.parts = c.parts-parts.ensures.parts in
    let before = subst (λ (ps : List Part). HasPartitions s0 s1 d (take k ps) c.loop-part.partitions.items) same c.loop-part.invariant in
    within d.layout.parts k s0.fetched s1.fetched (g.H.Host.state c.partition_of.new.host).fetched (segment_bytes_for (set_in d) (all_vids (set_in d))) part
    (subst (λ (ps : List Part). k < length ps) same c.loop-part-test.true) (subst (λ (ps : List Part). part ≡ get_or ps k part) same c.part-item.is)
    (all_bytes d (length d.versions.items) c.parts-parts.ensures.sound.sound c.requires.new c.requires.none_other
    ∙ ap (segment_bytes_for (set_in d)) (vids_of_set d (length d.versions.items) refl))
    before.fetched c.in_err-partition_of.ensures.fetched

pub returns-in_err-push-clause-fetched : goal.returns-in_err-push-clause-fetched
returns-in_err-push-clause-fetched g c =
    let d = c.args.d.now in
    let part : Part = c.part-item.result in
    let k = c.loop-part.part-index in
    let s0 = g.H.Host.state c.args.host.now in
    let s1 = g.H.Host.state c.loop-part.host in
    let same : c.parts-parts.result.now ≡ c.args.d.now.layout.parts = c.parts-parts.ensures.parts in
    let before = subst (λ (ps : List Part). HasPartitions s0 s1 d (take k ps) c.loop-part.partitions.items) same c.loop-part.invariant in
    within d.layout.parts k s0.fetched s1.fetched (g.H.Host.state c.partition_of.new.host).fetched (segment_bytes_for (set_in d) (all_vids (set_in d))) part
    (subst (λ (ps : List Part). k < length ps) same c.loop-part-test.true) (subst (λ (ps : List Part). part ≡ get_or ps k part) same c.part-item.is)
    (all_bytes d (length d.versions.items) c.parts-parts.ensures.sound.sound c.requires.new c.requires.none_other
    ∙ ap (segment_bytes_for (set_in d)) (vids_of_set d (length d.versions.items) refl))
    before.fetched c.in_ok-partition_of.ensures.fetched

pub returns-in_err-partition_of-clause-answer : goal.returns-in_err-partition_of-clause-answer
returns-in_err-partition_of-clause-answer g c told =
    let d = c.args.d.now in
    let part : Part = c.part-item.result in
    let k = c.loop-part.part-index in
    let s0 = g.H.Host.state c.args.host.now in
    let s1 = g.H.Host.state c.loop-part.host in
    let same : c.parts-parts.result.now ≡ c.args.d.now.layout.parts = c.parts-parts.ensures.parts in
    passed_on (λ partitions. AllZip (IsPartitionAt (page_bytes s0) (set_in d)) (map part_in d.layout.parts) partitions.items) (λ e. RefusesParts e (page_bytes s0) (set_in d))
    c.from_residual-in_err-partition_of.result c.in_err-partition_of.field-0.0 c.from_residual-in_err-partition_of.ensures
    (stops s0 s1 d (take k c.parts-parts.result.now) k part c.loop-part.partitions.items c.in_err-partition_of.field-0.0 c.loop-part.invariant
    (subst (λ (ps : List Part). k < length ps) same c.loop-part-test.true) (subst (λ (ps : List Part). part ≡ get_or ps k part) same c.part-item.is)
    c.in_err-partition_of.ensures.answer told)

pub loop-part-preserved : goal.loop-part-preserved
loop-part-preserved g c =
    let s0 = g.H.Host.state c.args.host.now in
    let s1 = g.H.Host.state c.loop-part.host in
    let s2 = g.H.Host.state c.partition_of.new.host in
    let d = c.args.d.now in
    let part : Part = c.part-item.result in
    let parts : List Part = c.parts-parts.result.now in
    let k = c.loop-part.part-index in
    let more : List Partition = c.loop-part.partitions.items ++ c.in_ok-partition_of.field-0 ∷ [] in
    rw c.in_ok-push.ensures.items (subst (λ (ps : List Part). HasPartitions s0 s2 d ps more)
    (sym (take_more parts k part c.loop-part-test.true ∙ ap (λ (p : Part). take k parts ++ p ∷ []) (sym c.part-item.is)))
    (goes_on s0 s1 s2 d (take k parts) part c.loop-part.partitions.items c.in_ok-partition_of.field-0 c.loop-part.invariant
    c.in_ok-partition_of.ensures.looked c.in_ok-partition_of.ensures.fetched c.in_ok-partition_of.ensures.is c.in_ok-partition_of.ensures.answer))

pub returns-clause-fetched : goal.returns-clause-fetched
returns-clause-fetched g c =
    let s0 = g.H.Host.state c.args.host.now in
    let s1 = g.H.Host.state c.loop-part.host in
    let d = c.args.d.now in
    let whole : take c.loop-part.part-index c.parts-parts.result.now ≡ c.args.d.now.layout.parts =
    take_all c.loop-part.part-index c.parts-parts.result.now (omega (arith, c.loop-part-test.false)) ∙ c.parts-parts.ensures.parts in
    let all = subst (λ (ps : List Part). HasPartitions s0 s1 d ps c.loop-part.partitions.items) whole c.loop-part.invariant in
    omega (
      arith,
      all.fetched,
      all_bytes d (length d.versions.items) c.parts-parts.ensures.sound.sound c.requires.new c.requires.none_other
          ∙ ap (segment_bytes_for (set_in d)) (vids_of_set d (length d.versions.items) refl),
    )
