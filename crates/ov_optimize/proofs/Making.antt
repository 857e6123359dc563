-- A plan made of what was read: what its parts, its targets and its event have to be.
use Rattle.std.proofs.Common.{◌≡◌, ◌≤◌, ℕ, true, ◌&&◌, ◌==◌, List, [], ◌∷◌, length, map, Vec, Global, refl, sym, ◌∙◌, ap, subst, inl, inr, arith}
use Rattle.std.specs.Prelude.{None, nat_le, is_none}
use Rattle.std.specs.List.{All, AllByRecursion, AllZip}
use Rattle.std.proofs.lemmas.Bool.{and_from, eq-eqb, le-leb}
use Rattle.std.proofs.lemmas.List.{length-map}
use Rattle.std.proofs.lemmas.List.Elements.{All-from_recursion, recursion_from_All}
use Rattle.ov_event.specs.declared.event.Event.TheVariants as says
use Rattle.ov_event.specs.declared.event.PlanTarget.{PlanTarget}
use Rattle.ov_event.specs.Fields.{AreFew, IsU32}
use Rattle.ov_event.specs.Spelling.{IsEvent, IsTarget}
use Rattle.ov_graph.specs.declared.nodes.Node.{Node}
use Rattle.ov_graph.specs.Splits.{IsDivision, depth_of, parts_of}
use Rattle.ov_graph.specs.Versions.{reduced}
use Rattle.ov_host.specs.declared.area.Extent.{Extent}
use Rattle.ov_layout.specs.Parts.{AreParts}
use Rattle.ov_lyre.specs.Parts.{lists_of}
use Rattle.ov_lyre.specs.declared.outcome.Split.{Split}
use Rattle.ov_match.specs.Matching.{AllSound, NumbersAscend}
use Rattle.ov_model.specs.Lists.{IsIn}
use Rattle.ov_catalog.specs.declared.cvd.Cvd.{Cvd}
use Rattle.ov_catalog.specs.declared.cvd.Version.{Version}
use Rattle.ov_catalog.specs.declared.field.Field.TheVariants as field
use Rattle.ov_catalog.specs.Events.{graph_of, parts_at, targets_of}
use Rattle.ov_catalog.specs.Numbers.{PartNumbers}
use Rattle.ov_catalog.specs.Planning.{are_targets, is_threshold, plan_off}
use Rattle.ov_catalog.specs.Ready.{IsSet}
use Rattle.ov_catalog.specs.Sets.{part_in, plan_in, set_in, version_in}
use Rattle.ov_catalog.specs.Splitting.{IsListed, IsSplitOf}
use Rattle.ov_catalog.proofs.SplitLemmas.{parts-few, split-is}
use Rattle.law_events.proofs.Beginning.{off_last, off_none}
use Rattle.ov_targets.specs.declared.candidates.Partition.{Partition}
use Rattle.ov_targets.specs.Targets.{AreTargets, AreVids, candidate_in}
use Rattle.ov_optimize.specs.Planned.{IsSplitFor}
use Rattle.ov_optimize.specs.Reading.{IsListOf, IsPartitionOf, all_vids}
use Rattle.ov_optimize.proofs.Applying.{all_spelled, lists_long, targets_fit, targets_long}
use Rattle.ov_optimize.proofs.Vids.{ids_ascend, ids_below, part_short, part_vids, partition_vids}

sound_all : (records : ℕ) (parts : List (PartNumbers Extent)) (partitions : List Partition) → AllZip (IsPartitionOf records) parts partitions → AllSound (map candidate_in partitions)
sound_all records [] [] are = tt
sound_all records [] (r ∷ rs) are = absurd are
sound_all records (p ∷ parts) [] are = absurd are
sound_all records (p ∷ parts) (r ∷ rs) are = (are.0.sound, sound_all records parts rs are.1)

each_vids : (count : ℕ) (partitions : List Partition) → ((r : Partition) → IsIn partitions r → AreVids count r.versions.items) → All (λ r. AreVids count r.versions.items) partitions
each_vids count partitions each = All-from_recursion (λ r. AreVids count r.versions.items) partitions (by partitions each)
  where
    by : (rs : List Partition) → ((r : Partition) → IsIn rs r → AreVids count r.versions.items) → AllByRecursion (λ r. AreVids count r.versions.items) rs
    by [] all = tt
    by (r ∷ rs) all = (all r (inl refl), by rs (λ q is. all q (inr is)))

part_lists : (P : List ℕ → Type 0) (parts : List (Vec ℕ Global)) → AllByRecursion P (lists_of parts) → AllByRecursion (λ part. P part.items) parts
part_lists P [] all = tt
part_lists P (part ∷ parts) all = (all.0, part_lists P parts all.1)

each_part : (P Q : List ℕ → Type 0) (parts : List (List ℕ)) → ((part : List ℕ) → P part → Q part) → AllByRecursion P parts → AllByRecursion Q parts
each_part P Q [] f all = tt
each_part P Q (part ∷ parts) f all = (f part all.0, each_part P Q parts f all.1)

-- what was read of a dataset
pub record IsRead (d : Cvd) (lists : List (List ℕ)) (partitions : List Partition) : Type 0 where
  pub set : IsSet d
  pub sound : AreParts d.layout.parts d.layout.next
  pub listed : AllZip (IsListOf (set_in d)) (all_vids (set_in d)) lists
  pub parted : AllZip (IsPartitionOf d.records) (map part_in d.layout.parts) partitions

-- the parts are those of the split of its versions
pub split_made : (d : Cvd) (p q : ℕ) (versions : List Version) (nodes : List Node) (parts : List (Vec ℕ Global)) → nodes ≡ reduced (graph_of (map version_in versions))
    → versions ≡ d.versions.items → lists_of parts ≡ parts_of nodes p q → IsDivision nodes p q (lists_of parts) → IsSplitOf (set_in d) p q (lists_of parts)
split_made d p q versions nodes parts are same split division =
    split-is (set_in d) p q nodes (lists_of parts) (are ∙ ap (λ vs. reduced (graph_of (map version_in vs))) same) split division

-- and so is the depth
pub split_for : (d : Cvd) (p q : ℕ) (versions : List Version) (nodes : List Node) (split : Split) → nodes ≡ reduced (graph_of (map version_in versions))
    → versions ≡ d.versions.items → lists_of split.parts.items ≡ parts_of nodes p q → split.depth ≡ depth_of nodes p q
    → IsDivision nodes p q (lists_of split.parts.items) → IsSplitFor (set_in d) p q split
split_for d p q versions nodes split are same parts depth division = record {
  parts = split_made d p q versions nodes split.parts.items are same parts division;
  depth = depth ∙ ap (λ ns. depth_of ns p q) (are ∙ ap (λ vs. reduced (graph_of (map version_in vs))) same);
}

module _ (d : Cvd) (lists : List (List ℕ)) (partitions : List Partition) (read : IsRead d lists partitions) where
  ascend : NumbersAscend 0 (map candidate_in partitions)
  ascend = ids_ascend d.records 0 d.layout.next d.layout.parts partitions read.sound.sound read.parted

  pub numbers_ascend : NumbersAscend 0 (map candidate_in partitions)
  numbers_ascend = ascend

  pub segments_sound : AllSound (map candidate_in partitions)
  segments_sound = sound_all d.records (map part_in d.layout.parts) partitions read.parted

  long : length lists ≡ length d.versions.items
  long = lists_long (set_in d) lists partitions read.listed read.parted ascend ∙ length-map d.versions.items version_in

  pub versions_there : All (λ partition. AreVids (length lists) partition.versions.items) partitions
  versions_there =
      subst (λ n. All (λ (r : Partition). AreVids n r.versions.items) partitions) (sym long)
      (each_vids (length d.versions.items) partitions
      (partition_vids d.records (length d.versions.items) d.layout.next 1 d.layout.parts d.layout.parts partitions read.sound.sound read.set.new read.set.none_other (λ part there. there) read.parted))

  module _ (p q : ℕ) (parts : List (Vec ℕ Global)) (split : IsSplitOf (set_in d) p q (lists_of parts)) where
    all_listed : AllByRecursion (IsListed (length (map version_in d.versions.items))) (lists_of parts)
    all_listed = recursion_from_All (IsListed (length (map version_in d.versions.items))) (lists_of parts) split.each

    vids_there : AllByRecursion (AreVids (length lists)) (lists_of parts)
    vids_there =
        each_part (IsListed (length (map version_in d.versions.items))) (AreVids (length lists)) (lists_of parts)
        (λ part one. subst (λ n. AreVids n part) (length-map d.versions.items version_in ∙ sym long) (part_vids (length (map version_in d.versions.items)) part one)) all_listed

    pub parts_there : All (λ part. AreVids (length lists) part.items) parts
    parts_there = All-from_recursion (λ (part : Vec ℕ Global). AreVids (length lists) part.items) parts (part_lists (AreVids (length lists)) parts vids_there)

    pub parts_count : length parts ≤ 65535
    parts_count =
        omega (
          arith,
          parts-few (set_in d) p q (lists_of parts) split,
          length-map parts (λ (part : Vec ℕ Global). part.items),
          length-map d.versions.items version_in,
          read.set.few,
        )

    pub parts_short : All (λ part. length part.items ≤ 65535) parts
    parts_short =
        All-from_recursion (λ (part : Vec ℕ Global). length part.items ≤ 65535) parts
        (part_lists (λ part. length part ≤ 65535) parts
        (each_part (IsListed (length (map version_in d.versions.items))) (λ part. length part ≤ 65535) (lists_of parts)
        (λ part one. omega (arith, part_short (length (map version_in d.versions.items)) part one, length-map d.versions.items version_in, read.set.few)) all_listed))

    module _ (ts : List PlanTarget) (are : AreTargets lists partitions (lists_of parts) ts) where
      pub targets_paired : length ts ≡ length parts
      targets_paired = targets_long (set_in d) lists partitions read.listed read.parted ascend (lists_of parts) ts are ∙ length-map parts (λ (part : Vec ℕ Global). part.items)

      fit : are_targets (set_in d) (targets_of (lists_of parts) ts) ≡ true
      fit = targets_fit (set_in d) lists partitions read.listed read.parted ascend (lists_of parts) ts vids_there are

      pub applies : d.plan ≡ None → is_threshold p q ≡ true → d.layout.next ≤ 4294000000 → plan_off p q ts (set_in d) ≡ None
      applies idle threshold numbers =
          off_none (is_none (set_in d).plan && (is_threshold p q && nat_le d.layout.next 4294000000)) field.Plan _
          (and_from (is_none (set_in d).plan) (is_threshold p q && nat_le d.layout.next 4294000000)
          (ap (λ plan. is_none (plan_in plan)) idle)
          (and_from (is_threshold p q) (nat_le d.layout.next 4294000000) threshold (le-leb d.layout.next 4294000000 numbers)))
          (off_last (length ts == length (parts_at p q (set_in d)) && are_targets (set_in d) (targets_of (parts_at p q (set_in d)) ts)) field.Count
          (and_from (length ts == length (parts_at p q (set_in d))) (are_targets (set_in d) (targets_of (parts_at p q (set_in d)) ts))
          (eq-eqb (length ts) (length (parts_at p q (set_in d)))
          (targets_long (set_in d) lists partitions read.listed read.parted ascend (lists_of parts) ts are ∙ ap length split.parts_are))
          (ap (λ ps. are_targets (set_in d) (targets_of ps ts)) (sym split.parts_are) ∙ fit)))

      pub spelled : d.layout.next ≤ 4294000000 → AreFew 32 IsTarget ts
      spelled numbers = (
        omega (arith, targets_paired, parts_count),
        all_spelled (set_in d) lists partitions read.listed read.parted ascend (lists_of parts) ts vids_there are read.set.records
            (λ r there. omega (arith, ids_below d.records 1 d.layout.next d.layout.parts partitions r read.sound.sound read.parted there, numbers)),
      )

pub plan_spelled : (cvd p q : ℕ) (ts : List PlanTarget) → IsU32 cvd → IsU32 p → IsU32 q → AreFew 32 IsTarget ts → IsEvent (says.Plan cvd p q ts)
unfolding IsEvent
plan_spelled cvd p q ts number low_p low_q few = (number, low_p, low_q, few)
