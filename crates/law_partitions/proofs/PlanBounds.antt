-- Both bounds of a split, of the records that the partitions have.
use Rattle.std.proofs.Common.{◌≡◌, ◌≤◌, ◌<◌, ℕ, zero, suc, ◌+◌, ◌*◌, ◌^◌, List, [], ◌∷◌, length, map, refl, sym, ◌∙◌, ap, subst, inl, inr, arith, mul-le-mul_left}
use Rattle.std.specs.Prelude.{Option, None}
use Rattle.std.specs.List.{sum}
use Rattle.std.proofs.lemmas.List.Sums.{sum_by-cons}
use Rattle.ov_graph.specs.declared.nodes.Node.{Node}
use Rattle.ov_graph.specs.Splits as splits
use Rattle.ov_graph.specs.Splits.{AreBounded, IsPart, cuts_of, depth, first_of, in_order, leaves, members, records, sizes}
use Rattle.ov_graph.specs.Trees.{VersionTree, all_members, all_records, fresh, total, tree_of, vids}
use Rattle.ov_lyre.proofs.CutsFacts.{AreParts, split-bounded, split-sound}
use Rattle.ov_model.specs.Act.{Session}
use Rattle.ov_model.specs.Course.{Space, course, world_at}
use Rattle.ov_model.specs.Forms.{Form}
use Rattle.ov_model.specs.Lists.{IsIn}
use Rattle.ov_model.specs.Placed.{times}
use Rattle.ov_model.specs.Plans.{depth_at, nodes_of_set, parts_at, records_in, sizes_of}
use Rattle.ov_model.specs.Records.{AllRise}
use Rattle.ov_model.specs.World.{Part, Plan, Dataset, World, copied_records, cost, held, stored}
use Rattle.law_partitions.specs.Courses.{HasPartitions}
use Rattle.law_partitions.specs.OldOrNew.{AreOldOrNew, IsOldOrNew}
use Rattle.law_partitions.specs.PlanBounds.{AreExact, IsBounded}
use Rattle.law_partitions.specs.PlanEnds.{ArePlanned, HaveParents, IsPlanned, IsSplit, versions_of}
use Rattle.law_partitions.specs.Sound.{AllNameVersions}
use Rattle.law_partitions.proofs.OldTight.{old_at, old_in}
use Rattle.law_partitions.proofs.PlanMoves.{planned_at, planned_in}
use Rattle.law_partitions.proofs.PlanCounts.{part_size}
use Rattle.law_partitions.proofs.PlanNodes.{node_is, sound, whole_part}
use Rattle.law_partitions.proofs.PlanParts.{keyed_by, nodes_long, order_total, total_by, vid_once}

-- ---- a sum over the parts of a split, in any order

first_there : (tree : VersionTree) (count : ℕ) (part : List ℕ) → IsPart tree count part → times (vids count) (first_of part) ≡ 1
first_there tree count [] is = absurd (omega (arith, is.some))
first_there tree count (top ∷ rest) is = let up = is.ascends in vid_once count top (omega (arith, up.0)) up.1

keyed_parts : (f : List ℕ → ℕ) (tree : VersionTree) (count : ℕ) (vss : List (List ℕ)) → AreParts tree count vss → keyed_by f (vids count) vss ≡ total_by f vss
keyed_parts f tree count [] are = refl
keyed_parts f tree count (vs ∷ vss) are =
    let one : times (vids count) (first_of vs) * f vs ≡ f vs = ap (λ n. n * f vs) (first_there tree count vs are.0) ∙ one_mul (f vs)
    in omega (arith, one, keyed_parts f tree count vss are.1)
  where
    one_mul : (n : ℕ) → 1 * n ≡ n
    one_mul n = omega arith

-- ---- of the split

module _ (d : Dataset) (have : HaveParents 0 d.cvd.versions) (rise : AllRise d.cvd.schema d.cvd.versions) (filled : 0 < length d.cvd.versions) (p q : ℕ) (up : p ≤ q) where
  abbrev nodes : List Node
  nodes = nodes_of_set d

  abbrev tree : VersionTree
  tree = tree_of nodes

  abbrev long : ℕ
  long = length nodes

  abbrev pieces : List (List ℕ)
  pieces = leaves (cuts_of tree p q (vids long))

  abbrev size : List ℕ → ℕ
  size vs = length (records_in d.cvd vs)

  whole : IsPart tree long (vids long)
  whole = subst (λ n. IsPart tree n (vids n)) (sym (nodes_long d)) (whole_part d have filled)

  are_parts : AreParts tree long pieces
  are_parts = (split-sound tree (sound d have) p q up long (vids long) whole).parts

  bounded : AreBounded p q (depth (cuts_of tree p q (vids long))) (records tree (vids long)) (members tree (vids long)) (sizes tree pieces)
  bounded = split-bounded tree (sound d have) p q up long (vids long) whole

  whole_records : (count : ℕ) → 0 < count → records tree (vids count) ≡ total (fresh tree) (vids count)
  whole_records zero lt = absurd (omega (arith, lt))
  whole_records (suc count) lt = let root : tree.weight 1 ≡ 0 = (node_is d have 0 filled).root refl in omega (arith, root)

  all_are : records tree (vids long) ≡ all_records nodes
  all_are = whole_records long (omega (arith, nodes_long d, filled))

  smaller : (vss : List (List ℕ)) → AreParts tree long vss → total_by size vss ≤ splits.stored (sizes tree vss)
  smaller [] are = omega arith
  smaller (vs ∷ vss) are =
      let one : size vs ≤ records tree vs = part_size d have rise vs (subst (λ n. IsPart tree n vs) (nodes_long d) are.0)
      in omega (arith, one, smaller vss are.1)

  cheaper : (vss : List (List ℕ)) → AreParts tree long vss → total_by (λ vs. length vs * size vs) vss ≤ splits.cost (sizes tree vss)
  cheaper [] are = omega arith
  cheaper (vs ∷ vss) are =
      let one : size vs ≤ records tree vs = part_size d have rise vs (subst (λ n. IsPart tree n vs) (nodes_long d) are.0)
      in let product : length vs * size vs ≤ length vs * records tree vs = mul-le-mul_left (length vs) one
      in omega (arith, product, cheaper vss are.1)

  stored_total : (vss : List (List ℕ)) → splits.stored (sizes_of d vss) ≡ total_by size vss
  stored_total [] = refl
  stored_total (vs ∷ vss) = ap (λ n. size vs + n) (stored_total vss)

  cost_total : (vss : List (List ℕ)) → splits.cost (sizes_of d vss) ≡ total_by (λ vs. length vs * size vs) vss
  cost_total [] = refl
  cost_total (vs ∷ vss) = ap (λ n. length vs * size vs + n) (cost_total vss)

  stored_less : splits.stored (sizes_of d (parts_at d p q)) ≤ splits.stored (sizes tree pieces)
  stored_less =
      omega (arith, stored_total (parts_at d p q), order_total size (vids long) pieces, keyed_parts size tree long pieces are_parts, smaller pieces are_parts)

  cost_less : splits.cost (sizes_of d (parts_at d p q)) ≤ splits.cost (sizes tree pieces)
  cost_less =
      let f : List ℕ → ℕ = λ vs. length vs * size vs
      in omega (arith, cost_total (parts_at d p q), order_total f (vids long) pieces, keyed_parts f tree long pieces are_parts, cheaper pieces are_parts)

  pub stored_bound : q ^ depth_at d p q * splits.stored (sizes_of d (parts_at d p q)) ≤ (p + q) ^ depth_at d p q * all_records nodes
  stored_bound =
      let less : q ^ depth_at d p q * splits.stored (sizes_of d (parts_at d p q)) ≤ q ^ depth_at d p q * splits.stored (sizes tree pieces) =
      mul-le-mul_left (q ^ depth_at d p q) stored_less
      in let bound : q ^ depth_at d p q * splits.stored (sizes tree pieces) ≤ (p + q) ^ depth_at d p q * all_records nodes =
      subst (λ n. q ^ depth_at d p q * splits.stored (sizes tree pieces) ≤ (p + q) ^ depth_at d p q * n) all_are bounded.stored_bound
      in omega (arith, less, bound)

  pub cost_bound : p * splits.cost (sizes_of d (parts_at d p q)) ≤ q * all_members nodes
  cost_bound =
      let less : p * splits.cost (sizes_of d (parts_at d p q)) ≤ p * splits.cost (sizes tree pieces) = mul-le-mul_left p cost_less
      in omega (arith, less, bounded.cost_bound)

-- ---- of the partitions

stored_are : (d : Dataset) (parts : List Part) → ((part : Part) → IsIn parts part → length (held part) ≡ length (records_in d.cvd part.versions))
    → sum (map (λ part. length (held part)) parts) ≡ splits.stored (sizes_of d (versions_of parts))
stored_are d [] exact = refl
stored_are d (part ∷ parts) exact =
    sum_by-cons (λ x. x) (length (held part)) (map (λ x. length (held x)) parts)
    ∙ (λ i. exact part (inl refl) i + stored_are d parts (λ x is. exact x (inr is)) i)

cost_are : (d : Dataset) (parts : List Part) → ((part : Part) → IsIn parts part → length (held part) ≡ length (records_in d.cvd part.versions))
    → sum (map (λ part. length part.versions * length (held part)) parts) ≡ splits.cost (sizes_of d (versions_of parts))
cost_are d [] exact = refl
cost_are d (part ∷ parts) exact =
    sum_by-cons (λ x. x) (length part.versions * length (held part)) (map (λ x. length x.versions * length (held x)) parts)
    ∙ (λ i. length part.versions * exact part (inl refl) i + cost_are d parts (λ x is. exact x (inr is)) i)

none_copied : (plan : Option Plan) → plan ≡ None → copied_records plan ≡ 0
none_copied plan e = ap copied_records e

pub split_bounded : (d : Dataset) (p q : ℕ) → IsOldOrNew d → IsPlanned d → IsSplit d p q → d.plan ≡ None → AreExact d → IsBounded d p q
split_bounded d p q old planned split idle exact =
    let stored_is : stored d ≡ splits.stored (sizes_of d (parts_at d p q)) =
    (let all : sum (map (λ part. length (held part)) d.parts) ≡ splits.stored (sizes_of d (parts_at d p q)) =
    stored_are d d.parts exact ∙ ap (λ vss. splits.stored (sizes_of d vss)) split.are
    in omega (arith, none_copied d.plan idle, all))
    in let cost_is : cost d ≡ splits.cost (sizes_of d (parts_at d p q)) = cost_are d d.parts exact ∙ ap (λ vss. splits.cost (sizes_of d vss)) split.are
    in record {
      stored_is = stored_is;
      cost_is = cost_is;
      stored_bound =
          subst (λ n. q ^ depth_at d p q * n ≤ (p + q) ^ depth_at d p q * all_records (nodes_of_set d)) (sym stored_is) (stored_bound d planned.parents planned.rows old.begun p q split.up_to_q);
      cost_bound = subst (λ n. p * n ≤ q * all_members (nodes_of_set d)) (sym cost_is) (cost_bound d planned.parents planned.rows old.begun p q split.up_to_q);
    }

pub bounded_at : (forms : List Form) (n : ℕ) (w : World) (s : Session) (lines : List (List ℕ)) (space : Space) → AllNameVersions forms lines → HasPartitions w → AreOldOrNew w.sets → ArePlanned w.sets
    → (k : ℕ) (d : Dataset) (p q : ℕ) → IsIn (world_at w (course forms n w s lines space).items k).sets d → IsSplit d p q → d.plan ≡ None → AreExact d → IsBounded d p q
bounded_at forms n w s lines space names has old are k d p q there =
    split_bounded d p q
    (old_in (world_at w (course forms n w s lines space).items k).sets d (old_at forms n w s lines space names has old k) there)
    (planned_in (world_at w (course forms n w s lines space).items k).sets d (planned_at forms n w s lines space names has old are k) there)
