-- A version more: what a partition and a plan have.
use Rattle.std.proofs.Common.{◌≡◌, ◌≤◌, ◌<◌, ℕ, zero, suc, ◌+◌, Bool, true, false, ◌==◌, List, [], ◌∷◌, ◌++◌, length, map, get_or, refl, sym, ◌∙◌, ap, subst, inl, inr, arith}
use Rattle.std.specs.Prelude.{◌⊎◌, if◌then◌else◌, slice_index_or, Option, Some, None}
use Rattle.std.proofs.lemmas.List.{append-nil, length-append}
use Rattle.ov_place.specs.declared.place_facts.Place.{Place}
use Rattle.ov_place.specs.declared.place_facts.Place.TheVariants.{Own, Join}
use Rattle.ov_model.specs.Book.{Version}
use Rattle.ov_model.specs.Holding.{VersionsAreIn}
use Rattle.ov_model.specs.Lists.{IsIn, AreIn, joined}
use Rattle.ov_model.specs.Moves.{piece_of, with_joined, own_part, parts_with, next_with, placed_at, with_version}
use Rattle.ov_model.specs.Placed.{id_times}
use Rattle.ov_model.specs.Plans.{pieces_of, meets, kept_pieces, current, no_target}
use Rattle.ov_model.specs.Records.{Rec, is_among, ordered_records, lacking, recs, records_of, order_of}
use Rattle.ov_model.specs.World.{Part, Target, Plan, Dataset, held, is_one, targets_from}
use Rattle.ov_model.proofs.Counting.{one_if, one_other, ids-append, times-append, listed}
use Rattle.ov_model.proofs.Growing.{recs_more, length_recs}
use Rattle.ov_model.proofs.Holds.{among_in, all_ordered}
use Rattle.law_partitions.specs.Pieces.{NoTwice, AllFull, AreOf, IsPieces, PartsArePieces, versions_of, AreBelow, IsKept, AllKept, IsUnderWay, PlanIsUnderWay, row_times, HaveNoRowTwice, HasPieces}
use Rattle.law_partitions.proofs.CountRuns.{behind}
use Rattle.law_partitions.proofs.PieceFlip.{picked, is_listed, met, meeting}
use Rattle.law_partitions.proofs.PieceLists.{in_filtered, with_lacking, piece_all, piece_full, joined-append, full-append, are_of, of-append, of_left, of_right, are_longer, versions_more, versions-append, last_in, last_of}
use Rattle.law_partitions.proofs.PieceTimes.{times-filter, once-lacking, all_once}

-- ---- partitions

pub pieces-append : (done : List (List Rec)) (a b : List Part) → PartsArePieces done a → PartsArePieces done b → PartsArePieces done (a ++ b)
pieces-append done [] b are more = more
pieces-append done (part ∷ a) b are more = (are.0, pieces-append done a b are.1 more)

-- `l` are the records of the last version, and `rs` the same ones as they come to its partition
module _ (done : List (List Rec)) (l rs : List Rec) (once : NoTwice rs) (there : AreIn l rs) (ours : (r : Rec) → IsIn rs r → IsIn l r) where
  abbrev longer : List (List Rec)
  longer = done ++ l ∷ []

  part_stays : (part : Part) → IsPieces done part → IsPieces longer part
  part_stays part is = record {
    once = is.once;
    full = is.full;
    all = subst (VersionsAreIn longer part.holds) (append-nil (held part)) (versions_more done l part.holds (held part) [] is.all);
    only = are_longer done l part.holds (held part) is.only;
  }

  pub parts_stay : (parts : List Part) → PartsArePieces done parts → PartsArePieces longer parts
  parts_stay [] are = tt
  parts_stay (part ∷ parts) are = (part_stays part are.0, parts_stay parts are.1)

  pub own_pieces : (id : ℕ) → IsPieces longer (own_part id (length done + 1) rs)
  own_pieces id = record {
    once = subst NoTwice (sym (piece_all rs)) once;
    full = piece_full rs;
    all = subst (VersionsAreIn longer ((length done + 1) ∷ [])) (sym (piece_all rs)) (last_in done l rs there);
    only = subst (AreOf longer ((length done + 1) ∷ [])) (sym (piece_all rs))
        (are_of longer ((length done + 1) ∷ []) rs (λ r is. last_of done l r (ours r is)));
  }

  joined_pieces : (part : Part) → IsPieces done part → IsPieces longer (with_joined (length done + 1) rs part)
  joined_pieces part is =
      let more : List Rec = lacking rs (held part)
      in let vid : ℕ = length done + 1
      in let all : held part ++ more ≡ held (with_joined vid rs part) =
      ap (λ x. held part ++ x) (sym (piece_all more)) ∙ sym (joined-append part.pieces (piece_of more))
      in record {
        once = subst NoTwice all (once-lacking rs (held part) once is.once);
        full = full-append part.pieces (piece_of more) is.full (piece_full more);
        all = subst (VersionsAreIn longer (part.holds ++ vid ∷ [])) all
            (versions-append longer part.holds (vid ∷ []) (held part ++ more)
            (versions_more done l part.holds (held part) more is.all)
            (last_in done l (held part ++ more) (with_lacking l (held part) rs there)));
        only = subst (AreOf longer (part.holds ++ vid ∷ [])) all
            (of-append longer (part.holds ++ vid ∷ []) (held part) more
            (wider (held part) (are_longer done l part.holds (held part) is.only))
            (are_of longer (part.holds ++ vid ∷ []) more (λ r lacks. of_right longer part.holds (vid ∷ []) r (last_of done l r (ours r (in_filtered _ rs r lacks).0)))));
      }
    where
      wider : (xs : List Rec) → AreOf longer part.holds xs → AreOf longer (part.holds ++ (length done + 1) ∷ []) xs
      wider [] are = tt
      wider (r ∷ xs) are = (of_left longer part.holds ((length done + 1) ∷ []) r are.0, wider xs are.1)

  either_pieces : (t : Bool) (part : Part) → IsPieces done part → IsPieces longer (if t then with_joined (length done + 1) rs part else part)
  either_pieces true part is = joined_pieces part is
  either_pieces false part is = part_stays part is

  all_joined : (id : ℕ) (parts : List Part) → PartsArePieces done parts → PartsArePieces longer (map (λ part. if part.id == id then with_joined (length done + 1) rs part else part) parts)
  all_joined id [] are = tt
  all_joined id (part ∷ parts) are = (either_pieces (part.id == id) part are.0, all_joined id parts are.1)

  pub placed_pieces : (place : Place) (next : ℕ) (parts : List Part) → PartsArePieces done parts → PartsArePieces longer (parts_with place next (length done + 1) rs parts)
  placed_pieces Own next parts are = pieces-append longer parts (own_part next (length done + 1) rs ∷ []) (parts_stay parts are) (own_pieces next, tt)
  placed_pieces (Join id) next parts are = all_joined id parts are

-- ---- partitions by their numbers: pieces and versions come behind those that were there

abbrev Longer : List (List Rec) → List (List Rec) → Type 0
Longer before after = (more : List (List Rec)) × (after ≡ before ++ more)

abbrev Wider : List ℕ → List ℕ → Type 0
Wider before after = (vid : ℕ) → is_one before vid ≡ true → is_one after vid ≡ true

abbrev pub Grow : List Part → List Part → Type 0
Grow before after = (id : ℕ) → Longer (pieces_of before id) (pieces_of after id) × Wider (versions_of before id) (versions_of after id)

own_if : (t : Bool) (part : Part) (pieces after : List (List Rec)) (versions later : List ℕ) → Longer pieces after × Wider versions later
    → Longer (if t then part.pieces else pieces) (if t then part.pieces else after) × Wider (if t then part.versions else versions) (if t then part.versions else later)
own_if true part pieces after versions later grow = (([], sym (append-nil part.pieces)), λ vid e. e)
own_if false part pieces after versions later grow = grow

own_grow : (own : Part) (parts : List Part) → Grow parts (parts ++ own ∷ [])
own_grow own [] id = ((pieces_of (own ∷ []) id, refl), λ vid e. cc)
own_grow own (part ∷ parts) id =
    own_if (part.id == id) part (pieces_of parts id) (pieces_of (parts ++ own ∷ []) id) (versions_of parts id) (versions_of (parts ++ own ∷ []) id) (own_grow own parts id)

with_id : (t : Bool) (vid : ℕ) (rs : List Rec) (part : Part) → (if t then with_joined vid rs part else part).id ≡ part.id
with_id true vid rs part = refl
with_id false vid rs part = refl

with_pieces : (t : Bool) (vid : ℕ) (rs : List Rec) (part : Part) → Longer part.pieces (if t then with_joined vid rs part else part).pieces
with_pieces true vid rs part = (piece_of (lacking rs (held part)), refl)
with_pieces false vid rs part = ([], sym (append-nil part.pieces))

with_versions : (t : Bool) (vid : ℕ) (rs : List Rec) (part : Part) → Wider part.versions (if t then with_joined vid rs part else part).versions
with_versions true vid rs part other there =
    is_listed (part.versions ++ vid ∷ []) other (omega (arith, times-append part.versions (vid ∷ []) other, listed part.versions other there))
with_versions false vid rs part other there = there

join_if : (u : Bool) (part joined_part : Part) (pieces after : List (List Rec)) (versions later : List ℕ)
    → Longer part.pieces joined_part.pieces → Wider part.versions joined_part.versions → Longer pieces after × Wider versions later
    → Longer (if u then part.pieces else pieces) (if u then joined_part.pieces else after) × Wider (if u then part.versions else versions) (if u then joined_part.versions else later)
join_if true part joined_part pieces after versions later more wide grow = (more, wide)
join_if false part joined_part pieces after versions later more wide grow = grow

join_grow : (at vid : ℕ) (rs : List Rec) (parts : List Part) → Grow parts (map (λ part. if part.id == at then with_joined vid rs part else part) parts)
join_grow at vid rs [] id = (([], refl), λ other e. e)
join_grow at vid rs (part ∷ parts) id =
    let t : Bool = part.id == at
    in let with_it : Part = if t then with_joined vid rs part else part
    in let rest : List Part = map (λ p. if p.id == at then with_joined vid rs p else p) parts
    in subst (λ k. Longer (if part.id == id then part.pieces else pieces_of parts id) (if k == id then with_it.pieces else pieces_of rest id)
    × Wider (if part.id == id then part.versions else versions_of parts id) (if k == id then with_it.versions else versions_of rest id))
    (sym (with_id t vid rs part))
    (join_if (part.id == id) part with_it (pieces_of parts id) (pieces_of rest id) (versions_of parts id) (versions_of rest id)
    (with_pieces t vid rs part) (with_versions t vid rs part) (join_grow at vid rs parts id))

pub placed_grow : (place : Place) (next vid : ℕ) (rs : List Rec) (parts : List Part) → Grow parts (parts_with place next vid rs parts)
placed_grow Own next vid rs parts = own_grow (own_part next vid rs) parts
placed_grow (Join id) next vid rs parts = join_grow id vid rs parts

-- ---- what targets keep

at_front : (pieces more : List (List Rec)) (k : ℕ) → k < length pieces → get_or (pieces ++ more) k [] ≡ get_or pieces k []
at_front [] more k low = absurd (omega (arith, low))
at_front (piece ∷ pieces) more zero low = refl
at_front (piece ∷ pieces) more (suc k) low = at_front pieces more k (omega (arith, low))

picked_more : (pieces more : List (List Rec)) (places : List ℕ) → AreBelow (length pieces) places → picked (pieces ++ more) places ≡ picked pieces places
picked_more pieces more [] low = refl
picked_more pieces more (k ∷ places) low = λ i. at_front pieces more k low.0 i ∷ picked_more pieces more places low.1 i

below_more : (n m : ℕ) (places : List ℕ) → n ≤ m → AreBelow n places → AreBelow m places
below_more n m [] le low = tt
below_more n m (k ∷ places) le low = (omega (arith, le, low.0), below_more n m places le low.1)

no_target_kept : (d : Dataset) → IsKept d no_target
no_target_kept d = record { there = tt; serves = inl refl; once = λ r. omega arith; full = tt; only = tt; count = refl }

current_at : (d : Dataset) (k : ℕ) (ts : List Target) → AllKept d (targets_from k ts) → IsKept d (slice_index_or ts k no_target)
current_at d k [] kept = no_target_kept d
current_at d zero (t ∷ ts) kept = kept.0
current_at d (suc k) (t ∷ ts) kept = current_at d k ts (subst (AllKept d) (behind k t ts) kept)

pub current_kept : (d : Dataset) (plan : Plan) → AllKept d (targets_from plan.at plan.targets) → IsKept d (current plan)
current_kept d plan kept = current_at d plan.at plan.targets kept

-- in a dataset whose partitions and records grew
module _ (d after : Dataset) (grow : Grow d.parts after.parts) (more : (vids : List ℕ) (rs : List Rec) → AreOf (recs d.cvd.versions []) vids rs → AreOf (recs after.cvd.versions []) vids rs) where
  same_kept : (t : Target) → IsKept d t → kept_pieces after t ≡ kept_pieces d t
  same_kept t is =
      let longer = (grow t.source).0
      in ap (λ pieces. picked pieces t.kept) longer.1 ∙ picked_more (pieces_of d.parts t.source) longer.0 t.kept is.there

  still_serves : (t : Target) → (t.kept ≡ []) ⊎ (meets t.versions (versions_of d.parts t.source) ≡ true) → (t.kept ≡ []) ⊎ (meets t.versions (versions_of after.parts t.source) ≡ true)
  still_serves t (inl none) = inl none
  still_serves t (inr serves) =
      let found = met t.versions (versions_of d.parts t.source) serves
      in inr (meeting t.versions (versions_of after.parts t.source) found.0 found.1 ((grow t.source).1 found.0 found.2))

  kept_grown : (t : Target) → IsKept d t → IsKept after t
  kept_grown t is =
      let same : kept_pieces d t ≡ kept_pieces after t = sym (same_kept t is)
      in let longer = (grow t.source).0
      in record {
        there = below_more (length (pieces_of d.parts t.source)) (length (pieces_of after.parts t.source)) t.kept
            (omega (arith, ap length longer.1, length-append (pieces_of d.parts t.source) longer.0)) is.there;
        serves = still_serves t is.serves;
        once = subst (λ pieces. NoTwice (joined pieces)) same is.once;
        full = subst AllFull same is.full;
        only = subst (λ pieces. AreOf (recs after.cvd.versions []) t.versions (joined pieces)) same (more t.versions (joined (kept_pieces d t)) is.only);
        count = is.count ∙ ap (λ pieces. length (joined pieces)) same;
      }

  all_grown : (ts : List Target) → AllKept d ts → AllKept after ts
  all_grown [] are = tt
  all_grown (t ∷ ts) are = (kept_grown t are.0, all_grown ts are.1)

  pub way_grown : (plan : Plan) → IsUnderWay d plan → IsUnderWay after plan
  way_grown plan way = record {
    apart = way.apart;
    kept = all_grown (targets_from plan.at plan.targets) way.kept;
    once = subst (λ pieces. NoTwice (joined pieces ++ joined plan.copied)) (sym (same_kept (current plan) (current_kept d plan way.kept))) way.once;
    full = way.full;
    only = more (current plan).versions (joined plan.copied) way.only;
  }

  pub plan_grown : (plan : Option Plan) → PlanIsUnderWay d plan → PlanIsUnderWay after plan
  plan_grown None way = tt
  plan_grown (Some plan) way = way_grown plan way

-- ---- a dataset with a version more

rows_more : (vs : List Version) (v : Version) → HaveNoRowTwice vs → ((row : _) → row_times v.rows row ≤ 1) → HaveNoRowTwice (vs ++ v ∷ [])
rows_more [] v have once = (once, tt)
rows_more (w ∷ vs) v have once = (have.0, rows_more vs v have.1 once)

joined_ids : (id next : ℕ) (rs : List Rec) (parts : List Part) (other : ℕ) → id_times (map (λ part. if part.id == id then with_joined next rs part else part) parts) other ≡ id_times parts other
joined_ids id next rs [] other = refl
joined_ids id next rs (part ∷ parts) other =
    λ i. one_if (with_id (part.id == id) next rs part i == other) + joined_ids id next rs parts other i

placed_ids : (place : Place) (next vid : ℕ) (rs : List Rec) (parts : List Part) → 1 ≤ next → id_times parts 0 ≡ 0 → id_times (parts_with place next vid rs parts) 0 ≡ 0
placed_ids Own next vid rs parts low none =
    omega (arith, ids-append parts (own_part next vid rs ∷ []) 0, none, one_other next 0 (λ e. omega (arith, e, low)))
placed_ids (Join id) next vid rs parts low none = joined_ids id vid rs parts 0 ∙ none

placed_next : (place : Place) (next : ℕ) → 1 ≤ next → 1 ≤ next_with place next
placed_next Own next low = omega (arith, low)
placed_next (Join id) next low = low

-- the records of a version that comes, in the order of their rids: none twice, and no other
ordered_once : (vs : List Version) (v : Version) → HaveNoRowTwice (vs ++ v ∷ []) → NoTwice (ordered_records vs v)
ordered_once vs v have r =
    omega (arith, times-filter (is_among (records_of v (recs vs []))) (order_of (vs ++ v ∷ [])) r, all_once (vs ++ v ∷ []) have r)

ordered_ours : (vs : List Version) (v : Version) (r : Rec) → IsIn (ordered_records vs v) r → IsIn (records_of v (recs vs [])) r
ordered_ours vs v r is =
    among_in (records_of v (recs vs [])) r (in_filtered (is_among (records_of v (recs vs []))) (order_of (vs ++ v ∷ [])) r is).1

pub version_pieces : (v : Version) (d : Dataset) → ((row : _) → row_times v.rows row ≤ 1) → HasPieces d → HasPieces (with_version v d)
version_pieces v d once is =
    let vs : List Version = d.cvd.versions
    in let done : List (List Rec) = recs vs []
    in let l : List Rec = records_of v done
    in let rs : List Rec = ordered_records vs v
    in let number : length done ≡ length vs = length_recs vs [] ∙ omega arith
    in let all : recs (vs ++ v ∷ []) [] ≡ done ++ l ∷ [] = recs_more vs v []
    in let place : Place = placed_at d v
    in let rows : HaveNoRowTwice (vs ++ v ∷ []) = rows_more vs v is.rows once
    in record {
      parts = subst (λ rss. PartsArePieces rss (with_version v d).parts) (sym all)
          (subst (λ n. PartsArePieces (done ++ l ∷ []) (parts_with place d.next_part (n + 1) rs d.parts)) number
          (placed_pieces done l rs (ordered_once vs v rows) (all_ordered vs v) (ordered_ours vs v) place d.next_part d.parts is.parts));
      plan = plan_grown d (with_version v d) (placed_grow place d.next_part (length vs + 1) rs d.parts)
          (λ vids of are. subst (λ rss. AreOf rss vids of) (sym all) (are_longer done l vids of are)) d.plan is.plan;
      rows = rows;
      no_zero = placed_ids place d.next_part (length vs + 1) rs d.parts is.next is.no_zero;
      next = placed_next place d.next_part is.next;
    }
