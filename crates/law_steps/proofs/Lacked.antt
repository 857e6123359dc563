-- What is missing for a target, by rids.
use Rattle.std.proofs.Common.{◌≡◌, ℕ, List, [], length, map, take, drop, sym, ◌∙◌, ap, ◌∷◌, inl, inr, refl}
use Rattle.std.specs.Prelude.{Some}
use Rattle.std.specs.List.{list_any}
use Rattle.std.proofs.lemmas.List.{append-nil, drop-map, take-map, length-map}
use Rattle.ov_member.specs.Rids.{AreRids, has, left_out}
use Rattle.ov_model.specs.Lists.{IsIn, AreIn, joined}
use Rattle.ov_model.specs.Plans.{current, kept_pieces, missing, missing_of, records_in}
use Rattle.ov_model.specs.Records.{Rec, lacking, order_of, recs, rid_in}
use Rattle.ov_model.specs.World.{Plan, Dataset, World}
use Rattle.ov_model.proofs.Origins.{all_known}
use Rattle.law_partitions.specs.Pieces.{HasPieces, IsKept}
use Rattle.law_partitions.proofs.PieceLists.{in_filtered, in_taken, is_of}
use Rattle.law_partitions.proofs.PieceMore.{current_kept}
use Rattle.law_partitions.proofs.PieceTimes.{all_once}
use Rattle.law_partitions.proofs.PlanExact.{known_one}
use Rattle.ov_catalog.specs.Reached.{Reached}
use Rattle.ov_catalog.specs.Shown.{kept_as, list_of, segment_of}
use Rattle.ov_read.specs.OfWorld.{rids_in}
use Rattle.law_steps.specs.Targets.{kept_rids, missing_rids, wanted_rids}
use Rattle.law_steps.proofs.Climbing.{Climbs, all_climb, climbs_filter, climbs_take, listed, segmented}
use Rattle.law_steps.proofs.Named.{has_rids, left_rids}
use Rattle.law_steps.proofs.Taken.{dropped, pieces_of_set, way_of}
use Rattle.law_steps.proofs.Wanted.{ours_known, wanted_listed}

module _ (w : World) (d : Dataset) (reached : Reached w) (is : IsIn w.sets d) where
  abbrev all : List Rec
  all = order_of d.cvd.versions

  has_pieces : HasPieces d
  has_pieces = pieces_of_set w d reached is

  climbs : Climbs (rid_in all) 1 all
  climbs = all_climb all (all_once d.cvd.versions has_pieces.rows)

  pub wanted : (vids rids : List ℕ) → AreRids rids → ((rid : ℕ) → has rids rid ≡ list_any (λ vid. has (rids_in d vid) rid) vids)
      → rids ≡ wanted_rids d vids
  wanted vids rids are same = wanted_listed d vids rids has_pieces.rows are same

  climb_in : (vids : List ℕ) → Climbs (rid_in all) 1 (records_in d.cvd vids)
  climb_in vids = climbs_filter (rid_in all) _ 1 all climbs

  module _ (plan : Plan) (runs : d.plan ≡ Some plan) where
    abbrev ours : List Rec
    ours = records_in d.cvd (current plan).versions

    abbrev kept_records : List Rec
    kept_records = joined (kept_pieces d (current plan))

    abbrev lacked : List Rec
    lacked = missing_of d (current plan) []

    climb_missing : Climbs (rid_in all) 1 (missing d plan)
    climb_missing = climbs_filter (rid_in all) _ 1 ours (climb_in (current plan).versions)

    kept_known : (r : Rec) → IsIn kept_records r → IsIn all r
    kept_known r there =
        let kept : IsKept d (current plan) = current_kept d plan (way_of d plan has_pieces runs).kept
        in known_one (recs d.cvd.versions []) (current plan).versions all r (all_known d.cvd.versions)
        (is_of (recs d.cvd.versions []) (current plan).versions kept_records r kept.only there)

    module _ (rids kept : List ℕ) (are : rids ≡ wanted_rids d (current plan).versions) (same : (rid : ℕ) → has kept rid ≡ has (kept_rids d (current plan)) rid) where
      left_is : left_out rids kept ≡ map (rid_in all) lacked
      left_is =
          ap (λ ns. left_out ns kept) (are ∙ listed all 1 ours (climb_in (current plan).versions))
          ∙ left_rids all kept kept_records ours
          (λ r there. same (rid_in all r) ∙ has_rids all kept_records r kept_known (ours_known d (current plan).versions r there))
          ∙ ap (λ rs. map (rid_in all) (lacking ours rs)) (sym (append-nil kept_records))

      dropped_is : drop (length (joined plan.copied)) (left_out rids kept) ≡ map (rid_in all) (missing d plan)
      dropped_is =
          ap (drop (length (joined plan.copied))) left_is ∙ drop-map (rid_in all) (length (joined plan.copied)) lacked
          ∙ ap (map (rid_in all)) (sym (dropped w d plan reached is runs))

      pub missing_listed : drop (length (joined plan.copied)) (left_out rids kept) ≡ missing_rids d plan
      missing_listed = dropped_is ∙ sym (listed all 1 (missing d plan) climb_missing)

      pub count : length (left_out rids kept) ≡ length lacked
      count = ap length left_is ∙ length-map lacked (rid_in all)

    pub next_listed : take 256 (missing_rids d plan) ≡ list_of all (take 256 (missing d plan))
    next_listed =
        ap (take 256) (listed all 1 (missing d plan) climb_missing) ∙ take-map (rid_in all) 256 (missing d plan)
        ∙ sym (listed all 1 (take 256 (missing d plan)) (climbs_take (rid_in all) 256 1 (missing d plan) climb_missing))

    pub ordered : segment_of all (take 256 (missing d plan)) ≡ map (kept_as all) (take 256 (missing d plan))
    ordered = segmented all 1 (take 256 (missing d plan)) (climbs_take (rid_in all) 256 1 (missing d plan) climb_missing)

-- ---- the next copy's records are the dataset's

each_in : (rs whole : List Rec) → ((r : Rec) → IsIn rs r → IsIn whole r) → AreIn rs whole
each_in [] whole each = tt
each_in (r ∷ rs) whole each = (each r (inl refl), each_in rs whole (λ q is. each q (inr is)))

pub next_known : (d : Dataset) (plan : Plan) → AreIn (take 256 (missing d plan)) (order_of d.cvd.versions)
next_known d plan =
    let ours : List Rec = records_in d.cvd (current plan).versions
    in each_in (take 256 (missing d plan)) (order_of d.cvd.versions)
    (λ r there. ours_known d (current plan).versions r (in_filtered _ ours r (in_taken 256 (missing d plan) r there)).0)
