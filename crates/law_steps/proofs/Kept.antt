-- What is read of the segments that a target keeps.
use Rattle.std.proofs.Common.{◌≡◌, ◌<◌, ℕ, zero, suc, ◌-◌, true, false, ◌==◌, List, [], ◌∷◌, ◌++◌, length, map, refl, sym, ◌∙◌, ap, subst, arith}
use Rattle.std.specs.Prelude.{slice_index_or, Option, Some}
use Rattle.std.proofs.lemmas.Bool.{ne_eqb}
use Rattle.std.proofs.lemmas.List.{length-map, map-append}
use Rattle.ov_host.specs.declared.area.Extent.{Extent}
use Rattle.ov_segment.specs.declared.numbered.Record.{Record}
use Rattle.ov_member.specs.Rids.{has}
use Rattle.ov_model.specs.Lists.{IsIn, joined}
use Rattle.ov_model.specs.Plans.{pieces_at, pieces_of, kept_pieces, current}
use Rattle.ov_model.specs.Plans as plans
use Rattle.ov_model.specs.Records.{Rec, order_of, recs, rid_in}
use Rattle.ov_model.specs.World.{Dataset, Plan, Target, World}
use Rattle.ov_model.proofs.Origins.{all_known}
use Rattle.law_partitions.specs.Pieces.{AreBelow, IsKept}
use Rattle.law_partitions.proofs.PieceLists.{is_of}
use Rattle.law_partitions.proofs.PieceMore.{current_kept}
use Rattle.law_partitions.proofs.PlanExact.{known_one}
use Rattle.law_events.proofs.Lacks.{together as all_together}
use Rattle.ov_catalog.specs.Events.{chosen, one_at, segments_at}
use Rattle.ov_catalog.specs.Shown.{Records, segment_of, shown_part, shown_target}
use Rattle.ov_catalog.proofs.Filling.{segments_each}
use Rattle.ov_catalog.proofs.Members.{in_map, of_map}
use Rattle.ov_catalog.proofs.Migrating.{segments_shown}
use Rattle.ov_fetch.specs.Extents.{rids_of}
use Rattle.ov_fetch.specs.Rows.{AreSegments}
use Rattle.law_image.specs.Pages.{readings_of}
use Rattle.ov_read.specs.Agreement.{AreTogether, Numbers}
use Rattle.ov_read.specs.OfWorld.{IsSetOf}
use Rattle.law_reads.proofs.Counted.{numbers}
use Rattle.law_reads.proofs.Orders.{sorted_long}
use Rattle.law_reads.proofs.Parted.{Facts, facts}
use Rattle.law_reads.proofs.Rowed.{held_is}
use Rattle.law_reads.proofs.Stored.{segments_are, segments_once, rids_most}
use Rattle.law_reads.proofs.Together.{has_in, has_listed, in_has, together}
use Rattle.law_steps.specs.Targets.{kept_contents, kept_rids, kept_segments, wanted_rids}
use Rattle.law_steps.proofs.Taken.{way_of}

-- ---- the chosen segments, as they are read

module _ (read : Extent → Option Records) (seg : List Rec → Records) where
  abbrev AreRead : List Extent → List (List Rec) → Type 0
  AreRead es pieces = map read es ≡ map Some (map seg pieces)

  heads : (a b : Option Records) (rest more : List (Option Records)) → a ∷ rest ≡ b ∷ more → a ≡ b
  heads a b rest more e = cc

  tails : (a b : Option Records) (rest more : List (Option Records)) → a ∷ rest ≡ b ∷ more → rest ≡ more
  tails a b rest more e = cc

  one_read : (es : List Extent) (pieces : List (List Rec)) (place : ℕ) → AreRead es pieces → place < length pieces
      → map read (one_at es place) ≡ Some (seg (slice_index_or pieces place [])) ∷ []
  one_read es [] place are low = absurd (omega (arith, low))
  one_read [] (piece ∷ pieces) place are low = cc
  one_read (e ∷ es) (piece ∷ pieces) zero are low = λ i. heads _ _ _ _ are i ∷ []
  one_read (e ∷ es) (piece ∷ pieces) (suc place) are low =
      let later : (suc place == 0) ≡ false = ne_eqb (suc place) 0 (λ same. absurd (omega (arith, same)))
      in let down : suc place - 1 ≡ place = omega arith
      in rw (later, down) (one_read es pieces place (tails _ _ _ _ are) (omega (arith, low)))

  chosen_read : (es : List Extent) (pieces : List (List Rec)) (places : List ℕ) → AreRead es pieces → AreBelow (length pieces) places
      → AreRead (chosen places es) (pieces_at pieces places)
  chosen_read es pieces [] are low = refl
  chosen_read es pieces (place ∷ places) are low =
      map-append read (one_at es place) (chosen places es)
      ∙ (λ i. one_read es pieces place are low.0 i ++ chosen_read es pieces places are low.1 i)

-- ---- the current target

module _ (w : World) (area : List ℕ) (s : Numbers) (d : Dataset) (plan : Plan) (of_world : IsSetOf w d area s) (runs : d.plan ≡ Some plan) where
  abbrev t : Target
  t = current plan

  abbrev all : List Rec
  all = order_of d.cvd.versions

  abbrev read_at : Extent → Option Records
  read_at = (readings_of area).segment

  abbrev pieces : List (List Rec)
  pieces = kept_pieces d t

  fact : Facts d
  fact = facts w area s d of_world

  kept : IsKept d t
  kept = current_kept d plan (way_of d plan fact.pieces runs).kept

  parts_read : map read_at (segments_at t.source s.parts) ≡ map Some (map (segment_of all) (pieces_of d.parts t.source))
  parts_read =
      segments_each read_at t.source s.parts
      ∙ ap (λ x. segments_at t.source x.parts) of_world.shows
      ∙ sym (segments_each Some t.source (map (shown_part all) d.parts))
      ∙ ap (map Some) (sym (segments_shown all t.source d.parts))

  schema : s.schema ≡ d.cvd.schema
  schema = (numbers w area s d of_world).schema

  pub are_read : AreSegments s.schema area (kept_segments s (shown_target d t)) (kept_contents d t)
  are_read =
      subst (λ shape. AreSegments shape area (kept_segments s (shown_target d t)) (kept_contents d t)) (sym schema)
      (segments_are d.cvd.schema area all (kept_segments s (shown_target d t)) pieces
      (λ r there. held_is d.cvd.schema d.cvd.versions t.versions (joined pieces) r fact.rowed.rows kept.only there)
      (chosen_read read_at (segment_of all) (segments_at t.source s.parts) (pieces_of d.parts t.source) t.kept parts_read kept.there))

  pub only_read : (contents : List (List Record)) → AreSegments s.schema area (kept_segments s (shown_target d t)) contents → contents ≡ kept_contents d t
  only_read contents are = segments_once s.schema area (kept_segments s (shown_target d t)) contents (kept_contents d t) are are_read

  known : (r : Rec) → IsIn (joined pieces) r → IsIn all r
  known r there =
      known_one (recs d.cvd.versions []) t.versions all r (all_known d.cvd.versions)
      (is_of (recs d.cvd.versions []) t.versions (joined pieces) r kept.only there)

  pub are_together : AreTogether (map rids_of (kept_contents d t)) (kept_rids d t)
  are_together =
      together all pieces kept.once known (rids_most s.schema area all (kept_segments s (shown_target d t)) pieces are_read)

  pub kept_long : length (kept_rids d t) ≡ (shown_target d t).kept_records
  kept_long = sorted_long (λ n. n) (map (rid_in all) (joined pieces)) ∙ length-map (joined pieces) (rid_in all) ∙ sym kept.count

  pub kept_wanted : (rid : ℕ) → has (kept_rids d t) rid ≡ true → has (wanted_rids d t.versions) rid ≡ true
  kept_wanted rid there =
      let ours : List Rec = plans.records_in d.cvd t.versions
      in let of = of_map (rid_in all) (joined pieces) rid (has_in (map (rid_in all) (joined pieces)) rid (sym (has_listed all (joined pieces) rid) ∙ there))
      in let here : IsIn ours of.0 = all_together d t.versions of.0 (is_of (recs d.cvd.versions []) t.versions (joined pieces) of.0 kept.only of.1.0)
      in has_listed all ours rid ∙ ap (has (map (rid_in all) ours)) of.1.1
      ∙ in_has (map (rid_in all) ours) (rid_in all of.0) (in_map (rid_in all) ours of.0 here)

pub wanted_long : (d : Dataset) (plan : Plan) → length (wanted_rids d (current plan).versions) ≡ (shown_target d (current plan)).size
wanted_long d plan =
    let all : List Rec = order_of d.cvd.versions
    in let ours : List Rec = plans.records_in d.cvd (current plan).versions
    in sorted_long (λ n. n) (map (rid_in all) ours) ∙ length-map ours (rid_in all)
