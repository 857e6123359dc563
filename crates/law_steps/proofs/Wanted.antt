-- The rids of versions together.
use Rattle.std.proofs.Common.{◌≡◌, ◌≤◌, ◌^◌, ℕ, suc, Bool, true, false, List, [], ◌∷◌, map, refl, sym, ◌∙◌, ap, subst, inl, inr, arith}
use Rattle.std.specs.Prelude.{◌||◌}
use Rattle.std.specs.List.{list_any}
use Rattle.std.proofs.lemmas.Bool.{cases_Bool}
use Rattle.ov_member.specs.Rids.{AreRids, RiseFrom, has}
use Rattle.ov_member.proofs.RidLemmas.{same_from}
use Rattle.ov_model.specs.Lists.{IsIn}
use Rattle.ov_model.specs.Plans.{records_in}
use Rattle.ov_model.specs.Records.{Rec, of_version, order_of, recs, rid_in}
use Rattle.ov_model.specs.World.{Dataset}
use Rattle.ov_model.proofs.Ordering.{of_filter}
use Rattle.ov_model.proofs.Widening.{same_bool}
use Rattle.law_partitions.specs.Pieces.{HaveNoRowTwice, IsOfOne, NoTwice, rec_times}
use Rattle.law_partitions.proofs.PiecePlan.{records_of_some}
use Rattle.law_partitions.proofs.PieceTimes.{all_once, times-filter}
use Rattle.law_events.proofs.Lacks.{together}
use Rattle.ov_catalog.specs.Shown.{list_of}
use Rattle.ov_catalog.proofs.Members.{in_map, of_map}
use Rattle.ov_read.specs.OfWorld.{rids_in}
use Rattle.law_reads.proofs.Together.{has_in, has_listed, in_has, listed_rise, or_right}

or_left : (a b : Bool) → a ≡ true → (a || b) ≡ true
or_left true b e = refl
or_left false b e = cc

later_of : (a b : Bool) → a ≡ false → (a || b) ≡ true → b ≡ true
later_of true b none e = cc
later_of false b none e = e

most_of : (least : ℕ) (rids : List ℕ) (rid : ℕ) → RiseFrom least rids → IsIn rids rid → rid ≤ 2 ^ 31
most_of least [] rid rise is = absurd is
most_of least (x ∷ rids) rid rise (inl same) = subst (λ n. n ≤ 2 ^ 31) (sym same) rise.1
most_of least (x ∷ rids) rid rise (inr later) = most_of (suc x) rids rid rise.2 later

module _ (d : Dataset) where
  abbrev all : List Rec
  all = order_of d.cvd.versions

  abbrev done : List (List Rec)
  done = recs d.cvd.versions []

  -- some of these versions has the rid
  abbrev pub is_wanted : List ℕ → ℕ → Bool
  is_wanted vids rid = list_any (λ vid. has (rids_in d vid) rid) vids

  version_has : (vid : ℕ) (r : Rec) → IsIn (of_version done vid) r → has (rids_in d vid) (rid_in all r) ≡ true
  version_has vid r is =
      has_listed all (of_version done vid) (rid_in all r)
      ∙ in_has (map (rid_in all) (of_version done vid)) (rid_in all r) (in_map (rid_in all) (of_version done vid) r is)

  wanted_of : (vids : List ℕ) (r : Rec) → IsOfOne done vids r → is_wanted vids (rid_in all r) ≡ true
  wanted_of [] r is = absurd is
  wanted_of (vid ∷ vids) r (inl here) = or_left (has (rids_in d vid) (rid_in all r)) (is_wanted vids (rid_in all r)) (version_has vid r here)
  wanted_of (vid ∷ vids) r (inr later) = or_right (has (rids_in d vid) (rid_in all r)) (is_wanted vids (rid_in all r)) (wanted_of vids r later)

  record_of : (vids : List ℕ) (rid : ℕ) → is_wanted vids rid ≡ true → (r : Rec) × (IsOfOne done vids r × (rid ≡ rid_in all r))
  record_of [] rid e = cc
  record_of (vid ∷ vids) rid e = elim (cases_Bool (has (rids_in d vid) rid)) [
    | inl here ↦
        let of = of_map (rid_in all) (of_version done vid) rid
        (has_in (map (rid_in all) (of_version done vid)) rid (sym (has_listed all (of_version done vid) rid) ∙ here))
        in (of.0, (inl of.1.0, of.1.1))
    | inr other ↦
        let rest = record_of vids rid (later_of (has (rids_in d vid) rid) (is_wanted vids rid) other e)
        in (rest.0, (inr rest.1.0, rest.1.1))
  ]

  module _ (vids : List ℕ) where
    abbrev ours : List Rec
    ours = records_in d.cvd vids

    pub ours_known : (r : Rec) → IsIn ours r → IsIn all r
    ours_known r is = (of_filter _ all r is).0

    ours_once : HaveNoRowTwice d.cvd.versions → NoTwice ours
    ours_once rows r = omega (arith, within r, all_once d.cvd.versions rows r)
      where
        within : (q : Rec) → rec_times ours q ≤ rec_times all q
        within q = times-filter _ all q

    same_has : (rid : ℕ) → is_wanted vids rid ≡ has (list_of all ours) rid
    same_has rid =
        same_bool (is_wanted vids rid) (has (map (rid_in all) ours) rid)
        (λ e.
        let of = record_of vids rid e
        in ap (has (map (rid_in all) ours)) of.1.1
        ∙ in_has (map (rid_in all) ours) (rid_in all of.0) (in_map (rid_in all) ours of.0 (together d vids of.0 of.1.0)))
        (λ e.
        let of = of_map (rid_in all) ours rid (has_in (map (rid_in all) ours) rid e)
        in ap (is_wanted vids) of.1.1 ∙ wanted_of vids of.0 (records_of_some d vids of.0 of.1.0))
        ∙ sym (has_listed all ours rid)

    pub wanted_listed : (wanted : List ℕ) → HaveNoRowTwice d.cvd.versions → AreRids wanted → ((rid : ℕ) → has wanted rid ≡ is_wanted vids rid) → wanted ≡ list_of all ours
    wanted_listed wanted rows rids same =
        same_from 1 1 wanted (list_of all ours) rids (listed_rise all ours (ours_once rows) ours_known most) (λ rid. same rid ∙ same_has rid)
      where
        most : (r : Rec) → IsIn ours r → rid_in all r ≤ 2 ^ 31
        most r is =
            most_of 1 wanted (rid_in all r) rids
            (has_in wanted (rid_in all r) (same (rid_in all r) ∙ wanted_of vids r (records_of_some d vids r is)))
