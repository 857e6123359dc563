-- A commit to a dataset of a World.
use Rattle.std.proofs.Common.{◌≡◌, ◌≢◌, ◌≤◌, ◌<◌, ◌+◌, ◌^◌, ℕ, Bool, true, false, ◌==◌, cond, List, [], ◌∷◌, length, map, refl, sym, ◌∙◌, ap, subst, inl, inr, arith}
use Rattle.std.specs.Prelude.{◌⊎◌, Option, Some, None}
use Rattle.std.specs.List.{list_any, sum_by, zip}
use Rattle.std.proofs.lemmas.Bool.{cases_Bool, eqb-true}
use Rattle.std.proofs.lemmas.List.{length-append}
use Rattle.std.proofs.lemmas.List.Sums.{sum_by-cons}
use Rattle.ov_event.specs.declared.event.Event as raw
use Rattle.ov_event.specs.declared.event.Event.TheVariants as says
use Rattle.ov_fetch.specs.declared.errors.FetchErr.TheVariants as fetch
use Rattle.ov_graph.specs.Versions.{heaviest}
use Rattle.ov_host.specs.declared.area.Extent.{Extent}
use Rattle.ov_member.specs.Rids.{has, left_out}
use Rattle.ov_place.specs.Placement.{placed}
use Rattle.ov_place.specs.declared.place_facts.Place.{Place}
use Rattle.ov_place.specs.declared.place_facts.Place.TheVariants.{Own, Join}
use Rattle.ov_model.specs.Assigned.{fresh_rows}
use Rattle.ov_model.specs.Lists.{IsIn}
use Rattle.ov_model.specs.Moves as moves
use Rattle.ov_model.specs.Records.{Rec, fresh_in, order_of, records_of, recs, rid_in}
use Rattle.ov_model.specs.World.{Dataset, World}
use Rattle.ov_model.proofs.Growing.{length_recs, order_of_more}
use Rattle.ov_model.proofs.Sharing.{fresh_is as fresh_records}
use Rattle.ov_records.specs.Committed.{AreRecords}
use Rattle.ov_records.specs.declared.outcome.Assigned.{Assigned}
use Rattle.ov_catalog.specs.Applying.{copied_in, facts_of, id_in, is_place, is_unmoved, part_numbered, part_serving}
use Rattle.ov_catalog.specs.Events as events
use Rattle.ov_catalog.specs.Events.{adding_event}
use Rattle.ov_catalog.specs.Raw.{adding}
use Rattle.ov_catalog.specs.Numbers.{PartNumbers, PlanNumbers, SetNumbers, each_part, each_plan, each_set}
use Rattle.ov_catalog.specs.Shown.{held_by, shown_set}
use Rattle.ov_core.specs.Brought.{extent_at, segments_in}
use Rattle.law_image.specs.Lists.{list_in}
use Rattle.law_image.specs.Pages.{readings_of}
use Rattle.law_events.proofs.Seeing.{place_shown}
use Rattle.ov_catalog.proofs.Good.{found_known, good}
use Rattle.ov_version_bytes.specs.Next.{IsNext, held_at, spelled_place}
use Rattle.ov_version_bytes.specs.Written.{AreGiven, IsWhy, list_written, segment_written}
use Rattle.ov_version_bytes.specs.declared.write_err.WriteErr.{WriteErr}
use Rattle.ov_version_bytes.specs.declared.write_err.WriteErr.TheVariants as write
use Rattle.ov_version_bytes.proofs.Edges.{weights_zip}
use Rattle.ov_version_bytes.proofs.Following.{asked_of, content_adding, event_asked, known_of, place_back, runs_adding, sized_adding}
use Rattle.law_reads.specs.Sights.{HasNumbers}
use Rattle.law_reads.proofs.Counted.{numbers}
use Rattle.law_reads.proofs.Parted.{rids}
use Rattle.law_reads.proofs.Served.{part_spared}
use Rattle.law_reads.proofs.Together.{has_listed}
use Rattle.ov_new_version.specs.declared.errors.CommitErr.{CommitErr}
use Rattle.ov_new_version.specs.declared.errors.CommitErr.TheVariants.{Memory, Damaged, TooManyRecords, TooLong}
use Rattle.ov_new_version.specs.Asked.{Asked, edges_of, fresh_of}
use Rattle.ov_new_version.specs.Errors.{of_write}
use Rattle.ov_new_version.specs.Held.{RefusesHeld}
use Rattle.ov_new_version.specs.Joined.{part_at, IsPlaceThere, IsReadOf, RefusesJoined}
use Rattle.ov_new_version.specs.OfWorld.{IsAsked, IsSpared, version_in, records_with}
use Rattle.ov_new_version.proofs.Making.{IsMade, MayBe}
use Rattle.ov_new_version.proofs.Widened.{wide_facts, wide_held, wide_records, wide_versions}

-- ---- what decides on a place, whatever is in the holes

module _ {L M S T : Type 0} (f : L → M) (g : S → T) where
  serving_each : (vid : ℕ) (parts : List (PartNumbers S)) → id_in (part_serving (map (each_part g) parts) vid) ≡ id_in (part_serving parts vid)
  serving_each vid [] = refl
  serving_each vid (part ∷ parts) =
      elim (cases_Bool (list_any (λ v. v == vid) part.versions)) [
        | inl e ↦ rw e refl
        | inr e ↦ rw e (serving_each vid parts)
      ]

  sum_each : (parts : List (PartNumbers S)) → sum_by (λ (part : PartNumbers T). part.records) (map (each_part g) parts) ≡ sum_by (λ (part : PartNumbers S). part.records) parts
  sum_each [] = refl
  sum_each (part ∷ parts) =
      sum_by-cons (λ (p : PartNumbers T). p.records) (each_part g part) (map (each_part g) parts)
      ∙ ap (λ (n : ℕ). part.records + n) (sum_each parts)
      ∙ sym (sum_by-cons (λ (p : PartNumbers S). p.records) part parts)

  unmoved_each : (plan : Option (PlanNumbers S)) (vid : ℕ) → is_unmoved (each_plan g plan) vid ≡ is_unmoved plan vid
  unmoved_each None vid = refl
  unmoved_each (Some plan) vid = refl

  copied_each : (plan : Option (PlanNumbers S)) → copied_in (each_plan g plan) ≡ copied_in plan
  copied_each None = refl
  copied_each (Some plan) = refl

  facts_each : (s : SetNumbers L S) (edge : ℕ × ℕ) → facts_of (each_set f g s) edge ≡ facts_of s edge
  facts_each s edge = λ i. record {
    threshold = s.threshold;
    unmoved = unmoved_each s.plan edge.0 i;
    weight = edge.1;
    records = s.records;
    stored = sum_each s.parts i + copied_each s.plan i;
    parent = serving_each edge.0 s.parts i;
  }

same_place : (p q : Place) → is_place p q ≡ true → p ≡ q
same_place Own Own e = refl
same_place Own (Join b) e = absurd cc
same_place (Join a) Own e = absurd cc
same_place (Join a) (Join b) e = ap Join (eqb-true a b e)

-- ---- a partition that is found

number_found : (id : ℕ) (parts : List (PartNumbers Extent)) (part : PartNumbers Extent) → part_numbered parts id ≡ Some part → IsIn parts part × (part.id ≡ id)
number_found id [] part is = absurd cc
number_found id (p ∷ parts) part is = by (p.id == id) (eqb-true p.id id) is (number_found id parts part)
  where
    inside : Some p ≡ Some part → p ≡ part
    inside e = cc

    by : (b : Bool) → (b ≡ true → p.id ≡ id) → cond b (Some p) (part_numbered parts id) ≡ Some part → (part_numbered parts id ≡ Some part → IsIn parts part × (part.id ≡ id))
        → IsIn (p ∷ parts) part × (part.id ≡ id)
    by true same e rest = (inl (sym (inside e)), ap (λ x. x.id) (sym (inside e)) ∙ same refl)
    by false same e rest = let it = rest e in (inr it.0, it.1)

module _ (a : Asked) (w : World) (ds : Dataset) (area : List ℕ) (asked : IsAsked a w ds area) where
  counts : HasNumbers a.set ds
  counts = numbers w area a.set ds asked.of_world

  -- the dataset with the added columns
  abbrev wider : Dataset
  wider = moves.wide a.added ds

  long : a.set.records ≡ length (order_of wider.cvd.versions)
  long = counts.records ∙ sym (wide_records a.added ds)

  -- ---- how many records there are with the version

  fresh_shown : fresh_of a ≡ length (fresh_in (records_of (version_in a) (recs wider.cvd.versions [])) (length wider.cvd.versions + 1))
  fresh_shown = ap (fresh_rows a.rows) asked.parents ∙ fresh_records wider.cvd.versions (version_in a)

  pub all_records : records_with a ds ≡ a.set.records + fresh_of a
  all_records =
      let old : List Rec = order_of wider.cvd.versions
      in let ours : List Rec = records_of (version_in a) (recs wider.cvd.versions [])
      in let number : 1 + length (recs wider.cvd.versions []) ≡ length wider.cvd.versions + 1 = omega (arith, length_recs wider.cvd.versions [])
      in ap (λ (rs : List Rec). length rs) (order_of_more wider.cvd.versions (version_in a))
      ∙ length-append old (fresh_in ours (1 + length (recs wider.cvd.versions [])))
      ∙ (λ i. sym long i + length (fresh_in ours (number i)))
      ∙ ap (λ n. a.set.records + n) (sym fresh_shown)

  pub too_many : 2 ^ 31 < a.set.records + fresh_of a → IsSpared TooManyRecords a w ds
  too_many many = subst (λ n. 2 ^ 31 < n) (sym all_records) many

  -- ---- nothing is damaged

  pub spared : (place : Place) (e : CommitErr) → IsPlaceThere a.set place → RefusesHeld e a.set area (part_at a.set place) → IsSpared e a w ds
  spared place Memory there why = tt
  spared place TooManyRecords there why = absurd why
  spared place (TooLong list_pages segment_pages) there why = absurd why
  spared Own (Damaged page) there why = absurd why
  spared (Join id) (Damaged page) there why = by (part_numbered a.set.parts id) refl why
    where
      by : (o : Option (PartNumbers Extent)) → part_numbered a.set.parts id ≡ o → RefusesJoined (fetch.Damaged page) a.set area o → ⊥
      by None is why = absurd why
      by (Some part) is why = part_spared w area a.set ds part (fetch.Damaged page) asked.of_world (number_found id a.set.parts part is).0 why

  -- ---- what is held is what the partition of the World has

  held_shown : (place : Place) (held : List ℕ) → IsPlaceThere a.set place → IsReadOf a.set area (part_at a.set place) held
      → (rid : ℕ) → has held rid ≡ has (map (rid_in (order_of ds.cvd.versions)) (held_at place ds.parts)) rid
  held_shown Own held there read rid = ap (λ ns. has ns rid) read
  held_shown (Join id) held there read rid = by (part_numbered a.set.parts id) refl there read
    where
      by : (o : Option (PartNumbers Extent)) → part_numbered a.set.parts id ≡ o → o ≢ None → IsReadOf a.set area o held
          → has held rid ≡ has (map (rid_in (order_of ds.cvd.versions)) (held_by ds.parts id)) rid
      by None is some it = absurd (some refl)
      by (Some part) is some it =
          let found = number_found id a.set.parts part is
          in ap (λ ns. has ns rid) (rids w area a.set ds part held asked.of_world found.0 it.0)
          ∙ has_listed (order_of ds.cvd.versions) (held_by ds.parts part.id) rid
          ∙ ap (λ n. has (map (rid_in (order_of ds.cvd.versions)) (held_by ds.parts n)) rid) found.1

  -- ---- the version is the next one

  module _ (made : Assigned) (place : Place) (is : IsMade a made place)
      (are : AreRecords wider.cvd.versions (version_in a) made.rids made.weights made.fresh) where
    tree_edge : heaviest (edges_of a) ≡ moves.tree_edge_of wider (version_in a)
    tree_edge =
        let done : List (List Rec) = recs wider.cvd.versions []
        in ap heaviest (sym is.edges ∙ ap (zip a.vids) are.weights_are ∙ weights_zip a.vids (records_of (version_in a) done) done)

    place_asked : place ≡ moves.placed_at wider (version_in a)
    place_asked =
        let shows = asked.of_world.shows
        in let edge : ℕ × ℕ = moves.tree_edge_of wider (version_in a)
        in let facts : facts_of a.set edge ≡ facts_of (shown_set wider) edge =
        sym (facts_each (readings_of area).list (readings_of area).segment a.set edge)
        ∙ ap (λ s. facts_of s edge) shows
        ∙ facts_each Some Some (shown_set ds) edge
        ∙ sym (wide_facts a.added ds edge)
        in is.place_is
        ∙ ap (λ e. placed (facts_of a.set e)) tree_edge
        ∙ ap placed facts
        ∙ sym (same_place (moves.placed_at wider (version_in a)) (placed (facts_of (shown_set wider) edge)) (place_shown wider (version_in a)))

    pub is_next : (vid : ℕ) (held : List ℕ) → vid ≡ length a.set.versions + 1 → IsPlaceThere a.set place → IsReadOf a.set area (part_at a.set place) held
        → IsNext wider (version_in a) vid made place held
    is_next vid held number there read = record {
      vid_is = number ∙ ap (λ n. n + 1) (counts.versions ∙ sym (wide_versions a.added ds));
      records = are;
      place_is = place_asked;
      held_is = λ rid. held_shown place held there read rid ∙ ap (λ ns. has ns rid) (sym (wide_held a.added ds place));
    }

    -- what is too long is what the World asks for
    pub too_much : MayBe a → AreGiven made.rids a.rows → (vid : ℕ) (held : List ℕ) → IsNext wider (version_in a) vid made place held
        → (e : WriteErr) → IsWhy e held made.rids a.rows → IsSpared (of_write e) a w ds
    too_much may given vid held next write.Memory why = tt
    too_much may given vid held next (write.TooLong list_pages segment_pages) why =
        let list : List ℕ = list_written made.rids
        in let segment : List ℕ = segment_written held made.rids a.rows
        in let number : ℕ = a.set.number
        in let commit : raw.Event =
        says.Commit number vid a.message (zip a.vids made.weights) (length a.rows) made.fresh (spelled_place place) (length (left_out made.rids held)) (extent_at 0 list) (extent_at 0 segment)
        in record {
          event = adding a.added commit;
          list = list;
          segment = segment;
          says = ap Some (content_adding a.added commit list segment ∙ ap (adding_event a.added) (
              (λ i. events.Commit number vid a.message (zip a.vids made.weights) (length a.rows) made.fresh (place_back place i) (length (left_out made.rids held)) (list_in list) (segments_in segment))
              ∙ event_asked wider (version_in a) vid made place held a.schema (known_of a.added number w ds asked.of_world.reached asked.of_world.among) next may.rows given number))
              ∙ sym (asked_of number a.vids a.message a.added a.rows w ds asked.of_world.among);
          sized = sized_adding a.added number vid a.message (zip a.vids made.weights) (length a.rows) made.fresh (spelled_place place) (length (left_out made.rids held)) list segment;
          runs = runs_adding a.added number vid a.message (zip a.vids made.weights) (length a.rows) made.fresh (spelled_place place) (length (left_out made.rids held)) list segment;
          long = why;
          room = subst (λ n. n ≤ 2 ^ 31) (sym all_records) may.room;
        }

-- ---- too many records, or no memory

pub made_spared : (a : Asked) (w : World) (ds : Dataset) (area : List ℕ) → IsAsked a w ds area → (e : CommitErr) → (e ≡ Memory) ⊎ ((e ≡ TooManyRecords) × (2 ^ 31 < a.set.records + fresh_of a)) → IsSpared e a w ds
made_spared a w ds area asked e (inl memory) = subst (λ x. IsSpared x a w ds) (sym memory) tt
made_spared a w ds area asked e (inr many) = subst (λ x. IsSpared x a w ds) (sym many.0) (too_many a w ds area asked many.1)
