-- The event of a Commit with added columns applies where the move fits.
use Rattle.std.proofs.Common.{◌≡◌, ◌+◌, ℕ, Bool, true, false, List, [], ◌∷◌, length, map, refl, sym, ◌∙◌, ap, subst, inl, inr}
use Rattle.std.specs.Prelude.{◌⊎◌, ◌≢◌, Option, Some, None, IsTrue, is_ok}
use Rattle.std.specs.Option.{option_map, option_or}
use Rattle.ov_event.specs.declared.event.Event as raw
use Rattle.ov_event.specs.declared.event.Event.TheVariants as says
use Rattle.ov_host.specs.declared.area.Extent.{Extent}
use Rattle.ov_place.specs.declared.place_facts.Place.{Place}
use Rattle.ov_place.specs.declared.place_facts.Place.TheVariants.{Own}
use Rattle.ov_value.specs.Making.{widened}
use Rattle.ov_value.specs.declared.column.Column.{Column}
use Rattle.ov_model.specs.Book.{Row, Version}
use Rattle.ov_model.specs.Moves.{Commit, numbered, placed_at, version_of, wide}
use Rattle.ov_model.specs.Ordered.{HasOrder}
use Rattle.ov_model.specs.Records.{fresh_in, records_of, recs, weights}
use Rattle.ov_model.specs.World.{Dataset, World, first_set}
use Rattle.ov_model.proofs.Ordering.{wide_ordered}
use Rattle.law_partitions.specs.Pieces.{HasPieces}
use Rattle.law_partitions.proofs.PieceWide.{wide_pieces}
use Rattle.ov_catalog.specs.declared.field.Field.TheVariants as off
use Rattle.ov_catalog.specs.Applying.{commit_off, first_off, format_off, is_list, is_segment, of_live, set_numbered, wide_off}
use Rattle.ov_catalog.specs.Events as events
use Rattle.ov_catalog.specs.Events.{Event}
use Rattle.ov_catalog.specs.Raw.{event_in, numbers_in}
use Rattle.ov_catalog.specs.Reached.{CommitFits, Fits, IfThere, IsFormat, TakesColumns}
use Rattle.ov_catalog.specs.Shown.{added_to, in_set, shown, shown_set, wide_event}
use Rattle.ov_catalog.specs.Stands.{Readings, StandsFor, asked_as, asked_event, seen_event}
use Rattle.ov_catalog.proofs.Good.{IsGood, found_ordered, found_pieces, good, known_format, set_known}
use Rattle.ov_catalog.proofs.Moving.{some_same}
use Rattle.ov_catalog.proofs.Serving.{commit_widens}
use Rattle.ov_catalog.proofs.Widened.{wide_shown}
use Rattle.law_events.specs.Fitting.{IsSoundEvent}
use Rattle.law_events.proofs.Beginning.{applies_there, live_shown, off_last}
use Rattle.law_events.proofs.Committing.{version_fits}

-- what such an event says, but for its extents
record Said : Type 0 where
  cvd : ℕ
  vid : ℕ
  message : List ℕ
  columns : List Column
  parents : List (ℕ × ℕ)
  rows : ℕ
  fresh : ℕ
  place : Place
  added : ℕ

abbrev said_in : {L S : Type 0} → Event L S → Said
said_in (events.Wide cvd vid message columns parents rows fresh place added list segments) =
    record { cvd = cvd; vid = vid; message = message; columns = columns; parents = parents; rows = rows; fresh = fresh; place = place; added = added }
said_in _ = record { cvd = 0; vid = 0; message = []; columns = []; parents = []; rows = 0; fresh = 0; place = Own; added = 0 }

format_none : (format : ℕ) → IsFormat format → format ≢ 1 → format_off format ≡ None
format_none format (inl one) not_one = absurd (not_one one)
format_none format (inr two) not_one = ap format_off two

module _ (w : World) (d : Dataset) (column : Column) (more : List Column) (v : Version) (takes : TakesColumns w d (column ∷ more))
    (fits : CommitFits w (wide (column ∷ more) d) v) (has : HasPieces d) (ordered : HasOrder d) where
  abbrev columns : List Column
  columns = column ∷ more

  abbrev wider : Dataset
  wider = wide columns d

  wide_fits : (list segment : Extent) → IsTrue (is_list (length v.rows) list)
      → IsTrue (is_segment (length (added_to (placed_at wider v) wider.parts (records_of v (recs wider.cvd.versions [])))) segment)
      → wide_off (length wider.cvd.versions + 1) v.message columns (weights v.parents (records_of v (recs wider.cvd.versions [])) (recs wider.cvd.versions [])) (length v.rows)
      (length (fresh_in (records_of v (recs wider.cvd.versions [])) (length (recs wider.cvd.versions []) + 1))) (placed_at wider v)
      (length (added_to (placed_at wider v) wider.parts (records_of v (recs wider.cvd.versions [])))) list segment (shown_set d) ≡ None
  wide_fits list segment at_list at_segment =
      let vid : ℕ = length wider.cvd.versions + 1
      in let edges : List (ℕ × ℕ) = weights v.parents (records_of v (recs wider.cvd.versions [])) (recs wider.cvd.versions [])
      in let fresh : ℕ = length (fresh_in (records_of v (recs wider.cvd.versions [])) (length (recs wider.cvd.versions []) + 1))
      in let added : ℕ = length (added_to (placed_at wider v) wider.parts (records_of v (recs wider.cvd.versions [])))
      in let as_commit : commit_off vid v.message edges (length v.rows) fresh (placed_at wider v) added list segment (shown_set d) ≡ None =
      subst (λ s. commit_off vid v.message edges (length v.rows) fresh (placed_at wider v) added list segment s ≡ None) (wide_shown column more d)
      (version_fits w wider v fits (set_known wider (wide_ordered columns d ordered)) (wide_pieces columns d has) list segment at_list at_segment)
      in commit_widens vid v.message columns edges (length v.rows) fresh (placed_at wider v) added list segment (shown_set d) as_commit
      (off_last (is_ok (widened d.cvd.schema columns)) off.Schema takes.accepted)

wide_spelled : (r : Readings) (w : World) (e : raw.Event) (cvd : ℕ) (column : Column) (more : List Column) (v : Version) (d : Dataset) → first_set (numbered cvd) w.sets ≡ Some d
    → IsFormat w.format → TakesColumns w d (column ∷ more) → CommitFits w (wide (column ∷ more) d) v → HasPieces d → HasOrder d
    → IsSoundEvent e → seen_event r e ≡ asked_as (wide_event cvd (column ∷ more) (wide (column ∷ more) d) v) → first_off w.format e (shown w) ≡ None
wide_spelled r w (says.Wide number vid message columns parents rows fresh place added list segment) cvd column more v d found known takes fits has ordered sound spells =
    let same = ap said_in spells
    in let wider : Dataset = wide (column ∷ more) d
    in let records = records_of v (recs wider.cvd.versions [])
    in (λ i. option_or (format_off w.format)
    (of_live (wide_off (same i).vid (same i).message (same i).columns (same i).parents (same i).rows (same i).fresh (same i).place (same i).added list segment)
    (set_numbered (same i).cvd (shown w))))
    ∙ ap (λ o. option_or o (of_live (wide_off (length wider.cvd.versions + 1) v.message (column ∷ more) (weights v.parents records (recs wider.cvd.versions [])) (length v.rows)
    (length (fresh_in records (length (recs wider.cvd.versions []) + 1))) (placed_at wider v) (length (added_to (placed_at wider v) wider.parts records)) list segment)
    (set_numbered cvd (shown w)))) (format_none w.format known takes.format)
    ∙ live_shown (wide_off (length wider.cvd.versions + 1) v.message (column ∷ more) (weights v.parents records (recs wider.cvd.versions [])) (length v.rows)
    (length (fresh_in records (length (recs wider.cvd.versions []) + 1))) (placed_at wider v) (length (added_to (placed_at wider v) wider.parts records)) list segment)
    cvd w.sets d found
    (wide_fits w d column more v takes fits has ordered list segment
    (subst (λ n. IsTrue (is_list n list)) (λ i. (same i).rows) sound.0) (subst (λ n. IsTrue (is_segment n segment)) (λ i. (same i).added) sound.1))
wide_spelled r w (says.Init name schema count list segment) cvd column more v d found known takes fits has ordered sound spells = cc
wide_spelled r w (says.Commit number vid message parents rows fresh place added list segment) cvd column more v d found known takes fits has ordered sound spells = cc
wide_spelled r w (says.Plan number p q targets) cvd column more v d found known takes fits has ordered sound spells = cc
wide_spelled r w (says.Copy number count segment) cvd column more v d found known takes fits has ordered sound spells = cc
wide_spelled r w (says.Flip number) cvd column more v d found known takes fits has ordered sound spells = cc
wide_spelled r w (says.Drop number) cvd column more v d found known takes fits has ordered sound spells = cc
wide_spelled r w (says.Base next) cvd column more v d found known takes fits has ordered sound spells = cc
wide_spelled r w (says.Whole whole) cvd column more v d found known takes fits has ordered sound spells = cc

wide_found : (r : Readings) (w : World) (e : raw.Event) (cvd : ℕ) (column : Column) (more : List Column) (v : Version) (found : Option Dataset)
    → first_set (numbered cvd) w.sets ≡ found → IsFormat w.format
    → IfThere (λ d. TakesColumns w d (column ∷ more) × CommitFits w (wide (column ∷ more) d) v) found → IsGood w → IsSoundEvent e
    → Some (seen_event r e) ≡ option_map asked_as (in_set (λ d. Some (wide_event cvd (column ∷ more) (wide (column ∷ more) d) v)) found)
    → first_off w.format e (shown w) ≡ None
wide_found r w e cvd column more v None found known fits is sound spells = absurd fits
wide_found r w e cvd column more v (Some d) found known fits is sound spells =
    wide_spelled r w e cvd column more v d found known fits.0 fits.1 (found_pieces cvd d w.sets is.sound.pieces found) (found_ordered cvd d w.sets is.sound.ordered found) sound
    (some_same (seen_event r e) (asked_as (wide_event cvd (column ∷ more) (wide (column ∷ more) d) v)) spells)

pub wide_applies : (events : List raw.Event) (r : Readings) (w : World) (e : raw.Event) (cvd : ℕ) (parents message : List ℕ) (column : Column) (more : List Column) (rows : List Row)
    → StandsFor w.format events r w → Fits (Commit cvd parents message (column ∷ more) rows) w → IsSoundEvent e
    → Some (seen_event r e) ≡ asked_event (Commit cvd parents message (column ∷ more) rows) w → first_off w.format e (numbers_in events) ≡ None
wide_applies events r w e cvd parents message column more rows stands fits sound spells =
    applies_there events r w e stands
    (wide_found r w e cvd column more (version_of parents message rows) (first_set (numbered cvd) w.sets) refl (known_format w stands.reached) fits (good w stands.reached) sound spells)
