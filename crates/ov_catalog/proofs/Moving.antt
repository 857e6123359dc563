-- Events are moves: the event of a move makes of a World's numbers those of the World after it.
use Rattle.std.proofs.Common.{◌≡◌, ◌<◌, ℕ, ◌+◌, Bool, true, false, ◌==◌, List, [], ◌∷◌, ◌++◌, length, map, filter, refl, sym, ◌∙◌, ap, subst}
use Rattle.std.specs.Prelude.{◌≢◌, not, take, if◌then◌else◌, Option, Some, None, Ok, is_some, unwrap_or, codes}
use Rattle.std.proofs.lemmas.Bool.{eqb-true}
use Rattle.std.proofs.lemmas.List.{map-append, append-nil, append_assoc}
use Rattle.ov_value.specs.Making.{widened}
use Rattle.ov_value.specs.Rows.{key_cmp}
use Rattle.ov_value.specs.Shapes.{Shape}
use Rattle.ov_value.specs.declared.column.Column.{Column}
use Rattle.ov_model.specs.Book.{Row, Version}
use Rattle.ov_model.specs.Lists.{Rises}
use Rattle.ov_model.specs.Moves as moves
use Rattle.ov_model.specs.Moves.{Move, numbered, moved, committed, version_of, placed_at, piece_of, wide, wide_schema, with_version}
use Rattle.ov_model.specs.Plans.{parts_at, targets_of, planned, missing, copied_more, flipped}
use Rattle.ov_model.specs.Records.{Rec, AllRise, recs, records_of, order_of}
use Rattle.ov_model.specs.Ordered.{HasOrder}
use Rattle.ov_model.specs.Placed.{IsPlaced}
use Rattle.ov_model.specs.World.{Dataset, World, first_set}
use Rattle.ov_model.specs.World as worlds
use Rattle.ov_model.proofs.Ordering.{wide_ordered}
use Rattle.ov_model.proofs.Rids.{rows_once, order_of_once}
use Rattle.ov_event.specs.declared.event.Event as raw
use Rattle.ov_event.specs.declared.event.PlanTarget.{PlanTarget}
use Rattle.ov_host.specs.declared.area.Extent.{Extent}
use Rattle.ov_catalog.specs.Numbers.{SetNumbers, Numbers, nothing_yet}
use Rattle.ov_catalog.specs.Events as events
use Rattle.ov_catalog.specs.Events.{Event, applied, replayed, with_columns}
use Rattle.ov_catalog.specs.Reached.{Fits, IfThere, IfRunning, CommitFits, PlanFits, TakesColumns, MissesSome, MissesNone}
use Rattle.ov_catalog.specs.Shown.{Rids, Records, segment_of, shown_version, shown_target, shown_set, shown, added_to, init_event, commit_event, wide_event, said_of, plan_event, copy_event, copy_for, in_set, commit_in, event_of, snapshot_of}
use Rattle.ov_catalog.specs.Raw.{numbers_in}
use Rattle.ov_catalog.specs.Snapshots.{IsSnapshot, events_of}
use Rattle.ov_catalog.proofs.Good.{NoneNumbered, Distinct, IsGood, IsKnown, accepted_is, found_placed, found_pieces, found_rowed, found_ordered, set_known}
use Rattle.ov_catalog.specs.Told.{IsRowed}
use Rattle.ov_catalog.proofs.Migrating.{planned_shown, copied_shown, flipped_shown}
use Rattle.ov_catalog.proofs.Showing.{version_shown, new_shown}
use Rattle.ov_catalog.proofs.ToldMoves.{all_rise, wide_rowed}
use Rattle.ov_catalog.proofs.Widened.{wide_shown}
use Rattle.law_partitions.proofs.OldMoves.{wide_placed}

pub some_same : {A : Type 0} (a b : A) → Some a ≡ Some b → a ≡ b
some_same a b e = ap (λ o. unwrap_or o a) e

unchanged : (number : ℕ) (f : Dataset → Dataset) (sets : List Dataset) → NoneNumbered number sets → moves.change number f sets ≡ sets
unchanged number f [] none = refl
unchanged number f (d ∷ sets) none = by (d.cvd.number == number) (λ t. eqb-true d.cvd.number number t) (unchanged number f sets none.1)
  where
    by : (b : Bool) → (b ≡ true → d.cvd.number ≡ number) → moves.change number f sets ≡ sets → (if b then f d else d) ∷ moves.change number f sets ≡ d ∷ sets
    by true is rest = absurd (none.0 (is refl))
    by false is rest = ap (λ ds. d ∷ ds) rest

-- a change of the dataset that is found, in the World and in numbers
changed_shown : (number : ℕ) (f : Dataset → Dataset) (h : SetNumbers Rids Records → SetNumbers Rids Records) (found : Dataset) (sets : List Dataset)
    → Distinct sets → first_set (numbered number) sets ≡ Some found → shown_set (f found) ≡ h (shown_set found)
    → map shown_set (moves.change number f sets) ≡ events.change number h (map shown_set sets)
changed_shown number f h found [] distinct e same = cc
changed_shown number f h found (d ∷ sets) distinct e same =
    by (d.cvd.number == number) (λ t. eqb-true d.cvd.number number t) e (λ later. changed_shown number f h found sets distinct.1 later same)
  where
    by : (b : Bool) → (b ≡ true → d.cvd.number ≡ number) → (if b then Some d else first_set (numbered number) sets) ≡ Some found
        → (first_set (numbered number) sets ≡ Some found → map shown_set (moves.change number f sets) ≡ events.change number h (map shown_set sets))
        → shown_set (if b then f d else d) ∷ map shown_set (moves.change number f sets)
        ≡ (if b then h (shown_set d) ∷ map shown_set sets else shown_set d ∷ events.change number h (map shown_set sets))
    by true is here later =
        let it : d ≡ found = ap (λ o. elim o as (λ _. Dataset) [ None ↦ d | Some x ↦ x ]) here
        in λ i. subst (λ x. shown_set (f x) ≡ h (shown_set x)) (sym it) same i
        ∷ map shown_set (unchanged number f sets (subst (λ n. NoneNumbered n sets) (is refl) distinct.0) i)
    by false is here later = ap (λ ds. shown_set d ∷ ds) (later here)

dropped_shown : (number : ℕ) (sets : List Dataset) → map shown_set (filter (λ d. not (numbered number d)) sets) ≡ filter (λ d. not (events.numbered number d)) (map shown_set sets)
dropped_shown number [] = refl
dropped_shown number (d ∷ sets) = by (not (d.cvd.number == number)) (dropped_shown number sets)
  where
    by : (b : Bool) → map shown_set (filter (λ d. not (numbered number d)) sets) ≡ filter (λ d. not (events.numbered number d)) (map shown_set sets)
        → map shown_set (if b then d ∷ filter (λ d. not (numbered number d)) sets else filter (λ d. not (numbered number d)) sets)
        ≡ (if b then shown_set d ∷ filter (λ d. not (events.numbered number d)) (map shown_set sets) else filter (λ d. not (events.numbered number d)) (map shown_set sets))
    by true rest = ap (λ ds. shown_set d ∷ ds) rest
    by false rest = rest

-- a commit's change of a dataset's numbers
abbrev committed_numbers : Dataset → Version → SetNumbers Rids Records → SetNumbers Rids Records
committed_numbers d v =
    events.with_version (shown_version (order_of (d.cvd.versions ++ v ∷ [])) (recs d.cvd.versions []) v) (placed_at d v)
    (length (added_to (placed_at d v) d.parts (records_of v (recs d.cvd.versions []))))
    (map (segment_of (order_of (d.cvd.versions ++ v ∷ []))) (piece_of (added_to (placed_at d v) d.parts (records_of v (recs d.cvd.versions [])))))

rise_more : (schema : Shape) (vs : List Version) (v : Version) → AllRise schema vs → Rises (key_cmp schema) v.rows → AllRise schema (vs ++ v ∷ [])
rise_more schema [] v rise more = (more, tt)
rise_more schema (w ∷ vs) v rise more = (rise.0, rise_more schema vs v rise.1 more)

-- a version that comes to a dataset
module _ (d : Dataset) (v : Version) (placed : IsPlaced d) (rowed : IsRowed d) (ordered : HasOrder d) (rises : Rises (key_cmp d.cvd.schema) v.rows) where
  pub comes_shown : shown_set (with_version v d) ≡ committed_numbers d v (shown_set d)
  comes_shown =
      let known : IsKnown d = set_known d ordered
      in let rise : AllRise d.cvd.schema (d.cvd.versions ++ v ∷ []) = rise_more d.cvd.schema d.cvd.versions v (all_rise d.cvd.schema d.cvd.versions rowed.rows) rises
      in version_shown d v known.pieces placed.ids_once placed.targets ordered.plan
      (rows_once d.cvd.schema v.parents (recs d.cvd.versions []) v.rows rises) (order_of_once d.cvd.schema (d.cvd.versions ++ v ∷ []) rise)

commit_shown : (cvd : ℕ) (parents message : List ℕ) (rows : List Row) (w : World) (found : Option Dataset) → first_set (numbered cvd) w.sets ≡ found
    → IfThere (λ d. CommitFits w d (version_of parents message rows)) found → IsGood w
    → (e : Event Rids Records) → commit_in cvd (version_of parents message rows) found ≡ Some e
    → shown (moved (moves.Commit cvd parents message [] rows) w) ≡ applied e (shown w)
commit_shown cvd parents message rows w None e fits is event said = absurd fits
commit_shown cvd parents message rows w (Some d) e fits is event said =
    let v : Version = version_of parents message rows
    in subst (λ x. shown (moved (moves.Commit cvd parents message [] rows) w) ≡ applied x (shown w))
    (some_same (commit_event cvd d v) event said)
    (λ i. record {
      next = w.next;
      sets = changed_shown cvd (committed parents message [] rows) (committed_numbers d v) d w.sets is.distinct e
          (comes_shown d v (found_placed cvd d w.sets is.sound.placed e) (found_rowed cvd d w.sets is.rowed e) (found_ordered cvd d w.sets is.sound.ordered e) fits.rows.rise) i;
    })

-- a version that comes with columns
wide_event_shown : (cvd : ℕ) (parents message : List ℕ) (column : Column) (more : List Column) (rows : List Row) (w : World) (found : Option Dataset)
    → first_set (numbered cvd) w.sets ≡ found
    → IfThere (λ d. TakesColumns w d (column ∷ more) × CommitFits w (wide (column ∷ more) d) (version_of parents message rows)) found → IsGood w
    → (e : Event Rids Records) → in_set (λ d. Some (wide_event cvd (column ∷ more) (wide (column ∷ more) d) (version_of parents message rows))) found ≡ Some e
    → shown (moved (moves.Commit cvd parents message (column ∷ more) rows) w) ≡ applied e (shown w)
wide_event_shown cvd parents message column more rows w None e fits is event said = absurd fits
wide_event_shown cvd parents message column more rows w (Some d) e fits is event said =
    let v : Version = version_of parents message rows
    in let columns : List Column = column ∷ more
    in let wider : Dataset = wide columns d
    in let accepted : widened d.cvd.schema columns ≡ Ok (wide_schema d.cvd.schema columns) = accepted_is d.cvd.schema (widened d.cvd.schema columns) fits.0.accepted
    in let same : shown_set (committed parents message columns rows d) ≡ committed_numbers wider v (with_columns columns (shown_set d)) =
    comes_shown wider v (wide_placed columns d (found_placed cvd d w.sets is.sound.placed e))
    (wide_rowed columns d accepted (found_rowed cvd d w.sets is.rowed e)) (wide_ordered columns d (found_ordered cvd d w.sets is.sound.ordered e)) fits.1.rows.rise
    ∙ ap (committed_numbers wider v) (wide_shown column more d)
    in subst (λ x. shown (moved (moves.Commit cvd parents message columns rows) w) ≡ applied x (shown w))
    (some_same (wide_event cvd columns wider v) event said)
    (λ i. record {
      next = w.next;
      sets = changed_shown cvd (committed parents message columns rows) (λ s. committed_numbers wider v (with_columns columns s)) d w.sets is.distinct e same i;
    })

plan_shown : (cvd p q : ℕ) (w : World) (found : Option Dataset) → first_set (numbered cvd) w.sets ≡ found → IfThere (PlanFits p q) found → IsGood w
    → (e : Event Rids Records) → in_set (λ d. Some (plan_event cvd p q d)) found ≡ Some e
    → shown (moved (moves.BeginPlan cvd p q) w) ≡ applied e (shown w)
plan_shown cvd p q w None e fits is event said = absurd fits
plan_shown cvd p q w (Some d) e fits is event said =
    let targets : List PlanTarget = map (λ t. said_of (shown_target d t)) (targets_of d (parts_at d p q))
    in subst (λ x. shown (moved (moves.BeginPlan cvd p q) w) ≡ applied x (shown w)) (some_same (plan_event cvd p q d) event said)
    (λ i. record {
      next = w.next;
      sets = changed_shown cvd (planned p q) (events.planned p q targets) d w.sets is.distinct e (planned_shown p q d) i;
    })

copy_running : (cvd : ℕ) (w : World) (d : Dataset) → first_set (numbered cvd) w.sets ≡ Some d → IsGood w → (plan : Option worlds.Plan) → d.plan ≡ plan
    → (e : Event Rids Records) → copy_for cvd d plan ≡ Some e → shown (moved (moves.Copy cvd) w) ≡ applied e (shown w)
copy_running cvd w d there is None runs event said = cc
copy_running cvd w d there is (Some plan) runs event said =
    let piece : List Rec = take 256 (missing d plan)
    in subst (λ x. shown (moved (moves.Copy cvd) w) ≡ applied x (shown w)) (some_same (copy_event cvd d plan) event said)
    (λ i. record {
      next = w.next;
      sets = changed_shown cvd copied_more (events.copied_more (length piece) (segment_of (order_of d.cvd.versions) piece ∷ [])) d w.sets is.distinct there
          (copied_shown d plan runs) i;
    })

copy_shown : (cvd : ℕ) (w : World) (found : Option Dataset) → first_set (numbered cvd) w.sets ≡ found → IfThere MissesSome found → IsGood w
    → (e : Event Rids Records) → in_set (λ d. copy_for cvd d d.plan) found ≡ Some e → shown (moved (moves.Copy cvd) w) ≡ applied e (shown w)
copy_shown cvd w None there fits is event said = absurd fits
copy_shown cvd w (Some d) there fits is event said = copy_running cvd w d there is d.plan refl event said

flip_shown : (cvd : ℕ) (w : World) (found : Option Dataset) → first_set (numbered cvd) w.sets ≡ found → IfThere MissesNone found → IsGood w
    → shown (moved (moves.Flip cvd) w) ≡ applied (events.Flip cvd) (shown w)
flip_shown cvd w None there fits is = absurd fits
flip_shown cvd w (Some d) there fits is = λ i. record {
  next = w.next;
  sets = changed_shown cvd flipped events.flipped d w.sets is.distinct there (flipped_shown d (found_pieces cvd d w.sets is.sound.pieces there).plan) i;
}

pub events_are_moves : (m : Move) (w : World) → Fits m w → IsGood w → (e : Event Rids Records) → event_of m w ≡ Some e → shown (moved m w) ≡ applied e (shown w)
events_are_moves (moves.Init name schema rows) w fits is e said =
    subst (λ x. shown (moved (moves.Init name schema rows) w) ≡ applied x (shown w))
    (some_same (init_event name (version_of [] (codes "init") rows) schema) e said)
    (λ i. record {
      next = w.next + 1;
      sets = (map-append shown_set w.sets (moves.new_set w.next name schema rows ∷ [])
          ∙ ap (λ d. map shown_set w.sets ++ d ∷ []) (new_shown w.next name schema rows (version_of [] (codes "init") rows) refl)) i;
    })
events_are_moves (moves.Commit cvd parents message [] rows) w fits is e said = commit_shown cvd parents message rows w (first_set (numbered cvd) w.sets) refl fits is e said
events_are_moves (moves.Commit cvd parents message (column ∷ added) rows) w fits is e said =
    wide_event_shown cvd parents message column added rows w (first_set (numbered cvd) w.sets) refl fits is e said
events_are_moves (moves.BeginPlan cvd p q) w fits is e said = plan_shown cvd p q w (first_set (numbered cvd) w.sets) refl fits is e said
events_are_moves (moves.Copy cvd) w fits is e said = copy_shown cvd w (first_set (numbered cvd) w.sets) refl fits is e said
events_are_moves (moves.Flip cvd) w fits is e said =
    subst (λ x. shown (moved (moves.Flip cvd) w) ≡ applied x (shown w)) (some_same (events.Flip cvd) e said)
    (flip_shown cvd w (first_set (numbered cvd) w.sets) refl fits is)
events_are_moves (moves.Drop cvd) w fits is e said =
    subst (λ x. shown (moved (moves.Drop cvd) w) ≡ applied x (shown w)) (some_same (events.Drop cvd) e said)
    (λ i. record { next = w.next; sets = dropped_shown cvd w.sets i })
events_are_moves moves.Checkpoint w fits is e said = absurd cc

-- a move that suits has one event, but for a checkpoint
commit_some : (cvd : ℕ) (v : Version) (found : Option Dataset) (P : Dataset → Type 0) → IfThere P found → is_some (commit_in cvd v found) ≡ true
commit_some cvd v None P fits = absurd fits
commit_some cvd v (Some d) P fits = refl

in_some : (f : Dataset → Event Rids Records) (found : Option Dataset) (P : Dataset → Type 0) → IfThere P found → is_some (in_set (λ d. Some (f d)) found) ≡ true
in_some f None P fits = absurd fits
in_some f (Some d) P fits = refl

copy_some : (cvd : ℕ) (found : Option Dataset) → IfThere MissesSome found → is_some (in_set (λ d. copy_for cvd d d.plan) found) ≡ true
copy_some cvd None fits = absurd fits
copy_some cvd (Some d) fits = by d.plan fits
  where
    by : (plan : Option worlds.Plan) → IfRunning (λ p. 0 < length (missing d p)) plan → is_some (copy_for cvd d plan) ≡ true
    by None runs = absurd runs
    by (Some p) runs = refl

pub one_event : (m : Move) (w : World) → m ≢ moves.Checkpoint → Fits m w → is_some (event_of m w) ≡ true
one_event (moves.Init name schema rows) w other suits = refl
one_event (moves.Commit cvd parents message [] rows) w other suits =
    commit_some cvd (version_of parents message rows) (first_set (numbered cvd) w.sets) (λ d. CommitFits w d (version_of parents message rows)) suits
one_event (moves.Commit cvd parents message (column ∷ added) rows) w other suits =
    in_some (λ d. wide_event cvd (column ∷ added) (wide (column ∷ added) d) (version_of parents message rows)) (first_set (numbered cvd) w.sets)
    (λ d. TakesColumns w d (column ∷ added) × CommitFits w (wide (column ∷ added) d) (version_of parents message rows)) suits
one_event (moves.BeginPlan cvd p q) w other suits = in_some (plan_event cvd p q) (first_set (numbered cvd) w.sets) (PlanFits p q) suits
one_event (moves.Copy cvd) w other suits = copy_some cvd (first_set (numbered cvd) w.sets) suits
one_event (moves.Flip cvd) w other suits = refl
one_event (moves.Drop cvd) w other suits = refl
one_event moves.Checkpoint w other suits = absurd (other refl)

-- ---- snapshots

wholes_replayed : {L S : Type 0} (sets before : List (SetNumbers L S)) (next : ℕ)
    → replayed (map (λ d. events.Whole d) sets) (record { next = next; sets = before }) ≡ record { next = next; sets = before ++ sets }
wholes_replayed [] before next = λ i. record { next = next; sets = sym (append-nil before) i }
wholes_replayed (d ∷ sets) before next =
    wholes_replayed sets (before ++ d ∷ []) next ∙ (λ i. record { next = next; sets = append_assoc before (d ∷ []) sets i })

-- a snapshot says the numbers, whatever came before
pub snapshot_replayed : {L S : Type 0} (n before : Numbers L S) → replayed (events_of n) before ≡ n
snapshot_replayed n before = wholes_replayed n.sets [] n.next

pub snapshot_numbers : (events : List raw.Event) (n : Numbers Extent Extent) → IsSnapshot events n → numbers_in events ≡ n
snapshot_numbers events n is = ap (λ es. replayed es nothing_yet) is ∙ snapshot_replayed n nothing_yet

wholes_shown : (sets : List Dataset) → map (λ d. events.Whole (shown_set d)) sets ≡ map (λ d. events.Whole d) (map shown_set sets)
wholes_shown [] = refl
wholes_shown (d ∷ sets) = ap (λ es. events.Whole (shown_set d) ∷ es) (wholes_shown sets)

pub world_replayed : (w : World) (before : Numbers Rids Records) → replayed (snapshot_of w) before ≡ shown w
world_replayed w before = ap (λ es. replayed (events.Base w.next ∷ es) before) (wholes_shown w.sets) ∙ snapshot_replayed (shown w) before
