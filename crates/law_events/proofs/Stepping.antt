-- The events of a Copy and of a Flip apply where the move fits.
use Rattle.std.proofs.Common.{◌≡◌, ◌<◌, ℕ, ◌+◌, ◌==◌, ◌&&◌, not, List, [], length, take, refl, sym, ◌∙◌, ap, subst, arith}
use Rattle.std.specs.Prelude.{Option, Some, None, IsTrue, min, nat_le}
use Rattle.std.specs.Option.{option_map}
use Rattle.std.proofs.lemmas.Bool.{and_from, eq-eqb, le-leb}
use Rattle.std.proofs.lemmas.List.{length-take}
use Rattle.ov_event.specs.declared.event.Event as raw
use Rattle.ov_event.specs.declared.event.Event.TheVariants as says
use Rattle.ov_host.specs.declared.area.Extent.{Extent}
use Rattle.ov_model.specs.Lists.{joined}
use Rattle.ov_model.specs.Moves.{Copy, Flip, numbered}
use Rattle.ov_model.specs.Plans.{missing}
use Rattle.ov_model.specs.World.{Plan, Dataset, World, first_set}
use Rattle.law_partitions.specs.Pieces.{IsUnderWay, PlanIsUnderWay, HasPieces, HaveNoRowTwice}
use Rattle.ov_catalog.specs.declared.field.Field.TheVariants as off
use Rattle.ov_catalog.specs.Applying.{is_extent, of_live, set_numbered, first_off}
use Rattle.ov_catalog.specs.Events as events
use Rattle.ov_catalog.specs.Events.{Event, Flip as Flipped}
use Rattle.ov_catalog.specs.Numbers.{TargetNumbers}
use Rattle.ov_catalog.specs.Planning as lacked
use Rattle.ov_catalog.specs.Planning.{of_running, copy_off, flip_off}
use Rattle.ov_catalog.specs.Raw.{numbers_in}
use Rattle.ov_catalog.specs.Reached.{Fits, IfThere, IfRunning, MissesSome, MissesNone}
use Rattle.ov_catalog.specs.Shown.{shown, shown_plan, copy_event, copy_for, in_set}
use Rattle.ov_catalog.specs.Stands.{Readings, StandsFor, seen_event, asked_as, asked_event}
use Rattle.ov_catalog.proofs.Good.{IsGood, found_pieces, good}
use Rattle.ov_catalog.proofs.Migrating.{plan_numbers, current_shown}
use Rattle.ov_catalog.proofs.Moving.{some_same}
use Rattle.law_events.specs.Fitting.{IsSoundEvent}
use Rattle.law_events.proofs.Beginning.{off_none, off_last, applies_there, live_shown}
use Rattle.law_events.proofs.Lacks.{missing_shown, current_lacks}

-- ---- a copy

copy_fits : (d : Dataset) (plan : Plan) (segment : Extent) → HaveNoRowTwice d.cvd.versions → IsUnderWay d plan → 0 < length (missing d plan)
    → IsTrue (not (segment.bytes == 0)) → IsTrue (is_extent segment) → copy_off (length (take 256 (missing d plan))) segment (plan_numbers d plan) ≡ None
copy_fits d plan segment rows way some full at =
    let count : ℕ = length (take 256 (missing d plan))
    in let least : ℕ = min 256 (lacked.missing (plan_numbers d plan))
    in off_none (nat_le 1 count && count == least) off.Count _
    (and_from (nat_le 1 count) (count == least)
    (le-leb 1 count (omega (arith, length-take 256 (missing d plan), some)))
    (eq-eqb count least (length-take 256 (missing d plan) ∙ ap (min 256) (sym (missing_shown d rows plan way)))))
    (off_last (not (segment.bytes == 0) && is_extent segment) off.Place (and_from (not (segment.bytes == 0)) (is_extent segment) full at))

abbrev copy_number : {L S : Type 0} → Event L S → ℕ
copy_number (events.Copy cvd count segments) = cvd
copy_number _ = 0

abbrev count_in : {L S : Type 0} → Event L S → ℕ
count_in (events.Copy cvd count segments) = count
count_in _ = 0

copy_spelled : (r : Readings) (w : World) (e : raw.Event) (cvd : ℕ) (d : Dataset) (plan : Plan) → first_set (numbered cvd) w.sets ≡ Some d → d.plan ≡ Some plan → HasPieces d
    → 0 < length (missing d plan) → IsSoundEvent e → seen_event r e ≡ asked_as (copy_event cvd d plan) → first_off w.format e (shown w) ≡ None
copy_spelled r w (says.Init name schema count list segment) cvd d plan there runs has some sound spells = cc
copy_spelled r w (says.Commit number vid message parents rows fresh place added list segment) cvd d plan there runs has some sound spells = cc
copy_spelled r w (says.Plan number p q targets) cvd d plan there runs has some sound spells = cc
copy_spelled r w (says.Copy number count segment) cvd d plan there runs has some sound spells =
    let taken : ℕ = length (take 256 (missing d plan))
    in (λ i. of_live (λ s. of_running (copy_off (ap count_in spells i) segment) s.plan) (set_numbered (ap copy_number spells i) (shown w)))
    ∙ live_shown (λ s. of_running (copy_off taken segment) s.plan) cvd w.sets d there
    (ap (λ found. of_running (copy_off taken segment) (shown_plan d found)) runs
    ∙ copy_fits d plan segment has.rows (subst (PlanIsUnderWay d) runs has.plan) some sound.0 sound.1)
copy_spelled r w (says.Flip number) cvd d plan there runs has some sound spells = cc
copy_spelled r w (says.Drop number) cvd d plan there runs has some sound spells = cc
copy_spelled r w (says.Base next) cvd d plan there runs has some sound spells = cc
copy_spelled r w (says.Whole whole) cvd d plan there runs has some sound spells = cc
copy_spelled r w (says.Wide number vid message columns parents rows fresh place added list segment) cvd d plan there runs has some sound spells = cc

copy_running : (r : Readings) (w : World) (e : raw.Event) (cvd : ℕ) (d : Dataset) (plan : Option Plan) → first_set (numbered cvd) w.sets ≡ Some d → d.plan ≡ plan → HasPieces d
    → IfRunning (λ p. 0 < length (missing d p)) plan → IsSoundEvent e → Some (seen_event r e) ≡ option_map asked_as (copy_for cvd d plan) → first_off w.format e (shown w) ≡ None
copy_running r w e cvd d None there runs has some sound spells = absurd some
copy_running r w e cvd d (Some plan) there runs has some sound spells =
    copy_spelled r w e cvd d plan there runs has some sound (some_same (seen_event r e) (asked_as (copy_event cvd d plan)) spells)

copy_found : (r : Readings) (w : World) (e : raw.Event) (cvd : ℕ) (set : Option Dataset) → first_set (numbered cvd) w.sets ≡ set → IfThere MissesSome set → IsGood w → IsSoundEvent e
    → Some (seen_event r e) ≡ option_map asked_as (in_set (λ d. copy_for cvd d d.plan) set) → first_off w.format e (shown w) ≡ None
copy_found r w e cvd None there fits is sound spells = absurd fits
copy_found r w e cvd (Some d) there fits is sound spells = copy_running r w e cvd d d.plan there refl (found_pieces cvd d w.sets is.sound.pieces there) fits sound spells

pub copy_applies : (events : List raw.Event) (r : Readings) (w : World) (e : raw.Event) (cvd : ℕ) → StandsFor w.format events r w → Fits (Copy cvd) w → IsSoundEvent e
    → Some (seen_event r e) ≡ asked_event (Copy cvd) w → first_off w.format e (numbers_in events) ≡ None
copy_applies events r w e cvd stands fits sound spells =
    applies_there events r w e stands (copy_found r w e cvd (first_set (numbered cvd) w.sets) refl fits (good w stands.reached) sound spells)

-- ---- a flip

flip_fits : (d : Dataset) (plan : Plan) → HaveNoRowTwice d.cvd.versions → IsUnderWay d plan → missing d plan ≡ [] → flip_off (plan_numbers d plan) ≡ None
flip_fits d plan rows way none =
    let own : TargetNumbers = events.current (plan_numbers d plan)
    in off_last (own.kept_records + length (joined plan.copied) == own.size) off.Count
    (eq-eqb (own.kept_records + length (joined plan.copied)) own.size
    (omega (
      arith,
      ap (λ (t : TargetNumbers). t.kept_records) (current_shown d plan),
      ap (λ (t : TargetNumbers). t.size) (current_shown d plan),
      current_lacks d rows plan way,
      ap length none,
    )))

flip_running : (cvd : ℕ) (w : World) (d : Dataset) (plan : Option Plan) → first_set (numbered cvd) w.sets ≡ Some d → d.plan ≡ plan → HasPieces d → IfRunning (λ p. missing d p ≡ []) plan
    → of_live (λ s. of_running flip_off s.plan) (set_numbered cvd (shown w)) ≡ None
flip_running cvd w d None there runs has none = absurd none
flip_running cvd w d (Some plan) there runs has none =
    live_shown (λ s. of_running flip_off s.plan) cvd w.sets d there
    (ap (λ found. of_running flip_off (shown_plan d found)) runs ∙ flip_fits d plan has.rows (subst (PlanIsUnderWay d) runs has.plan) none)

flip_found : (cvd : ℕ) (w : World) (set : Option Dataset) → first_set (numbered cvd) w.sets ≡ set → IfThere MissesNone set → IsGood w
    → of_live (λ s. of_running flip_off s.plan) (set_numbered cvd (shown w)) ≡ None
flip_found cvd w None there fits is = absurd fits
flip_found cvd w (Some d) there fits is = flip_running cvd w d d.plan there refl (found_pieces cvd d w.sets is.sound.pieces there) fits

abbrev flip_number : {L S : Type 0} → Event L S → ℕ
flip_number (events.Flip cvd) = cvd
flip_number _ = 0

flip_shown : (r : Readings) (w : World) (e : raw.Event) (cvd : ℕ) → Fits (Flip cvd) w → IsGood w → seen_event r e ≡ asked_as (Flipped cvd) → first_off w.format e (shown w) ≡ None
flip_shown r w (says.Init given s count list segment) cvd fits is spells = cc
flip_shown r w (says.Commit number vid message parents count fresh place added list segment) cvd fits is spells = cc
flip_shown r w (says.Plan number p q targets) cvd fits is spells = cc
flip_shown r w (says.Copy number count segment) cvd fits is spells = cc
flip_shown r w (says.Flip number) cvd fits is spells =
    ap (λ n. of_live (λ s. of_running flip_off s.plan) (set_numbered n (shown w))) (ap flip_number spells)
    ∙ flip_found cvd w (first_set (numbered cvd) w.sets) refl fits is
flip_shown r w (says.Drop number) cvd fits is spells = cc
flip_shown r w (says.Base next) cvd fits is spells = cc
flip_shown r w (says.Whole whole) cvd fits is spells = cc
flip_shown r w (says.Wide number vid message columns parents count fresh place added list segment) cvd fits is spells = cc

pub flip_applies : (events : List raw.Event) (r : Readings) (w : World) (e : raw.Event) (cvd : ℕ) → StandsFor w.format events r w → Fits (Flip cvd) w
    → Some (seen_event r e) ≡ asked_event (Flip cvd) w → first_off w.format e (numbers_in events) ≡ None
flip_applies events r w e cvd stands fits spells =
    applies_there events r w e stands (flip_shown r w e cvd fits (good w stands.reached) (some_same (seen_event r e) (asked_as (Flipped cvd)) spells))
