-- The event of a BeginPlan applies where the move fits.
use Rattle.std.proofs.Common.{◌≡◌, ◌≤◌, ◌⊎◌, ℕ, ◌+◌, ◌-◌, ◌==◌, ◌&&◌, Bool, true, false, nat_lt, List, [], ◌∷◌, length, map, get_or, refl, sym, ◌∙◌, ap, subst, inl, inr, zero, suc, arith}
use Rattle.std.specs.Prelude.{Option, Some, None, is_none, nat_le, if◌then◌else◌}
use Rattle.std.specs.List.{list_all}
use Rattle.std.specs.Option.{option_map}
use Rattle.std.proofs.lemmas.Bool.{cases_Bool, cond-true, cond-false, and_from, eq-eqb, eqb-true, ne_eqb, lt-ltb, le-leb, true≢false}
use Rattle.std.proofs.lemmas.List.{length-map, length-append}
use Rattle.ov_event.specs.declared.event.Event as raw
use Rattle.ov_event.specs.declared.event.Event.TheVariants as says
use Rattle.ov_event.specs.declared.event.PlanTarget.{PlanTarget}
use Rattle.ov_model.specs.Lists.{IsIn, joined}
use Rattle.ov_model.specs.Moves.{BeginPlan, numbered}
use Rattle.ov_model.specs.Placed.{id_times, IsPlaced}
use Rattle.ov_model.specs.Plans.{parts_at, records_in, cheapest, source_of, pieces_of, places_within, pieces_at, target_of, targets_of}
use Rattle.ov_model.specs.Records.{Rec, recs, of_version, order_of}
use Rattle.ov_model.specs.World.{Part, Target, Dataset, World, first_set}
use Rattle.ov_model.proofs.Counting.{one_same}
use Rattle.law_partitions.specs.Pieces.{NoTwice, AllFull, IsOfOne, AreBelow, IsKept, HasPieces}
use Rattle.law_partitions.specs.Sources.{AscendFrom}
use Rattle.law_partitions.proofs.OldParts.{some_id}
use Rattle.law_partitions.proofs.PiecePlan.{no_pieces, target_kept}
use Rattle.law_partitions.proofs.PieceTimes.{AllOnce, recs_once}
use Rattle.law_partitions.proofs.PlanNodes.{filter_most}
use Rattle.law_partitions.proofs.SourceMoves.{Goes, cheapest_goes, places_ascend}
use Rattle.ov_catalog.specs.declared.field.Field.TheVariants as off
use Rattle.ov_catalog.specs.Applying.{rows_at, part_numbered, is_same, of_live, set_numbered, first_off}
use Rattle.ov_catalog.specs.Events as events
use Rattle.ov_catalog.specs.Events.{Event}
use Rattle.ov_catalog.specs.Numbers.{PartNumbers, TargetNumbers}
use Rattle.ov_catalog.specs.Planning.{is_threshold, ascend_from, are_below, empties, is_kept, is_source, is_size, are_targets, plan_off}
use Rattle.ov_catalog.specs.Raw.{numbers_in}
use Rattle.ov_catalog.specs.Reached.{PlanFits, Fits, IfThere}
use Rattle.ov_catalog.specs.Shown.{Records, segment_of, shown, shown_versions, shown_part, shown_target, shown_plan, shown_set, said_of, plan_event, in_set}
use Rattle.ov_catalog.specs.Stands.{Readings, StandsFor, seen_event, asked_as, asked_event}
use Rattle.ov_catalog.proofs.Good.{IsGood, found_pieces, found_placed, good}
use Rattle.ov_catalog.proofs.Migrating.{split_shown, targets_shown}
use Rattle.ov_catalog.proofs.Moving.{some_same}
use Rattle.law_events.proofs.Beginning.{off_none, off_last, applies_there, live_shown}
use Rattle.law_events.proofs.Counts.{no_more}
use Rattle.law_events.proofs.Lacks.{together, new_lacks}
use Rattle.law_events.proofs.Seeing.{rows_shown}

-- ---- the size of a target

once_at : (rss : List (List Rec)) (k : ℕ) → AllOnce rss → NoTwice (get_or rss k [])
once_at [] k once = λ r. omega arith
once_at (rs ∷ rss) zero once = once.0
once_at (rs ∷ rss) (suc k) once = once_at rss k once.1

module _ (d : Dataset) (is : HasPieces d) where
  abbrev all : List Rec
  all = order_of d.cvd.versions

  abbrev done : List (List Rec)
  done = recs d.cvd.versions []

  -- each version has no more rows than the records of all of them together
  rows_within : (wanted : List Rec) (vids : List ℕ) → ((r : Rec) → IsOfOne done vids r → IsIn wanted r)
      → list_all (λ vid. nat_le (rows_at (shown_versions all [] d.cvd.versions) vid) (length wanted)) vids ≡ true
  rows_within wanted [] within = refl
  rows_within wanted (vid ∷ vids) within =
      let rows : ℕ = rows_at (shown_versions all [] d.cvd.versions) vid
      in and_from (nat_le rows (length wanted)) (list_all (λ v. nat_le (rows_at (shown_versions all [] d.cvd.versions) v) (length wanted)) vids)
      (le-leb rows (length wanted) (omega (
        arith,
        rows_shown all d.cvd.versions vid,
        no_more (of_version done vid) wanted (once_at done (vid - 1) (recs_once d.cvd.versions [] is.rows tt)) (λ r there. within r (inl there)),
      )))
      (rows_within wanted vids (λ r there. within r (inr there)))

  size_fits : (t : Target) → is_size (shown_set d) (shown_target d t) ≡ true
  size_fits t =
      let wanted : List Rec = records_in d.cvd t.versions
      in and_from (list_all (λ vid. nat_le (rows_at (shown_versions all [] d.cvd.versions) vid) (length wanted)) t.versions) (nat_le (length wanted) (length all))
      (rows_within wanted t.versions (together d t.versions))
      (le-leb (length wanted) (length all) (filter_most _ all))

-- ---- its source

ascends : (least : ℕ) (places : List ℕ) → AscendFrom least places → ascend_from least places ≡ true
ascends least [] up = refl
ascends least (n ∷ places) up = and_from (nat_le least n) (ascend_from (n + 1) places) (le-leb least n up.0) (ascends (n + 1) places up.1)

below : (limit : ℕ) (places : List ℕ) → AreBelow limit places → are_below limit places ≡ true
below limit [] low = refl
below limit (n ∷ places) low = and_from (nat_lt n limit) (are_below limit places) (lt-ltb n limit low.0) (below limit places low.1)

-- places are kept exactly where records are
kept_both : (pieces : List (List Rec)) (places : List ℕ) → AllFull (pieces_at pieces places) → is_same (length places == 0) (length (joined (pieces_at pieces places)) == 0) ≡ true
kept_both pieces [] full = refl
kept_both pieces (place ∷ places) full =
    let some : (length (place ∷ places) == 0) ≡ false = ne_eqb (length (place ∷ places)) 0 (λ e. absurd (omega (arith, e)))
    in let rs : List Rec = joined (pieces_at pieces (place ∷ places))
    in let has : (length rs == 0) ≡ false =
    ne_eqb (length rs) 0 (λ e. absurd (omega (arith, e, full.0, length-append (get_or pieces place []) (joined (pieces_at pieces places)))))
    in λ i. is_same (some i) (has i)

abbrev Found : List Rec → List Part → Part → Type 0
Found all parts part = (part_numbered (map (shown_part all) parts) part.id ≡ Some (shown_part all part)) × (pieces_of parts part.id ≡ part.pieces)

found : (all : List Rec) (parts : List Part) (part : Part) → id_times parts part.id ≤ 1 → IsIn parts part → Found all parts part
found all [] part once is = absurd is
found all (x ∷ parts) part once (inl same) =
    let here : (x.id == part.id) ≡ true = eq-eqb x.id part.id (λ i. (sym same i).id)
    in (
      cond-true (x.id == part.id) (Some (shown_part all x)) (part_numbered (map (shown_part all) parts) part.id) here ∙ (λ i. Some (shown_part all (sym same i))),
      cond-true (x.id == part.id) x.pieces (pieces_of parts part.id) here ∙ (λ i. (sym same i).pieces),
    )
found all (x ∷ parts) part once (inr later) =
    let other : (x.id == part.id) ≡ false = ne_eqb x.id part.id (λ same. omega (arith, once, one_same x.id part.id same, some_id parts part later))
    in let more : Found all parts part = found all parts part (omega (arith, once)) later
    in (
      cond-false (x.id == part.id) (Some (shown_part all x)) (part_numbered (map (shown_part all) parts) part.id) other ∙ more.0,
      cond-false (x.id == part.id) x.pieces (pieces_of parts part.id) other ∙ more.1,
    )

-- a source is none, or a partition that the target empties
none_or_goes : (wanted : List Rec) (versions : List ℕ) (later : List (List ℕ)) (parts : List Part) (size : ℕ) (best : Option (ℕ × ℕ)) → cheapest wanted versions later parts ≡ best
    → (source_of size best ≡ 0) ⊎ Goes wanted versions later parts (source_of size best)
none_or_goes wanted versions later parts size None e = inl refl
none_or_goes wanted versions later parts size (Some best) e = by (nat_lt best.1 size)
  where
    by : (t : Bool) → ((if t then best.0 else 0) ≡ 0) ⊎ Goes wanted versions later parts (if t then best.0 else 0)
    by true = inr (cheapest_goes wanted versions later parts best e)
    by false = inl refl

module _ (d : Dataset) (is : HasPieces d) (placed : IsPlaced d) (versions : List ℕ) (later : List (List ℕ)) where
  abbrev wanted : List Rec
  wanted = records_in d.cvd versions

  abbrev target : Target
  target = target_of d versions later

  abbrev parts : List (PartNumbers Records)
  parts = map (shown_part (order_of d.cvd.versions)) d.parts

  own_kept : IsKept d target
  own_kept = target_kept d is placed versions later

  nothing_kept : target.source ≡ 0 → (length target.kept == 0 && target.kept_records == 0) ≡ true
  nothing_kept none =
      let no_places : target.kept ≡ [] = ap (λ n. places_within 0 wanted (pieces_of d.parts n)) none ∙ ap (places_within 0 wanted) (no_pieces d.parts is.no_zero)
      in λ i. length (no_places i) == 0 && length (joined (pieces_at (pieces_of d.parts target.source) (no_places i))) == 0

  abbrev keeps_well : ℕ → Bool
  keeps_well count =
      (ascend_from 0 target.kept && are_below count target.kept) && (is_same (length target.kept == 0) (target.kept_records == 0) && nat_le target.kept_records (length wanted))

  -- of as many pieces as the source has
  kept_well : (count : ℕ) → length (pieces_of d.parts target.source) ≡ count → keeps_well count ≡ true
  kept_well count long =
      and_from (ascend_from 0 target.kept && are_below count target.kept) (is_same (length target.kept == 0) (target.kept_records == 0) && nat_le target.kept_records (length wanted))
      (and_from (ascend_from 0 target.kept) (are_below count target.kept)
      (ascends 0 target.kept (places_ascend wanted 0 (pieces_of d.parts target.source)))
      (below count target.kept (subst (λ n. AreBelow n target.kept) long own_kept.there)))
      (and_from (is_same (length target.kept == 0) (target.kept_records == 0)) (nat_le target.kept_records (length wanted))
      (kept_both (pieces_of d.parts target.source) target.kept own_kept.full)
      (le-leb target.kept_records (length wanted) (omega (arith, new_lacks d is.rows target own_kept))))

  goes_kept : Goes wanted versions later d.parts target.source → is_kept (shown_target d target) later (part_numbered parts target.source) ≡ true
  goes_kept goes =
      let part : PartNumbers Records = shown_part (order_of d.cvd.versions) goes.0
      in let here : Found (order_of d.cvd.versions) d.parts goes.0 = found (order_of d.cvd.versions) d.parts goes.0 (placed.ids_once goes.0.id) goes.1
      in let pieces : pieces_of d.parts target.source ≡ goes.0.pieces = ap (pieces_of d.parts) (sym goes.2) ∙ here.1
      in ap (is_kept (shown_target d target) later) (ap (part_numbered parts) (sym goes.2) ∙ here.0)
      ∙ and_from (empties versions later part) (keeps_well (length part.segments)) goes.3
      (kept_well (length part.segments) (ap length pieces ∙ sym (length-map goes.0.pieces (segment_of (order_of d.cvd.versions)))))

  source_fits : is_source parts (shown_target d target) later ≡ true
  source_fits =
      elim (cases_Bool (target.source == 0)) [
        | inl none ↦
            cond-true (target.source == 0) (length target.kept == 0 && target.kept_records == 0) (is_kept (shown_target d target) later (part_numbered parts target.source)) none
            ∙ nothing_kept (eqb-true target.source 0 none)
        | inr some ↦
            cond-false (target.source == 0) (length target.kept == 0 && target.kept_records == 0) (is_kept (shown_target d target) later (part_numbered parts target.source)) some
            ∙ elim (none_or_goes wanted versions later d.parts (length wanted) (cheapest wanted versions later d.parts) refl) [
              | inl none ↦ absurd (true≢false (sym (eq-eqb target.source 0 none) ∙ some))
              | inr goes ↦ goes_kept goes
            ]
      ]

-- ---- all targets

targets_listed : (d : Dataset) (parts : List (List ℕ)) → map (λ (t : TargetNumbers). t.versions) (map (shown_target d) (targets_of d parts)) ≡ parts
targets_listed d [] = refl
targets_listed d (versions ∷ later) = ap (λ listed. versions ∷ listed) (targets_listed d later)

targets_long : (d : Dataset) (parts : List (List ℕ)) → length (targets_of d parts) ≡ length parts
targets_long d [] = refl
targets_long d (versions ∷ later) = ap (λ n. suc n) (targets_long d later)

targets_fit : (d : Dataset) (is : HasPieces d) (placed : IsPlaced d) (parts : List (List ℕ)) → are_targets (shown_set d) (map (shown_target d) (targets_of d parts)) ≡ true
targets_fit d is placed [] = refl
targets_fit d is placed (versions ∷ later) =
    let t : TargetNumbers = shown_target d (target_of d versions later)
    in let behind : List TargetNumbers = map (shown_target d) (targets_of d later)
    in let source : Bool = is_source (map (shown_part (order_of d.cvd.versions)) d.parts) t (map (λ u. u.versions) behind)
    in and_from (is_size (shown_set d) t && source) (are_targets (shown_set d) behind)
    (and_from (is_size (shown_set d) t) source
    (size_fits d is (target_of d versions later))
    (ap (is_source (map (shown_part (order_of d.cvd.versions)) d.parts) t) (targets_listed d later) ∙ source_fits d is placed versions later))
    (targets_fit d is placed later)

-- ---- the event

abbrev said_at : ℕ → ℕ → Dataset → List PlanTarget
said_at p q d = map (λ t. said_of (shown_target d t)) (targets_of d (parts_at d p q))

said_fit : (p q : ℕ) (d : Dataset) → HasPieces d → IsPlaced d
    → (length (said_at p q d) == length (events.parts_at p q (shown_set d)) && are_targets (shown_set d) (events.targets_of (events.parts_at p q (shown_set d)) (said_at p q d))) ≡ true
said_fit p q d is placed =
    and_from (length (said_at p q d) == length (events.parts_at p q (shown_set d))) (are_targets (shown_set d) (events.targets_of (events.parts_at p q (shown_set d)) (said_at p q d)))
    (eq-eqb (length (said_at p q d)) (length (events.parts_at p q (shown_set d)))
    (length-map (targets_of d (parts_at d p q)) (λ t. said_of (shown_target d t)) ∙ targets_long d (parts_at d p q) ∙ ap length (sym (split_shown p q d))))
    (ap (are_targets (shown_set d)) (targets_shown p q d) ∙ targets_fit d is placed (parts_at d p q))

plan_fits : (p q : ℕ) (d : Dataset) → PlanFits p q d → HasPieces d → IsPlaced d → plan_off p q (said_at p q d) (shown_set d) ≡ None
plan_fits p q d fits is placed =
    off_none (is_none (shown_plan d d.plan) && (is_threshold p q && nat_le d.next_part 4294000000)) off.Plan _
    (and_from (is_none (shown_plan d d.plan)) (is_threshold p q && nat_le d.next_part 4294000000)
    (ap (λ plan. is_none (shown_plan d plan)) fits.idle)
    (and_from (is_threshold p q) (nat_le d.next_part 4294000000)
    (and_from (nat_le 1 p) (nat_le p q && nat_le q 1000000) (le-leb 1 p fits.some)
    (and_from (nat_le p q) (nat_le q 1000000) (le-leb p q fits.at_most) (le-leb q 1000000 fits.few)))
    (le-leb d.next_part 4294000000 fits.numbers)))
    (off_last (length (said_at p q d) == length (events.parts_at p q (shown_set d)) && are_targets (shown_set d) (events.targets_of (events.parts_at p q (shown_set d)) (said_at p q d)))
    off.Count (said_fit p q d is placed))

abbrev number_in : {L S : Type 0} → Event L S → ℕ
number_in (events.Plan cvd p q targets) = cvd
number_in _ = 0

abbrev p_in : {L S : Type 0} → Event L S → ℕ
p_in (events.Plan cvd p q targets) = p
p_in _ = 0

abbrev q_in : {L S : Type 0} → Event L S → ℕ
q_in (events.Plan cvd p q targets) = q
q_in _ = 0

abbrev targets_in : {L S : Type 0} → Event L S → List PlanTarget
targets_in (events.Plan cvd p q targets) = targets
targets_in _ = []

plan_spelled : (r : Readings) (w : World) (e : raw.Event) (cvd p q : ℕ) (d : Dataset) → first_set (numbered cvd) w.sets ≡ Some d → PlanFits p q d → HasPieces d → IsPlaced d
    → seen_event r e ≡ asked_as (plan_event cvd p q d) → first_off w.format e (shown w) ≡ None
plan_spelled r w (says.Init name schema count list segment) cvd p q d there fits is placed spells = cc
plan_spelled r w (says.Commit number vid message parents rows fresh place added list segment) cvd p q d there fits is placed spells = cc
plan_spelled r w (says.Plan number p_said q_said targets) cvd p q d there fits is placed spells =
    (λ i. of_live (plan_off (ap p_in spells i) (ap q_in spells i) (ap targets_in spells i)) (set_numbered (ap number_in spells i) (shown w)))
    ∙ live_shown (plan_off p q (said_at p q d)) cvd w.sets d there (plan_fits p q d fits is placed)
plan_spelled r w (says.Copy number count segment) cvd p q d there fits is placed spells = cc
plan_spelled r w (says.Flip number) cvd p q d there fits is placed spells = cc
plan_spelled r w (says.Drop number) cvd p q d there fits is placed spells = cc
plan_spelled r w (says.Base next) cvd p q d there fits is placed spells = cc
plan_spelled r w (says.Whole whole) cvd p q d there fits is placed spells = cc
plan_spelled r w (says.Wide number vid message columns parents rows fresh place added list segment) cvd p q d there fits is placed spells = cc

plan_found : (r : Readings) (w : World) (e : raw.Event) (cvd p q : ℕ) (set : Option Dataset) → first_set (numbered cvd) w.sets ≡ set → IfThere (PlanFits p q) set → IsGood w
    → Some (seen_event r e) ≡ option_map asked_as (in_set (λ d. Some (plan_event cvd p q d)) set) → first_off w.format e (shown w) ≡ None
plan_found r w e cvd p q None there fits is spells = absurd fits
plan_found r w e cvd p q (Some d) there fits is spells =
    plan_spelled r w e cvd p q d there fits (found_pieces cvd d w.sets is.sound.pieces there) (found_placed cvd d w.sets is.sound.placed there)
    (some_same (seen_event r e) (asked_as (plan_event cvd p q d)) spells)

pub plan_applies : (events : List raw.Event) (r : Readings) (w : World) (e : raw.Event) (cvd p q : ℕ) → StandsFor w.format events r w → Fits (BeginPlan cvd p q) w
    → Some (seen_event r e) ≡ asked_event (BeginPlan cvd p q) w → first_off w.format e (numbers_in events) ≡ None
plan_applies events r w e cvd p q stands fits spells =
    applies_there events r w e stands (plan_found r w e cvd p q (first_set (numbered cvd) w.sets) refl fits (good w stands.reached) spells)
