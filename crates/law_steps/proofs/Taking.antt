-- What was copied for a target are the first of the records that it lacked when its turn came, move by move.
use Rattle.std.proofs.Common.{◌≡◌, ◌<◌, ℕ, zero, suc, ◌+◌, Bool, true, false, List, [], ◌∷◌, ◌++◌, length, map, filter, take, drop, get_or, refl, sym, ◌∙◌, ap, subst, arith}
use Rattle.std.specs.Prelude.{if◌then◌else◌, not, nat_lt, Option, Some, None}
use Rattle.std.proofs.lemmas.List.{append-nil, map-append, take-append-drop}
use Rattle.ov_value.specs.declared.column.Column.{Column}
use Rattle.ov_model.specs.Book.{Version}
use Rattle.ov_model.specs.Lists.{joined}
use Rattle.ov_model.specs.Moves.{Move, Init, Commit, BeginPlan, Copy, Flip, Drop, Checkpoint, moved, change, numbered, committed, version_of, with_version, placed_at, new_set, wide, wide_plan, wide_rec}
use Rattle.ov_model.specs.Placed.{AreVersions, IsPlaced, ArePlaced, PlanIs}
use Rattle.ov_model.specs.Plans.{pieces_of, kept_pieces, records_in, missing_of, missing, current, parts_at, targets_of, planned, copied_for, copied_more, flipped_by, flipped}
use Rattle.ov_model.specs.Records.{Rec, is_among, lacking, ordered_records}
use Rattle.ov_model.specs.World.{Target, Plan, Dataset, World}
use Rattle.ov_model.proofs.Ordering.{among_wide, filter_wide}
use Rattle.ov_model.proofs.Placing.{target_at}
use Rattle.ov_model.proofs.Wanted.{records_in_more}
use Rattle.ov_model.proofs.Widening.{joined_map, wide_recs}
use Rattle.law_partitions.specs.Pieces.{AreBelow, NoTwice, IsKept, PlanIsUnderWay, HaveNoRowTwice, HasPieces, ArePieces}
use Rattle.law_partitions.proofs.MissingAfter.{missing_once}
use Rattle.law_partitions.proofs.OldMoves.{wide_placed}
use Rattle.law_partitions.proofs.PieceFlip.{picked}
use Rattle.law_partitions.proofs.PieceLists.{append_assoc, joined-append}
use Rattle.law_partitions.proofs.PieceMore.{current_kept, placed_grow}
use Rattle.law_partitions.proofs.PieceWide.{kept_are, wide_pieces}
use Rattle.ov_catalog.proofs.Widened.{wide_records_in}
use Rattle.law_steps.proofs.Lacking.{lacking_both, rest_lacks}

-- what it lacked begins with what was copied
abbrev pub IsTaken : Dataset → Plan → Type 0
IsTaken d plan = (rest : List Rec) × (missing_of d (current plan) [] ≡ joined plan.copied ++ rest)

abbrev pub PlanIsTaken : Dataset → Option Plan → Type 0
PlanIsTaken d None = Unit {0}
PlanIsTaken d (Some plan) = IsTaken d plan

abbrev pub AreTaken : List Dataset → Type 0
AreTaken [] = Unit {0}
AreTaken (d ∷ sets) = PlanIsTaken d d.plan × AreTaken sets

-- ---- and goes on with what is missing

pub goes_on : (d : Dataset) (plan : Plan) (rest : List Rec) → HaveNoRowTwice d.cvd.versions → missing_of d (current plan) [] ≡ joined plan.copied ++ rest
    → missing d plan ≡ rest
goes_on d plan rest rows is =
    let t : Target = current plan
    in let ours : List Rec = records_in d.cvd t.versions
    in let kept : List Rec = joined (kept_pieces d t)
    in let copied : List Rec = joined plan.copied
    in let lacked : lacking ours kept ≡ copied ++ rest = ap (lacking ours) (sym (append-nil kept)) ∙ is
    in lacking_both ours kept copied
    ∙ ap (λ rs. lacking rs copied) lacked
    ∙ rest_lacks copied rest (subst NoTwice is (missing_once d t [] rows))

-- ---- a plan begins

planned_taken : (p q : ℕ) (d : Dataset) → PlanIsTaken (planned p q d) (planned p q d).plan
planned_taken p q d =
    let begun : Plan = record { p = p; q = q; targets = targets_of d (parts_at d p q); at = 0; copied = [] }
    in (missing_of (planned p q d) (current begun) [], refl)

-- ---- a copy

joined-last : (a : List (List Rec)) (b : List Rec) → joined (a ++ b ∷ []) ≡ joined a ++ b
joined-last a b = joined-append a (b ∷ []) ∙ ap (λ l. joined a ++ l) (append-nil b)

copied_taken : (d : Dataset) (plan : Plan) → HaveNoRowTwice d.cvd.versions → IsTaken d plan → PlanIsTaken (record d { plan = copied_for d (Some plan) }) (copied_for d (Some plan))
copied_taken d plan rows taken =
    let rest : List Rec = missing d plan
    in let copied : List Rec = joined plan.copied
    in let goes : missing d plan ≡ taken.0 = goes_on d plan taken.0 rows taken.1
    in (
      drop 256 rest,
      taken.1 ∙ ap (λ rs. copied ++ rs) (sym goes ∙ sym (take-append-drop 256 rest))
          ∙ sym (append_assoc copied (take 256 rest) (drop 256 rest))
          ∙ ap (λ rs. rs ++ drop 256 rest) (sym (joined-last plan.copied (take 256 rest))),
    )

copied_if : (d : Dataset) (plan : Option Plan) → HaveNoRowTwice d.cvd.versions → PlanIsTaken d plan → PlanIsTaken (record d { plan = copied_for d plan }) (copied_for d plan)
copied_if d None rows taken = tt
copied_if d (Some plan) rows taken = copied_taken d plan rows taken

-- ---- a flip

next_taken : (t : Bool) (d : Dataset) (plan : Plan) → PlanIsTaken d (if t then Some (record plan { at = plan.at + 1; copied = [] }) else None)
next_taken true d plan = (missing_of d (current (record plan { at = plan.at + 1; copied = [] })) [], refl)
next_taken false d plan = tt

flipped_taken : (d : Dataset) (plan : Option Plan) → d.plan ≡ plan → PlanIsTaken d plan → PlanIsTaken (flipped_by d plan) (flipped_by d plan).plan
flipped_taken d None e taken = subst (PlanIsTaken d) (sym e) taken
flipped_taken d (Some plan) e taken = next_taken (nat_lt (plan.at + 1) (length plan.targets)) (flipped_by d (Some plan)) plan

-- ---- a version more

at_front : (pieces more : List (List Rec)) (k : ℕ) → k < length pieces → get_or (pieces ++ more) k [] ≡ get_or pieces k []
at_front [] more k low = absurd (omega (arith, low))
at_front (piece ∷ pieces) more zero low = refl
at_front (piece ∷ pieces) more (suc k) low = at_front pieces more k (omega (arith, low))

picked_more : (pieces more : List (List Rec)) (places : List ℕ) → AreBelow (length pieces) places → picked (pieces ++ more) places ≡ picked pieces places
picked_more pieces more [] low = refl
picked_more pieces more (k ∷ places) low = λ i. at_front pieces more k low.0 i ∷ picked_more pieces more places low.1 i

module _ (v : Version) (d : Dataset) where
  abbrev after : Dataset
  after = with_version v d

  same_kept : (t : Target) → IsKept d t → kept_pieces after t ≡ kept_pieces d t
  same_kept t is =
      let grown = (placed_grow (placed_at d v) d.next_part (length d.cvd.versions + 1) (ordered_records d.cvd.versions v) d.parts t.source).0
      in ap (λ pieces. picked pieces t.kept) grown.1 ∙ picked_more (pieces_of d.parts t.source) grown.0 t.kept is.there

  -- what a target lacked is what it lacked before
  same_missing : (t : Target) → IsKept d t → AreVersions (length d.cvd.versions) t.versions → missing_of after t [] ≡ missing_of d t []
  same_missing t is are = λ i.
      lacking (records_in_more d.cvd.versions v d.cvd after.cvd t.versions refl refl are i) (joined (same_kept t is i) ++ [])

  version_taken : (plan : Option Plan) → PlanIsUnderWay d plan → PlanIs (length d.cvd.versions) plan → PlanIsTaken d plan → PlanIsTaken after plan
  version_taken None way are taken = tt
  version_taken (Some plan) way are taken = (
    taken.0,
    same_missing (current plan) (current_kept d plan way.kept) (target_at (length d.cvd.versions) plan.targets plan.at are) ∙ taken.1,
  )

-- ---- columns more

lacking_wide : (n : ℕ) (rs others : List Rec) → lacking (map (wide_rec n) rs) (map (wide_rec n) others) ≡ map (wide_rec n) (lacking rs others)
lacking_wide n rs others =
    filter_wide n (λ r. not (is_among (map (wide_rec n) others) r)) (λ r. not (is_among others r)) rs (λ r. ap not (among_wide n others r))

module _ (column : Column) (more : List Column) (d : Dataset) where
  abbrev columns_more : ℕ
  columns_more = length (column ∷ more)

  abbrev wider : Dataset
  wider = wide (column ∷ more) d

  missing_wide : (t : Target) → missing_of wider t [] ≡ map (wide_rec columns_more) (missing_of d t [])
  missing_wide t =
      (λ i. lacking (wide_records_in columns_more d wider refl t.versions i)
      (joined (kept_are columns_more d wider refl (wide_recs columns_more d.cvd.versions []) t i) ++ []))
      ∙ ap (λ rs. lacking (map (wide_rec columns_more) (records_in d.cvd t.versions)) rs)
      (append-nil (joined (map (map (wide_rec columns_more)) (kept_pieces d t))) ∙ joined_map (wide_rec columns_more) (kept_pieces d t)
      ∙ ap (map (wide_rec columns_more)) (sym (append-nil (joined (kept_pieces d t)))))
      ∙ lacking_wide columns_more (records_in d.cvd t.versions) (joined (kept_pieces d t) ++ [])

  plan_wide_taken : (plan : Option Plan) → PlanIsTaken d plan → PlanIsTaken wider (wide_plan columns_more plan)
  plan_wide_taken None taken = tt
  plan_wide_taken (Some plan) taken = (
    map (wide_rec columns_more) taken.0,
    missing_wide (current plan) ∙ ap (map (wide_rec columns_more)) taken.1 ∙ map-append (wide_rec columns_more) (joined plan.copied) taken.0
        ∙ ap (λ rs. rs ++ map (wide_rec columns_more) taken.0) (sym (joined_map (wide_rec columns_more) plan.copied)),
  )

wide_taken : (added : List Column) (d : Dataset) → PlanIsTaken d d.plan → PlanIsTaken (wide added d) (wide added d).plan
wide_taken [] d taken = taken
wide_taken (column ∷ more) d taken = plan_wide_taken column more d d.plan taken

-- ---- moves

taken-append : (a b : List Dataset) → AreTaken a → AreTaken b → AreTaken (a ++ b)
taken-append [] b are more = more
taken-append (d ∷ a) b are more = (are.0, taken-append a b are.1 more)

taken_if : (t : Bool) (d : Dataset) (sets : List Dataset) → PlanIsTaken d d.plan → AreTaken sets → AreTaken (if t then d ∷ sets else sets)
taken_if true d sets is are = (is, are)
taken_if false d sets is are = are

taken-filter : (test : Dataset → Bool) (sets : List Dataset) → AreTaken sets → AreTaken (filter test sets)
taken-filter test [] are = tt
taken-filter test (d ∷ sets) are = taken_if (test d) d (filter test sets) are.0 (taken-filter test sets are.1)

change_if : (t : Bool) (f : Dataset → Dataset) (d : Dataset) → PlanIsTaken (f d) (f d).plan → PlanIsTaken d d.plan → PlanIsTaken (if t then f d else d) (if t then f d else d).plan
change_if true f d changed is = changed
change_if false f d changed is = is

taken_changed : (cvd : ℕ) (f : Dataset → Dataset) → ((d : Dataset) → IsPlaced d → HasPieces d → PlanIsTaken d d.plan → PlanIsTaken (f d) (f d).plan)
    → (sets : List Dataset) → ArePlaced sets → ArePieces sets → AreTaken sets → AreTaken (change cvd f sets)
taken_changed cvd f changed [] placed pieces are = tt
taken_changed cvd f changed (d ∷ sets) placed pieces are =
    (change_if (numbered cvd d) f d (changed d placed.0 pieces.0 are.0) are.0, taken_changed cvd f changed sets placed.1 pieces.1 are.1)

pub moved_taken : (m : Move) (w : World) → ArePlaced w.sets → ArePieces w.sets → AreTaken w.sets → AreTaken (moved m w).sets
moved_taken (Init name schema rows) w placed pieces are = taken-append w.sets (new_set w.next name schema rows ∷ []) are (tt, tt)
moved_taken (Commit cvd parents message added rows) w placed pieces are =
    taken_changed cvd (committed parents message added rows)
    (λ d is has taken. version_taken (version_of parents message rows) (wide added d) (wide added d).plan (wide_pieces added d has).plan (wide_placed added d is).targets
    (wide_taken added d taken)) w.sets placed pieces are
moved_taken (BeginPlan cvd p q) w placed pieces are = taken_changed cvd (planned p q) (λ d is has taken. planned_taken p q d) w.sets placed pieces are
moved_taken (Copy cvd) w placed pieces are = taken_changed cvd copied_more (λ d is has taken. copied_if d d.plan has.rows taken) w.sets placed pieces are
moved_taken (Flip cvd) w placed pieces are = taken_changed cvd flipped (λ d is has taken. flipped_taken d d.plan refl taken) w.sets placed pieces are
moved_taken (Drop cvd) w placed pieces are = taken-filter (λ d. not (numbered cvd d)) w.sets are
moved_taken Checkpoint w placed pieces are = are
