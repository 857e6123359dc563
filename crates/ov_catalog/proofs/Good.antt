-- What holds of each World that moves reach: its datasets' numbers differ and are given out in order, the pieces of partitions
-- and of plans have known records alone, rows are rows of their schema, and all that the laws of partitions say holds, of the
-- sources of a plan's targets too. And what is asked of a move so that it stays so, which each move that fits has.
use Rattle.std.proofs.Common.{◌≡◌, ◌<◌, ◌≤◌, ◌^◌, ◌-◌, ℕ, Bool, true, false, ◌==◌, List, [], ◌∷◌, ◌++◌, length, refl, sym, ap, subst, inl, inr, arith}
use Rattle.std.specs.Prelude.{◌≢◌, nat_lt, if◌then◌else◌, Option, Some, None, unwrap_or, IsTrue, Result, Ok, Err, is_ok}
use Rattle.std.proofs.lemmas.Bool.{cases_Bool, eqb-true, eq-eqb, ltb-true, ltb-false}
use Rattle.ov_value.specs.Making.{widened}
use Rattle.ov_value.specs.Rows.{key_cmp}
use Rattle.ov_value.specs.Shapes.{Shape}
use Rattle.ov_value.specs.declared.column.Column.{Column}
use Rattle.ov_value.specs.declared.schema_err.SchemaErr.{SchemaErr}
use Rattle.ov_model.specs.Book.{Row}
use Rattle.ov_model.specs.Holding.{IsHeld, AreHeld, HasAll, AllHaveAll}
use Rattle.ov_model.specs.Lists.{AllAreIn, Rises}
use Rattle.ov_model.specs.Moves.{Move, Init, Commit, BeginPlan, Copy, Flip, Drop, Checkpoint, moved, numbered, version_of, accepted_or, wide, wide_schema}
use Rattle.ov_model.specs.Ordered.{PartsAreInOrder, CopiesAreInOrder, HasOrder, HaveOrder}
use Rattle.ov_model.specs.Placed.{AreThere, IsPlaced, ArePlaced, HasParents, AllHaveParents}
use Rattle.ov_model.specs.Plans.{missing}
use Rattle.ov_model.specs.Records.{Rec, order_of}
use Rattle.ov_model.specs.World.{Part, Plan, Dataset, World, first_set, empty_world_of}
use Rattle.ov_model.proofs.Counting.{one_same}
use Rattle.law_partitions.specs.Countdown.{number_times}
use Rattle.law_partitions.specs.Courses.{AllIdle, MayBegin, IsDue, HasPartitions}
use Rattle.law_partitions.specs.OldOrNew.{IsOldOrNew, AreOldOrNew}
use Rattle.law_partitions.specs.Pieces.{HasPieces, ArePieces, AllRiseWith, LacksSome, AllLackSome}
use Rattle.law_partitions.specs.Sound.{IsSound, MayMove}
use Rattle.law_partitions.specs.Sources.{PlanIsSourced, AreSourced}
use Rattle.law_partitions.proofs.CourseMoves.{wide_long}
use Rattle.law_partitions.proofs.OldMoves.{moved_old}
use Rattle.law_partitions.proofs.SoundMoves.{empty_sound, moved_sound}
use Rattle.law_partitions.proofs.SourceMoves.{moved_sourced}
use Rattle.ov_catalog.specs.Reached.{ByMove, Fits, IsFormat, IfThere, IfRunning, CommitFits, MayPass, OldCheckpoint, Past, PlanFits, TakesColumns, MissesSome, MissesNone, Leads, Reached, old_checkpoint, passed}
use Rattle.ov_catalog.specs.Told.{IsRowed, AreRowed, IsTold, BringsTo, AllBringTo, BringsRows}
use Rattle.ov_catalog.proofs.Ranking.{order_known}
use Rattle.ov_catalog.proofs.Showing.{PiecesAreIn}
use Rattle.ov_catalog.proofs.ToldMoves.{moved_rowed}

-- none of these datasets has the number
abbrev pub NoneNumbered : ℕ → List Dataset → Type 0
NoneNumbered number [] = Unit {0}
NoneNumbered number (d ∷ sets) = (d.cvd.number ≢ number) × NoneNumbered number sets

abbrev pub Distinct : List Dataset → Type 0
Distinct [] = Unit {0}
Distinct (d ∷ sets) = NoneNumbered d.cvd.number sets × Distinct sets

abbrev pub AreBelow : ℕ → List Dataset → Type 0
AreBelow next [] = Unit {0}
AreBelow next (d ∷ sets) = (d.cvd.number < next) × AreBelow next sets

-- the pieces that were copied for a plan
abbrev pub copied_pieces : Option Plan → List (List Rec)
copied_pieces None = []
copied_pieces (Some plan) = plan.copied

-- of each dataset by itself
pub record IsKnown (d : Dataset) : Type 0 where
  pub pieces : PiecesAreIn (order_of d.cvd.versions) d.parts
  pub copied : AllAreIn (copied_pieces d.plan) (order_of d.cvd.versions)

abbrev pub AreKnown : List Dataset → Type 0
AreKnown [] = Unit {0}
AreKnown (d ∷ sets) = IsKnown d × AreKnown sets

pub record IsGood (w : World) : Type 0 where
  pub distinct : Distinct w.sets
  pub below : AreBelow w.next w.sets
  pub known : AreKnown w.sets
  pub rowed : AreRowed w.sets
  pub sound : IsSound w
  pub old : AreOldOrNew w.sets
  pub sourced : AreSourced w.sets

pub told : (w : World) → IsGood w → IsTold w
told w is = record { placed = is.sound.placed; held = is.sound.held; ordered = is.sound.ordered; rowed = is.rowed }

pub partitions : (w : World) → IsSound w → HasPartitions w
partitions w is = record {
  begun = record { numbered = is.numbered; begun = is.begun };
  placed = is.placed;
  held = is.held;
}

-- ---- the dataset of a number

some_same : {A : Type 0} (a b : A) → Some a ≡ Some b → a ≡ b
some_same a b e = ap (λ o. unwrap_or o a) e

not_both : (b : Bool) → b ≡ true → b ≡ false → ⊥
not_both true e f = cc
not_both false e f = cc

-- what is found is the only one of its number
abbrev pub IsOnly : ℕ → Dataset → List Dataset → Type 0
IsOnly number found [] = Unit {0}
IsOnly number found (d ∷ sets) = (d.cvd.number ≡ number → d ≡ found) × IsOnly number found sets

none_only : (number : ℕ) (found : Dataset) (sets : List Dataset) → NoneNumbered number sets → IsOnly number found sets
none_only number found [] none = tt
none_only number found (d ∷ sets) none = ((λ same. absurd (none.0 same)), none_only number found sets none.1)

pub found_only : (number : ℕ) (found : Dataset) (sets : List Dataset) → Distinct sets → first_set (numbered number) sets ≡ Some found → IsOnly number found sets
found_only number found [] distinct e = cc
found_only number found (d ∷ sets) distinct e =
    by (d.cvd.number == number) (λ t. eqb-true d.cvd.number number t) (λ same. eq-eqb d.cvd.number number same) e (λ later. found_only number found sets distinct.1 later)
  where
    by : (b : Bool) → (b ≡ true → d.cvd.number ≡ number) → (d.cvd.number ≡ number → b ≡ true) → (if b then Some d else first_set (numbered number) sets) ≡ Some found
        → (first_set (numbered number) sets ≡ Some found → IsOnly number found sets) → (d.cvd.number ≡ number → d ≡ found) × IsOnly number found sets
    by true is back here later = ((λ same. some_same d found here), none_only number found sets (subst (λ n. NoneNumbered n sets) (is refl) distinct.0))
    by false is back here later = ((λ same. absurd (not_both false (back same) refl)), later here)

-- what holds of each dataset, as `All` says, holds of the one that is found
pub found_of : (P : Dataset → Type 0) (All : List Dataset → Type 0) → ((d : Dataset) (sets : List Dataset) → All (d ∷ sets) → P d × All sets)
    → (number : ℕ) (found : Dataset) (sets : List Dataset) → All sets → first_set (numbered number) sets ≡ Some found → P found
found_of P All each number found [] all e = cc
found_of P All each number found (d ∷ sets) all e = by (d.cvd.number == number) e (λ later. found_of P All each number found sets (each d sets all).1 later)
  where
    by : (b : Bool) → (if b then Some d else first_set (numbered number) sets) ≡ Some found → (first_set (numbered number) sets ≡ Some found → P found) → P found
    by true here later = subst P (some_same d found here) (each d sets all).0
    by false here later = later here

pub found_known : (number : ℕ) (found : Dataset) (sets : List Dataset) → AreKnown sets → first_set (numbered number) sets ≡ Some found → IsKnown found
found_known number found sets are e = found_of IsKnown AreKnown (λ d rest all. all) number found sets are e

pub found_placed : (number : ℕ) (found : Dataset) (sets : List Dataset) → ArePlaced sets → first_set (numbered number) sets ≡ Some found → IsPlaced found
found_placed number found sets are e = found_of IsPlaced ArePlaced (λ d rest all. all) number found sets are e

pub found_held : (number : ℕ) (found : Dataset) (sets : List Dataset) → AreHeld sets → first_set (numbered number) sets ≡ Some found → IsHeld found
found_held number found sets are e = found_of IsHeld AreHeld (λ d rest all. all) number found sets are e

pub found_rowed : (number : ℕ) (found : Dataset) (sets : List Dataset) → AreRowed sets → first_set (numbered number) sets ≡ Some found → IsRowed found
found_rowed number found sets are e = found_of IsRowed AreRowed (λ d rest all. all) number found sets are e

pub found_ordered : (number : ℕ) (found : Dataset) (sets : List Dataset) → HaveOrder sets → first_set (numbered number) sets ≡ Some found → HasOrder found
found_ordered number found sets are e = found_of HasOrder HaveOrder (λ d rest all. all) number found sets are e

pub found_pieces : (number : ℕ) (found : Dataset) (sets : List Dataset) → ArePieces sets → first_set (numbered number) sets ≡ Some found → HasPieces found
found_pieces number found sets are e = found_of HasPieces ArePieces (λ d rest all. all) number found sets are e

pub found_old : (number : ℕ) (found : Dataset) (sets : List Dataset) → AreOldOrNew sets → first_set (numbered number) sets ≡ Some found → IsOldOrNew found
found_old number found sets are e = found_of IsOldOrNew AreOldOrNew (λ d rest all. all) number found sets are e

pub found_sourced : (number : ℕ) (found : Dataset) (sets : List Dataset) → AreSourced sets → first_set (numbered number) sets ≡ Some found → PlanIsSourced found found.plan
found_sourced number found sets are e = found_of (λ d. PlanIsSourced d d.plan) AreSourced (λ d rest all. all) number found sets are e

-- ---- what soundness says of numbers and pieces

none_numbered : (number : ℕ) (sets : List Dataset) → number_times sets number ≡ 0 → NoneNumbered number sets
none_numbered number [] none = tt
none_numbered number (d ∷ sets) none =
    ((λ same. omega (arith, none, one_same d.cvd.number number same)), none_numbered number sets (omega (arith, none)))

distinct_of : (sets : List Dataset) → ((number : ℕ) → number_times sets number ≤ 1) → Distinct sets
distinct_of [] once = tt
distinct_of (d ∷ sets) once = (
  none_numbered d.cvd.number sets (omega (arith, once d.cvd.number, one_same d.cvd.number d.cvd.number refl)),
  distinct_of sets (λ number. omega (arith, once number)),
)

below_of : (next : ℕ) (sets : List Dataset) → ((number : ℕ) → next ≤ number → number_times sets number ≡ 0) → AreBelow next sets
below_of next [] past = tt
below_of next (d ∷ sets) past = (
  elim (cases_Bool (nat_lt d.cvd.number next)) [
    | inl low ↦ ltb-true d.cvd.number next low
    | inr high ↦ absurd (omega (arith, past d.cvd.number (ltb-false d.cvd.number next high), one_same d.cvd.number d.cvd.number refl))
  ],
  below_of next sets (λ number high. omega (arith, past number high)),
)

parts_known : (all : List Rec) (parts : List Part) → PartsAreInOrder all parts → PiecesAreIn all parts
parts_known all [] are = tt
parts_known all (part ∷ parts) are = (order_known all part.pieces are.0, parts_known all parts are.1)

copied_known : (all : List Rec) (plan : Option Plan) → CopiesAreInOrder all plan → AllAreIn (copied_pieces plan) all
copied_known all None are = tt
copied_known all (Some plan) are = order_known all plan.copied are

pub set_known : (d : Dataset) → HasOrder d → IsKnown d
set_known d has = record {
  pieces = parts_known (order_of d.cvd.versions) d.parts has.parts;
  copied = copied_known (order_of d.cvd.versions) d.plan has.plan;
}

known_of : (sets : List Dataset) → HaveOrder sets → AreKnown sets
known_of [] have = tt
known_of (d ∷ sets) have = (set_known d have.0, known_of sets have.1)

good_of : (w : World) → AreRowed w.sets → IsSound w → AreOldOrNew w.sets → AreSourced w.sets → IsGood w
good_of w rowed sound old sourced = record {
  distinct = distinct_of w.sets sound.numbered.once;
  below = below_of w.next w.sets sound.numbered.below;
  known = known_of w.sets sound.ordered;
  rowed = rowed;
  sound = sound;
  old = old;
  sourced = sourced;
}

-- ---- what a move that fits has

-- What a move asks of each dataset of a number, as `All` says, is had where the one that is found has what follows it.
all_of : (P : Dataset → Type 0) (All : List Dataset → Type 0) (cvd : ℕ) → All []
    → ((d : Dataset) (sets : List Dataset) → (d.cvd.number ≡ cvd → P d) → All sets → All (d ∷ sets))
    → (found : Dataset) (sets : List Dataset) → IsOnly cvd found sets → P found → All sets
all_of P All cvd none more found [] only has = none
all_of P All cvd none more found (d ∷ sets) only has =
    more d sets (λ same. subst P (sym (only.0 same)) has) (all_of P All cvd none more found sets only.1 has)

all_if : (Q P : Dataset → Type 0) (All : List Dataset → Type 0) (cvd : ℕ) → All []
    → ((d : Dataset) (sets : List Dataset) → (d.cvd.number ≡ cvd → P d) → All sets → All (d ∷ sets))
    → ((d : Dataset) → Q d → P d) → (sets : List Dataset) (found : Option Dataset) → first_set (numbered cvd) sets ≡ found
    → Distinct sets → IfThere Q found → All sets
all_if Q P All cvd none more follows sets None e distinct fits = absurd fits
all_if Q P All cvd none more follows sets (Some d) e distinct fits =
    all_of P All cvd none more d sets (found_only cvd d sets distinct e) (follows d fits)

-- what is accepted is the schema with the columns
pub accepted_is : (schema : Shape) (answer : Result Shape SchemaErr) → IsTrue (is_ok answer) → answer ≡ Ok (accepted_or schema answer)
accepted_is schema (Ok made) ok = refl
accepted_is schema (Err why) ok = cc

module _ (w : World) (distinct : Distinct w.sets) (cvd : ℕ) where
  abbrev there : Option Dataset
  there = first_set (numbered cvd) w.sets

  module _ (parents message : List ℕ) (rows : List Row) (fits : IfThere (λ d. CommitFits w d (version_of parents message rows)) there) where
    commit_may : MayMove (Commit cvd parents message [] rows) w
    commit_may = record {
      parents = all_if (λ d. CommitFits w d (version_of parents message rows)) (HasParents parents) (AllHaveParents cvd parents) cvd tt
          (λ d sets has rest. (has, rest)) (λ d is. (is.parents.some, is.parents.there)) w.sets there refl distinct fits;
      rows = all_if (λ d. CommitFits w d (version_of parents message rows)) (λ d. Rises (key_cmp d.cvd.schema) rows) (AllRiseWith cvd [] rows) cvd tt
          (λ d sets has rest. (has, rest)) (λ d is. is.rows.rise) w.sets there refl distinct fits;
      copy = tt;
      flip = tt;
    }

    commit_brings : AllBringTo cvd [] rows w.sets
    commit_brings =
        all_if (λ d. CommitFits w d (version_of parents message rows)) (λ d. BringsTo d [] rows) (AllBringTo cvd [] rows) cvd tt
        (λ d sets has rest. (has, rest)) (λ d is. record { accepted = tt; fit = (is.rows.rise, is.rows.fit) }) w.sets there refl distinct fits

  -- the same with added columns
  module _ (parents message : List ℕ) (column : Column) (more : List Column) (rows : List Row) where
    abbrev all_columns : List Column
    all_columns = column ∷ more

    abbrev WideFits : Dataset → Type 0
    WideFits d = TakesColumns w d all_columns × CommitFits w (wide all_columns d) (version_of parents message rows)

    wide_parents : (d : Dataset) → WideFits d → HasParents parents d
    wide_parents d is = (is.1.parents.some, subst (λ count. AreThere count parents) (wide_long all_columns d) is.1.parents.there)

    wide_may : IfThere WideFits there → MayMove (Commit cvd parents message all_columns rows) w
    wide_may fits = record {
      parents = all_if WideFits (HasParents parents) (AllHaveParents cvd parents) cvd tt (λ d sets has rest. (has, rest)) wide_parents w.sets there refl distinct fits;
      rows = all_if WideFits (λ d. Rises (key_cmp (wide all_columns d).cvd.schema) rows) (AllRiseWith cvd all_columns rows) cvd tt
          (λ d sets has rest. (has, rest)) (λ d is. is.1.rows.rise) w.sets there refl distinct fits;
      copy = tt;
      flip = tt;
    }

    wide_brings : IfThere WideFits there → AllBringTo cvd all_columns rows w.sets
    wide_brings fits =
        all_if WideFits (λ d. BringsTo d all_columns rows) (AllBringTo cvd all_columns rows) cvd tt (λ d sets has rest. (has, rest))
        (λ d is. record {
          accepted = accepted_is d.cvd.schema (widened d.cvd.schema all_columns) is.0.accepted;
          fit = (is.1.rows.rise, is.1.rows.fit);
        }) w.sets there refl distinct fits

  up_to_one : (p q : ℕ) (found : Option Dataset) → IfThere (PlanFits p q) found → (1 ≤ p) × (p ≤ q)
  up_to_one p q None fits = absurd fits
  up_to_one p q (Some d) fits = (fits.some, fits.at_most)

  plan_begins : (p q : ℕ) → IfThere (PlanFits p q) there → MayBegin (BeginPlan cvd p q) w
  plan_begins p q fits = (
    up_to_one p q there fits,
    all_if (PlanFits p q) (λ d. d.plan ≡ None) (AllIdle cvd) cvd tt (λ d sets has rest. (has, rest)) (λ d is. is.idle) w.sets there refl distinct fits,
  )

  lacks_some : (d : Dataset) (plan : Option Plan) → IfRunning (λ p. 0 < length (missing d p)) plan → LacksSome d plan
  lacks_some d None runs = absurd runs
  lacks_some d (Some plan) runs = runs

  copy_may : IfThere MissesSome there → AllLackSome cvd w.sets
  copy_may fits =
      all_if MissesSome (λ d. LacksSome d d.plan) (AllLackSome cvd) cvd tt (λ d sets has rest. (has, rest)) (λ d runs. lacks_some d d.plan runs)
      w.sets there refl distinct fits

  has_all : (d : Dataset) (plan : Option Plan) → IfRunning (λ p. missing d p ≡ []) plan → HasAll d plan
  has_all d None runs = absurd runs
  has_all d (Some plan) runs = runs

  flip_may : IfThere MissesNone there → AllHaveAll cvd w.sets
  flip_may fits =
      all_if MissesNone (λ d. HasAll d d.plan) (AllHaveAll cvd) cvd tt (λ d sets has rest. (has, rest)) (λ d runs. has_all d d.plan runs)
      w.sets there refl distinct fits

pub fits_may : (m : Move) (w : World) → Fits m w → IsGood w → MayMove m w
fits_may (Init name schema rows) w fits is = record { parents = tt; rows = fits.sorted.rise; copy = tt; flip = tt }
fits_may (Commit cvd parents message [] rows) w fits is = commit_may w is.distinct cvd parents message rows fits
fits_may (Commit cvd parents message (column ∷ added) rows) w fits is = wide_may w is.distinct cvd parents message column added rows fits
fits_may (BeginPlan cvd p q) w fits is = record { parents = tt; rows = tt; copy = tt; flip = tt }
fits_may (Copy cvd) w fits is = record { parents = tt; rows = tt; copy = copy_may w is.distinct cvd fits; flip = tt }
fits_may (Flip cvd) w fits is = record { parents = tt; rows = tt; copy = tt; flip = flip_may w is.distinct cvd fits }
fits_may (Drop cvd) w fits is = record { parents = tt; rows = tt; copy = tt; flip = tt }
fits_may Checkpoint w fits is = record { parents = tt; rows = tt; copy = tt; flip = tt }

fits_begins : (m : Move) (w : World) → Fits m w → IsGood w → MayBegin m w
fits_begins (BeginPlan cvd p q) w fits is = plan_begins w is.distinct cvd p q fits
fits_begins _ w fits is = tt

pub fits_due : (m : Move) (w : World) → Fits m w → IsGood w → IsDue m w
fits_due m w fits is = record { may = fits_may m w fits is; begins = fits_begins m w fits is }

fits_brings : (m : Move) (w : World) → Fits m w → IsGood w → BringsRows m w
fits_brings (Init name schema rows) w fits is = (fits.sorted.rise, fits.sorted.fit)
fits_brings (Commit cvd parents message [] rows) w fits is = commit_brings w is.distinct cvd parents message rows fits
fits_brings (Commit cvd parents message (column ∷ added) rows) w fits is = wide_brings w is.distinct cvd parents message column added rows fits
fits_brings _ w fits is = tt

-- ---- moves

pub good_moved : (m : Move) (w : World) → Fits m w → IsGood w → IsGood (moved m w)
good_moved m w fits is =
    let due : IsDue m w = fits_due m w fits is
    in good_of (moved m w) (moved_rowed m w (fits_brings m w fits is) is.rowed) (moved_sound m w due.may is.sound)
    (moved_old m w due (partitions w is.sound) is.old) (moved_sourced m w due is.sound is.old is.sourced)

-- a checkpoint that leaves the format changes no dataset and no number of one
old_sound : (w : World) → IsSound w → IsSound (old_checkpoint w)
old_sound w sound = record {
  numbered = record { once = sound.numbered.once; below = sound.numbered.below };
  begun = sound.begun;
  run = sound.run;
  placed = sound.placed;
  held = sound.held;
  pieces = sound.pieces;
  ordered = sound.ordered;
}

pub good_passed : (p : Past) (w : World) → MayPass p w → IsGood w → IsGood (passed p w)
good_passed (ByMove m) w may is = good_moved m w may is
good_passed OldCheckpoint w may is = good_of (old_checkpoint w) is.rowed (old_sound w is.sound) is.old is.sourced

good_leads : (ps : List Past) (v w : World) → Leads v ps w → IsGood v → IsGood w
good_leads [] v w leads is = subst IsGood leads is
good_leads (p ∷ ps) v w leads is = good_leads ps (passed p v) w leads.1 (good_passed p v leads.0 is)

-- the empty World of either format
begun_sound : (format : ℕ) → IsSound (empty_world_of format)
begun_sound format = record {
  numbered = record { once = empty_sound.numbered.once; below = empty_sound.numbered.below };
  begun = tt;
  run = tt;
  placed = tt;
  held = tt;
  pieces = tt;
  ordered = tt;
}

pub good : (w : World) → Reached w → IsGood w
good w reached = good_leads reached.2 (empty_world_of reached.0) w reached.3 (good_of (empty_world_of reached.0) tt (begun_sound reached.0) tt tt)

-- one move more
leads_more : (ps : List Past) (m : Move) (v w : World) → Leads v ps w → Fits m w → Leads v (ps ++ ByMove m ∷ []) (moved m w)
leads_more [] m v w leads fits = (subst (Fits m) (sym leads) fits, ap (moved m) leads)
leads_more (p ∷ ps) m v w leads fits = (leads.0, leads_more ps m (passed p v) w leads.1 fits)

pub reached_more : (m : Move) (w : World) → Reached w → Fits m w → Reached (moved m w)
reached_more m w reached fits =
    (reached.0, reached.1, reached.2 ++ ByMove m ∷ [], leads_more reached.2 m (empty_world_of reached.0) w reached.3 fits)

-- the format number of a World that moves reach is a known one
format_passed : (p : Past) (w : World) → IsFormat w.format → IsFormat (passed p w).format
format_passed (ByMove (Init name schema rows)) w is = is
format_passed (ByMove (Commit cvd parents message added rows)) w is = is
format_passed (ByMove (BeginPlan cvd p q)) w is = is
format_passed (ByMove (Copy cvd)) w is = is
format_passed (ByMove (Flip cvd)) w is = is
format_passed (ByMove (Drop cvd)) w is = is
format_passed (ByMove Checkpoint) w is = inr refl
format_passed OldCheckpoint w is = is

format_leads : (ps : List Past) (v w : World) → Leads v ps w → IsFormat v.format → IsFormat w.format
format_leads [] v w leads is = subst (λ x. IsFormat x.format) leads is
format_leads (p ∷ ps) v w leads is = format_leads ps (passed p v) w leads.1 (format_passed p v is)

pub known_format : (w : World) → Reached w → IsFormat w.format
known_format w reached = format_leads reached.2 (empty_world_of reached.0) w reached.3 reached.1

-- one checkpoint more that leaves format 1
leads_old : (ps : List Past) (v w : World) → Leads v ps w → MayPass OldCheckpoint w → Leads v (ps ++ OldCheckpoint ∷ []) (old_checkpoint w)
leads_old [] v w leads may = (subst (MayPass OldCheckpoint) (sym leads) may, ap old_checkpoint leads)
leads_old (p ∷ ps) v w leads may = (leads.0, leads_old ps (passed p v) w leads.1 may)

pub reached_old : (w : World) → Reached w → w.format ≡ 1 → w.epoch < 2 ^ 32 - 1 → Reached (old_checkpoint w)
reached_old w reached old left =
    (reached.0, reached.1, reached.2 ++ OldCheckpoint ∷ [], leads_old reached.2 (empty_world_of reached.0) w reached.3 (old, left))
