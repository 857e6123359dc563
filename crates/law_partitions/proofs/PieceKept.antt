-- Pieces stay disjoint and together the records, move by move.
use Rattle.std.proofs.Common.{◌≡◌, ◌≤◌, ◌<◌, ℕ, suc, ◌+◌, Bool, true, false, ◌==◌, List, [], ◌∷◌, ◌++◌, length, map, filter, take, refl, sym, ◌∙◌, ap, subst, inl, inr, arith}
use Rattle.std.specs.Prelude.{codes, if◌then◌else◌, not, nat_lt, Option, Some, None}
use Rattle.std.specs.declared.cmp.Ordering.{Ordering}
use Rattle.std.specs.declared.cmp.Ordering.TheVariants.{Less, Equal}
use Rattle.std.proofs.lemmas.Bool.{cases_Bool, cond-true, eqb-true, eq-eqb, ltb-true}
use Rattle.std.proofs.lemmas.List.{length-take, append-nil}
use Rattle.ov_value.specs.Order.{key_cmp-ties_decide}
use Rattle.ov_value.specs.Rows.{key_cmp, key_of}
use Rattle.ov_value.specs.Shapes.{Shape}
use Rattle.ov_value.specs.declared.column.Column.{Column}
use Rattle.ov_model.specs.Book.{Row, Version}
use Rattle.ov_model.specs.Holding.{VersionsAreIn, PartsHold, IsHeld, AreHeld, HasAll, AllHaveAll, MayFlip}
use Rattle.ov_model.specs.Lists.{IsBelow, Rises, joined}
use Rattle.ov_model.specs.Moves.{Move, Init, Commit, BeginPlan, Copy, Flip, Drop, Checkpoint, moved, change, numbered, committed, version_of, wide, new_set}
use Rattle.ov_model.specs.Placed.{ArePlaced, IsPlaced, times}
use Rattle.ov_model.specs.Plans.{planned, copied_for, copied_more, current, kept_pieces, missing, records_in, leaving, left_parts, target_part, flipped_by, flipped}
use Rattle.ov_model.specs.Records.{Rec, is_same_row, recs, records_of, order_of}
use Rattle.ov_model.specs.World.{Part, Target, Plan, Dataset, World, empty_world, held, targets_from}
use Rattle.ov_model.proofs.Counting.{one_if, one_other, ids-append, left_ids}
use Rattle.ov_model.proofs.Holds.{moved_held}
use Rattle.ov_model.proofs.Widening.{same_rows}
use Rattle.law_partitions.specs.Pieces.{rec_times, NoTwice, AllFull, AreOf, IsPieces, PartsArePieces, IsKept, AllKept, target_times, IsUnderWay, PlanIsUnderWay, row_times, HasPieces, ArePieces, AllRiseWith, RowsRise, LacksSome, AllLackSome, MayCopy}
use Rattle.law_partitions.proofs.CountRuns.{from_at}
use Rattle.law_partitions.proofs.PieceFlip.{kept_stay, serves_still, pieces_there}
use Rattle.law_partitions.proofs.PieceLists.{all_in, in_filtered, in_taken, append_assoc, joined-append, full-append, are_of, of-append}
use Rattle.law_partitions.proofs.PieceMore.{pieces-append, own_pieces, version_pieces, current_kept}
use Rattle.law_partitions.proofs.PiecePlan.{records_of_some, same_kept, nothing_copied, planned_pieces}
use Rattle.law_partitions.proofs.PieceTimes.{times-append, times-filter, once-lacking, take_times, records_once, all_once}
use Rattle.law_partitions.proofs.PieceWide.{wide_pieces}

-- ---- rows that rise

-- a row below others is none of them
below_none : (schema : Shape) (row : Row) (rows : List Row) → IsBelow (key_cmp schema) row rows → row_times rows row ≡ 0
below_none schema row [] below = refl
below_none schema row (x ∷ rows) below = omega (arith, other (is_same_row row x) refl, below_none schema row rows below.1)
  where
    clash : {o : Ordering} → o ≡ Less → o ≡ Equal → ⊥
    clash e f = cc

    other : (t : Bool) → is_same_row row x ≡ t → one_if (is_same_row row x) ≡ 0
    other false e = ap one_if e
    other true e = absurd (clash below.0 ((key_cmp-ties_decide schema row x).1 (ap (key_of schema) (same_rows row x e))))

rise_once : (schema : Shape) (rows : List Row) → Rises (key_cmp schema) rows → (row : Row) → row_times rows row ≤ 1
rise_once schema [] rises row = omega arith
rise_once schema (x ∷ rows) rises row =
    elim (cases_Bool (is_same_row row x)) [
      | inl same ↦ omega (arith, ap one_if same, ap (row_times rows) (same_rows row x same), below_none schema x rows rises.0)
      | inr other ↦ omega (arith, ap one_if other, rise_once schema rows rises.1 row)
    ]

new_pieces : (number : ℕ) (name : List ℕ) (schema : Shape) (rows : List Row) → Rises (key_cmp schema) rows → HasPieces (new_set number name schema rows)
new_pieces number name schema rows rises =
    let v : Version = version_of [] (codes "init") rows
    in let ours : List Rec = records_of v []
    in record {
      parts = (own_pieces [] ours ours (records_once v [] (rise_once schema rows rises)) (all_in ours) (λ r is. is) 1, tt);
      plan = tt;
      rows = (rise_once schema rows rises, tt);
      no_zero = refl;
      next = omega arith;
    }

-- ---- a copy

module _ (d : Dataset) (plan : Plan) (is : HasPieces d) (way : IsUnderWay d plan) (some : 0 < length (missing d plan)) where
  abbrev more : List Rec
  more = take 256 (missing d plan)

  abbrev kept : List Rec
  kept = joined (kept_pieces d (current plan))

  abbrev before : List Rec
  before = kept ++ joined plan.copied

  wanted_once : NoTwice (records_in d.cvd (current plan).versions)
  wanted_once r = omega (arith, within r, all_once d.cvd.versions is.rows r)
    where
      within : (q : Rec) → rec_times (records_in d.cvd (current plan).versions) q ≤ rec_times (order_of d.cvd.versions) q
      within q = times-filter _ (order_of d.cvd.versions) q

  joined-last : joined (plan.copied ++ more ∷ []) ≡ joined plan.copied ++ more
  joined-last = joined-append plan.copied (more ∷ []) ∙ ap (λ l. joined plan.copied ++ l) (append-nil more)

  copied_once : NoTwice (kept ++ joined (plan.copied ++ more ∷ []))
  copied_once r =
      omega (
        arith,
        ap (λ l. rec_times (kept ++ l) r) joined-last,
        ap (λ l. rec_times l r) (append_assoc kept (joined plan.copied) more),
        times-append before more r,
        take_times 256 (missing d plan) r,
        times-append before (missing d plan) r,
        once-lacking (records_in d.cvd (current plan).versions) before wanted_once way.once r,
      )

  more_full : 0 < length more
  more_full = omega (arith, length-take 256 (missing d plan), some)

  more_of : AreOf (recs d.cvd.versions []) (current plan).versions more
  more_of =
      are_of (recs d.cvd.versions []) (current plan).versions more
      (λ r there. records_of_some d (current plan).versions r
      (in_filtered _ (records_in d.cvd (current plan).versions) r (in_taken 256 (missing d plan) r there)).0)

  pub copied_pieces : HasPieces (record d { plan = copied_for d (Some plan) })
  copied_pieces = record {
    parts = is.parts;
    plan = record {
      apart = way.apart;
      kept = same_kept d (record d { plan = copied_for d (Some plan) }) refl refl (targets_from plan.at plan.targets) way.kept;
      once = copied_once;
      full = full-append plan.copied (more ∷ []) way.full (more_full, tt);
      only = subst (AreOf (recs d.cvd.versions []) (current plan).versions) (sym joined-last)
          (of-append (recs d.cvd.versions []) (current plan).versions (joined plan.copied) more way.only more_of);
    };
    rows = is.rows;
    no_zero = is.no_zero;
    next = is.next;
  }

copied_if : (d : Dataset) (plan : Option Plan) → d.plan ≡ plan → HasPieces d → LacksSome d plan → HasPieces (record d { plan = copied_for d plan })
copied_if d None e is some = record { parts = is.parts; plan = tt; rows = is.rows; no_zero = is.no_zero; next = is.next }
copied_if d (Some plan) e is some = copied_pieces d plan is (subst (PlanIsUnderWay d) e is.plan) some

-- ---- a flip

leaving_pieces : (versions : List ℕ) (done : List (List Rec)) (parts : List Part) → PartsArePieces done parts → PartsArePieces done (map (leaving versions) parts)
leaving_pieces versions done [] are = tt
leaving_pieces versions done (part ∷ parts) are =
    (record { once = are.0.once; full = are.0.full; all = are.0.all; only = are.0.only }, leaving_pieces versions done parts are.1)

some_if : (t : Bool) (done : List (List Rec)) (part : Part) (parts : List Part) → IsPieces done part → PartsArePieces done parts → PartsArePieces done (if t then part ∷ parts else parts)
some_if true done part parts is are = (is, are)
some_if false done part parts is are = are

some_pieces : (p : Part → Bool) (done : List (List Rec)) (parts : List Part) → PartsArePieces done parts → PartsArePieces done (filter p parts)
some_pieces p done [] are = tt
some_pieces p done (part ∷ parts) are = some_if (p part) done part (filter p parts) are.0 (some_pieces p done parts are.1)

last_held : (done : List (List Rec)) (parts : List Part) (last : Part) → PartsHold done (parts ++ last ∷ []) → VersionsAreIn done last.versions (held last)
last_held done [] last are = are.0
last_held done (part ∷ parts) last are = last_held done parts last are.1

-- of one dataset alone
flip_held : (d : Dataset) → IsPlaced d → HasAll d d.plan → IsHeld d → IsHeld (flipped d)
flip_held d placed all held_before =
    let n : ℕ = d.cvd.number
    in let after : AreHeld (change n flipped (d ∷ [])) =
    moved_held (Flip n) (record empty_world { sets = d ∷ [] }) ((λ e. all), tt) (placed, tt) (held_before, tt)
    in subst IsHeld (cond-true (numbered n d) (flipped d) d (eq-eqb n n refl)) after.0

module _ (d : Dataset) (plan : Plan) (is_plan : d.plan ≡ Some plan) (is : HasPieces d) (way : IsUnderWay d plan) (placed : IsPlaced d) (all : HasAll d (Some plan)) (held_before : IsHeld d) where
  abbrev done : List (List Rec)
  done = recs d.cvd.versions []

  abbrev ours : List ℕ
  ours = (current plan).versions

  abbrev after : Dataset
  after = flipped_by d (Some plan)

  own_kept : IsKept d (current plan)
  own_kept = current_kept d plan way.kept

  all_ours : VersionsAreIn done ours (held (target_part d plan))
  all_ours =
      last_held done (left_parts ours d.parts) (target_part d plan)
      (subst (λ p. IsHeld (flipped_by d p)) is_plan (flip_held d placed (subst (HasAll d) (sym is_plan) all) held_before))

  new_part : IsPieces done (target_part d plan)
  new_part =
      let both : joined (kept_pieces d (current plan)) ++ joined plan.copied ≡ held (target_part d plan) = sym (joined-append (kept_pieces d (current plan)) plan.copied)
      in record {
        once = subst NoTwice both way.once;
        full = full-append (kept_pieces d (current plan)) plan.copied own_kept.full way.full;
        all = all_ours;
        only = subst (AreOf done ours) both (of-append done ours (joined (kept_pieces d (current plan))) (joined plan.copied) own_kept.only way.only);
      }

  later_kept : (ts : List Target) → AllKept d ts → ((vid : ℕ) → times ours vid + target_times ts vid ≤ 1) → AllKept after ts
  later_kept [] are apart = tt
  later_kept (t ∷ ts) are apart = (one, later_kept ts are.1 (λ vid. omega (arith, apart vid)))
    where
      alone : (vid : ℕ) → times ours vid + times t.versions vid ≤ 1
      alone vid = omega (arith, apart vid)

      pieces : kept_pieces d t ≡ kept_pieces after t
      pieces = sym (kept_stay ours d.parts (target_part d plan ∷ []) t alone are.0.serves)

      one : IsKept after t
      one = record {
        there = pieces_there ours d.parts (target_part d plan ∷ []) t alone are.0.serves are.0.there;
        serves = serves_still ours d.parts (target_part d plan ∷ []) t alone are.0.serves;
        once = subst (λ ps. NoTwice (joined ps)) pieces are.0.once;
        full = subst AllFull pieces are.0.full;
        only = subst (λ ps. AreOf done t.versions (joined ps)) pieces are.0.only;
        count = are.0.count ∙ ap (λ ps. length (joined ps)) pieces;
      }

  rest_kept : plan.at < length plan.targets → (vid : ℕ) → times ours vid + target_times (targets_from (plan.at + 1) plan.targets) vid ≤ 1
  rest_kept low vid =
      let next : plan.at + 1 ≡ suc plan.at = omega arith
      in omega (arith, way.apart vid, ap (λ ts. target_times ts vid) (from_at plan.at plan.targets low), ap (λ k. target_times (targets_from k plan.targets) vid) next)

  next_way : (t : Bool) → (t ≡ true → plan.at + 1 < length plan.targets) → PlanIsUnderWay after (if t then Some (record plan { at = plan.at + 1; copied = [] }) else None)
  next_way false low = tt
  next_way true low =
      let within : plan.at < length plan.targets = omega (arith, low refl)
      in let next : suc plan.at ≡ plan.at + 1 = omega arith
      in let kept_before : AllKept d (targets_from (plan.at + 1) plan.targets) =
      subst (λ k. AllKept d (targets_from k plan.targets)) next (subst (AllKept d) (from_at plan.at plan.targets within) way.kept).1
      in let kept_after : AllKept after (targets_from (plan.at + 1) plan.targets) =
      later_kept (targets_from (plan.at + 1) plan.targets) kept_before (rest_kept within)
      in record {
        apart = λ vid. omega (arith, rest_kept within vid);
        kept = kept_after;
        once = nothing_copied after (record plan { at = plan.at + 1; copied = [] }) kept_after;
        full = tt;
        only = tt;
      }

  pub flip_pieces : HasPieces after
  flip_pieces = record {
    parts = pieces-append done (left_parts ours d.parts) (target_part d plan ∷ [])
        (some_pieces (λ part. not (length part.versions == 0)) done (map (leaving ours) d.parts) (leaving_pieces ours done d.parts is.parts))
        (new_part, tt);
    plan = next_way (nat_lt (plan.at + 1) (length plan.targets)) (λ t. ltb-true (plan.at + 1) (length plan.targets) t);
    rows = is.rows;
    no_zero = omega (
      arith,
      ids-append (left_parts ours d.parts) (target_part d plan ∷ []) 0,
      left_ids ours d.parts 0,
      is.no_zero,
      one_other d.next_part 0 (λ e. omega (arith, e, is.next)),
    );
    next = omega (arith, is.next);
  }

flipped_pieces : (d : Dataset) (plan : Option Plan) → d.plan ≡ plan → HasPieces d → IsPlaced d → HasAll d plan → IsHeld d → HasPieces (flipped_by d plan)
flipped_pieces d None e is placed all held_before = is
flipped_pieces d (Some plan) e is placed all held_before =
    flip_pieces d plan e is (subst (PlanIsUnderWay d) e is.plan) placed all held_before

-- ---- Worlds

are-append : (a b : List Dataset) → ArePieces a → ArePieces b → ArePieces (a ++ b)
are-append [] b are more = more
are-append (d ∷ a) b are more = (are.0, are-append a b are.1 more)

are_if : (t : Bool) (d : Dataset) (sets : List Dataset) → HasPieces d → ArePieces sets → ArePieces (if t then d ∷ sets else sets)
are_if true d sets is are = (is, are)
are_if false d sets is are = are

are-filter : (test : Dataset → Bool) (sets : List Dataset) → ArePieces sets → ArePieces (filter test sets)
are-filter test [] are = tt
are-filter test (d ∷ sets) are = are_if (test d) d (filter test sets) are.0 (are-filter test sets are.1)

change_if : (t : Bool) (f : Dataset → Dataset) (d : Dataset) → (t ≡ true → HasPieces (f d)) → HasPieces d → HasPieces (if t then f d else d)
change_if true f d changed is = changed refl
change_if false f d changed is = is

committed_pieces : (parents message : List ℕ) (added : List Column) (rows : List Row) (d : Dataset) → HasPieces d → Rises (key_cmp (wide added d).cvd.schema) rows
    → HasPieces (committed parents message added rows d)
committed_pieces parents message added rows d is rises =
    version_pieces (version_of parents message rows) (wide added d) (rise_once (wide added d).cvd.schema rows rises) (wide_pieces added d is)

are_committed : (cvd : ℕ) (parents message : List ℕ) (added : List Column) (rows : List Row) (sets : List Dataset) → AllRiseWith cvd added rows sets → ArePieces sets
    → ArePieces (change cvd (committed parents message added rows) sets)
are_committed cvd parents message added rows [] rise are = tt
are_committed cvd parents message added rows (d ∷ sets) rise are = (
  change_if (numbered cvd d) (committed parents message added rows) d
      (λ t. committed_pieces parents message added rows d are.0 (rise.0 (eqb-true d.cvd.number cvd t))) are.0,
  are_committed cvd parents message added rows sets rise.1 are.1,
)

are_planned : (cvd p q : ℕ) (sets : List Dataset) → ArePlaced sets → ArePieces sets → ArePieces (change cvd (planned p q) sets)
are_planned cvd p q [] placed are = tt
are_planned cvd p q (d ∷ sets) placed are =
    (change_if (numbered cvd d) (planned p q) d (λ t. planned_pieces p q d are.0 placed.0) are.0, are_planned cvd p q sets placed.1 are.1)

are_copied : (cvd : ℕ) (sets : List Dataset) → AllLackSome cvd sets → ArePieces sets → ArePieces (change cvd copied_more sets)
are_copied cvd [] some are = tt
are_copied cvd (d ∷ sets) some are = (
  change_if (numbered cvd d) copied_more d (λ t. copied_if d d.plan refl are.0 (some.0 (eqb-true d.cvd.number cvd t))) are.0,
  are_copied cvd sets some.1 are.1,
)

are_flipped : (cvd : ℕ) (sets : List Dataset) → ArePlaced sets → AllHaveAll cvd sets → AreHeld sets → ArePieces sets → ArePieces (change cvd flipped sets)
are_flipped cvd [] placed all held_before are = tt
are_flipped cvd (d ∷ sets) placed all held_before are = (
  change_if (numbered cvd d) flipped d
      (λ t. flipped_pieces d d.plan refl are.0 placed.0 (all.0 (eqb-true d.cvd.number cvd t)) held_before.0) are.0,
  are_flipped cvd sets placed.1 all.1 held_before.1 are.1,
)

pub moved_pieces : (m : Move) (w : World) → RowsRise m w → MayCopy m w → MayFlip m w → ArePlaced w.sets → AreHeld w.sets → ArePieces w.sets → ArePieces (moved m w).sets
moved_pieces (Init name schema rows) w rise copy flip placed held_before are =
    are-append w.sets (new_set w.next name schema rows ∷ []) are (new_pieces w.next name schema rows rise, tt)
moved_pieces (Commit cvd parents message added rows) w rise copy flip placed held_before are = are_committed cvd parents message added rows w.sets rise are
moved_pieces (BeginPlan cvd p q) w rise copy flip placed held_before are = are_planned cvd p q w.sets placed are
moved_pieces (Copy cvd) w rise copy flip placed held_before are = are_copied cvd w.sets copy are
moved_pieces (Flip cvd) w rise copy flip placed held_before are = are_flipped cvd w.sets placed flip held_before are
moved_pieces (Drop cvd) w rise copy flip placed held_before are = are-filter (λ d. not (numbered cvd d)) w.sets are
moved_pieces Checkpoint w rise copy flip placed held_before are = are
