-- Pieces stay in the order of rids, move by move.
use Rattle.std.proofs.Common.{◌≡◌, ℕ, Bool, true, false, List, [], ◌∷◌, length, sym, ◌∙◌, ap, subst, inl, inr, arith}
use Rattle.std.specs.Prelude.{if◌then◌else◌, not, Some}
use Rattle.std.proofs.lemmas.Bool.{cases_Bool}
use Rattle.ov_model.specs.Lists.{IsIn, joined}
use Rattle.ov_model.specs.Moves.{Move, Init, Commit, BeginPlan, Copy, Flip, Drop, Checkpoint, moved, change, numbered, committed, version_of, wide, new_set}
use Rattle.ov_model.specs.Ordered.{HasOrder, HaveOrder}
use Rattle.ov_model.specs.Plans.{planned, copied_more, flipped, kept_pieces}
use Rattle.ov_model.specs.Records.{Rec, is_same_rec, order_of}
use Rattle.ov_model.specs.World.{Target, Plan, Dataset, World, targets_from}
use Rattle.ov_model.proofs.Counting.{one_if}
use Rattle.ov_model.proofs.Holds.{same_recs}
use Rattle.ov_model.proofs.Ordering.{version_ordered, wide_ordered, new_ordered, planned_ordered, copied_ordered, flipped_ordered, have_append, have_filter, have_changed}
use Rattle.ov_model.proofs.Rids.{Apart, Once}
use Rattle.law_partitions.specs.Pieces.{rec_times, NoTwice, AllKept, HasPieces, ArePieces, PlanIsUnderWay}
use Rattle.law_partitions.proofs.PieceTimes.{one_self, all_once}

-- ---- none stands twice

apart_by : (x : Rec) (rs : List Rec) → rec_times rs x ≡ 0 → Apart x rs
apart_by x [] none = tt
apart_by x (r ∷ rs) none = (other, apart_by x rs (omega (arith, none)))
  where
    other : is_same_rec r x ≡ false
    other =
        elim (cases_Bool (is_same_rec r x)) [
          | inl same ↦
              let here : one_if (is_same_rec x r) ≡ 1 = ap (λ y. one_if (is_same_rec x y)) (same_recs r x same) ∙ one_self x
              in absurd (omega (arith, none, here))
          | inr differs ↦ differs
        ]

fewer : (x : Rec) (rs : List Rec) → NoTwice (x ∷ rs) → NoTwice rs
fewer x rs once r = omega (arith, once r)

pub each_once : (rs : List Rec) → NoTwice rs → Once rs
each_once [] once = tt
each_once (x ∷ rs) once = (apart_by x rs (omega (arith, once x, one_self x)), each_once rs (fewer x rs once))

-- ---- moves

have_copied : (cvd : ℕ) (sets : List Dataset) → ArePieces sets → HaveOrder sets → HaveOrder (change cvd copied_more sets)
have_copied cvd [] are have = tt
have_copied cvd (d ∷ sets) are have = (by (numbered cvd d), have_copied cvd sets are.1 have.1)
  where
    by : (b : Bool) → HasOrder (if b then copied_more d else d)
    by true = copied_ordered d (each_once (order_of d.cvd.versions) (all_once d.cvd.versions are.0.rows)) have.0
    by false = have.0

pub moved_ordered : (m : Move) (w : World) → ArePieces w.sets → HaveOrder w.sets → HaveOrder (moved m w).sets
moved_ordered (Init name schema rows) w are have = have_append w.sets (new_set w.next name schema rows ∷ []) have (new_ordered w.next name schema rows, tt)
moved_ordered (Commit cvd parents message added rows) w are have =
    have_changed cvd (committed parents message added rows) w.sets (λ d is. version_ordered (version_of parents message rows) (wide added d) (wide_ordered added d is)) have
moved_ordered (BeginPlan cvd p q) w are have = have_changed cvd (planned p q) w.sets (planned_ordered p q) have
moved_ordered (Copy cvd) w are have = have_copied cvd w.sets are have
moved_ordered (Flip cvd) w are have = have_changed cvd flipped w.sets flipped_ordered have
moved_ordered (Drop cvd) w are have = have_filter (λ d. not (numbered cvd d)) w.sets have
moved_ordered Checkpoint w are have = have

-- ---- targets that wait

kept_at : (d : Dataset) (ts : List Target) (t : Target) → AllKept d ts → IsIn ts t → t.kept_records ≡ length (joined (kept_pieces d t))
kept_at d [] t are is = absurd is
kept_at d (x ∷ ts) t are (inl same) = subst (λ (y : Target). y.kept_records ≡ length (joined (kept_pieces d y))) (sym same) are.0.count
kept_at d (x ∷ ts) t are (inr later) = kept_at d ts t are.1 later

pub waiting_count : (d : Dataset) (plan : Plan) (t : Target) → HasPieces d → d.plan ≡ Some plan → IsIn (targets_from plan.at plan.targets) t
    → t.kept_records ≡ length (joined (kept_pieces d t))
waiting_count d plan t is e there = kept_at d (targets_from plan.at plan.targets) t (subst (PlanIsUnderWay d) e is.plan).kept there
