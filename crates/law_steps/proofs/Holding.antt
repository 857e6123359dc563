-- A partition that serves a version holds its records.
use Rattle.std.proofs.Common.{◌≡◌, ◌≤◌, ℕ, ◌+◌, Bool, true, false, ◌==◌, List, [], ◌∷◌, refl, sym, subst, inl, inr, arith}
use Rattle.std.specs.Prelude.{if◌then◌else◌}
use Rattle.std.proofs.lemmas.Bool.{eqb-true}
use Rattle.ov_model.specs.Holding.{VersionsAreIn, PartsHold, IsHeld, AreHeld}
use Rattle.ov_model.specs.Lists.{IsIn, AreIn}
use Rattle.ov_model.specs.Placed.{times}
use Rattle.ov_model.specs.Records.{Rec, of_version, recs}
use Rattle.ov_model.specs.World.{Part, Dataset, World, held}
use Rattle.ov_catalog.specs.Reached.{Reached}
use Rattle.ov_catalog.proofs.Good.{good}
use Rattle.ov_catalog.proofs.Ranking.{are_in_at}

set_held : (sets : List Dataset) (d : Dataset) → AreHeld sets → IsIn sets d → IsHeld d
set_held [] d are is = absurd is
set_held (x ∷ sets) d are (inl same) = subst IsHeld (sym same) are.0
set_held (x ∷ sets) d are (inr later) = set_held sets d are.1 later

part_holds : (done : List (List Rec)) (parts : List Part) (part : Part) → PartsHold done parts → IsIn parts part → VersionsAreIn done part.versions (held part)
part_holds done [] part are is = absurd is
part_holds done (x ∷ parts) part are (inl same) = subst (λ (y : Part). VersionsAreIn done y.versions (held y)) (sym same) are.0
part_holds done (x ∷ parts) part are (inr later) = part_holds done parts part are.1 later

version_in : (done : List (List Rec)) (vids : List ℕ) (all : List Rec) (vid : ℕ) → VersionsAreIn done vids all → 1 ≤ times vids vid → AreIn (of_version done vid) all
version_in done [] all vid are some = absurd (omega (arith, some))
version_in done (v ∷ vids) all vid are some = by (v == vid) (λ e. eqb-true v vid e) some (λ later. version_in done vids all vid are.1 later)
  where
    by : (t : Bool) → (t ≡ true → v ≡ vid) → 1 ≤ (if t then 1 else 0) + times vids vid → (1 ≤ times vids vid → AreIn (of_version done vid) all) → AreIn (of_version done vid) all
    by true same there rest = subst (λ n. AreIn (of_version done n) all) (same refl) are.0.1
    by false same there rest = rest (omega (arith, there))

pub held_in_part : (w : World) (d : Dataset) (vid : ℕ) (part : Part) (r : Rec) → Reached w → IsIn w.sets d → IsIn d.parts part → 1 ≤ times part.versions vid
    → IsIn (of_version (recs d.cvd.versions []) vid) r → IsIn (held part) r
held_in_part w d vid part r reached is of serves there =
    let done : List (List Rec) = recs d.cvd.versions []
    in let hold : VersionsAreIn done part.versions (held part) = part_holds done d.parts part (set_held w.sets d (good w reached).sound.held is) of
    in are_in_at (of_version done vid) (held part) r (version_in done part.versions (held part) vid hold serves) there
