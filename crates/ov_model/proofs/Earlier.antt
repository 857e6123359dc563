-- Each version's parents stay before it.
use Rattle.std.proofs.Common.{◌≡◌, ℕ, ◌+◌, Bool, true, false, List, [], ◌∷◌, ◌++◌, length, map, filter, if◌then◌else◌, refl, sym, subst, arith}
use Rattle.std.specs.Prelude.{Option, Some, None, not}
use Rattle.std.proofs.lemmas.Bool.{eqb-true}
use Rattle.std.proofs.lemmas.List.{length-map}
use Rattle.ov_value.specs.declared.column.Column.{Column}
use Rattle.ov_value.specs.Shapes.{Shape}
use Rattle.ov_model.specs.Book.{Row, Version, Cvd}
use Rattle.ov_model.specs.Descent.{AreBefore, AreEarlier, HaveEarlierParents}
use Rattle.ov_model.specs.Moves.{Move, Init, Commit, BeginPlan, Copy, Flip, Drop, Checkpoint, change, committed, moved, new_set, numbered, version_of, wide, wide_version}
use Rattle.ov_model.specs.Placed.{AllHaveParents, AreThere, HasParents, NamesParents}
use Rattle.ov_model.specs.Plans.{copied_more, flipped, flipped_by, planned}
use Rattle.ov_model.specs.World.{Plan, Dataset, World}

abbrev IsEarly : Dataset → Type 0
IsEarly d = AreEarlier 1 d.cvd.versions

are-below : (count : ℕ) (parents : List ℕ) → AreThere count parents → AreBefore (1 + count) parents
are-below count [] are = tt
are-below count (p ∷ ps) are = ((are.0.0, omega (arith, are.0.1)), are-below count ps are.1)

one-more : (n : ℕ) (versions : List Version) (v : Version) → AreEarlier n versions → AreBefore (n + length versions) v.parents → AreEarlier n (versions ++ v ∷ [])
one-more n [] v are below = (subst (λ (k : ℕ). AreBefore k v.parents) (omega arith) below, tt)
one-more n (u ∷ versions) v are below = (are.0, one-more (n + 1) versions v are.1 (subst (λ (k : ℕ). AreBefore k v.parents) (omega arith) below))

wide-early : (n count : ℕ) (versions : List Version) → AreEarlier n versions → AreEarlier n (map (wide_version count) versions)
wide-early n count [] are = tt
wide-early n count (v ∷ versions) are = (are.0, wide-early (n + 1) count versions are.1)

widened-early : (added : List Column) (d : Dataset) → IsEarly d → IsEarly (wide added d)
widened-early [] d are = are
widened-early (column ∷ added) d are = wide-early 1 (length (column ∷ added)) d.cvd.versions are

wide-long : (added : List Column) (d : Dataset) → length (wide added d).cvd.versions ≡ length d.cvd.versions
wide-long [] d = refl
wide-long (column ∷ added) d = length-map d.cvd.versions (wide_version (length (column ∷ added)))

commit-early : (parents message : List ℕ) (added : List Column) (rows : List Row) (d : Dataset) → IsEarly d → HasParents parents d → IsEarly (committed parents message added rows d)
commit-early parents message added rows d are has =
    one-more 1 (wide added d).cvd.versions (version_of parents message rows) (widened-early added d are)
    (subst (λ (n : ℕ). AreBefore (1 + n) parents) (sym (wide-long added d)) (are-below (length d.cvd.versions) parents has.1))

flipped-cvd : (d : Dataset) (plan : Option Plan) → (flipped_by d plan).cvd ≡ d.cvd
flipped-cvd d None = refl
flipped-cvd d (Some plan) = refl

flip-early : (d : Dataset) → IsEarly d → IsEarly (flipped d)
flip-early d are = subst (λ (cvd : Cvd). AreEarlier 1 cvd.versions) (sym (flipped-cvd d d.plan)) are

-- ---- Worlds

early-append : (a b : List Dataset) → HaveEarlierParents a → HaveEarlierParents b → HaveEarlierParents (a ++ b)
early-append [] b are more = more
early-append (d ∷ a) b are more = (are.0, early-append a b are.1 more)

early-if : (t : Bool) (d : Dataset) (sets : List Dataset) → IsEarly d → HaveEarlierParents sets → HaveEarlierParents (if t then d ∷ sets else sets)
early-if true d sets is are = (is, are)
early-if false d sets is are = are

early-filter : (test : Dataset → Bool) (sets : List Dataset) → HaveEarlierParents sets → HaveEarlierParents (filter test sets)
early-filter test [] are = tt
early-filter test (d ∷ sets) are = early-if (test d) d (filter test sets) are.0 (early-filter test sets are.1)

change-if : (t : Bool) (f : Dataset → Dataset) (d : Dataset) → (t ≡ true → IsEarly (f d)) → IsEarly d → IsEarly (if t then f d else d)
change-if true f d more is = more refl
change-if false f d more is = is

early-changed : (cvd : ℕ) (f : Dataset → Dataset) (sets : List Dataset) → ((d : Dataset) → IsEarly d → IsEarly (f d)) → HaveEarlierParents sets → HaveEarlierParents (change cvd f sets)
early-changed cvd f [] more are = tt
early-changed cvd f (d ∷ sets) more are = (change-if (numbered cvd d) f d (λ t. more d are.0) are.0, early-changed cvd f sets more are.1)

early-committed : (cvd : ℕ) (parents message : List ℕ) (added : List Column) (rows : List Row) (sets : List Dataset) → HaveEarlierParents sets → AllHaveParents cvd parents sets
    → HaveEarlierParents (change cvd (committed parents message added rows) sets)
early-committed cvd parents message added rows [] are has = tt
early-committed cvd parents message added rows (d ∷ sets) are has = (
  change-if (numbered cvd d) (committed parents message added rows) d
      (λ t. commit-early parents message added rows d are.0 (has.0 (eqb-true d.cvd.number cvd t))) are.0,
  early-committed cvd parents message added rows sets are.1 has.1,
)

new-early : (number : ℕ) (name : List ℕ) (schema : Shape) (rows : List Row) → IsEarly (new_set number name schema rows)
new-early number name schema rows = (tt, tt)

pub moved-early : (m : Move) (w : World) → NamesParents m w → HaveEarlierParents w.sets → HaveEarlierParents (moved m w).sets
moved-early (Init name schema rows) w names are =
    early-append w.sets (new_set w.next name schema rows ∷ []) are (new-early w.next name schema rows, tt)
moved-early (Commit cvd parents message added rows) w names are = early-committed cvd parents message added rows w.sets are names
moved-early (BeginPlan cvd p q) w names are = early-changed cvd (planned p q) w.sets (λ d is. is) are
moved-early (Copy cvd) w names are = early-changed cvd copied_more w.sets (λ d is. is) are
moved-early (Flip cvd) w names are = early-changed cvd flipped w.sets flip-early are
moved-early (Drop cvd) w names are = early-filter (λ d. not (numbered cvd d)) w.sets are
moved-early Checkpoint w names are = are
