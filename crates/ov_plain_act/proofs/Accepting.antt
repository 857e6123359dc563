-- Parents that are accepted are few and small.
use Rattle.std.proofs.Common.{◌≡◌, ℕ, ◌<◌, ◌≤◌, Bool, true, false, List, [], ◌∷◌, length, refl, arith}
use Rattle.std.specs.Prelude.{◌||◌, ◌==◌, nat_lt, nat_le, if◌then◌else◌, Option, Some, None}
use Rattle.std.proofs.lemmas.Bool.{ltb-false, leb-false}
use Rattle.std.specs.Option.{option_or}
use Rattle.ov_model.specs.Act.{if_so, vids_refusal, commit_refusal}
use Rattle.ov_model.specs.World.{Dataset, is_one}
use Rattle.ov_model.specs.declared.refusal.Refusal.{Refusal}
use Rattle.ov_model.specs.declared.refusal.Refusal.TheVariants as no
use Rattle.ov_plain_act.specs.Small.{AllFit}

-- neither of two refusals, nor a later one
none_of : (a b : Bool) (x y : Refusal) (later : Option Refusal) → (if a then Some x else (if b then Some y else later)) ≡ None → (a ≡ false) × (later ≡ None)
none_of true b x y later e = cc
none_of false true x y later e = cc
none_of false false x y later e = (refl, e)

right_none : (a b : Bool) → (a || b) ≡ false → b ≡ false
right_none true b e = cc
right_none false b e = e

not_below : (a b : ℕ) → nat_lt a b ≡ false → b ≤ a
not_below a b e = ltb-false a b e

fit : (count : ℕ) (before vids : List ℕ) → count ≤ 65535 → vids_refusal count before vids ≡ None → AllFit vids
fit count before [] few e = tt
fit count before (vid ∷ vids) few e =
    let parts = none_of (vid == 0 || nat_lt count vid) (is_one before vid) (no.NoVersion vid) (no.RepeatedVersion vid) (vids_refusal count (vid ∷ before) vids) e
    in let below : vid ≤ count = not_below count vid (right_none (vid == 0) (nat_lt count vid) parts.0)
    in (omega (arith, below, few), fit count (vid ∷ before) vids few parts.1)

first_none : (a b : Option Refusal) → option_or a b ≡ None → (a ≡ None) × (b ≡ None)
first_none None b e = (refl, e)
first_none (Some x) b e = cc

if_none : (b : Bool) (x : Refusal) → if_so b x ≡ None → b ≡ false
if_none true x e = cc
if_none false x e = refl

not_many : (a b : ℕ) → nat_le a b ≡ false → b < a
not_many a b e = leb-false a b e

-- there are fewer versions than may be
pub few_versions : (d : Dataset) (vids : List ℕ) → commit_refusal d vids ≡ None → length d.cvd.versions < 65535
few_versions d vids e =
    not_many 65535 (length d.cvd.versions)
    (if_none (nat_le 65535 (length d.cvd.versions)) (no.TooManyVersions d.cvd.name)
    (first_none (vids_refusal (length d.cvd.versions) [] vids) (if_so (nat_le 65535 (length d.cvd.versions)) (no.TooManyVersions d.cvd.name)) e).1)

pub all_fit : (d : Dataset) (vids : List ℕ) → commit_refusal d vids ≡ None → AllFit vids
all_fit d vids e =
    let few : length d.cvd.versions < 65535 = few_versions d vids e
    in fit (length d.cvd.versions) [] vids (omega (arith, few))
    (first_none (vids_refusal (length d.cvd.versions) [] vids) (if_so (nat_le 65535 (length d.cvd.versions)) (no.TooManyVersions d.cvd.name)) e).0
