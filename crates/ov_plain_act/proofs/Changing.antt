-- A list of datasets, from its last one.
use Rattle.std.proofs.Common.{◌≡◌, ℕ, List, [], ◌∷◌, ◌++◌, subst}
use Rattle.std.specs.Prelude.{if◌then◌else◌}
use Rattle.std.proofs.lemmas.List.{map-append}
use Rattle.ov_model.specs.Moves.{change, numbered}
use Rattle.ov_model.specs.World.{Dataset}
use Rattle.ov_plain_act.specs.Small.{HasPlace, HavePlace}

both_place : (sets : List Dataset) (d : Dataset) → HavePlace (sets ++ d ∷ []) → HavePlace sets × HasPlace d
both_place [] d place = (tt, place.0)
both_place (s ∷ sets) d place =
    let later : HavePlace sets × HasPlace d = both_place sets d place.1
    in ((place.0, later.0), later.1)

pub front_place : (all sets : List Dataset) (d : Dataset) → all ≡ sets ++ d ∷ [] → HavePlace all → HavePlace sets
front_place all sets d e place = (both_place sets d (subst HavePlace e place)).0

pub last_place : (all sets : List Dataset) (d : Dataset) → all ≡ sets ++ d ∷ [] → HavePlace all → HasPlace d
last_place all sets d e place = (both_place sets d (subst HavePlace e place)).1

-- a change reaches the last one too
pub change_last : (cvd : ℕ) (f : Dataset → Dataset) (sets : List Dataset) (d : Dataset) → change cvd f (sets ++ d ∷ []) ≡ change cvd f sets ++ (if numbered cvd d then f d else d) ∷ []
change_last cvd f sets d = map-append (λ (s : Dataset). if numbered cvd s then f s else s) sets (d ∷ [])
