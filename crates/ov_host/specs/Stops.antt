-- Each stop since some moment leaves only what has a property. Stops of calls that follow one another compose by this.
use Rattle.std.specs.Prelude.{◌≡◌, List, [], ◌∷◌, ◌++◌}
use Rattle.ov_host.specs.Disk.{Image, MayLeave}
use Rattle.ov_host.specs.Tape.{During, Moment, Tape}

-- a stop in any of these calls leaves what has the property
abbrev pub AllLeave : (Image → Type 0) → List Moment → Type 0
AllLeave P [] = Unit {0}
AllLeave P (m ∷ ms) = ((c : Image) → During m.call m.disk c → P c) × AllLeave P ms

-- a stop at any moment since old, up to new, leaves what has the property
pub record Only (old new : Tape) (P : Image → Type 0) : Type 0 where
  pub more : List Moment
  pub past : new.past ≡ old.past ++ more
  pub during : AllLeave P more
  pub now : (c : Image) → MayLeave new.disk c → P c
