-- A reader of a segment in pieces, as contracts see it.
use Rattle.std.specs.Prelude.{ℕ, Bool, List}

-- the bytes held, the rid of the last record given, or 0, and whether it has answered Bad
pub record Reader : Type 0 where
  pub held : List ℕ
  pub last : ℕ
  pub over : Bool
