-- The parts of a split, as lists of vids.
use Rattle.std.specs.Prelude.{ℕ, List, map, Vec}
use Rattle.std.specs.declared.alloc.Global.{Global}

abbrev pub lists_of : List (Vec ℕ Global) → List (List ℕ)
lists_of parts = map (λ part. part.items) parts
