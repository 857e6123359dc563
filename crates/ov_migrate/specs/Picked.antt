-- Sets of rids together.
--     IsUnionOf sets all      all rids that are in one of these sets
use Rattle.std.specs.Prelude.{◌≡◌, ℕ, List}
use Rattle.std.specs.List.{list_any}
use Rattle.ov_member.specs.Rids.{AreRids, has}

pub record IsUnionOf (sets : List (List ℕ)) (all : List ℕ) : Type 0 where
  pub set : AreRids all
  pub members : (rid : ℕ) → has all rid ≡ list_any (λ rids. has rids rid) sets
