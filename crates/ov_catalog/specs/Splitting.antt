-- The parts of the split of a dataset's versions.
--     IsSplitOf d p q parts      these are they
use Rattle.std.specs.Prelude.{◌≡◌, ℕ, ◌≤◌, true, List, length}
use Rattle.std.specs.List.{All, count_by}
use Rattle.ov_layout.specs.Parts.{has, Ascend}
use Rattle.ov_catalog.specs.Events.{parts_at}
use Rattle.ov_catalog.specs.Numbers.{SetNumbers}

-- some versions, ascending, each from 1 to count
pub record IsListed (count : ℕ) (part : List ℕ) : Type 0 where
  pub some : 1 ≤ length part
  pub ascend : Ascend 1 part
  pub there : (vid : ℕ) → has part vid ≡ true → vid ≤ count

-- each version is in one of them
pub record IsSplitOf {L S : Type 0} (d : SetNumbers L S) (p q : ℕ) (parts : List (List ℕ)) : Type 0 where
  pub parts_are : parts ≡ parts_at p q d
  pub each : All (IsListed (length d.versions)) parts
  pub once : (vid : ℕ) → 1 ≤ vid → vid ≤ length d.versions → count_by (λ part. has part vid) parts ≡ 1
