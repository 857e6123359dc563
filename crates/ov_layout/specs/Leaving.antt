-- A flip in steps: versions leave, then partitions without versions go.
use Rattle.std.specs.Prelude.{◌≡◌, ℕ, Bool, true, false, ◌==◌, if◌then◌else◌, Option, Some, None, List, [], ◌∷◌, ◌++◌, length}
use Rattle.ov_host.specs.declared.area.Extent.{Extent}
use Rattle.ov_layout.specs.declared.part.Part.{Part}
use Rattle.ov_layout.specs.Parts.{has, serves, Ascend}
use Rattle.ov_layout.specs.Flips.{is_empty, others}

-- each version of a partition has the partition's number as its own
abbrev pub IsOwned : (ℕ → ℕ) → Part → Type 0
IsOwned number part = (vid : ℕ) → serves vid part ≡ true → number vid ≡ part.id

abbrev pub VersionsAscend : Part → Type 0
VersionsAscend part = Ascend 0 part.versions

-- what a partition that goes gives up
abbrev pub gone_of : ℕ → List ℕ → Part → List Extent
gone_of source kept part = if part.id == source then others 0 kept part.segments else part.segments

-- what the partitions without versions give up
abbrev pub gone_from : ℕ → List ℕ → List Part → List Extent
gone_from source kept [] = []
gone_from source kept (part ∷ parts) =
    if is_empty part then gone_of source kept part ++ gone_from source kept parts else gone_from source kept parts

-- whether a list's first number is among others
abbrev pub is_led : List ℕ → List ℕ → Bool
is_led versions [] = false
is_led versions (vid ∷ vids) = has versions vid

-- the number of segments of a partition that a version is the first of
abbrev pub led_by : ℕ → Option Part → ℕ
led_by vid None = 0
led_by vid (Some part) = if is_led (vid ∷ []) part.versions then length part.segments else 0
