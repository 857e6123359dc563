-- How many bytes are read.
--     bytes_for s vids      4,096 times the pages of the lists of these versions and of the segments of their partitions, each
--         partition counted once
use Rattle.std.specs.Prelude.{ℕ, ◌+◌, ◌*◌, Bool, cond, List}
use Rattle.std.specs.List.{list_any, sum_by}
use Rattle.ov_host.specs.declared.area.Extent.{Extent}
use Rattle.ov_host.specs.Extent.{pages_of}
use Rattle.ov_catalog.specs.Numbers.{PartNumbers}
use Rattle.ov_read.specs.Agreement.{Numbers, list_of, serves}

-- the pages of extents together
abbrev pub pages_in : List Extent → ℕ
pages_in extents = sum_by pages_of extents

-- of the lists of these versions alone
abbrev pub list_bytes_for : Numbers → List ℕ → ℕ
list_bytes_for s vids = 4096 * sum_by (λ vid. pages_of (list_of s vid)) vids

abbrev pub serves_one : List ℕ → PartNumbers Extent → Bool
serves_one vids part = list_any (λ vid. serves vid part) vids

abbrev pub segment_bytes_for : Numbers → List ℕ → ℕ
segment_bytes_for s vids = 4096 * sum_by (λ part. cond (serves_one vids part) (pages_in part.segments) 0) s.parts

abbrev pub bytes_for : Numbers → List ℕ → ℕ
bytes_for s vids = list_bytes_for s vids + segment_bytes_for s vids
