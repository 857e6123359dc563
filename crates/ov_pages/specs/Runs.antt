-- Runs of pages in order, from which the edges are made.
use Rattle.std.specs.Prelude.{◌≡◌, ℕ, ◌^◌, ◌<◌, ◌≤◌, false, ◌&&◌, nat_lt, nat_le, List, length, All}
use Rattle.std.specs.List.{sum_by}
use Rattle.ov_host.specs.declared.area.Extent.{Extent}
use Rattle.ov_pages.specs.declared.live.Run.{Run}
use Rattle.ov_pages.specs.Sets.{one_if}
use Rattle.ov_pages.specs.Edges.{AreEdges, status}
use Rattle.ov_pages.specs.Live.{times_covered, count_covering}

-- 1 where a run has a page
abbrev pub times_by : ℕ → Run → ℕ
times_by page r = one_if (nat_le r.first page && nat_lt page r.past)

-- how many of the runs have a page
abbrev pub times_in : List Run → ℕ → ℕ
times_in runs page = sum_by (times_by page) runs

pub record IsRun (r : Run) : Type 0 where
  pub order : r.first < r.past
  pub limit : r.past ≤ 2 ^ 22

-- the runs of those extents that cover a page, in some order
pub record AreRunsOf (live : List Extent) (runs : List Run) : Type 0 where
  pub times : (page : ℕ) → times_in runs page ≡ times_covered live page
  pub count : length runs ≡ count_covering live
  pub are_runs : All IsRun runs

-- the edges of runs that have no page twice
pub record AreEdgesOf (runs : List Run) (edges : List ℕ) : Type 0 where
  pub sound : AreEdges edges
  pub once : (page : ℕ) → times_in runs page ≤ 1
  pub pages : (page : ℕ) → status false edges page ≡ nat_lt 0 (times_in runs page)

-- the least page that two of the runs have
pub record IsLeastTwice (runs : List Run) (page : ℕ) : Type 0 where
  pub twice : 2 ≤ times_in runs page
  pub least : (other : ℕ) → other < page → times_in runs other ≤ 1
