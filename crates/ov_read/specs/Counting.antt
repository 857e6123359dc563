-- Numbers of records after each version, as they are counted, and lists as they are tested.
use Rattle.std.specs.Prelude.{◌≡◌, ◌⊎◌, ◌<◌, ℕ, ◌+◌, ◌^◌, min, List, length, take, slice_index_or}
use Rattle.std.specs.List.{sum_by}
use Rattle.ov_host.specs.declared.area.Extent.{Extent}
use Rattle.ov_catalog.specs.declared.cvd.Version.{Version}
use Rattle.ov_fetch.specs.declared.errors.FetchErr.{FetchErr}
use Rattle.ov_fetch.specs.declared.errors.FetchErr.TheVariants.{Host, Memory, Damaged}
use Rattle.ov_fetch.specs.Extents.{IsList, IsNoList}
use Rattle.ov_read.specs.Agreement.{IsBorneOut}

-- 2^31 stands for all that are greater
abbrev pub capped : ℕ → ℕ
capped n = min n (2 ^ 31)

pub record AreCounts (versions : List Version) (counts : List ℕ) : Type 0 where
  pub count : length counts ≡ length versions
  pub each : (k : ℕ) → k < length counts → slice_index_or counts k 0 ≡ capped (sum_by (λ v. v.fresh) (take (k + 1) versions))

-- a whole list whose rids are others than so many up to the last one
pub record IsOff (area : List ℕ) (list : Extent) (rows last : ℕ) : Type 0 where
  pub rids : List ℕ
  pub stands : IsList area list rids
  pub off : IsBorneOut rows last rids → ⊥

abbrev pub RefusesTested : FetchErr → List ℕ → Extent → ℕ → ℕ → Type 0
RefusesTested Host area list rows last = Unit {0}
RefusesTested Memory area list rows last = Unit {0}
RefusesTested (Damaged page) area list rows last = (page ≡ list.page) × (IsNoList area list ⊎ IsOff area list rows last)
