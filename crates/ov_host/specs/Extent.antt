-- Extents and the pages that they cover.
use Rattle.std.specs.Prelude.{ℕ, ◌+◌, ◌/◌}
use Rattle.ov_host.specs.declared.area.Extent.{Extent}

-- an extent's bytes divided by 4,096, rounded up
abbrev pub pages_of : Extent → ℕ
pages_of e = (e.bytes + 4095) / 4096
