-- Where a partition is read and bears out its numbers, it isn't damaged.
use Rattle.std.proofs.Common.{◌≡◌, ℕ, List, map, subst}
use Rattle.std.specs.Prelude.{Option, Some, None}
use Rattle.ov_host.specs.declared.area.Extent.{Extent}
use Rattle.ov_segment.specs.declared.numbered.Record.{Record}
use Rattle.ov_fetch.specs.declared.errors.FetchErr.TheVariants as fetch
use Rattle.ov_fetch.specs.Extents.{rids_of}
use Rattle.ov_catalog.specs.Numbers.{PartNumbers}
use Rattle.ov_read.specs.Agreement.{AreTogether, Numbers}
use Rattle.law_reads.proofs.Stored.{segments_once}
use Rattle.ov_new_version.specs.Joined.{IsReadOf, RefusesJoined}

pub read_whole : (s : Numbers) (area : List ℕ) (part : Option (PartNumbers Extent)) (rids : List ℕ) (page : ℕ) → IsReadOf s area part rids → RefusesJoined (fetch.Damaged page) s area part → ⊥
read_whole s area None rids page read bad = bad
read_whole s area (Some part) rids page read bad =
    let same : read.0.contents ≡ bad.1.contents = segments_once s.schema area part.segments read.0.contents bad.1.contents read.0.read bad.1.read
    in bad.1.off (record {
      all = rids;
      together = subst (λ (cs : List (List Record)). AreTogether (map rids_of cs) rids) same read.0.together;
      borne_out = read.1;
    })
