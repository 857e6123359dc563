-- A dataset of a World, whose numbers and pages are what the World asks for.
--     IsSetOf w ds area s      these numbers, with what the pages have in their extents, are those of the dataset
--     rids_in ds vid      the rids of the records of a version
use Rattle.std.specs.Prelude.{◌≡◌, ℕ, List, [], Option, Some}
use Rattle.ov_catalog.specs.Numbers.{SetNumbers, each_set}
use Rattle.ov_catalog.specs.Reached.{Reached}
use Rattle.ov_catalog.specs.Shown.{Records, Rids, list_of, shown_set}
use Rattle.ov_catalog.specs.Stands.{Readings}
use Rattle.ov_fetch.specs.declared.errors.FetchErr.{FetchErr}
use Rattle.ov_fetch.specs.declared.errors.FetchErr.TheVariants.{Host, Memory, Damaged}
use Rattle.law_image.specs.Pages.{readings_of}
use Rattle.ov_model.specs.Moves.{numbered}
use Rattle.ov_model.specs.Records.{of_version, order_of, recs}
use Rattle.ov_model.specs.World.{Dataset, World, first_set}
use Rattle.ov_read.specs.Agreement.{Numbers}

-- with what is read in the holes, and as the World has it
abbrev pub seen_set : Readings → Numbers → SetNumbers (Option Rids) (Option Records)
seen_set r s = each_set r.list r.segment s

abbrev pub asked_set : Dataset → SetNumbers (Option Rids) (Option Records)
asked_set ds = each_set Some Some (shown_set ds)

pub record IsSetOf (w : World) (ds : Dataset) (area : List ℕ) (s : Numbers) : Type 0 where
  pub reached : Reached w
  pub among : first_set (numbered s.number) w.sets ≡ Some ds
  pub shows : seen_set (readings_of area) s ≡ asked_set ds

abbrev pub rids_in : Dataset → ℕ → List ℕ
rids_in ds vid = list_of (order_of ds.cvd.versions) (of_version (recs ds.cvd.versions []) vid)

-- an answer that says nothing of the pages
abbrev pub IsSpared : FetchErr → Type 0
IsSpared Host = Unit {0}
IsSpared Memory = Unit {0}
IsSpared (Damaged page) = ⊥
