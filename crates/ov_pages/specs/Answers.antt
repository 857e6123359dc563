-- What the calls answer, error by error.
use Rattle.std.specs.Prelude.{◌≡◌, List, None, Some}
use Rattle.ov_host.specs.declared.area.Extent.{Extent}
use Rattle.ov_pages.specs.declared.live.Run.{Run}
use Rattle.ov_pages.specs.declared.errors.PagesErr.{PagesErr}
use Rattle.ov_pages.specs.declared.errors.PagesErr.TheVariants.{TooHigh, Overlap, Memory}
use Rattle.ov_pages.specs.Live.{too_high_page, IsLeastOverlap}
use Rattle.ov_pages.specs.Runs.{IsLeastTwice}

-- why extents were refused: first the pages that are too high, then those covered twice
abbrev pub IsCause : List Extent → PagesErr → Type 0
IsCause live (TooHigh page) = too_high_page live ≡ Some page
IsCause live (Overlap page) = IsLeastOverlap live page
IsCause live Memory = too_high_page live ≡ None

-- why runs were refused
abbrev pub IsCauseIn : List Run → PagesErr → Type 0
IsCauseIn runs (TooHigh page) = ⊥
IsCauseIn runs (Overlap page) = IsLeastTwice runs page
IsCauseIn runs Memory = Unit {0}
