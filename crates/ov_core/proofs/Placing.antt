-- Why the runs of a change aren't reserved.
use Rattle.std.proofs.Common.{inr, ℕ, List, ◌∷◌}
use Rattle.ov_host.specs.declared.area.Extent.{Extent}
use Rattle.ov_core.specs.declared.errors.ChangeErr.{ChangeErr}
use Rattle.ov_core.specs.declared.errors.ChangeErr.TheVariants as errors
use Rattle.ov_core.specs.Rooms.{IsRun, IsWhyNoRun, IsWhyNoRuns}

pub second_why : (live : List Extent) (list segment : List ℕ) (l : Extent) (why : ChangeErr) → IsRun live list l → IsWhyNoRun (l ∷ live) segment why → IsWhyNoRuns live list segment why
second_why live list segment l errors.Host run h = h
second_why live list segment l errors.Memory run h = h
second_why live list segment l (errors.Full pages) run h = inr (l, run, h)
second_why live list segment l errors.JournalFull run h = h
