use Rattle.std.proofs.Common.{◌≡◌, map, take}
use Rattle.ov_catalog.specs.Applying.{name_at}
use Rattle.ov_catalog.proofs.schemas.names_at.Given as goal

abbrev pub invariant-loop-place : goal.invariant-loop-place
invariant-loop-place l = l.names.items ≡ map (name_at l.columns) (take l.place-index l.key)
