use Rattle.std.proofs.Common.{◌≡◌, take}
use Rattle.ov_fetch.specs.Scans.{rows_at}
use Rattle.ov_registry.proofs.rows.copied_rows.Given as goal

abbrev pub invariant-loop-place : goal.invariant-loop-place
invariant-loop-place l = l.rows.items ≡ rows_at l.records (take l.place-index l.pick)
