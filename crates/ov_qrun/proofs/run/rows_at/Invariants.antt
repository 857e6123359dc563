use Rattle.std.proofs.Common.{◌≡◌, map, take}
use Rattle.ov_terms.specs.Finding.{shown_by}
use Rattle.ov_qrun.specs.Keys.{pairs_of}
use Rattle.ov_qrun.proofs.run.rows_at.Given as goal

abbrev pub invariant-loop-place : goal.invariant-loop-place
invariant-loop-place l =
    l.rows.items ≡ map (shown_by l.items) (map (pairs_of l.table) (take l.place-index l.places))
