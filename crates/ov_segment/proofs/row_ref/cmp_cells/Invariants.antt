use Rattle.std.proofs.Common.{◌≡◌, map, drop}
use Rattle.std.specs.Cmp.Lexicographic.{slice_cmp}
use Rattle.ov_value.specs.Rows.{key_cmp, value_cmp, value_at}
use Rattle.ov_segment.proofs.row_ref.cmp_cells.Given as goal

abbrev pub invariant-loop-place : goal.invariant-loop-place
invariant-loop-place l =
    key_cmp l.schema l.a l.b
    ≡ slice_cmp value_cmp (map (value_at l.a) (drop l.place-index l.schema.key)) (map (value_at l.b) (drop l.place-index l.schema.key))
