use Rattle.std.proofs.Common.{◌≡◌, map, drop}
use Rattle.std.specs.Cmp.Lexicographic.{slice_cmp}
use Rattle.ov_value.specs.Rows.{key_cmp, value_cmp, value_at}
use Rattle.ov_segment.proofs.row_ref.cmp_walked.Given as goal

-- the values from the column on, and the keys are as these
abbrev pub invariant-loop-i : goal.invariant-loop-i
invariant-loop-i l = record {
  first : l.x ≡ drop l.i l.a;
  second : l.y ≡ drop l.i l.b;
  same : key_cmp l.schema l.a l.b ≡ slice_cmp value_cmp (map (value_at l.a) (drop l.i l.schema.key)) (map (value_at l.b) (drop l.i l.schema.key));
}
