use Rattle.std.proofs.Common.{◌≡◌, ◌≤◌, ◌+◌, drop}
use Rattle.ov_gen.specs.Versions.{Begin}
use Rattle.ov_generate.proofs.Growing.{Rest}
use Rattle.ov_generate.proofs.rows.are_grown.Given as goal

abbrev pub invariant-loop-row : goal.invariant-loop-row
invariant-loop-row l = record {
  some : 1 ≤ l.next;
  low : l.next ≤ l.end + 1;
  end_is : l.end ≡ l.fn.count + l.fn.vid;
  to : Begin l.fn.count 1 l.end l.rows → Rest l.fn.count l.next l.end (drop l.row-index l.rows);
  back : Rest l.fn.count l.next l.end (drop l.row-index l.rows) → Begin l.fn.count 1 l.end l.rows;
}
