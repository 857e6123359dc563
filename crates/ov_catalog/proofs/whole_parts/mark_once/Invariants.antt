use Rattle.std.proofs.Common.{◌≡◌, ◌≤◌, ℕ, false, take, get_or}
use Rattle.ov_layout.specs.Parts.{is_placed, times_placed}
use Rattle.ov_catalog.proofs.whole_parts.mark_once.Given as goal

abbrev pub invariant-loop-part : goal.invariant-loop-part
invariant-loop-part l = record {
  marks : (vid : ℕ) → get_or l.seen vid false ≡ is_placed (take l.part-index l.parts) vid;
  once : (vid : ℕ) → times_placed vid (take l.part-index l.parts) ≤ 1;
}
