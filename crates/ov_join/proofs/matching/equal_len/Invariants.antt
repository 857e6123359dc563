use Rattle.std.proofs.Common.{◌≡◌, ◌+◌, drop, is_eq}
use Rattle.std.specs.List.{prefix_len}
use Rattle.ov_join.specs.Partnering.{row_order}
use Rattle.ov_join.proofs.matching.equal_len.Given as goal

-- those before this place are equal
abbrev pub invariant-loop-at : goal.invariant-loop-at
invariant-loop-at l =
    prefix_len (λ spot. is_eq (row_order l.left l.right l.place spot)) l.rest
    ≡ l.at + prefix_len (λ spot. is_eq (row_order l.left l.right l.place spot)) (drop l.at l.rest)
