use Rattle.std.proofs.Common.{◌≡◌, map, drop}
use Rattle.ov_model.specs.Kinds.{counted, count_all}
use Rattle.ov_typing.proofs.counting.+counted.Given as goal

-- the conditions that are left count on from here
abbrev pub invariant-count_all-loop-cond : goal.invariant-count_all-loop-cond
invariant-count_all-loop-cond l =
    count_all (map (counted l.place) (drop l.cond-index l.conds)) l.next
    ≡ count_all (map (counted l.place) l.conds) l.nth
