use Rattle.std.proofs.Common.{◌≡◌, false, drop, get_or}
use Rattle.std.specs.List.{list_all}
use Rattle.ov_catalog.proofs.whole_plans.are_marked.Given as goal

abbrev pub invariant-loop-vid : goal.invariant-loop-vid
invariant-loop-vid l = list_all (λ vid. get_or l.seen vid false) l.vids ≡ list_all (λ vid. get_or l.seen vid false) (drop l.vid-index l.vids)
