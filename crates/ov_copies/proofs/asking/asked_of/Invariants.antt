use Rattle.std.proofs.Common.{take}
use Rattle.ov_catalog.specs.Sets.{set_in}
use Rattle.ov_copies.specs.Asking.{IsAsked}
use Rattle.ov_copies.proofs.asking.asked_of.Given as goal

abbrev pub invariant-loop-vid : goal.invariant-loop-vid
invariant-loop-vid l = IsAsked (set_in l.d) l.versions l.lists l.served (take l.vid-index l.served) l.fn.left l.left l.asked
