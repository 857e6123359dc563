use Rattle.std.proofs.Common.{◌≤◌, ℕ, List, length, refl, subst, arith}
use Rattle.std.specs.List.{All}
use Rattle.std.proofs.lemmas.List.{take_all}
use Rattle.std.proofs.lemmas.List.Elements.{All-more}
use Rattle.ov_optimize.proofs.segments.are_filled.Goals as goal

abbrev HasSome : List ℕ → Type 0
HasSome rids = 1 ≤ length rids

pub loop-rids-preserved : goal.loop-rids-preserved
loop-rids-preserved c =
    All-more HasSome c.args.sets.now c.loop-rids.rids-index c.rids-item.result c.loop-rids-test.true c.loop-rids.invariant
    (subst HasSome c.rids-item.is (omega (arith, c.len.ensures.count, c.if-len-eq0.false)))

pub returns : goal.returns
returns c = (
  λ yes. subst (All HasSome) (take_all c.loop-rids.rids-index c.args.sets.now (omega (arith, c.loop-rids-test.false))) c.loop-rids.invariant,
  λ filled. refl,
)
