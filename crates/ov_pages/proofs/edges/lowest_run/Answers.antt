use Rattle.std.proofs.Common.{arith}
use Rattle.ov_pages.proofs.FreeLemmas.{looked_none, looked_more, lowest_before, lowest_behind, none_behind}
use Rattle.ov_pages.proofs.edges.lowest_run.Goals as goal

pub loop-rest-init : goal.loop-rest-init
loop-rest-init c = looked_none _ _ c.requires.sound

pub returns-then-first-low : goal.returns-then-first-low
returns-then-first-low c = lowest_before _ _ _ _ c.requires.sound c.loop-rest.invariant c.in-len2-up.len_at_least c.if-first-low.true

pub loop-rest-preserved : goal.loop-rest-preserved
loop-rest-preserved c = looked_more _ _ _ _ c.requires.sound c.requires.some c.loop-rest.invariant c.in-len2-up.len_at_least c.if-first-low.false

pub returns-then-low-n : goal.returns-then-low-n
returns-then-low-n c = let limit = c.loop-rest.invariant.limit in lowest_behind _ _ _ _ c.requires.sound c.loop-rest.invariant c.in_default.len_below (omega arith)

pub returns-else-low-n : goal.returns-else-low-n
returns-else-low-n c = none_behind _ _ _ _ c.loop-rest.invariant (omega arith)
