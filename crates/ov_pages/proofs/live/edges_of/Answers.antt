use Rattle.std.proofs.Common.{arith}
use Rattle.ov_pages.specs.declared.live.Run.{Run}
use Rattle.ov_pages.proofs.BuildLemmas.{built_more, overlaps}
use Rattle.ov_pages.proofs.live.edges_of.Goals as goal

pub returns-then-run-past-clause-cause : goal.returns-then-run-past-clause-cause
returns-then-run-past-clause-cause c =
    let none : Run = record { first = 0; past = 0 } in
    overlaps c.args.runs.now c.loop-run.run-index c.loop-run.edges.items c.loop-run.past none c.loop-run.invariant.0 c.loop-run-test.true (c.requires.runs _ none c.loop-run-test.true) c.requires.sorted c.if-run-past.true

pub loop-run-preserved : goal.loop-run-preserved
loop-run-preserved c =
    let none : Run = record { first = 0; past = 0 } in (
      rw c.turn_run.ensures.turned (built_more c.args.runs.now c.loop-run.run-index c.loop-run.edges.items c.loop-run.past none c.loop-run.invariant.0 c.loop-run-test.true (c.requires.runs _ none c.loop-run-test.true) c.if-run-past.false),
      omega (arith, c.turn_run.ensures.capacity, c.loop-run.invariant.1),
    )
