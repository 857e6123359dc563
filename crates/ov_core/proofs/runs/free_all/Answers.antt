use Rattle.std.proofs.Common.{◌+◌, ◌++◌, drop}
use Rattle.ov_core.proofs.Reserving.{all_freed, next_freed}
use Rattle.ov_core.proofs.runs.free_all.Goals as goal

pub free_run-requires : goal.free_run-requires
free_run-requires c =
    let xs = c.args.extents.now in
    let i = c.loop-extent.extent-index in
    let live = c.requires.0 in
    (drop (i + 1) xs ++ live, next_freed xs live i c.loop-extent.pages c.loop-extent-test.true (c.loop-extent.invariant live c.requires.1))

pub loop-extent-preserved : goal.loop-extent-preserved
loop-extent-preserved c = λ live h.
    let xs = c.args.extents.now in
    let i = c.loop-extent.extent-index in
    c.free_run.ensures (drop (i + 1) xs ++ live) (next_freed xs live i c.loop-extent.pages c.loop-extent-test.true (c.loop-extent.invariant live h))

pub returns : goal.returns
returns c = λ live h.
    all_freed c.args.extents.now live c.loop-extent.extent-index c.loop-extent.pages c.loop-extent-test.false (c.loop-extent.invariant live h)
