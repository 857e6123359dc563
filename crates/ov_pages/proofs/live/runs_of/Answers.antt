use Rattle.std.proofs.Common.{arith}
use Rattle.ov_host.specs.declared.area.Extent.{Extent}
use Rattle.ov_pages.proofs.RunLemmas.{fits_at, runs_none, runs_more, runs_same, runs_all}
use Rattle.ov_pages.proofs.live.runs_of.Goals.{then-pages-gt0+in_ok-push, else-pages-gt0}
use Rattle.ov_pages.proofs.live.runs_of.Goals as goal

pub loop-extent-init : goal.loop-extent-init
loop-extent-init c = runs_none c.args.live.now _ c.in_ok-runs.ensures.items

pub overflow_add-extent : goal.overflow_add-extent
overflow_add-extent c = omega (arith, c.pages-pages.ensures, fits_at c.args.live.now c.loop-extent.extent-index (record { page = 0; bytes = 0 }) c.requires c.loop-extent-test.true)

pub loop-extent-preserved : goal.loop-extent-preserved
loop-extent-preserved c =
    let none : Extent = record { page = 0; bytes = 0 } in
    let pages = c.pages-pages.ensures in
    elim c.if-pages-gt0.branch [
      | then-pages-gt0+in_ok-push w ↦ rw (w.runs-is, w.in_ok-push.ensures.items, pages) (runs_more c.args.live.now c.loop-extent.runs.items c.loop-extent.extent-index none c.loop-extent-test.true c.requires (omega arith) c.loop-extent.invariant)
      | else-pages-gt0 w ↦ rw w.runs-is (runs_same c.args.live.now c.loop-extent.runs.items c.loop-extent.extent-index none c.loop-extent-test.true (omega arith) c.loop-extent.invariant)
    ]

pub returns : goal.returns
returns c = runs_all _ _ _ (omega arith) c.loop-extent.invariant
