use Rattle.std.proofs.Common.{◌∙◌}
use Rattle.ov_graph.proofs.LineageLemmas.{marks-more}
use Rattle.ov_lineage.proofs.marks.marked.Goals.{then-marks-index+in_ok-push, else-marks-index}
use Rattle.ov_lineage.proofs.marks.marked.Goals as goal

pub loop-index-preserved : goal.loop-index-preserved
loop-index-preserved c =
    let more = marks-more c.args.marks.now c.loop-index.index c.loop-index.vids.items c.loop-index.invariant in
    elim c.if-marks-index.branch [
      | then-marks-index+in_ok-push w ↦ rw w.vids-is (w.in_ok-push.ensures.items ∙ more.push w.if-marks-index.true)
      | else-marks-index w ↦ rw w.vids-is (more.skip w.if-marks-index.false)
    ]
