use Rattle.std.proofs.Common.{◌≤◌, arith, get_or}
use Rattle.ov_layout.specs.declared.index.Entry.{Entry}
use Rattle.ov_layout.specs.Index.{number_at}
use Rattle.ov_layout.proofs.VidLemmas.{has-get}
use Rattle.ov_layout.proofs.SumLemmas.{entry-moved, moved-more, cond-some}
use Rattle.ov_layout.proofs.index.move_to.Goals.{in-Some, in_default}
use Rattle.ov_layout.proofs.index.move_to.Goals as goal

pub loop-vid-preserved : goal.loop-vid-preserved
loop-vid-preserved c =
    let none : Entry = record { vid = 0; part = 0 } in
    let versions = c.args.versions.now in
    let k = c.loop-vid.vid-index in
    let vid = get_or versions k 0 in
    let id = c.args.id in
    let now = c.loop-vid.index in
    elim c.match-place_in.branch [
      | in-Some w ↦
          let found = w.in-Some.ensures in
          let step = entry-moved now w.in-Some.at id vid none c.loop-vid.invariant.entries found.0 (found.1 none) c.requires.some in
          rw w.index-is (record { entries = step.entries; moved = moved-more now _ c.args.index.now versions k id c.loop-vid-test.true step c.loop-vid.invariant.moved })
      | in_default w ↦
          let before = c.loop-vid.invariant.moved vid in
          let was = c.requires.placed vid (has-get versions k 0 c.loop-vid-test.true) in
          let some : 1 ≤ number_at vid now = rw before (cond-some _ id _ c.requires.some was) in
          let zero = w.in_default.ensures in
          absurd (omega (arith, some, zero))
    ]
