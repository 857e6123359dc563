use Rattle.std.proofs.Common.{◌≡◌, take, filter}
use Rattle.ov_layout.specs.Parts.{Ascend}
use Rattle.ov_layout.proofs.LeaveLemmas.{stays}
use Rattle.ov_layout.proofs.lists.take_each_off.Given as goal

abbrev pub invariant-loop-vid : goal.invariant-loop-vid
invariant-loop-vid l = record {
  left : l.list.items ≡ filter (stays (take l.vid-index l.leaving)) l.fn.list.items;
  ascend : Ascend 0 l.list.items;
}
