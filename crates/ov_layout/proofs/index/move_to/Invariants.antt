use Rattle.std.proofs.Common.{◌≡◌, ℕ, cond, take}
use Rattle.ov_layout.specs.Parts.{has}
use Rattle.ov_layout.specs.Index.{AreEntries, number_at}
use Rattle.ov_layout.proofs.index.move_to.Given as goal

abbrev pub invariant-loop-vid : goal.invariant-loop-vid
invariant-loop-vid l = record {
  entries : AreEntries 0 l.index;
  moved : (vid : ℕ) → number_at vid l.index ≡ cond (has (take l.vid-index l.versions) vid) l.id (number_at vid l.fn.index);
}
