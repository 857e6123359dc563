use Rattle.std.proofs.Common.{◌≡◌, ◌+◌, false, All}
use Rattle.ov_layout.specs.Parts.{cost_of}
use Rattle.ov_layout.specs.Flips.{is_empty}
use Rattle.ov_layout.specs.Index.{number_at}
use Rattle.ov_layout.proofs.LeaveLemmas.{HasLeft}
use Rattle.ov_layout.proofs.flips.leave.Given as goal

abbrev pub invariant-loop-vid : goal.invariant-loop-vid
invariant-loop-vid l = record {
  left : HasLeft (λ vid. number_at vid l.index) l.versions l.vid-index l.fn.parts l.parts;
  cost : l.saved + cost_of l.parts ≡ cost_of l.fn.parts;
  some : l.emptied ≡ false → All (λ part. is_empty part ≡ false) l.parts;
}
