use Rattle.std.proofs.Common.{take}
use Rattle.ov_model.specs.Lists.{joined}
use Rattle.ov_records.specs.Records.{lists_of}
use Rattle.ov_parents.specs.Seeing.{Maps}
use Rattle.law_commits.proofs.Kept.{NoneBefore}
use Rattle.ov_parents.proofs.disagreeing.first_disagreeing.Given as goal

abbrev pub invariant-loop-place : goal.invariant-loop-place
invariant-loop-place l = Maps (λ r. r) l.seen (joined (take l.place (lists_of l.parents))) × NoneBefore (lists_of l.parents) l.place
