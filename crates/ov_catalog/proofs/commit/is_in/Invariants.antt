use Rattle.std.proofs.Common.{◌≡◌, drop}
use Rattle.ov_catalog.specs.Running.{is_in_target}
use Rattle.ov_catalog.proofs.commit.is_in.Given as goal

abbrev pub invariant-loop-target : goal.invariant-loop-target
invariant-loop-target l = is_in_target l.targets l.vid ≡ is_in_target (drop l.target-index l.targets) l.vid
