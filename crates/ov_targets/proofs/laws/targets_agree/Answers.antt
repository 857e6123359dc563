use Rattle.ov_targets.proofs.Agreeing.{segments_apart, targets_are}
use Rattle.ov_targets.proofs.laws.targets_agree.Goals as goal

pub returns : goal.returns
returns c = record {
  agree = λ d known lists partitions parts ts are is. targets_are d lists partitions parts ts known are is;
  apart = segments_apart;
}
