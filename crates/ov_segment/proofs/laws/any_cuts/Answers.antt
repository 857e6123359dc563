use Rattle.std.proofs.Common.{refl}
use Rattle.ov_segment.specs.Reading.{fresh}
use Rattle.ov_segment.proofs.RunLemmas.{runs, whole_run}
use Rattle.ov_segment.proofs.laws.any_cuts.Goals as goal

pub returns : goal.returns
returns c = record {
  front = λ schema steps new records more run are e. runs schema fresh steps new records more refl run are e;
  whole = whole_run;
}
