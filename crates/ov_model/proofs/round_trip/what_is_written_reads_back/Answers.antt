use Rattle.ov_model.proofs.RoundTrip.{what_is_written-back}
use Rattle.ov_model.proofs.round_trip.what_is_written_reads_back.Goals as goal

pub returns : goal.returns
returns c = what_is_written-back
