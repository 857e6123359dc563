use Rattle.std.proofs.Common.{refl}
use Rattle.ov_model.specs.Answers.{source_vids}
use Rattle.ov_query.proofs.Pairs.{shown_are}
use Rattle.ov_query.proofs.laws.a_scan_shows_the_pairs.Goals as goal

pub returns : goal.returns
returns c = λ scan cvd src related are rows. shown_are scan cvd src related (source_vids related cvd src) refl are rows
