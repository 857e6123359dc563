-- A log by the versions before is one by their records.
use Rattle.std.proofs.Common.{[], arith}
use Rattle.std.proofs.lemmas.Grind.{common_steps}
use Rattle.ov_plain_act.proofs.Logging.{lines_are}
use Rattle.ov_plain_act.proofs.telling.log_lines.Goals as goal

pub returns : goal.returns
returns c = rw (lines_are [] c.args.set.now.cvd.versions) (grind (arith, common_steps))
