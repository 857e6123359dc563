use Rattle.law_steps.proofs.Taken.{dropped}
use Rattle.law_steps.proofs.missing.what_is_missing_comes_behind_what_was_copied.Goals as goal

pub returns : goal.returns
returns c = record { dropped = dropped }
