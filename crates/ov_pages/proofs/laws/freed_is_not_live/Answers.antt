use Rattle.ov_pages.proofs.LiveLemmas.{live_fewer}
use Rattle.ov_pages.proofs.laws.freed_is_not_live.Goals as goal

pub returns : goal.returns
returns c = live_fewer
