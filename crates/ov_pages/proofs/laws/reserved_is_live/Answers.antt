use Rattle.ov_pages.proofs.LiveLemmas.{live_more}
use Rattle.ov_pages.proofs.laws.reserved_is_live.Goals as goal

pub returns : goal.returns
returns c = live_more
