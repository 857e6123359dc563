use Rattle.ov_pages.proofs.LiveLemmas.{live_reserved, live_room}
use Rattle.ov_pages.proofs.laws.live_can_be_freed.Goals as goal

pub returns : goal.returns
returns c = record { reserved = live_reserved; room = live_room }
