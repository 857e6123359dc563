use Rattle.std.proofs.Common.{arith}
use Rattle.ov_pages.proofs.LiveLemmas.{live_fewer}
use Rattle.test_ends.proofs.pages.give.Goals as goal

pub returns : goal.returns
returns c = record { kept = rw c.remove-extent.ensures.items (live_fewer _ _ _ c.args.i c.remove-extent.result c.requires.kept (omega (arith, c.args.live.now.ok.0)) c.remove-extent.ensures.value c.free.ensures.gone c.free.ensures.room) }
