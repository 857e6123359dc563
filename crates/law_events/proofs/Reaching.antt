-- A move that fits may be made, and so each World that such moves reach is sound.
use Rattle.ov_model.specs.Moves.{Move}
use Rattle.ov_model.specs.World.{World}
use Rattle.law_partitions.specs.Sound.{IsSound, MayMove}
use Rattle.ov_catalog.specs.Reached.{Fits, Reached}
use Rattle.ov_catalog.proofs.Good.{fits_may, good}

pub may_move : (m : Move) (w : World) → Reached w → Fits m w → MayMove m w
may_move m w reached fits = fits_may m w fits (good w reached)

pub reached_sound : (w : World) → Reached w → IsSound w
reached_sound w reached = (good w reached).sound
