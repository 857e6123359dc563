use Rattle.law_events.proofs.Holes.{first_off_each}
use Rattle.law_events.proofs.applying.readings_do_not_matter.Goals as goal

pub returns : goal.returns
returns c = λ format r e n. first_off_each r.list r.segment format e n
