use Rattle.ov_core.proofs.Reserving.{reserved_fewer}
use Rattle.ov_core.proofs.runs.free_run.Goals as goal

pub returns : goal.returns
returns c = λ live h. reserved_fewer live c.args.pages.now c.free.new.self c.args.extent h c.free.ensures.gone c.free.ensures.room
