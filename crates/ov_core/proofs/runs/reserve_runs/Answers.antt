use Rattle.std.proofs.Common.{◌∷◌}
use Rattle.ov_core.proofs.Placing.{second_why}
use Rattle.ov_core.proofs.runs.reserve_runs.Goals as goal

pub returns-in-Ok-clause-placed : goal.returns-in-Ok-clause-placed
returns-in-Ok-clause-placed c = λ live h. record {
  list_run = c.in_ok-first.ensures.run live h;
  segment_run = c.in-Ok.ensures.run (c.in_ok-first.first ∷ live) (c.in_ok-first.ensures.reserved live h);
}

pub returns-in-Ok-clause-reserved : goal.returns-in-Ok-clause-reserved
returns-in-Ok-clause-reserved c = λ live h.
    c.in-Ok.ensures.reserved (c.in_ok-first.first ∷ live) (c.in_ok-first.ensures.reserved live h)

pub returns-in-Err-clause-why : goal.returns-in-Err-clause-why
returns-in-Err-clause-why c = λ live h.
    second_why live c.args.list.now c.args.segment.now c.in_ok-first.first c.in-Err.why (c.in_ok-first.ensures.run live h)
    (c.in-Err.ensures.why (c.in_ok-first.first ∷ live) (c.in_ok-first.ensures.reserved live h))
