use Rattle.std.proofs.Common.{refl, arith}
use Rattle.ov_model.specs.Moves.{Drop}
use Rattle.ov_core.proofs.Bare.{drop_event}
use Rattle.ov_core.proofs.parts.Core.drop_cvd.Goals as goal

pub add_bare-requires-clause-event : goal.add_bare-requires-clause-event
add_bare-requires-clause-event g c = drop_event c.args.cvd (omega arith)

pub returns-clause-stops : goal.returns-clause-stops
returns-clause-stops g c w is fits = c.add_bare.ensures.stops w (Drop c.args.cvd) is (record { fits = fits; says = refl })

pub returns-clause-done : goal.returns-clause-done
returns-clause-done g c w is fits = c.add_bare.ensures.done w (Drop c.args.cvd) is (record { fits = fits; says = refl })
