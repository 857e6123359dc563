use Rattle.std.proofs.Common.{◌≡◌, ◌-◌}
use Rattle.std.specs.Prelude.{◌≤◌}
use Rattle.ov_core.specs.AtWorld.{IsAtWorld}
use Rattle.ov_core.specs.Held.{IsByJournal}
use Rattle.law_runs.specs.Stepping.{IsStepping}
use Rattle.ov_model.specs.World.{World}
use Rattle.ov_store.specs.Kept.{MayCall}
use Rattle.ov_session.specs.Commands.{Goes}
use Rattle.ov_session.specs.Stepping.{TakesNoStep}
use Rattle.ov_session.proofs.stepping.run_steps.Given as goal

abbrev pub invariant-loop-taken : goal.invariant-loop-taken
invariant-loop-taken g l =
    let state = g.H.Host.state
    in record {
      few : l.taken ≤ l.fn.count;
      goes : Goes (state l.fn.host) (state l.host);
      call : MayCall l.store (state l.host);
      by_journal : IsByJournal l.fn.store.held (state l.fn.host) → IsByJournal l.store.held (state l.host);
      none : TakesNoStep l.fn.count l.fn.store.held.numbers → (l.taken ≡ 0) × (l.store ≡ l.fn.store) × (state l.host ≡ state l.fn.host);
      stepping : (w : World) → IsAtWorld w l.fn.store.held (state l.fn.host)
          → (v : World) × IsStepping l.fn.count (l.fn.count - l.taken) w v l.fn.store.held l.store.held (state l.fn.host) (state l.host);
    }

abbrev pub decreases-loop-taken : goal.decreases-loop-taken
decreases-loop-taken g l = l.fn.count - l.taken
