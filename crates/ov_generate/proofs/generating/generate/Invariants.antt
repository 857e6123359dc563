use Rattle.std.proofs.Common.{◌≡◌, ◌≤◌, ◌-◌, ◌*◌, ◌^◌, codes}
use Rattle.std.specs.Prelude.{None, min}
use Rattle.ov_core.specs.AtWorld.{IsAtWorld}
use Rattle.ov_core.specs.Held.{IsByJournal}
use Rattle.ov_model.specs.Act.{Session, init_refusal}
use Rattle.ov_model.specs.World.{World}
use Rattle.ov_store.specs.Kept.{MayCall}
use Rattle.ov_generate.specs.Making.{IsKnown}
use Rattle.ov_generate.specs.Reads.{state_behind}
use Rattle.ov_generate.proofs.Fetching.{IsFetching}
use Rattle.ov_generate.proofs.Whole.{IsGrowing}
use Rattle.ov_generate.proofs.generating.generate.Given as goal

abbrev pub invariant-loop-before : goal.invariant-loop-before
invariant-loop-before g l =
    let state = g.H.Host.state
    in record {
      told : (state l.host).tells ≡ (state l.fn.host).tells;
      kept : (state l.host).keeps ≡ (state l.fn.host).keeps;
      faults : (state l.fn.host).faults ≤ (state l.host).faults;
      counted : min (state l.fn.host).fetched (2 ^ 64 - 1) ≤ (state l.host).fetched;
      call : MayCall l.store (state l.host);
      known : IsKnown l.store.held.numbers l.cvd;
      source : l.source.rows ≡ l.count;
      drawn : l.source.state ≡ state_behind l.fn.wanted.seed l.count (l.before - 1);
      message : l.message ≡ codes "gen";
      within : l.before ≤ l.fn.wanted.versions;
      fetching : IsFetching l.cvd l.fn.wanted.seed l.count l.fn.store.held (state l.fn.host) l.before l.store.held (state l.host);
      few : l.members ≤ 4294967295 * l.before;
      by_journal : IsByJournal l.fn.store.held (state l.fn.host) → IsByJournal l.store.held (state l.host);
      growing : (w : World) (s : Session) → IsAtWorld w l.fn.store.held (state l.fn.host) → init_refusal w l.cvd ≡ None
          → IsGrowing w s l.cvd l.fn.wanted.seed l.count l.fn.wanted.versions (l.fn.wanted.versions - l.before) l.source.state l.members
          l.fn.store.held l.store.held (state l.fn.host) (state l.host);
    }
