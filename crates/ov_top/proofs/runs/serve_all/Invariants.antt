use Rattle.std.proofs.Common.{◌≡◌, ◌≤◌, ◌+◌, true, length}
use Rattle.std.specs.Prelude.{IsTrue}
use Rattle.ov_core.specs.AtWorld.{IsAtWorld}
use Rattle.law_runs.specs.Serving.{session_of}
use Rattle.ov_core.specs.Held.{IsByJournal}
use Rattle.ov_model.specs.Words.{lines_of}
use Rattle.ov_model.specs.World.{World}
use Rattle.ov_session.specs.Commands.{Attended, Goes}
use Rattle.ov_session.specs.Standing.{IsAtSome}
use Rattle.ov_session.specs.Stepping.{TakesNoStep}
use Rattle.ov_store.specs.Kept.{MayCall}
use Rattle.ov_value.specs.Naming.{is_name}
use Rattle.ov_script.specs.Reader.{IsAtEnd, left_of, room_of}
use Rattle.ov_top.specs.Running.{AreReading, user_of_run}
use Rattle.ov_top.proofs.Lined.{Gone}
use Rattle.ov_top.proofs.Reading.{Acting, Fetches}
use Rattle.ov_top.proofs.runs.serve_all.Given as goal

abbrev pub invariant-lines : goal.invariant-lines
invariant-lines g l =
    let state = g.H.Host.state
    in let script = g.S.Source.script
    in let staged = g.T.Stage.staged
    in record {
      goes : Goes (state l.fn.host) (state l.host);
      attended : Attended (staged l.fn.stage) (staged l.stage);
      told : (script l.source).tells ≡ (script l.fn.source).tells;
      faults : (script l.fn.source).faults ≤ (script l.source).faults;
      counted : (script l.fn.source).tells ≡ true → length (script l.fn.source).left ≡ length (script l.source).left + l.reader.count;
      call : MayCall l.store (state l.host);
      named : IsTrue (is_name l.user);
      so_far : (w : World) → (script l.fn.source).tells ≡ true → (staged l.fn.stage).tells ≡ true → IsAtWorld w l.fn.store.held (state l.fn.host)
          → Gone l.fn.steps w (session_of (staged l.fn.stage).files user_of_run) (session_of (staged l.stage).files l.user)
          (script l.fn.source).left (left_of l.reader (script l.source)) l.reader.ended l.failed l.fn.store.held l.store.held (state l.fn.host) (state l.host);
      acting : Acting (script l.fn.source).tells (script l.fn.source).left (left_of l.reader (script l.source)) l.user;
      by_journal : ((state l.fn.host).tells ≡ true → IsByJournal l.fn.store.held (state l.fn.host)) → (state l.host).tells ≡ true
          → IsByJournal l.store.held (state l.host);
      at : (w : World) → IsAtWorld w l.fn.store.held (state l.fn.host) → IsAtSome l.store.held (state l.host);
      fetched : TakesNoStep l.fn.steps l.fn.store.held.numbers → (script l.fn.source).tells ≡ true → AreReading user_of_run (lines_of (script l.fn.source).left)
          → Fetches l.fn.store.held l.store.held (lines_of (script l.fn.source).left) (lines_of (left_of l.reader (script l.source)))
          l.user (state l.fn.host) (state l.host);
      at_end : (script l.fn.source).tells ≡ true → IsAtEnd l.reader (script l.source);
    }

abbrev pub decreases-lines : goal.decreases-lines
decreases-lines g l = room_of l.reader
