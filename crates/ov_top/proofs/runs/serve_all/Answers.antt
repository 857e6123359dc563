use Rattle.std.proofs.Common.{◌≡◌, ◌∙◌, Bool, ℕ, List, [], true, false, refl, sym, ap, subst, arith}
use Rattle.std.specs.Prelude.{Err, IfErr, IsTrue, Ok, Result}
use Rattle.ov_model.specs.Forms.{all_forms}
use Rattle.ov_host.specs.Host.{Rose}
use Rattle.law_runs.specs.Serving.{Serves, session_of}
use Rattle.ov_model.specs.Line.{Line}
use Rattle.ov_model.specs.Words.{lines_of}
use Rattle.ov_session.specs.Acting.{user_after}
use Rattle.ov_session.specs.Commands.{is_refusal_of}
use Rattle.ov_value.specs.Naming.{is_name}
use Rattle.ov_script.specs.Reader.{Taken, ended_lines, left_of, taken_of}
use Rattle.ov_top.specs.Errors.{by_reading, by_serving}
use Rattle.ov_top.specs.Running.{AllServed, IsRunDamage, IsUnharmed, user_of_run}
use Rattle.ov_top.specs.declared.errors.RunErr.{RunErr}
use Rattle.ov_top.specs.declared.errors.RunErr.TheVariants as running
use Rattle.ov_top.proofs.Lined.{Gone, admin_is_name, ends_reading, ends_serving, err_is, given_true, gone_acts, gone_all, gone_ends, gone_more, gone_start, no_lines, nothing_left, read_whole, runs_start, not_seen, rose_in_all, serves_as, spent_by}
use Rattle.ov_script.proofs.Readers.{next_lines}
use Rattle.ov_session.specs.declared.errors.EndErr.TheVariants as ending
use Rattle.ov_top.proofs.Reading.{Fetches, asked_among, err_end, fetches_all, fetches_ends, fetches_more, fetches_start, line_kept, acting_more, none_then, reading_harmless, reply_among, run_damage, unharmed, unharmed_reading}
use Rattle.ov_top.proofs.runs.serve_all.Goals as goal

pub returns-in_err-user-clause-served : goal.returns-in_err-user-clause-served
returns-in_err-user-clause-served g c = λ w script stage at.
    let s = session_of (g.T.Stage.staged c.args.stage.now).files user_of_run
    in let source = g.S.Source.script c.args.source.now
    in let faults = (g.T.Stage.staged c.args.stage.now).faults
    in let is : c.from_residual.result ≡ Err running.Memory = err_is c.from_residual.result running.Memory c.from_residual.ensures.0 c.from_residual.ensures.1
    in subst (λ (r : Result Bool RunErr). AllServed c.args.steps w s (g.T.Stage.staged c.args.stage.now).files (lines_of source.left) (ended_lines (taken_of source source)) (Rose faults faults → ⊥) r c.args.store.held
    (g.H.Host.state c.args.host.now) (g.H.Host.state c.args.host.now)) (sym is)
    (runs_start c.args.steps w s source.left c.args.store.held (g.H.Host.state c.args.host.now) at)

pub returns-in_err-reader-clause-served : goal.returns-in_err-reader-clause-served
returns-in_err-reader-clause-served g c = λ w script stage at.
    let s = session_of (g.T.Stage.staged c.args.stage.now).files user_of_run
    in let source = g.S.Source.script c.args.source.now
    in let faults = (g.T.Stage.staged c.args.stage.now).faults
    in let is : c.from_residual-in_err-reader.result ≡ Err running.Memory = err_is c.from_residual-in_err-reader.result running.Memory c.from_residual-in_err-reader.ensures.0 c.from_residual-in_err-reader.ensures.1
    in subst (λ (r : Result Bool RunErr). AllServed c.args.steps w s (g.T.Stage.staged c.args.stage.now).files (lines_of source.left) (ended_lines (taken_of source source)) (Rose faults faults → ⊥) r c.args.store.held
    (g.H.Host.state c.args.host.now) (g.H.Host.state c.args.host.now)) (sym is)
    (runs_start c.args.steps w s source.left c.args.store.held (g.H.Host.state c.args.host.now) at)

pub lines-init : goal.lines-init
lines-init g c = record {
  goes = record { told = refl; kept = refl; faults = omega arith; fetched = omega arith };
  attended = record { told = refl; faults = omega arith; misses = omega arith };
  told = refl;
  faults = omega arith;
  counted = λ told. let none = ap (λ (r : Taken). r.count) c.in_ok-reader.ensures in omega (arith, none);
  call = c.requires.call;
  named = subst (λ (u : List ℕ). IsTrue (is_name u)) (sym c.in_ok-user.ensures) admin_is_name;
  so_far = λ w script stage at.
      let s = session_of (g.T.Stage.staged c.args.stage.now).files user_of_run
      in subst (λ (u : List ℕ). Gone c.args.steps w s (session_of (g.T.Stage.staged c.args.stage.now).files u) (g.S.Source.script c.args.source.now).left
      (left_of c.in_ok-reader.reader (g.S.Source.script c.args.source.now)) c.in_ok-reader.reader.ended false
      c.args.store.held c.args.store.held (g.H.Host.state c.args.host.now) (g.H.Host.state c.args.host.now)) (sym c.in_ok-user.ensures)
      (subst (λ (r : Taken). Gone c.args.steps w s s (g.S.Source.script c.args.source.now).left (left_of r (g.S.Source.script c.args.source.now)) r.ended false
      c.args.store.held c.args.store.held (g.H.Host.state c.args.host.now) (g.H.Host.state c.args.host.now)) (sym c.in_ok-reader.ensures)
      (gone_start c.args.steps w s (g.S.Source.script c.args.source.now).left c.args.store.held (g.H.Host.state c.args.host.now) at));
  acting = record {
    gone = [];
    acts = c.in_ok-user.ensures;
    whole = λ told. ap (λ (r : Taken). lines_of (left_of r (g.S.Source.script c.args.source.now))) (sym c.in_ok-reader.ensures);
  };
  by_journal = λ by. by;
  at = λ w at. (w, at);
  fetched = λ none told are.
      subst (λ (r : Taken). Fetches c.args.store.held c.args.store.held (lines_of (g.S.Source.script c.args.source.now).left)
      (lines_of (left_of r (g.S.Source.script c.args.source.now))) c.in_ok-user.user (g.H.Host.state c.args.host.now) (g.H.Host.state c.args.host.now)) (sym c.in_ok-reader.ensures)
      (fetches_start c.args.store.held (lines_of (g.S.Source.script c.args.source.now).left) c.in_ok-user.user (g.H.Host.state c.args.host.now) c.in_ok-user.ensures are);
  at_end = λ told seen. let open_ = ap (λ (r : Taken). r.ended) c.in_ok-reader.ensures in absurd (not_seen _ seen open_);
}

pub returns-in_err-next_line-clause-served : goal.returns-in_err-next_line-clause-served
returns-in_err-next_line-clause-served g c = λ w script stage at.
    let s = session_of (g.T.Stage.staged c.args.stage.now).files user_of_run
    in let t = session_of (g.T.Stage.staged c.lines.stage).files c.lines.user
    in let first = g.S.Source.script c.args.source.now
    in let last = g.S.Source.script c.next_line.new.source
    in let still = Rose (g.T.Stage.staged c.args.stage.now).faults (g.T.Stage.staged c.lines.stage).faults → ⊥
    in let e = c.in_err-next_line.field-0.0
    in let is : c.from_residual-in_err-next_line.result ≡ Err (by_reading e)
    = err_is c.from_residual-in_err-next_line.result (by_reading e) c.from_residual-in_err-next_line.ensures.0 c.from_residual-in_err-next_line.ensures.1
    in subst (λ (r : Result Bool RunErr). AllServed c.args.steps w s (g.T.Stage.staged c.lines.stage).files (lines_of first.left) (ended_lines (taken_of first last)) still r c.args.store.held
    (g.H.Host.state c.args.host.now) (g.H.Host.state c.lines.host)) (sym is)
    (ends_reading c.args.steps w s (g.T.Stage.staged c.lines.stage).files c.lines.user e c.lines.reader (left_of c.lines.reader (g.S.Source.script c.lines.source)) c.lines.failed c.args.store.held c.lines.store.held
    (g.H.Host.state c.args.host.now) (g.H.Host.state c.lines.host) first last still (c.lines.invariant.so_far w script stage at)
    (c.in_err-next_line.ensures.cut_off (c.lines.invariant.told ∙ script)))

pub serve-requires-clause-user : goal.serve-requires-clause-user
serve-requires-clause-user g c = c.lines.invariant.named

pub returns-in_err-served-clause-served : goal.returns-in_err-served-clause-served
returns-in_err-served-clause-served g c = λ w script stage at.
    let s = session_of (g.T.Stage.staged c.args.stage.now).files user_of_run
    in let t = session_of (g.T.Stage.staged c.lines.stage).files c.lines.user
    in let u = session_of (g.T.Stage.staged c.serve.new.stage).files c.serve.new.user
    in let first = g.S.Source.script c.args.source.now
    in let last = g.S.Source.script c.next_line.new.source
    in let left = left_of c.lines.reader (g.S.Source.script c.lines.source)
    in let later = left_of c.next_line.new.self last
    in let still = Rose (g.T.Stage.staged c.args.stage.now).faults (g.T.Stage.staged c.serve.new.stage).faults → ⊥
    in let e = c.in_err-served.field-0.0
    in let gone = c.lines.invariant.so_far w script stage at
    in let given = given_true _ _ _ _ _ c.if-branch.true (c.in_ok-next_line.ensures.given (c.lines.invariant.told ∙ script) (c.lines.invariant.at_end script))
    in let serves : Serves all_forms c.args.steps gone.so.world t u given.0 false false c.lines.store.held c.serve.new.store.held (g.H.Host.state c.lines.host) (g.H.Host.state c.serve.new.host)
    = serves_as c.args.steps gone.so.world t u
    c.as_slice.result.now c.next_line.new.line.items given.0 false false c.lines.store.held c.serve.new.store.held (g.H.Host.state c.lines.host) (g.H.Host.state c.serve.new.host)
    c.as_slice.ensures.value given.2
    (c.in_err-served.ensures.serves gone.so.world (c.lines.invariant.attended.told ∙ stage) gone.so.at)
    in let is : c.from_residual-in_err-served.result ≡ Err (by_serving e)
    = err_is c.from_residual-in_err-served.result (by_serving e) c.from_residual-in_err-served.ensures.0 c.from_residual-in_err-served.ensures.1
    in subst (λ (r : Result Bool RunErr). AllServed c.args.steps w s (g.T.Stage.staged c.serve.new.stage).files (lines_of first.left) (ended_lines (taken_of first last)) still r c.args.store.held
    (g.H.Host.state c.args.host.now) (g.H.Host.state c.serve.new.host)) (sym is)
    (ends_serving c.args.steps w s (g.T.Stage.staged c.serve.new.stage).files (lines_of first.left) (ended_lines (taken_of first last)) still e c.args.store.held (g.H.Host.state c.args.host.now) (g.H.Host.state c.serve.new.host)
    (c.in_err-served.ensures.undamaged gone.so.world gone.so.at)
    (λ stage_is same. same (rose_in_all _ _ _ c.lines.invariant.attended.faults (c.in_err-served.ensures.stage (ap Err stage_is))))
    (gone_ends c.args.steps w s t u first.left left later given.0 c.lines.reader.ended c.next_line.new.self.ended c.lines.failed false c.args.store.held c.lines.store.held
    c.serve.new.store.held (g.H.Host.state c.args.host.now) (g.H.Host.state c.lines.host) (g.H.Host.state c.serve.new.host) gone given.1 serves))

pub returns-in_err-served-clause-goes : goal.returns-in_err-served-clause-goes
returns-in_err-served-clause-goes g c =
    let inv = c.lines.invariant
    in record {
      told = c.serve.ensures.goes.told ∙ inv.goes.told;
      kept = c.serve.ensures.goes.kept ∙ inv.goes.kept;
      faults = omega (arith, c.serve.ensures.goes.faults, inv.goes.faults);
      fetched = omega (arith, c.serve.ensures.goes.fetched, inv.goes.fetched);
    }

pub lines-preserved : goal.lines-preserved
lines-preserved g c =
    let inv = c.lines.invariant
    in let took = c.next_line.ensures.took
    in record {
      goes = record {
        told = c.serve.ensures.goes.told ∙ inv.goes.told;
        kept = c.serve.ensures.goes.kept ∙ inv.goes.kept;
        faults = omega (arith, c.serve.ensures.goes.faults, inv.goes.faults);
        fetched = omega (arith, c.serve.ensures.goes.fetched, inv.goes.fetched);
      };
      attended = record {
        told = c.serve.ensures.attended.told ∙ inv.attended.told;
        faults = omega (arith, c.serve.ensures.attended.faults, inv.attended.faults);
        misses = omega (arith, c.serve.ensures.attended.misses, inv.attended.misses);
      };
      told = took.told ∙ inv.told;
      faults = omega (arith, took.faults, inv.faults);
      counted = λ told.
          let before = inv.counted told
          in let after = took.counted (inv.told ∙ told)
          in omega (arith, before, after);
      call = c.in_ok-served.ensures.usable;
      named = c.serve.ensures.named;
      so_far = λ w script stage at.
          let s = session_of (g.T.Stage.staged c.args.stage.now).files user_of_run
          in let t = session_of (g.T.Stage.staged c.lines.stage).files c.lines.user
          in let u = session_of (g.T.Stage.staged c.serve.new.stage).files c.serve.new.user
          in let all = (g.S.Source.script c.args.source.now).left
          in let left = left_of c.lines.reader (g.S.Source.script c.lines.source)
          in let later = left_of c.next_line.new.self (g.S.Source.script c.next_line.new.source)
          in let gone = inv.so_far w script stage at
          in let given = given_true _ _ _ _ _ c.if-branch.true (c.in_ok-next_line.ensures.given (inv.told ∙ script) (inv.at_end script))
          in let serves : Serves all_forms c.args.steps gone.so.world t u given.0 true (is_refusal_of c.in_ok-served.served) c.lines.store.held c.serve.new.store.held (g.H.Host.state c.lines.host) (g.H.Host.state c.serve.new.host)
          = serves_as c.args.steps gone.so.world t u
          c.as_slice.result.now c.next_line.new.line.items given.0 true (is_refusal_of c.in_ok-served.served) c.lines.store.held c.serve.new.store.held
          (g.H.Host.state c.lines.host) (g.H.Host.state c.serve.new.host) c.as_slice.ensures.value given.2
          (c.in_ok-served.ensures.serves gone.so.world (inv.attended.told ∙ stage) gone.so.at)
          in subst (λ (f : Bool). Gone c.args.steps w s u all later c.next_line.new.self.ended f c.args.store.held c.serve.new.store.held
          (g.H.Host.state c.args.host.now) (g.H.Host.state c.serve.new.host)) (sym c.or_refused-failed.ensures)
          (gone_more c.args.steps w s t u all left later given.0 c.lines.reader.ended c.next_line.new.self.ended c.lines.failed (is_refusal_of c.in_ok-served.served)
          c.args.store.held c.lines.store.held c.serve.new.store.held (g.H.Host.state c.args.host.now) (g.H.Host.state c.lines.host) (g.H.Host.state c.serve.new.host)
          c.in_ok-served.served gone (c.in_ok-next_line.ensures.stays) given.1
          (c.in_ok-served.ensures.user ∙ ap (λ (l : Line). user_after l c.in_ok-served.served c.lines.user) (line_kept c.lines.user c.as_slice.result.now c.next_line.new.line.items given.0 c.as_slice.ensures.value given.2)) serves);
      acting = acting_more (g.S.Source.script c.args.source.now).tells c.next_line.new.self.ended (g.S.Source.script c.args.source.now).left
          (left_of c.lines.reader (g.S.Source.script c.lines.source)) (left_of c.next_line.new.self (g.S.Source.script c.next_line.new.source))
          c.as_slice.result.now c.next_line.new.line.items c.lines.user c.serve.new.user c.in_ok-served.served inv.acting c.as_slice.ensures.value
          (λ told. given_true _ _ _ _ _ c.if-branch.true (c.in_ok-next_line.ensures.given (inv.told ∙ told) (inv.at_end told)))
          c.in_ok-served.ensures.user;
      by_journal = λ by tells.
          let tells_old : (g.H.Host.state c.lines.host).tells ≡ true = sym c.serve.ensures.goes.told ∙ tells
          in c.in_ok-served.ensures.by_journal (inv.by_journal by tells_old) (λ is. cc);
      at = λ w at. let so = inv.at w at in c.in_ok-served.ensures.at so.0 so.1;
      fetched = λ none told are.
          let left = left_of c.lines.reader (g.S.Source.script c.lines.source)
          in let later = left_of c.next_line.new.self (g.S.Source.script c.next_line.new.source)
          in let given = given_true _ _ _ _ _ c.if-branch.true (c.in_ok-next_line.ensures.given (inv.told ∙ told) (inv.at_end told))
          in fetches_more c.args.store.held c.lines.store.held (lines_of (g.S.Source.script c.args.source.now).left) (lines_of left) (lines_of later)
          c.lines.user c.as_slice.result.now given.0 (g.H.Host.state c.args.host.now) (g.H.Host.state c.lines.host) (g.H.Host.state c.serve.new.host) (inv.fetched none told are)
          (next_lines c.next_line.new.self.ended given.0 left later given.1)
          (line_kept c.lines.user c.as_slice.result.now c.next_line.new.line.items given.0 c.as_slice.ensures.value given.2)
          c.serve.new.store.held _ (c.serve.ensures.fetched (none_then c.args.steps c.args.store.held c.lines.store.held (lines_of (g.S.Source.script c.args.source.now).left) (lines_of left) (lines_of later)
          c.lines.user c.as_slice.result.now given.0 (g.H.Host.state c.args.host.now) (g.H.Host.state c.lines.host) (inv.fetched none told are) (next_lines c.next_line.new.self.ended given.0 left later given.1)
          (line_kept c.lines.user c.as_slice.result.now c.next_line.new.line.items given.0 c.as_slice.ensures.value given.2) none))
          c.in_ok-served.served c.serve.new.user c.in_ok-served.ensures.user
          (c.serve.ensures.still (none_then c.args.steps c.args.store.held c.lines.store.held (lines_of (g.S.Source.script c.args.source.now).left) (lines_of left) (lines_of later)
          c.lines.user c.as_slice.result.now given.0 (g.H.Host.state c.args.host.now) (g.H.Host.state c.lines.host) (inv.fetched none told are) (next_lines c.next_line.new.self.ended given.0 left later given.1)
          (line_kept c.lines.user c.as_slice.result.now c.next_line.new.line.items given.0 c.as_slice.ensures.value given.2) none));
      at_end = λ told. c.in_ok-next_line.ensures.at_end (inv.told ∙ told) (inv.at_end told);
    }

pub returns-clause-ended : goal.returns-clause-ended
returns-clause-ended g c = λ told ok.
    let none = nothing_left _ _ _ c.next_line.new.self.unread _ _ c.if-branch.false (c.in_ok-next_line.ensures.given (c.lines.invariant.told ∙ told) (c.lines.invariant.at_end told))
    in read_whole (g.S.Source.script c.args.source.now) (g.S.Source.script c.lines.source) (g.S.Source.script c.next_line.new.source) c.lines.reader c.next_line.new.self
    (c.lines.invariant.counted told) (c.next_line.ensures.took.counted (c.lines.invariant.told ∙ told))
    (c.next_line.ensures.below (c.in_ok-next_line.ensures.seen (ap Ok c.if-branch.false))) none

pub returns-in_err-next_line-clause-spent : goal.returns-in_err-next_line-clause-spent
returns-in_err-next_line-clause-spent g c =
    spent_by (g.S.Source.script c.args.source.now) (g.S.Source.script c.lines.source) (g.S.Source.script c.next_line.new.source) c.lines.reader c.next_line.new.self
    c.lines.invariant.told c.lines.invariant.faults c.lines.invariant.counted c.next_line.ensures.took c.next_line.ensures.bounded

pub returns-in_err-served-clause-spent : goal.returns-in_err-served-clause-spent
returns-in_err-served-clause-spent g c =
    spent_by (g.S.Source.script c.args.source.now) (g.S.Source.script c.lines.source) (g.S.Source.script c.next_line.new.source) c.lines.reader c.next_line.new.self
    c.lines.invariant.told c.lines.invariant.faults c.lines.invariant.counted c.next_line.ensures.took c.next_line.ensures.bounded

pub returns-in_err-served-clause-attended : goal.returns-in_err-served-clause-attended
returns-in_err-served-clause-attended g c = record {
  told = c.serve.ensures.attended.told ∙ c.lines.invariant.attended.told;
  faults = omega (arith, c.serve.ensures.attended.faults, c.lines.invariant.attended.faults);
  misses = omega (arith, c.serve.ensures.attended.misses, c.lines.invariant.attended.misses);
}

pub returns-clause-spent : goal.returns-clause-spent
returns-clause-spent g c =
    spent_by (g.S.Source.script c.args.source.now) (g.S.Source.script c.lines.source) (g.S.Source.script c.next_line.new.source) c.lines.reader c.next_line.new.self
    c.lines.invariant.told c.lines.invariant.faults c.lines.invariant.counted c.next_line.ensures.took c.next_line.ensures.bounded

pub returns-clause-served : goal.returns-clause-served
returns-clause-served g c = λ w script stage at.
    let s = session_of (g.T.Stage.staged c.args.stage.now).files user_of_run
    in let t = session_of (g.T.Stage.staged c.lines.stage).files c.lines.user
    in let none = no_lines _ _ _ _ _ c.if-branch.false (c.in_ok-next_line.ensures.given (c.lines.invariant.told ∙ script) (c.lines.invariant.at_end script))
    in (
      c.lines.store.held,
      c.lines.user,
      gone_acts c.args.steps w s t (g.S.Source.script c.args.source.now).left (left_of c.lines.reader (g.S.Source.script c.lines.source)) c.lines.reader.ended c.lines.failed
          c.args.store.held c.lines.store.held (g.H.Host.state c.args.host.now) (g.H.Host.state c.lines.host) (c.lines.invariant.so_far w script stage at) none,
      gone_all c.args.steps w s t (g.S.Source.script c.args.source.now).left (left_of c.lines.reader (g.S.Source.script c.lines.source)) c.lines.reader.ended c.lines.failed
          c.args.store.held c.lines.store.held (g.H.Host.state c.args.host.now) (g.H.Host.state c.lines.host) (c.lines.invariant.so_far w script stage at) none,
    )

pub returns-in_err-next_line-clause-damaged : goal.returns-in_err-next_line-clause-damaged
returns-in_err-next_line-clause-damaged g c = λ by.
    let e = c.in_err-next_line.field-0.0
    in let is : c.from_residual-in_err-next_line.result ≡ Err (by_reading e)
    = err_is c.from_residual-in_err-next_line.result (by_reading e) c.from_residual-in_err-next_line.ensures.0 c.from_residual-in_err-next_line.ensures.1
    in subst (λ (r : Result Bool RunErr). IfErr r (IsRunDamage c.args.steps (g.S.Source.script c.args.source.now) (g.T.Stage.staged c.lines.stage) (g.H.Host.state c.lines.host))) (sym is)
    (reading_harmless c.args.steps e (g.S.Source.script c.args.source.now) (g.T.Stage.staged c.lines.stage) (g.H.Host.state c.lines.host))

pub returns-in_err-next_line-clause-undamaged : goal.returns-in_err-next_line-clause-undamaged
returns-in_err-next_line-clause-undamaged g c = λ w at.
    let e = c.in_err-next_line.field-0.0
    in let is : c.from_residual-in_err-next_line.result ≡ Err (by_reading e)
    = err_is c.from_residual-in_err-next_line.result (by_reading e) c.from_residual-in_err-next_line.ensures.0 c.from_residual-in_err-next_line.ensures.1
    in subst (λ (r : Result Bool RunErr). IfErr r IsUnharmed) (sym is) (unharmed_reading e)

pub returns-in_err-next_line-clause-fetched : goal.returns-in_err-next_line-clause-fetched
returns-in_err-next_line-clause-fetched g c = λ none told are.
    fetches_all c.args.store.held c.lines.store.held (lines_of (g.S.Source.script c.args.source.now).left)
    (lines_of (left_of c.lines.reader (g.S.Source.script c.lines.source))) c.lines.user (g.H.Host.state c.args.host.now) (g.H.Host.state c.lines.host) (c.lines.invariant.fetched none told are)

pub returns-clause-fetched : goal.returns-clause-fetched
returns-clause-fetched g c = λ none told are.
    fetches_all c.args.store.held c.lines.store.held (lines_of (g.S.Source.script c.args.source.now).left)
    (lines_of (left_of c.lines.reader (g.S.Source.script c.lines.source))) c.lines.user (g.H.Host.state c.args.host.now) (g.H.Host.state c.lines.host) (c.lines.invariant.fetched none told are)

pub returns-in_err-served-clause-damaged : goal.returns-in_err-served-clause-damaged
returns-in_err-served-clause-damaged g c = λ by.
    let first = g.S.Source.script c.args.source.now
    in let left = left_of c.lines.reader (g.S.Source.script c.lines.source)
    in let later = left_of c.next_line.new.self (g.S.Source.script c.next_line.new.source)
    in let stage = g.T.Stage.staged c.lines.stage
    in let staged = g.T.Stage.staged c.serve.new.stage
    in let host = g.H.Host.state c.serve.new.host
    in let e = c.in_err-served.field-0.0
    in let is : c.from_residual-in_err-served.result ≡ Err (by_serving e)
    = err_is c.from_residual-in_err-served.result (by_serving e) c.from_residual-in_err-served.ensures.0 c.from_residual-in_err-served.ensures.1
    in subst (λ (r : Result Bool RunErr). IfErr r (IsRunDamage c.args.steps first staged host)) (sym is)
    (run_damage c.lines.user c.as_slice.result.now c.lines.store c.serve.new.store first stage staged (g.H.Host.state c.lines.host) host c.serve.ensures.attended.told
    c.lines.invariant.acting.gone c.lines.invariant.acting.acts
    (λ command asks_ told.
    let given = given_true _ _ _ _ _ c.if-branch.true (c.in_ok-next_line.ensures.given (c.lines.invariant.told ∙ told) (c.lines.invariant.at_end told))
    in asked_among c.next_line.new.self.ended c.lines.user c.as_slice.result.now c.next_line.new.line.items given.0 first.left left later c.lines.invariant.acting.gone c.as_slice.ensures.value given.2
    (c.lines.invariant.acting.whole told) given.1 command asks_)
    (λ some told.
    let given = given_true _ _ _ _ _ c.if-branch.true (c.in_ok-next_line.ensures.given (c.lines.invariant.told ∙ told) (c.lines.invariant.at_end told))
    in reply_among c.next_line.new.self.ended c.lines.user c.as_slice.result.now c.next_line.new.line.items given.0 first.left left later c.lines.invariant.acting.gone c.as_slice.ensures.value given.2
    (c.lines.invariant.acting.whole told) given.1 some)
    c.args.steps e
    (λ fine tells.
    let tells_old : (g.H.Host.state c.lines.host).tells ≡ true = sym c.serve.ensures.goes.told ∙ tells
    in c.in_err-served.ensures.by_journal (c.lines.invariant.by_journal by tells_old) (λ is. fine (err_end e ending.Host is)))
    c.in_err-served.ensures.damaged)

pub returns-in_err-served-clause-undamaged : goal.returns-in_err-served-clause-undamaged
returns-in_err-served-clause-undamaged g c = λ w at.
    let e = c.in_err-served.field-0.0
    in let so = c.lines.invariant.at w at
    in let is : c.from_residual-in_err-served.result ≡ Err (by_serving e)
    = err_is c.from_residual-in_err-served.result (by_serving e) c.from_residual-in_err-served.ensures.0 c.from_residual-in_err-served.ensures.1
    in subst (λ (r : Result Bool RunErr). IfErr r IsUnharmed) (sym is) (unharmed e (c.in_err-served.ensures.undamaged so.0 so.1))

pub returns-in_err-served-clause-fetched : goal.returns-in_err-served-clause-fetched
returns-in_err-served-clause-fetched g c = λ none told are.
    let left = left_of c.lines.reader (g.S.Source.script c.lines.source)
    in let later = left_of c.next_line.new.self (g.S.Source.script c.next_line.new.source)
    in let given = given_true _ _ _ _ _ c.if-branch.true (c.in_ok-next_line.ensures.given (c.lines.invariant.told ∙ told) (c.lines.invariant.at_end told))
    in fetches_ends c.args.store.held c.lines.store.held (lines_of (g.S.Source.script c.args.source.now).left) (lines_of left) (lines_of later)
    c.lines.user c.as_slice.result.now given.0 (g.H.Host.state c.args.host.now) (g.H.Host.state c.lines.host) (g.H.Host.state c.serve.new.host) (c.lines.invariant.fetched none told are)
    (next_lines c.next_line.new.self.ended given.0 left later given.1)
    (line_kept c.lines.user c.as_slice.result.now c.next_line.new.line.items given.0 c.as_slice.ensures.value given.2)
    c.serve.new.store.held _ (c.serve.ensures.fetched (none_then c.args.steps c.args.store.held c.lines.store.held (lines_of (g.S.Source.script c.args.source.now).left) (lines_of left) (lines_of later)
    c.lines.user c.as_slice.result.now given.0 (g.H.Host.state c.args.host.now) (g.H.Host.state c.lines.host) (c.lines.invariant.fetched none told are) (next_lines c.next_line.new.self.ended given.0 left later given.1)
    (line_kept c.lines.user c.as_slice.result.now c.next_line.new.line.items given.0 c.as_slice.ensures.value given.2) none))
