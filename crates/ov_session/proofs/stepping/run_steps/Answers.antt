use Rattle.std.proofs.Common.{◌∙◌, ◌+◌, ◌-◌, ℕ, suc, refl, sym, ap, subst, arith}
use Rattle.std.specs.Prelude.{Err, IfErr, Ok, Result}
use Rattle.law_runs.specs.Stepping.{IsStepping}
use Rattle.ov_session.proofs.Taking.{counted_down, end_is, err_is, lacks_other, never_idle, never_other, no_turn, none_taken, ok_turn, stepping_start, steps_all, steps_break, steps_end, steps_lack, steps_more, taken_other}
use Rattle.ov_session.specs.Commands.{IsNoDamage}
use Rattle.ov_session.specs.Stepping.{IsRan, IsStep}
use Rattle.ov_session.specs.declared.errors.EndErr.{EndErr}
use Rattle.ov_session.specs.declared.errors.EndErr.TheVariants as ending
use Rattle.ov_session.specs.declared.stepping.Ran.{Ran}
use Rattle.ov_session.specs.declared.stepping.Turn.{Turn}
use Rattle.ov_session.specs.declared.stepping.Turn.TheVariants as turn
use Rattle.ov_store.specs.Kept.{Kept}
use Rattle.ov_session.proofs.stepping.run_steps.Goals as goal

pub loop-taken-init : goal.loop-taken-init
loop-taken-init g c = record {
  few = omega arith;
  goes = record { told = refl; kept = refl; faults = omega arith; fetched = omega arith };
  call = c.requires.call;
  by_journal = λ by. by;
  none = λ none. (refl, refl, refl);
  stepping = λ w at. (w, stepping_start c.args.count w c.args.store.now.held (g.H.Host.state c.args.host.now) at);
}

pub loop-taken-preserved : goal.loop-taken-preserved
loop-taken-preserved g c =
    let inv = c.loop-taken.invariant
    in let call = c.take_step.ensures
    in let state = g.H.Host.state
    in let low = c.loop-taken-test.true
    in let left = c.args.count - (c.loop-taken.taken + 1)
    in record {
      few = omega (arith, low);
      goes = record {
        told = call.goes.told ∙ inv.goes.told;
        kept = call.goes.kept ∙ inv.goes.kept;
        faults = omega (arith, call.goes.faults, inv.goes.faults);
        fetched = omega (arith, call.goes.fetched, inv.goes.fetched);
      };
      call = c.in_ok-take_step.ensures.usable;
      by_journal = λ by. c.in_ok-take_step.ensures.by_journal (inv.by_journal by) (λ e. cc);
      none = λ none. absurd (never_other c.args.count c.loop-taken.taken c.args.store.now.held c.loop-taken.store.held turn.Taken taken_other low
          (ap (λ (k : Kept). k.held) (inv.none none).1)
          (λ e. ok_turn c.in_ok-take_step.field-0 turn.Taken turn.Idle c.in-Taken.is (c.in_ok-take_step.ensures.none e).0) none);
      stepping = λ w at.
          let so = inv.stepping w at
          in let before : IsStepping c.args.count (suc left) w so.0 c.args.store.now.held c.loop-taken.store.held (state c.args.host.now) (state c.loop-taken.host)
          = subst (λ (k : ℕ). IsStepping c.args.count k w so.0 c.args.store.now.held c.loop-taken.store.held (state c.args.host.now) (state c.loop-taken.host)) (counted_down c.args.count c.loop-taken.taken low) so.1
          in steps_more c.args.count left c.loop-taken.taken w so.0 c.args.store.now.held c.loop-taken.store.held c.take_step.new.store.held (state c.args.host.now) (state c.loop-taken.host) (state c.take_step.new.host) before
          (omega (arith, low))
          (subst (λ (t : Turn). IsStep so.0 (Ok t) c.loop-taken.store.held c.take_step.new.store.held (state c.loop-taken.host) (state c.take_step.new.host)) c.in-Taken.is (c.in_ok-take_step.ensures.step so.0 so.1.at));
    }

-- ---- no step was there to take

pub returns-in-Idle-clause-none : goal.returns-in-Idle-clause-none
returns-in-Idle-clause-none g c = λ none.
    let so = c.loop-taken.invariant.none none
    in let idle = never_idle c.args.count c.loop-taken.taken c.args.store.now.held c.loop-taken.store.held c.loop-taken-test.true (ap (λ (k : Kept). k.held) so.1) none
    in let still = (c.in_ok-take_step.ensures.none idle)
    in (ap (λ (n : ℕ). none_taken n) so.0, still.1 ∙ so.1, still.2 ∙ so.2)

pub returns-in-Idle-clause-by_journal : goal.returns-in-Idle-clause-by_journal
returns-in-Idle-clause-by_journal g c = λ by fine. c.in_ok-take_step.ensures.by_journal (c.loop-taken.invariant.by_journal by) (λ e. cc)

pub returns-in-Idle-clause-ran : goal.returns-in-Idle-clause-ran
returns-in-Idle-clause-ran g c = λ w at.
    let state = g.H.Host.state
    in let low = c.loop-taken-test.true
    in let left = c.args.count - (c.loop-taken.taken + 1)
    in let so = c.loop-taken.invariant.stepping w at
    in let before : IsStepping c.args.count (suc left) w so.0 c.args.store.now.held c.loop-taken.store.held (state c.args.host.now) (state c.loop-taken.host)
    = subst (λ (k : ℕ). IsStepping c.args.count k w so.0 c.args.store.now.held c.loop-taken.store.held (state c.args.host.now) (state c.loop-taken.host)) (counted_down c.args.count c.loop-taken.taken low) so.1
    in steps_end c.args.count left c.loop-taken.taken w so.0 c.args.store.now.held c.loop-taken.store.held c.take_step.new.store.held (state c.args.host.now) (state c.loop-taken.host) (state c.take_step.new.host) before
    (omega (arith, low))
    (subst (λ (t : Turn). IsStep so.0 (Ok t) c.loop-taken.store.held c.take_step.new.store.held (state c.loop-taken.host) (state c.take_step.new.host)) c.in-Idle.is (c.in_ok-take_step.ensures.step so.0 so.1.at))

-- ---- there was no room for one

pub returns-in-Lacks-clause-none : goal.returns-in-Lacks-clause-none
returns-in-Lacks-clause-none g c = λ none.
    absurd (never_other c.args.count c.loop-taken.taken c.args.store.now.held c.loop-taken.store.held (turn.Lacks c.in-Lacks.lack) (lacks_other c.in-Lacks.lack) c.loop-taken-test.true
    (ap (λ (k : Kept). k.held) (c.loop-taken.invariant.none none).1)
    (λ e. ok_turn c.in_ok-take_step.field-0 (turn.Lacks c.in-Lacks.lack) turn.Idle c.in-Lacks.is (c.in_ok-take_step.ensures.none e).0) none)

pub returns-in-Lacks-clause-by_journal : goal.returns-in-Lacks-clause-by_journal
returns-in-Lacks-clause-by_journal g c = λ by fine. c.in_ok-take_step.ensures.by_journal (c.loop-taken.invariant.by_journal by) (λ e. cc)

pub returns-in-Lacks-clause-ran : goal.returns-in-Lacks-clause-ran
returns-in-Lacks-clause-ran g c = λ w at.
    let state = g.H.Host.state
    in let low = c.loop-taken-test.true
    in let left = c.args.count - (c.loop-taken.taken + 1)
    in let so = c.loop-taken.invariant.stepping w at
    in let before : IsStepping c.args.count (suc left) w so.0 c.args.store.now.held c.loop-taken.store.held (state c.args.host.now) (state c.loop-taken.host)
    = subst (λ (k : ℕ). IsStepping c.args.count k w so.0 c.args.store.now.held c.loop-taken.store.held (state c.args.host.now) (state c.loop-taken.host)) (counted_down c.args.count c.loop-taken.taken low) so.1
    in steps_lack c.args.count left c.loop-taken.taken w so.0 c.args.store.now.held c.loop-taken.store.held c.take_step.new.store.held (state c.args.host.now) (state c.loop-taken.host) (state c.take_step.new.host) before
    (omega (arith, low)) c.in-Lacks.lack
    (subst (λ (t : Turn). IsStep so.0 (Ok t) c.loop-taken.store.held c.take_step.new.store.held (state c.loop-taken.host) (state c.take_step.new.host)) c.in-Lacks.is (c.in_ok-take_step.ensures.step so.0 so.1.at))

-- ---- all were taken

pub returns-clause-none : goal.returns-clause-none
returns-clause-none g c = λ none. let so = c.loop-taken.invariant.none none in (ap (λ (n : ℕ). none_taken n) so.0, so.1, so.2)

pub returns-clause-ran : goal.returns-clause-ran
returns-clause-ran g c = λ w at.
    let so = c.loop-taken.invariant.stepping w at
    in steps_all c.args.count (c.args.count - c.loop-taken.taken) c.loop-taken.taken w so.0 c.args.store.now.held c.loop-taken.store.held (g.H.Host.state c.args.host.now) (g.H.Host.state c.loop-taken.host)
    (omega (arith, c.loop-taken.invariant.few)) (omega (arith, c.loop-taken-test.false)) so.1

-- ---- the run ends in one

pub returns-in_err-take_step-clause-none : goal.returns-in_err-take_step-clause-none
returns-in_err-take_step-clause-none g c = λ none.
    let so = c.loop-taken.invariant.none none
    in let idle = never_idle c.args.count c.loop-taken.taken c.args.store.now.held c.loop-taken.store.held c.loop-taken-test.true (ap (λ (k : Kept). k.held) so.1) none
    in absurd (no_turn c.in_err-take_step.field-0.0 (c.in_err-take_step.ensures.none idle).0)

pub returns-in_err-take_step-clause-undamaged : goal.returns-in_err-take_step-clause-undamaged
returns-in_err-take_step-clause-undamaged g c = λ w at.
    let so = c.loop-taken.invariant.stepping w at
    in let is = err_is c.from_residual.result c.in_err-take_step.field-0.0 c.from_residual.ensures.0 c.from_residual.ensures.1
    in subst (λ (q : Result Ran EndErr). IfErr q IsNoDamage) (sym is) (c.in_err-take_step.ensures.undamaged so.0 so.1.at)

pub returns-in_err-take_step-clause-by_journal : goal.returns-in_err-take_step-clause-by_journal
returns-in_err-take_step-clause-by_journal g c = λ by fine.
    let is = err_is c.from_residual.result c.in_err-take_step.field-0.0 c.from_residual.ensures.0 c.from_residual.ensures.1
    in c.in_err-take_step.ensures.by_journal (c.loop-taken.invariant.by_journal by) (λ e. fine (is ∙ ap Err (end_is c.in_err-take_step.field-0.0 ending.Host e)))

pub returns-in_err-take_step-clause-ran : goal.returns-in_err-take_step-clause-ran
returns-in_err-take_step-clause-ran g c = λ w at.
    let state = g.H.Host.state
    in let low = c.loop-taken-test.true
    in let left = c.args.count - (c.loop-taken.taken + 1)
    in let so = c.loop-taken.invariant.stepping w at
    in let before : IsStepping c.args.count (suc left) w so.0 c.args.store.now.held c.loop-taken.store.held (state c.args.host.now) (state c.loop-taken.host)
    = subst (λ (k : ℕ). IsStepping c.args.count k w so.0 c.args.store.now.held c.loop-taken.store.held (state c.args.host.now) (state c.loop-taken.host)) (counted_down c.args.count c.loop-taken.taken low) so.1
    in let is = err_is c.from_residual.result c.in_err-take_step.field-0.0 c.from_residual.ensures.0 c.from_residual.ensures.1
    in subst (λ (q : Result Ran EndErr). IsRan c.args.count w q c.args.store.now.held c.take_step.new.store.held (state c.args.host.now) (state c.take_step.new.host)) (sym is)
    (steps_break c.args.count left c.loop-taken.taken w so.0 c.args.store.now.held c.loop-taken.store.held c.take_step.new.store.held (state c.args.host.now) (state c.loop-taken.host) (state c.take_step.new.host) before
    (omega (arith, low)) (c.in_err-take_step.ensures.step so.0 so.1.at))
