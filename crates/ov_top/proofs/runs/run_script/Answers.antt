use Rattle.std.proofs.Common.{sym, refl, ◌≡◌, ◌∙◌, ℕ, ap, subst, arith}
use Rattle.std.specs.Prelude.{Err, IfErr}
use Rattle.ov_session.specs.Stepping.{TakesNoStep}
use Rattle.ov_top.proofs.Lined.{are_words, attended_still, cause_opened, cause_unopened, plays_status, plays_unopened, spent_still, undamaged_opened, undamaged_unopened}
use Rattle.ov_host.specs.declared.area.Extent.{Extent}
use Rattle.ov_catalog.specs.Numbers.{Numbers}
use Rattle.ov_model.specs.Words.{lines_of}
use Rattle.ov_top.specs.Running.{IsRunDamage, reads, user_of_run}
use Rattle.ov_top.proofs.Opened.{by_opened, opens, opens_as, says_one}
use Rattle.ov_top.proofs.runs.run_script.Goals as goal

pub returns-in-Ok-clause-plays : goal.returns-in-Ok-clause-plays
returns-in-Ok-clause-plays g c = λ w told.
    let at = c.in-Ok.ensures.world w told.host told.stands
    in plays_status c.args.steps w
    (record { host = g.H.Host.state c.args.host.now; script = g.S.Source.script c.args.source.now; stage = g.T.Stage.staged c.args.stage.now })
    (record { host = g.H.Host.state c.open.new.host; script = g.S.Source.script c.args.source.now; stage = g.T.Stage.staged c.args.stage.now })
    (record { host = g.H.Host.state c.serve_all.new.host; script = g.S.Source.script c.serve_all.new.source; stage = g.T.Stage.staged c.serve_all.new.stage })
    told c.in-Ok.store.held (c.in-Ok.ensures.answer told.host) at (c.open.ensures.stops w told.host told.settled told.stands) refl refl
    c.status_of.result c.serve_all.result c.status_of.ensures (c.serve_all.ensures.served w told.script told.stage at)

pub returns-in-Ok-clause-cause : goal.returns-in-Ok-clause-cause
returns-in-Ok-clause-cause g c = λ words o asked same.
    cause_opened words o asked
    (record { host = g.H.Host.state c.args.host.now; script = g.S.Source.script c.args.source.now; stage = g.T.Stage.staged c.args.stage.now })
    (record { host = g.H.Host.state c.open.new.host; script = g.S.Source.script c.args.source.now; stage = g.T.Stage.staged c.args.stage.now })
    (record { host = g.H.Host.state c.serve_all.new.host; script = g.S.Source.script c.serve_all.new.source; stage = g.T.Stage.staged c.serve_all.new.stage })
    (λ told. opens (g.H.Host.state c.args.host.now).tape.disk c.in-Ok.store.held (g.H.Host.state c.open.new.host) (c.in-Ok.ensures.answer told))
    c.open.ensures.passes.faults c.status_of.result c.serve_all.result c.status_of.ensures
    c.serve_all.ensures.host c.serve_all.ensures.input
    (subst (λ (steps : ℕ). IfErr c.serve_all.result (IsRunDamage steps (g.S.Source.script c.args.source.now) (g.T.Stage.staged c.serve_all.new.stage) (g.H.Host.state c.serve_all.new.host))) (sym same)
    (c.serve_all.ensures.damaged (λ tells. by_opened (g.H.Host.state c.args.host.now).tape.disk c.in-Ok.store.held (g.H.Host.state c.open.new.host)
    (c.in-Ok.ensures.answer (sym c.open.ensures.passes.told ∙ tells)))))
    c.serve_all.ensures.too_long c.serve_all.ensures.ended

pub returns-in-Ok-clause-keeps : goal.returns-in-Ok-clause-keeps
returns-in-Ok-clause-keeps g c = record {
  host = record {
    told = c.serve_all.ensures.goes.told ∙ c.open.ensures.passes.told;
    kept = c.serve_all.ensures.goes.kept ∙ c.open.ensures.passes.kept;
    faults = omega (arith, c.serve_all.ensures.goes.faults, c.open.ensures.passes.faults);
    fetched = omega (arith, c.serve_all.ensures.goes.fetched, c.open.ensures.passes.fetched);
  };
  script = c.serve_all.ensures.spent;
  stage = c.serve_all.ensures.attended;
}

pub returns-in-Err-clause-keeps : goal.returns-in-Err-clause-keeps
returns-in-Err-clause-keeps g c = record {
  host = record {
    told = c.open.ensures.passes.told;
    kept = c.open.ensures.passes.kept;
    faults = c.open.ensures.passes.faults;
    fetched = omega (arith, c.open.ensures.passes.fetched);
  };
  script = spent_still (g.S.Source.script c.args.source.now);
  stage = attended_still (g.T.Stage.staged c.args.stage.now);
}

pub returns-in-Err-clause-cause : goal.returns-in-Err-clause-cause
returns-in-Err-clause-cause g c = λ words o asked same.
    cause_unopened c.status_unopened.result c.in-Err.off words
    (record { host = g.H.Host.state c.args.host.now; script = g.S.Source.script c.args.source.now; stage = g.T.Stage.staged c.args.stage.now })
    (record { host = g.H.Host.state c.open.new.host; script = g.S.Source.script c.args.source.now; stage = g.T.Stage.staged c.args.stage.now })
    c.status_unopened.ensures (are_words words o asked) (λ is. c.in-Err.ensures.cause (λ i. Err (is i))) (λ told. c.in-Err.ensures.answer told) refl refl

pub returns-in-Err-clause-plays : goal.returns-in-Err-clause-plays
returns-in-Err-clause-plays g c = λ w told.
    plays_unopened c.args.steps w
    (record { host = g.H.Host.state c.args.host.now; script = g.S.Source.script c.args.source.now; stage = g.T.Stage.staged c.args.stage.now })
    (record { host = g.H.Host.state c.open.new.host; script = g.S.Source.script c.args.source.now; stage = g.T.Stage.staged c.args.stage.now })
    told (c.open.ensures.stops w told.host told.settled told.stands) c.status_unopened.result c.in-Err.off c.status_unopened.ensures (c.in-Err.ensures.world w told.host told.stands)

pub returns-in-Ok-clause-undamaged : goal.returns-in-Ok-clause-undamaged
returns-in-Ok-clause-undamaged g c = λ w told stands.
    undamaged_opened c.status_of.result c.serve_all.result c.status_of.ensures (c.serve_all.ensures.undamaged w (c.in-Ok.ensures.world w told stands))

pub returns-in-Err-clause-undamaged : goal.returns-in-Err-clause-undamaged
returns-in-Err-clause-undamaged g c = λ w told stands.
    undamaged_unopened c.status_unopened.result c.in-Err.off c.status_unopened.ensures (c.in-Err.ensures.world w told stands)

pub returns-in-Ok-clause-fetched : goal.returns-in-Ok-clause-fetched
returns-in-Ok-clause-fetched g c = λ numbers told opens_ none script are.
    let held = c.in-Ok.store.held
    in let lines = lines_of (g.S.Source.script c.args.source.now).left
    in let same : held.numbers ≡ numbers
    = says_one held.numbers numbers (g.H.Host.state c.args.host.now).tape.disk
    (opens_as (g.H.Host.state c.args.host.now).tape.disk held (g.H.Host.state c.open.new.host) (c.in-Ok.ensures.answer told)) opens_
    in let bound = c.serve_all.ensures.fetched (subst (TakesNoStep c.args.steps) (sym same) none) script are
    in let sum : reads held.numbers user_of_run lines ≡ reads numbers user_of_run lines = ap (λ (n : Numbers Extent Extent). reads n user_of_run lines) same
    in omega (arith, bound, sum, c.open.ensures.passes.fetched)

pub returns-in-Err-clause-fetched : goal.returns-in-Err-clause-fetched
returns-in-Err-clause-fetched g c = λ numbers told opens_ none script are. omega (arith, c.open.ensures.passes.fetched)

pub returns-in-Ok-clause-spares : goal.returns-in-Ok-clause-spares
returns-in-Ok-clause-spares g c = λ told none.
    absurd (none (opens (g.H.Host.state c.args.host.now).tape.disk c.in-Ok.store.held (g.H.Host.state c.open.new.host) (c.in-Ok.ensures.answer told)))

pub returns-in-Err-clause-spares : goal.returns-in-Err-clause-spares
returns-in-Err-clause-spares g c = λ told none. c.open.ensures.left told
