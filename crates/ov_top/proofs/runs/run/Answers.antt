use Rattle.std.proofs.Common.{◌≡◌, ◌∙◌, ℕ, inl, refl, subst, sym}
use Rattle.ov_host.proofs.Stops.{only_start}
use Rattle.ov_journal.specs.Opened.{IsLeftByOpen}
use Rattle.ov_session.specs.Stepping.{TakesNoStep}
use Rattle.ov_top.specs.Ending.{Plays}
use Rattle.ov_top.proofs.Lined.{plays_memory, steps_same, still_world}
use Rattle.ov_top.proofs.runs.run.Goals as goal

pub returns-in-Err-Memory-clause-plays : goal.returns-in-Err-Memory-clause-plays
returns-in-Err-Memory-clause-plays g c = λ w o is told.
    plays_memory o.1 w
    (record { host = g.H.Host.state c.args.host.now; script = g.S.Source.script c.args.source.now; stage = g.T.Stage.staged c.args.stage.now })
    (record { host = g.H.Host.state c.args.host.now; script = g.S.Source.script c.args.source.now; stage = g.T.Stage.staged c.args.stage.now })
    told (still_world w (record { host = g.H.Host.state c.args.host.now; script = g.S.Source.script c.args.source.now; stage = g.T.Stage.staged c.args.stage.now }) told)

pub returns-in-Err-Usage-clause-spares : goal.returns-in-Err-Usage-clause-spares
returns-in-Err-Usage-clause-spares g c = λ told none.
    let tape = (g.H.Host.state c.args.host.now).tape in only_start tape (IsLeftByOpen tape.disk) (λ image left. inl left)

pub returns-in-Err-Memory-clause-spares : goal.returns-in-Err-Memory-clause-spares
returns-in-Err-Memory-clause-spares g c = λ told none.
    let tape = (g.H.Host.state c.args.host.now).tape in only_start tape (IsLeftByOpen tape.disk) (λ image left. inl left)

pub returns-in-Ok-clause-plays : goal.returns-in-Ok-clause-plays
returns-in-Ok-clause-plays g c = λ w o is told.
    let same : c.in-Ok.wanted.steps ≡ o.1 = steps_same c.in-Ok.wanted.folder c.in-Ok.wanted.steps o (sym c.in-Ok.ensures.ok ∙ is)
    in subst (λ (steps : ℕ). Plays c.run_script.result steps w
    (record { host = g.H.Host.state c.args.host.now; script = g.S.Source.script c.args.source.now; stage = g.T.Stage.staged c.args.stage.now })
    (record { host = g.H.Host.state c.run_script.new.host; script = g.S.Source.script c.run_script.new.source; stage = g.T.Stage.staged c.run_script.new.stage }))
    same (c.run_script.ensures.plays w told)

pub returns-in-Ok-clause-cause : goal.returns-in-Ok-clause-cause
returns-in-Ok-clause-cause g c = c.run_script.ensures.cause c.args.words.now (c.in-Ok.wanted.folder, c.in-Ok.wanted.steps) c.in-Ok.ensures.ok refl

pub returns-in-Ok-clause-fetched : goal.returns-in-Ok-clause-fetched
returns-in-Ok-clause-fetched g c = λ numbers o told opens_ is none script are.
    let same : c.in-Ok.wanted.steps ≡ o.1 = steps_same c.in-Ok.wanted.folder c.in-Ok.wanted.steps o (sym c.in-Ok.ensures.ok ∙ is)
    in c.run_script.ensures.fetched numbers told opens_ (subst (λ (steps : ℕ). TakesNoStep steps numbers) (sym same) none) script are
