use Rattle.std.proofs.Common.{◌∙◌}
use Rattle.ov_memhost.specs.Host.{state_of}
use Rattle.ov_memhost.specs.Source.{script_of}
use Rattle.ov_memhost.specs.Stage.{staged_of}
use Rattle.test_program.specs.Fresh.{ends_of}
use Rattle.test_program.proofs.Told.{ends_are, new_host, one_word, plays_fresh}
use Rattle.test_program.proofs.run_fresh.Goals as goal

pub returns : goal.returns
returns c =
    plays_fresh c.args.script.items c.args.files.items c.run-status.result c.as_slice.result.now
    (record { host = state_of c.new-host.result; script = script_of c.new-source.result; stage = staged_of c.new-stage.result })
    (ends_of (record { status = c.run-status.result; host = c.run-status.new.host; source = c.run-status.new.source; stage = c.run-status.new.stage }))
    (c.as_slice.ensures.value ∙ one_word _ _ _ c.in_ok-push.ensures.items c.new-words.ensures.items c.in_ok-new.ensures.ok)
    (ends_are c.args.script.items c.args.files.items _ _ _ (c.new-host.ensures.state ∙ new_host _ _ c.new-2.ensures.items c.new-3.ensures.items)
    c.new-source.ensures.script c.new-stage.ensures.staged)
    c.run-status.ensures.plays
