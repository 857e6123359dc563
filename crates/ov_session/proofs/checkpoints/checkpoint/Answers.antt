use Rattle.std.specs.Prelude.{[]}
use Rattle.ov_model.specs.Moves.{Checkpoint, moved}
use Rattle.ov_session.proofs.Checkpointing.{taken_does, taken_none, untaken_acts, untaken_alone, untaken_cause, untaken_nameless, untaken_undamaged, untaken_usable}
use Rattle.ov_session.proofs.Idling.{refused_none}
use Rattle.ov_session.proofs.Numbering.{journal_off}
use Rattle.ov_session.proofs.Replying.{result_seen}
use Rattle.ov_session.proofs.Standing.{at_next, at_refused}
use Rattle.ov_session.proofs.checkpoints.checkpoint.Goals as goal

pub untaken-requires : goal.untaken-requires
untaken-requires g c =
    untaken_nameless c.args.store.now.held (g.H.Host.state c.args.host.now) (g.H.Host.state c.checkpoint.new.host) c.in-Err.off c.in-Err.ensures.why

-- ---- it is taken

pub returns-in-Ok-clause-acts : goal.returns-in-Ok-clause-acts
returns-in-Ok-clause-acts g c = λ w s at.
    taken_does w s c.args.store.now c.checkpoint.new.self (g.H.Host.state c.args.host.now) (g.H.Host.state c.checkpoint.new.host) at (c.checkpoint.ensures.stops w at)
    c.in-Ok.datasets (c.in-Ok.ensures.world w at) (c.in-Ok.ensures.moves w at) (λ entry past within. c.in-Ok.ensures.room w entry past at within)

pub returns-in-Ok-clause-at : goal.returns-in-Ok-clause-at
returns-in-Ok-clause-at g c = λ w at.
    at_next (moved Checkpoint w) c.checkpoint.new.self.held (g.H.Host.state c.args.host.now) (g.H.Host.state c.checkpoint.new.host) (c.in-Ok.ensures.moves w at)

pub returns-in-Ok-clause-seen : goal.returns-in-Ok-clause-seen
returns-in-Ok-clause-seen g c = λ name is. cc

pub returns-in-Ok-clause-by_journal : goal.returns-in-Ok-clause-by_journal
returns-in-Ok-clause-by_journal g c = λ by fine. c.in-Ok.ensures.by_journal by

pub returns-in-Ok-clause-begins_none : goal.returns-in-Ok-clause-begins_none
returns-in-Ok-clause-begins_none g c = λ none. taken_none c.args.store.now.held c.checkpoint.new.self.held c.in-Ok.ensures.taken none

-- ---- it isn't

pub returns-in-Err-clause-cause : goal.returns-in-Err-clause-cause
returns-in-Err-clause-cause g c = λ host.
    untaken_cause c.args.store.now.held (g.H.Host.state c.args.host.now) (g.H.Host.state c.checkpoint.new.host) c.in-Err.off c.in-Err.ensures.why
    c.untaken.result c.untaken.ensures.end host

pub returns-in-Err-clause-host_alone : goal.returns-in-Err-clause-host_alone
returns-in-Err-clause-host_alone g c = λ stage.
    untaken_alone c.args.store.now.held (g.H.Host.state c.args.host.now) (g.H.Host.state c.checkpoint.new.host) c.in-Err.off c.in-Err.ensures.why
    c.untaken.result c.untaken.ensures.end stage

pub returns-in-Err-clause-undamaged : goal.returns-in-Err-clause-undamaged
returns-in-Err-clause-undamaged g c =
    untaken_undamaged c.args.store.now.held (g.H.Host.state c.args.host.now) (g.H.Host.state c.checkpoint.new.host) c.in-Err.off c.in-Err.ensures.why
    c.untaken.result c.untaken.ensures.end

pub returns-in-Err-clause-usable : goal.returns-in-Err-clause-usable
returns-in-Err-clause-usable g c =
    untaken_usable c.in-Err.off c.untaken.result c.args.store.now c.checkpoint.new.self (g.H.Host.state c.args.host.now) (g.H.Host.state c.checkpoint.new.host)
    c.untaken.ensures.reply c.in-Err.ensures.stays c.requires.call

pub returns-in-Err-clause-acts : goal.returns-in-Err-clause-acts
returns-in-Err-clause-acts g c = λ w s at.
    untaken_acts w s c.args.store.now c.checkpoint.new.self (g.H.Host.state c.args.host.now) (g.H.Host.state c.checkpoint.new.host) at (c.checkpoint.ensures.stops w at)
    c.untaken.result c.in-Err.off c.untaken.ensures.reply c.in-Err.ensures.why (λ entry past within. c.in-Err.ensures.room w entry past at within) c.in-Err.ensures.stays

pub returns-in-Err-clause-at : goal.returns-in-Err-clause-at
returns-in-Err-clause-at g c = λ w at.
    at_refused w [] c.in-Err.off c.untaken.result c.args.store.now c.checkpoint.new.self (g.H.Host.state c.args.host.now) (g.H.Host.state c.checkpoint.new.host)
    c.untaken.ensures.reply c.in-Err.ensures.stays at

pub returns-in-Err-clause-seen : goal.returns-in-Err-clause-seen
returns-in-Err-clause-seen g c = result_seen [] c.in-Err.off c.untaken.result c.untaken.ensures.reply

pub returns-in-Err-clause-by_journal : goal.returns-in-Err-clause-by_journal
returns-in-Err-clause-by_journal g c = λ by fine.
    journal_off c.args.store.now c.checkpoint.new.self (g.H.Host.state c.args.host.now) (g.H.Host.state c.checkpoint.new.host) by [] c.in-Err.off c.untaken.result
    c.untaken.ensures.reply c.untaken.ensures.end c.in-Err.ensures.stays fine

pub returns-in-Err-clause-begins_none : goal.returns-in-Err-clause-begins_none
returns-in-Err-clause-begins_none g c = λ none.
    refused_none [] c.in-Err.off c.untaken.result c.args.store.now c.checkpoint.new.self (g.H.Host.state c.args.host.now) (g.H.Host.state c.checkpoint.new.host)
    c.untaken.ensures.reply c.in-Err.ensures.stays none
