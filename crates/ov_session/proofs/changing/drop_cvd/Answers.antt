use Rattle.ov_model.specs.World.{set_named}
use Rattle.ov_session.proofs.Begins.{drop_off, drop_there, some_there}
use Rattle.ov_session.proofs.Replying.{result_seen}
use Rattle.ov_session.proofs.Standing.{at_next, at_refused}
use Rattle.ov_store.specs.Dropping.{dropped}
use Rattle.ov_session.proofs.Numbering.{journal_off}
use Rattle.ov_session.proofs.Idling.{dropped_none, refused_none}
use Rattle.ov_session.proofs.changing.drop_cvd.Goals as goal

pub returns-in-Ok-clause-acts : goal.returns-in-Ok-clause-acts
returns-in-Ok-clause-acts g c = λ w s at.
    let there = some_there (set_named w c.as_str.result.now) (c.in-Ok.ensures.refused w at)
    in drop_there w s c.as_str.result.now c.args.cvd c.as_str.ensures.text c.args.store.now c.drop_cvd.new.self
    (g.H.Host.state c.args.host.now) (g.H.Host.state c.drop_cvd.new.host) at there.0 there.1 (c.drop_cvd.ensures.stops w at) (c.in-Ok.ensures.moves w at)
    (λ entry past within. c.in-Ok.ensures.room w there.0 entry past at there.1 within)

pub returns-in-Err-clause-acts : goal.returns-in-Err-clause-acts
returns-in-Err-clause-acts g c = λ w s at.
    drop_off w s c.as_str.result.now c.args.cvd c.as_str.ensures.text c.args.store.now c.drop_cvd.new.self
    (g.H.Host.state c.args.host.now) (g.H.Host.state c.drop_cvd.new.host) at c.refused.result c.in-Err.off c.refused.ensures.reply
    (c.in-Err.ensures.refused w at) (λ d entry past is within. c.in-Err.ensures.room w d entry past at is within) c.in-Err.ensures.stays
    (c.drop_cvd.ensures.stops w at)

pub returns-in-Ok-clause-at : goal.returns-in-Ok-clause-at
returns-in-Ok-clause-at g c = λ w at.
    at_next (dropped c.as_str.result.now w) c.drop_cvd.new.self.held (g.H.Host.state c.args.host.now) (g.H.Host.state c.drop_cvd.new.host) (c.in-Ok.ensures.moves w at)

pub returns-in-Err-clause-at : goal.returns-in-Err-clause-at
returns-in-Err-clause-at g c = λ w at.
    at_refused w c.args.cvd c.in-Err.off c.refused.result c.args.store.now c.drop_cvd.new.self (g.H.Host.state c.args.host.now) (g.H.Host.state c.drop_cvd.new.host)
    c.refused.ensures.reply c.in-Err.ensures.stays at

pub returns-in-Ok-clause-seen : goal.returns-in-Ok-clause-seen
returns-in-Ok-clause-seen g c = λ name is. cc

pub returns-in-Err-clause-seen : goal.returns-in-Err-clause-seen
returns-in-Err-clause-seen g c = result_seen c.args.cvd c.in-Err.off c.refused.result c.refused.ensures.reply

pub returns-in-Ok-clause-by_journal : goal.returns-in-Ok-clause-by_journal
returns-in-Ok-clause-by_journal g c = λ by fine. c.in-Ok.ensures.by_journal by

pub returns-in-Err-clause-by_journal : goal.returns-in-Err-clause-by_journal
returns-in-Err-clause-by_journal g c = λ by fine.
    journal_off c.args.store.now c.drop_cvd.new.self (g.H.Host.state c.args.host.now) (g.H.Host.state c.drop_cvd.new.host) by c.args.cvd c.in-Err.off c.refused.result
    c.refused.ensures.reply c.refused.ensures.end c.in-Err.ensures.stays fine

pub returns-in-Ok-clause-begins_none : goal.returns-in-Ok-clause-begins_none
returns-in-Ok-clause-begins_none g c = λ none. dropped_none c.as_str.result.now c.args.store.now.held c.drop_cvd.new.self.held c.in-Ok.ensures.done none

pub returns-in-Err-clause-begins_none : goal.returns-in-Err-clause-begins_none
returns-in-Err-clause-begins_none g c = λ none.
    refused_none c.args.cvd c.in-Err.off c.refused.result c.args.store.now c.drop_cvd.new.self (g.H.Host.state c.args.host.now) (g.H.Host.state c.drop_cvd.new.host)
    c.refused.ensures.reply c.in-Err.ensures.stays none
