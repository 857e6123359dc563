use Rattle.ov_session.proofs.Begins.{begun_done, begun_off}
use Rattle.ov_model.specs.Moves.{moved}
use Rattle.ov_session.proofs.Replying.{result_seen}
use Rattle.ov_session.proofs.Standing.{at_next, at_refused}
use Rattle.ov_store.specs.Beginning.{first_move}
use Rattle.ov_session.proofs.Numbering.{journal_off}
use Rattle.ov_store.specs.Beginning.{first_of}
use Rattle.ov_session.proofs.Idling.{done_none, refused_none}
use Rattle.ov_session.proofs.changing.begin.Goals as goal

pub returns-in-Ok-clause-acts : goal.returns-in-Ok-clause-acts
returns-in-Ok-clause-acts g c = λ w s at none.
    begun_done w s c.args.cvd c.args.schema c.args.rows c.args.store.now c.init.new.self (g.H.Host.state c.args.host.now) (g.H.Host.state c.init.new.host) at none
    c.in-Ok.made c.in-Ok.ensures.made (c.in-Ok.ensures.refused w at) (c.init.ensures.stops w at) (c.in-Ok.ensures.moves w at)
    (λ entry past within. c.in-Ok.ensures.room w entry past at within)

pub returns-in-Err-clause-acts : goal.returns-in-Err-clause-acts
returns-in-Err-clause-acts g c = λ w s at none.
    begun_off w s c.args.cvd c.args.schema c.args.rows c.args.store.now c.init.new.self (g.H.Host.state c.args.host.now) (g.H.Host.state c.init.new.host) at none
    c.refused.result c.in-Err.off c.refused.ensures.reply (c.in-Err.ensures.refused w at) (λ entry past within. c.in-Err.ensures.room w entry past at within)
    c.in-Err.ensures.stays (c.init.ensures.stops w at) (λ refusal is. c.init.ensures.still w refusal at is)

pub returns-in-Ok-clause-at : goal.returns-in-Ok-clause-at
returns-in-Ok-clause-at g c = λ w at.
    at_next (moved (first_move c.args.cvd c.args.schema c.args.rows) w) c.init.new.self.held (g.H.Host.state c.args.host.now) (g.H.Host.state c.init.new.host)
    (c.in-Ok.ensures.moves w at)

pub returns-in-Err-clause-at : goal.returns-in-Err-clause-at
returns-in-Err-clause-at g c = λ w at.
    at_refused w c.args.cvd c.in-Err.off c.refused.result c.args.store.now c.init.new.self (g.H.Host.state c.args.host.now) (g.H.Host.state c.init.new.host)
    c.refused.ensures.reply c.in-Err.ensures.stays at

pub returns-in-Ok-clause-seen : goal.returns-in-Ok-clause-seen
returns-in-Ok-clause-seen g c = λ name is. cc

pub returns-in-Err-clause-seen : goal.returns-in-Err-clause-seen
returns-in-Err-clause-seen g c = result_seen c.args.cvd c.in-Err.off c.refused.result c.refused.ensures.reply

pub returns-in-Ok-clause-by_journal : goal.returns-in-Ok-clause-by_journal
returns-in-Ok-clause-by_journal g c = λ by fine. c.in-Ok.ensures.by_journal by

pub returns-in-Err-clause-by_journal : goal.returns-in-Err-clause-by_journal
returns-in-Err-clause-by_journal g c = λ by fine.
    journal_off c.args.store.now c.init.new.self (g.H.Host.state c.args.host.now) (g.H.Host.state c.init.new.host) by c.args.cvd c.in-Err.off c.refused.result
    c.refused.ensures.reply c.refused.ensures.end c.in-Err.ensures.stays fine

pub returns-in-Ok-clause-begins_none : goal.returns-in-Ok-clause-begins_none
returns-in-Ok-clause-begins_none g c = λ none.
    done_none (first_of c.args.cvd c.args.schema c.args.rows) c.args.store.now.held c.init.new.self.held tt c.in-Ok.ensures.done none

pub returns-in-Err-clause-begins_none : goal.returns-in-Err-clause-begins_none
returns-in-Err-clause-begins_none g c = λ none.
    refused_none c.args.cvd c.in-Err.off c.refused.result c.args.store.now c.init.new.self (g.H.Host.state c.args.host.now) (g.H.Host.state c.init.new.host)
    c.refused.ensures.reply c.in-Err.ensures.stays none
