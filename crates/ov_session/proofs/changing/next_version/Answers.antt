use Rattle.std.proofs.Common.{sym, ◌∙◌, ap}
use Rattle.ov_store.specs.Scanning.{set_in}
use Rattle.ov_session.proofs.Begins.{version_done, version_off}
use Rattle.ov_session.proofs.Dealing.{commit_spared, result_damaged, result_spared}
use Rattle.ov_session.proofs.Bounds.{parents_first}
use Rattle.ov_session.proofs.Replying.{result_seen}
use Rattle.ov_session.proofs.Standing.{at_next, at_refused, result_idle}
use Rattle.ov_store.specs.Committing.{committed, parents_off_in}
use Rattle.ov_session.proofs.Numbering.{journal_off}
use Rattle.ov_store.proofs.Finishing.{set_there}
use Rattle.ov_session.proofs.Idling.{committed_none, refused_none}
use Rattle.ov_session.proofs.changing.next_version.Goals as goal

pub commit-requires-clause-fit : goal.commit-requires-clause-fit
commit-requires-clause-fit g c = λ set is.
    c.requires.fit set (ap (set_in c.args.store.now.held.numbers) (sym c.as_str.ensures.text) ∙ is)

pub returns-in-Ok-clause-acts : goal.returns-in-Ok-clause-acts
returns-in-Ok-clause-acts g c = λ w s d at named none.
    version_done w s c.as_str.result.now c.args.cvd c.as_str.ensures.text d
    (record { vids = c.args.vids.now; message = c.args.message.now; added = c.args.added.now; rows = c.args.rows }) c.args.store.now c.commit.new.self
    (g.H.Host.state c.args.host.now) (g.H.Host.state c.commit.new.host) at named none c.in-Ok.made c.in-Ok.ensures.done
    (λ e is. c.in-Ok.ensures.fresh w e at is) (λ e is. c.in-Ok.ensures.refused w e at is) (c.commit.ensures.stops w at) (c.in-Ok.ensures.moves w at)
    (λ e entry past is within. c.in-Ok.ensures.room w e entry past at is within)

pub returns-in-Err-clause-acts : goal.returns-in-Err-clause-acts
returns-in-Err-clause-acts g c = λ w s d at named none.
    version_off w s c.as_str.result.now c.args.cvd c.as_str.ensures.text d
    (record { vids = c.args.vids.now; message = c.args.message.now; added = c.args.added.now; rows = c.args.rows }) c.args.store.now c.commit.new.self
    (g.H.Host.state c.args.host.now) (g.H.Host.state c.commit.new.host) at named none c.refused.result c.in-Err.off c.refused.ensures.reply
    (λ x is. c.in-Err.ensures.refused w x at is) (λ x entry past is within. c.in-Err.ensures.room w x entry past at is within) c.in-Err.ensures.stays
    (c.commit.ensures.stops w at) (λ x refusal is refused. c.commit.ensures.still w x refusal at is refused)

pub returns-in-Err-clause-undamaged : goal.returns-in-Err-clause-undamaged
returns-in-Err-clause-undamaged g c = λ w at.
    result_spared c.in-Err.off c.refused.result c.refused.ensures.end
    (commit_spared w c.args.store.now.held (g.H.Host.state c.args.host.now) at c.as_str.result.now
    (record { vids = c.args.vids.now; message = c.args.message.now; added = c.args.added.now; rows = c.args.rows }) (g.H.Host.state c.commit.new.host) c.in-Err.off c.in-Err.ensures.why
    (λ d is. c.in-Err.ensures.refused w d at is))

pub returns-in-Err-clause-damaged : goal.returns-in-Err-clause-damaged
returns-in-Err-clause-damaged g c =
    result_damaged c.args.store.now.held c.as_str.result.now c.args.cvd (record { vids = c.args.vids.now; message = c.args.message.now; added = c.args.added.now; rows = c.args.rows })
    c.args.store.now c.commit.new.self (g.H.Host.state c.args.host.now) (g.H.Host.state c.commit.new.host) c.as_str.ensures.text c.in-Err.off c.refused.result
    c.refused.ensures.end c.in-Err.ensures.why c.in-Err.ensures.stays

pub returns-in-Ok-clause-at : goal.returns-in-Ok-clause-at
returns-in-Ok-clause-at g c = λ w at.
    at_next (committed c.as_str.result.now (record { vids = c.args.vids.now; message = c.args.message.now; added = c.args.added.now; rows = c.args.rows }) w)
    c.commit.new.self.held (g.H.Host.state c.args.host.now) (g.H.Host.state c.commit.new.host) (c.in-Ok.ensures.moves w at)

pub returns-in-Err-clause-at : goal.returns-in-Err-clause-at
returns-in-Err-clause-at g c = λ w at.
    at_refused w c.args.cvd c.in-Err.off c.refused.result c.args.store.now c.commit.new.self (g.H.Host.state c.args.host.now) (g.H.Host.state c.commit.new.host)
    c.refused.ensures.reply c.in-Err.ensures.stays at

pub returns-in-Ok-clause-seen : goal.returns-in-Ok-clause-seen
returns-in-Ok-clause-seen g c = λ name is. cc

pub returns-in-Err-clause-seen : goal.returns-in-Err-clause-seen
returns-in-Err-clause-seen g c = result_seen c.args.cvd c.in-Err.off c.refused.result c.refused.ensures.reply

pub returns-in-Ok-clause-fetched : goal.returns-in-Ok-clause-fetched
returns-in-Ok-clause-fetched g c = λ set is.
    c.commit.ensures.fetched set (ap (set_in c.args.store.now.held.numbers) c.as_str.ensures.text ∙ is)

pub returns-in-Err-clause-fetched : goal.returns-in-Err-clause-fetched
returns-in-Err-clause-fetched g c = λ set is.
    c.commit.ensures.fetched set (ap (set_in c.args.store.now.held.numbers) c.as_str.ensures.text ∙ is)

pub returns-in-Ok-clause-unread : goal.returns-in-Ok-clause-unread
returns-in-Ok-clause-unread g c = λ off is.
    c.commit.ensures.unread off (parents_first c.args.store.now.held c.as_str.result.now c.args.vids.now c.args.added.now c.args.rows off
    (ap (λ n. parents_off_in (set_in c.args.store.now.held.numbers n) c.args.vids.now) c.as_str.ensures.text ∙ is))

pub returns-in-Err-clause-unread : goal.returns-in-Err-clause-unread
returns-in-Err-clause-unread g c = λ off is.
    c.commit.ensures.unread off (parents_first c.args.store.now.held c.as_str.result.now c.args.vids.now c.args.added.now c.args.rows off
    (ap (λ n. parents_off_in (set_in c.args.store.now.held.numbers n) c.args.vids.now) c.as_str.ensures.text ∙ is))

pub returns-in-Err-clause-idle : goal.returns-in-Err-clause-idle
returns-in-Err-clause-idle g c =
    result_idle c.args.store.now c.commit.new.self (g.H.Host.state c.args.host.now) (g.H.Host.state c.commit.new.host) c.in-Err.off c.refused.result
    c.refused.ensures.end c.in-Err.ensures.stays

pub returns-in-Ok-clause-by_journal : goal.returns-in-Ok-clause-by_journal
returns-in-Ok-clause-by_journal g c = λ by fine. c.in-Ok.ensures.by_journal by

pub returns-in-Err-clause-by_journal : goal.returns-in-Err-clause-by_journal
returns-in-Err-clause-by_journal g c = λ by fine.
    journal_off c.args.store.now c.commit.new.self (g.H.Host.state c.args.host.now) (g.H.Host.state c.commit.new.host) by c.args.cvd c.in-Err.off c.refused.result
    c.refused.ensures.reply c.refused.ensures.end c.in-Err.ensures.stays fine

pub returns-in-Ok-clause-begins_none : goal.returns-in-Ok-clause-begins_none
returns-in-Ok-clause-begins_none g c = λ none.
    let there = set_there c.args.store.now.held c.as_str.result.now c.args.vids.now c.args.added.now c.args.rows c.in-Ok.ensures.allowed
    in committed_none there.0 (record { vids = c.args.vids.now; message = c.args.message.now; added = c.args.added.now; rows = c.args.rows }) (g.H.Host.state c.args.host.now)
    c.args.store.now.held c.commit.new.self.held c.in-Ok.made (c.in-Ok.ensures.done there.0 there.1) none

pub returns-in-Err-clause-begins_none : goal.returns-in-Err-clause-begins_none
returns-in-Err-clause-begins_none g c = λ none.
    refused_none c.args.cvd c.in-Err.off c.refused.result c.args.store.now c.commit.new.self (g.H.Host.state c.args.host.now) (g.H.Host.state c.commit.new.host)
    c.refused.ensures.reply c.in-Err.ensures.stays none
