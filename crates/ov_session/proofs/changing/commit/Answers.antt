use Rattle.std.proofs.Common.{sym, ap, refl, subst, rules}
use Rattle.law_runs.proofs.Doing.{breaks_looked}
use Rattle.law_runs.specs.Serving.{Breaks, session_of}
use Rattle.ov_model.specs.Act.{commit_deed}
use Rattle.ov_model.specs.World.{set_named}
use Rattle.ov_session.proofs.Asking.{commit_acts, said_still}
use Rattle.ov_session.proofs.Bounds.{fetched_none, fetched_there}
use Rattle.ov_session.proofs.Dealing.{no_host, result_and_rows}
use Rattle.ov_session.proofs.Replying.{seen_missed}
use Rattle.ov_session.proofs.Rows.{row_none, row_refused}
use Rattle.ov_session.proofs.Standing.{at_still, idle_same, idle_stored, idle_unmoved}
use Rattle.ov_session.specs.Commands.{HasFileRows, HasMissed, HasSet, HasWideRows, IsAskedOf, IsNoDamage}
use Rattle.ov_session.specs.Standing.{IsIdle}
use Rattle.ov_store.specs.Committing.{schema_for}
use Rattle.ov_store.specs.Scanning.{set_in}
use Rattle.ov_session.proofs.changing.commit.Goals as goal

pub returns-in_err-rows-clause-acts : goal.returns-in_err-rows-clause-acts
returns-in_err-rows-clause-acts g c = λ w user told at.
    let s = session_of (g.T.Stage.staged c.args.stage.now).files user
    in let fact : Breaks (commit_deed w s c.args.cvd c.args.vids.now c.args.message.now c.args.added.now c.args.file.now (set_named w c.args.cvd)) s w (g.H.Host.state c.args.host.now) (g.H.Host.state c.args.host.now)
    = breaks_looked (commit_deed w s c.args.cvd c.args.vids.now c.args.message.now c.args.added.now c.args.file.now (set_named w c.args.cvd)) s w c.args.store.now.held (g.H.Host.state c.args.host.now) (g.H.Host.state c.args.host.now) at refl
    in search (rules, fact)

pub returns-in-Rows-clause-acts : goal.returns-in-Rows-clause-acts
returns-in-Rows-clause-acts g c = λ w user told at.
    let s = session_of (g.T.Stage.staged c.args.stage.now).files user
    in commit_acts w s (session_of (g.T.Stage.staged c.rows_for.new.stage).files user) c.args.cvd c.args.vids.now c.args.message.now c.args.added.now c.args.file.now
    c.args.store.now.held c.next_version.new.store.held (g.H.Host.state c.args.host.now) (g.H.Host.state c.next_version.new.host)
    (ap (λ files. session_of files user) (sym c.rows_for.ensures.files)) c.in-Rows.rows c.next_version.result
    (subst (IsAskedOf w s c.args.cvd c.args.vids.now c.args.message.now c.args.added.now c.args.file.now) c.in-Rows.is
    (c.in_ok-rows.ensures.asked w (g.H.Host.state c.args.host.now) s c.args.message.now told at refl))
    (λ d is none. c.next_version.ensures.acts w s d at is none)

pub returns-in-Said-clause-acts : goal.returns-in-Said-clause-acts
returns-in-Said-clause-acts g c = λ w user told at.
    let s = session_of (g.T.Stage.staged c.args.stage.now).files user
    in said_still (commit_deed w s c.args.cvd c.args.vids.now c.args.message.now c.args.added.now c.args.file.now (set_named w c.args.cvd)) s
    (session_of (g.T.Stage.staged c.rows_for.new.stage).files user) w c.in-Said.reply c.args.store.now.held (g.H.Host.state c.args.host.now)
    (ap (λ files. session_of files user) (sym c.rows_for.ensures.files)) at
    (subst (IsAskedOf w s c.args.cvd c.args.vids.now c.args.message.now c.args.added.now c.args.file.now) c.in-Said.is
    (c.in_ok-rows.ensures.asked w (g.H.Host.state c.args.host.now) s c.args.message.now told at refl))

pub returns-in_err-rows-clause-undamaged : goal.returns-in_err-rows-clause-undamaged
returns-in_err-rows-clause-undamaged g c = λ w at.
    let fact : IsNoDamage c.in_err-rows.field-0.0 = no_host c.in_err-rows.field-0.0 c.in_err-rows.ensures.stage_alone
    in search (rules, fact)

pub returns-in_err-rows-clause-fetched : goal.returns-in_err-rows-clause-fetched
returns-in_err-rows-clause-fetched g c = fetched_none _ _

pub returns-in_err-rows-clause-idle : goal.returns-in_err-rows-clause-idle
returns-in_err-rows-clause-idle g c =
    let fact : IsIdle c.in_err-rows.field-0.0 c.args.store.now c.args.store.now (g.T.Stage.staged c.args.stage.now) (g.T.Stage.staged c.rows_for.new.stage) (g.H.Host.state c.args.host.now) (g.H.Host.state c.args.host.now)
    = idle_unmoved c.args.store.now c.args.store.now (g.T.Stage.staged c.args.stage.now) (g.T.Stage.staged c.rows_for.new.stage) (g.H.Host.state c.args.host.now) (g.H.Host.state c.args.host.now) c.in_err-rows.field-0.0
    (idle_same c.args.store.now (g.H.Host.state c.args.host.now)) c.rows_for.ensures.files
    in search (rules, fact)

pub returns-in-Rows-clause-fetched : goal.returns-in-Rows-clause-fetched
returns-in-Rows-clause-fetched g c =
    fetched_there (set_in c.args.store.now.held.numbers c.args.cvd) c.args.vids.now (g.H.Host.state c.args.host.now).fetched (g.H.Host.state c.next_version.new.host).fetched
    (subst (HasSet (set_in c.args.store.now.held.numbers c.args.cvd)) c.in-Rows.is c.in_ok-rows.ensures.found) (λ set is. c.next_version.ensures.fetched set is)

pub returns-in-Rows-clause-missed : goal.returns-in-Rows-clause-missed
returns-in-Rows-clause-missed g c = seen_missed _ c.next_version.result c.next_version.ensures.seen

pub returns-in-Rows-clause-idle : goal.returns-in-Rows-clause-idle
returns-in-Rows-clause-idle g c =
    idle_stored c.args.store.now c.next_version.new.store (g.T.Stage.staged c.args.stage.now) (g.T.Stage.staged c.rows_for.new.stage) (g.H.Host.state c.args.host.now) (g.H.Host.state c.next_version.new.host)
    c.next_version.result c.next_version.ensures.host_alone c.next_version.ensures.idle c.rows_for.ensures.files

-- its rows are rows of the schema with the columns, as next_version requires
pub next_version-requires-clause-fit : goal.next_version-requires-clause-fit
next_version-requires-clause-fit g c = λ set is. subst (HasWideRows set.schema c.args.added.now) c.in-Rows.is (c.in_ok-rows.ensures.fit set is)

pub returns-in-Rows-clause-damaged : goal.returns-in-Rows-clause-damaged
returns-in-Rows-clause-damaged g c =
    let held = c.args.store.now.held
    in let stage = g.T.Stage.staged c.args.stage.now
    in result_and_rows held c.args.cvd c.args.vids.now c.args.added.now c.args.message.now c.args.file.now stage c.in-Rows.rows (g.H.Host.state c.next_version.new.host)
    (λ set is. subst (HasFileRows (schema_for set.schema c.args.added.now) c.args.file.now stage) c.in-Rows.is (c.in_ok-rows.ensures.read set is))
    (λ none. row_none held.numbers c.args.cvd c.args.vids.now c.args.added.now c.in-Rows.rows
    (λ set is. subst (HasWideRows set.schema c.args.added.now) c.in-Rows.is (c.in_ok-rows.ensures.fit set is)) held.journal.format none)
    c.next_version.result c.next_version.ensures.damaged

pub returns-in-Said-clause-fetched : goal.returns-in-Said-clause-fetched
returns-in-Said-clause-fetched g c = fetched_none _ _

pub returns-in-Said-clause-at : goal.returns-in-Said-clause-at
returns-in-Said-clause-at g c = λ w at. at_still w c.args.store.now.held (g.H.Host.state c.args.host.now) at

pub returns-in-Said-clause-missed : goal.returns-in-Said-clause-missed
returns-in-Said-clause-missed g c = subst (HasMissed (g.T.Stage.staged c.args.stage.now) (g.T.Stage.staged c.rows_for.new.stage)) c.in-Said.is c.in_ok-rows.ensures.missed

pub returns-in_err-rows-clause-by_journal : goal.returns-in_err-rows-clause-by_journal
returns-in_err-rows-clause-by_journal g c = λ by fine. by

pub returns-in-Said-clause-by_journal : goal.returns-in-Said-clause-by_journal
returns-in-Said-clause-by_journal g c = λ by fine. by

pub returns-in-Rows-clause-unread : goal.returns-in-Rows-clause-unread
returns-in-Rows-clause-unread g c = λ off is.
    let there = row_refused c.args.store.now.held.numbers c.args.cvd c.args.vids.now c.args.added.now c.in-Rows.rows
    (λ set found. subst (HasWideRows set.schema c.args.added.now) c.in-Rows.is (c.in_ok-rows.ensures.fit set found)) off is
    in c.next_version.ensures.unread there.0 there.1
