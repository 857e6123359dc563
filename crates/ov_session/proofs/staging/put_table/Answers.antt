use Rattle.std.proofs.Common.{◌≡◌, ◌∙◌, ◌≤◌, ◌+◌, ℕ, List, inl, ap, subst, arith}
use Rattle.std.specs.Prelude.{Some}
use Rattle.law_runs.specs.Serving.{session_of}
use Rattle.ov_model.specs.Registry.{stage_name}
use Rattle.ov_model.specs.World.{set_named}
use Rattle.ov_store.proofs.Finishing.{may_call_later}
use Rattle.ov_store.proofs.Looking.{looked_at}
use Rattle.ov_store.specs.Scanning.{IsDamagedIn, IsUnscanned, scan_off, set_in}
use Rattle.ov_session.proofs.Dealing.{result_spared, scan_damaged, scan_spared}
use Rattle.ov_session.proofs.Keeping.{acts_later, off_alone}
use Rattle.ov_session.proofs.Lookups.{named_is}
use Rattle.ov_session.proofs.Numbering.{journal_looked}
use Rattle.ov_session.proofs.Putting.{at_then, behind_then, looked_behind, put_damaged, rose_then, unmerged_acts}
use Rattle.ov_session.proofs.Replying.{result_seen}
use Rattle.ov_session.proofs.Rows.{damages_wider}
use Rattle.ov_session.proofs.Standing.{at_looked, on_any}
use Rattle.ov_session.specs.Bounds.{bytes_in}
use Rattle.ov_session.specs.Staging.{keeps}
use Rattle.ov_session.proofs.staging.put_table.Goals as goal

pub keep_table-requires-clause-call : goal.keep_table-requires-clause-call
keep_table-requires-clause-call g c = may_call_later c.args.store.now (g.H.Host.state c.args.host.now) (g.H.Host.state c.merged.new.host) c.merged.ensures.looked c.requires.call

-- ---- the merge is there

pub returns-in-Ok-clause-goes : goal.returns-in-Ok-clause-goes
returns-in-Ok-clause-goes g c = record {
  told = c.keep_table.ensures.goes.told ∙ c.merged.ensures.looked.told;
  kept = c.keep_table.ensures.goes.kept ∙ c.merged.ensures.looked.kept;
  faults = omega (arith, c.merged.ensures.looked.faults, c.keep_table.ensures.goes.faults);
  fetched = omega (arith, c.merged.ensures.looked.fetched, c.keep_table.ensures.goes.fetched);
}

pub returns-in-Ok-clause-fetched : goal.returns-in-Ok-clause-fetched
returns-in-Ok-clause-fetched g c =
    let read = subst (λ (name : List ℕ). (g.H.Host.state c.merged.new.host).fetched ≤ (g.H.Host.state c.args.host.now).fetched
    + bytes_in (set_in c.args.store.now.held.numbers name) c.args.vids.now) c.as_str.ensures.text c.merged.ensures.fetched
    in omega (arith, read, c.keep_table.ensures.fetched)

pub returns-in-Ok-clause-cause : goal.returns-in-Ok-clause-cause
returns-in-Ok-clause-cause g c = λ is.
    rose_then (g.H.Host.state c.args.host.now).faults (g.H.Host.state c.merged.new.host).faults (g.H.Host.state c.keep_table.new.host).faults c.merged.ensures.looked.faults
    (c.keep_table.ensures.cause is)

pub returns-in-Ok-clause-damaged : goal.returns-in-Ok-clause-damaged
returns-in-Ok-clause-damaged g c =
    let n = c.args.store.now.held.numbers
    in put_damaged (set_in n c.args.cvd) (set_in n stage_name) c.args.vids.now c.args.cvd c.args.rows.now c.args.store.now c.keep_table.new.store c.requires.listed
    (g.T.Stage.staged c.args.stage.now) (g.T.Stage.staged c.keep_table.new.stage) (g.H.Host.state c.args.host.now) (g.H.Host.state c.merged.new.host)
    (g.H.Host.state c.keep_table.new.host) c.keep_table.result c.merged.ensures.looked
    (λ page told. subst (λ (name : List ℕ). IsDamagedIn (set_in n name) c.args.vids.now (g.H.Host.state c.args.host.now) page → ⊥) c.as_str.ensures.text (c.in-Ok.ensures.whole page told))
    c.keep_table.ensures.idle c.keep_table.ensures.damaged

pub returns-in-Ok-clause-undamaged : goal.returns-in-Ok-clause-undamaged
returns-in-Ok-clause-undamaged g c = λ w at.
    c.keep_table.ensures.undamaged w (looked_at w c.args.store.now.held (g.H.Host.state c.args.host.now) (g.H.Host.state c.merged.new.host) c.merged.ensures.looked at)

pub returns-in-Ok-clause-by_journal : goal.returns-in-Ok-clause-by_journal
returns-in-Ok-clause-by_journal g c = λ by fine.
    c.keep_table.ensures.by_journal (journal_looked c.args.store.now.held (g.H.Host.state c.args.host.now) (g.H.Host.state c.merged.new.host) c.merged.ensures.looked by) fine

pub returns-in-Ok-clause-at : goal.returns-in-Ok-clause-at
returns-in-Ok-clause-at g c = λ w at.
    let old = g.H.Host.state c.args.host.now
    in let mid = g.H.Host.state c.merged.new.host
    in at_then c.keep_table.new.store.held old mid (g.H.Host.state c.keep_table.new.host) c.keep_table.result (c.merged.ensures.looked.tape at.at.told)
    (c.keep_table.ensures.at w (looked_at w c.args.store.now.held old mid c.merged.ensures.looked at))

pub returns-in-Ok-clause-idle : goal.returns-in-Ok-clause-idle
returns-in-Ok-clause-idle g c =
    behind_then c.args.store.now c.keep_table.new.store (g.T.Stage.staged c.args.stage.now) (g.T.Stage.staged c.keep_table.new.stage) (g.H.Host.state c.args.host.now)
    (g.H.Host.state c.merged.new.host) (g.H.Host.state c.keep_table.new.host) c.keep_table.result c.merged.ensures.looked c.keep_table.ensures.idle

pub returns-in-Ok-clause-acts : goal.returns-in-Ok-clause-acts
returns-in-Ok-clause-acts g c = λ w user d told at named.
    let s = session_of (g.T.Stage.staged c.args.stage.now).files user
    in let old = g.H.Host.state c.args.host.now
    in let mid = g.H.Host.state c.merged.new.host
    in let named_so : set_named w c.as_str.result.now ≡ Some d = ap (set_named w) c.as_str.ensures.text ∙ named
    in acts_later (keeps w s c.args.rows.now d c.args.vids.now c.args.file) s (session_of (g.T.Stage.staged c.keep_table.new.stage).files user) w c.keep_table.result
    c.args.store.now.held c.keep_table.new.store.held old mid (g.H.Host.state c.keep_table.new.host) (c.merged.ensures.looked.tape at.at.told)
    (c.keep_table.ensures.acts w user d c.args.vids.now told (looked_at w c.args.store.now.held old mid c.merged.ensures.looked at) (c.in-Ok.ensures.world w d at named_so)
    (named_is w c.args.cvd d named))

-- ---- it isn't

pub returns-in-Err-clause-fetched : goal.returns-in-Err-clause-fetched
returns-in-Err-clause-fetched g c =
    let read = subst (λ (name : List ℕ). (g.H.Host.state c.merged.new.host).fetched ≤ (g.H.Host.state c.args.host.now).fetched
    + bytes_in (set_in c.args.store.now.held.numbers name) c.args.vids.now) c.as_str.ensures.text c.merged.ensures.fetched
    in omega (arith, read)

pub returns-in-Err-clause-stage : goal.returns-in-Err-clause-stage
returns-in-Err-clause-stage g c = λ is. absurd (off_alone c.in-Err.off c.refused.result c.refused.ensures.end is)

pub returns-in-Err-clause-damaged : goal.returns-in-Err-clause-damaged
returns-in-Err-clause-damaged g c =
    damages_wider _ _ c.refused.result (λ page is. inl is.1)
    (scan_damaged c.args.store.now.held c.as_str.result.now c.args.cvd c.args.vids.now (g.H.Host.state c.args.host.now) (g.H.Host.state c.merged.new.host) c.as_str.ensures.text
    c.merged.ensures.looked c.in-Err.off c.refused.result c.refused.ensures.end c.in-Err.ensures.why)

pub returns-in-Err-clause-undamaged : goal.returns-in-Err-clause-undamaged
returns-in-Err-clause-undamaged g c = λ w at.
    result_spared c.in-Err.off c.refused.result c.refused.ensures.end
    (scan_spared w c.args.store.now.held (g.H.Host.state c.args.host.now) at c.as_str.result.now c.args.vids.now (g.H.Host.state c.merged.new.host) c.in-Err.off c.in-Err.ensures.why
    (λ d is. c.in-Err.ensures.world w d at is))

pub returns-in-Err-clause-usable : goal.returns-in-Err-clause-usable
returns-in-Err-clause-usable g c =
    on_any _ c.refused.result (may_call_later c.args.store.now (g.H.Host.state c.args.host.now) (g.H.Host.state c.merged.new.host) c.merged.ensures.looked c.requires.call)

pub returns-in-Err-clause-begins_none : goal.returns-in-Err-clause-begins_none
returns-in-Err-clause-begins_none g c = λ none. on_any _ c.refused.result none

pub returns-in-Err-clause-by_journal : goal.returns-in-Err-clause-by_journal
returns-in-Err-clause-by_journal g c = λ by fine. journal_looked c.args.store.now.held (g.H.Host.state c.args.host.now) (g.H.Host.state c.merged.new.host) c.merged.ensures.looked by

pub returns-in-Err-clause-at : goal.returns-in-Err-clause-at
returns-in-Err-clause-at g c = λ w at.
    on_any _ c.refused.result (at_looked w c.args.store.now.held (g.H.Host.state c.args.host.now) (g.H.Host.state c.merged.new.host) at c.merged.ensures.looked)

pub returns-in-Err-clause-seen : goal.returns-in-Err-clause-seen
returns-in-Err-clause-seen g c = result_seen c.args.cvd c.in-Err.off c.refused.result c.refused.ensures.reply

pub returns-in-Err-clause-idle : goal.returns-in-Err-clause-idle
returns-in-Err-clause-idle g c =
    looked_behind c.args.store.now (g.T.Stage.staged c.args.stage.now) (g.H.Host.state c.args.host.now) (g.H.Host.state c.merged.new.host) c.refused.result c.merged.ensures.looked
    (off_alone c.in-Err.off c.refused.result c.refused.ensures.end)

pub returns-in-Err-clause-acts : goal.returns-in-Err-clause-acts
returns-in-Err-clause-acts g c = λ w user d told at named.
    let s = session_of (g.T.Stage.staged c.args.stage.now).files user
    in let n = c.args.store.now.held.numbers
    in let old = g.H.Host.state c.args.host.now
    in let new = g.H.Host.state c.merged.new.host
    in let why = subst (λ (name : List ℕ). IsUnscanned (scan_off n name c.args.vids.now) (set_in n name) c.args.vids.now old new c.in-Err.off) c.as_str.ensures.text c.in-Err.ensures.why
    in unmerged_acts (set_in n c.args.cvd) (set_in n stage_name) c.args.vids.now c.args.cvd c.args.rows.now c.args.store.now c.args.store.now c.requires.listed
    (keeps w s c.args.rows.now d c.args.vids.now c.args.file) s w c.args.store.now.held old new at c.merged.ensures.looked c.in-Err.off why c.refused.result c.refused.ensures.reply
