use Rattle.std.proofs.Common.{rules, ◌≡◌, ◌∙◌, ℕ, List, ap, subst}
use Rattle.std.specs.Prelude.{None, Some}
use Rattle.law_runs.specs.Serving.{session_of}
use Rattle.ov_model.specs.World.{Dataset, set_named}
use Rattle.ov_session.specs.Commands.{IsMergeOf}
use Rattle.std.proofs.Common.{◌+◌, refl}
use Rattle.std.specs.Prelude.{◌≤◌}
use Rattle.ov_session.proofs.Dealing.{result_no_host, result_spared, scan_damaged, scan_spared, spared_damaged}
use Rattle.ov_session.proofs.Replying.{result_seen}
use Rattle.ov_session.proofs.Standing.{idle_given, result_unmoved}
use Rattle.ov_session.specs.Bounds.{bytes_in}
use Rattle.ov_session.proofs.Lookups.{checkout_given, checkout_off, named_is}
use Rattle.ov_store.specs.Scanning.{IsUnscanned, scan_off, set_in}
use Rattle.ov_session.proofs.Meeting.{given_whole, refused_whole}
use Rattle.ov_session.proofs.reading.checkout.Goals as goal

pub returns-in-Ok-clause-acts : goal.returns-in-Ok-clause-acts
returns-in-Ok-clause-acts g c = λ w user told at.
    let same : c.as_str.result.now ≡ c.args.cvd = search rules
    in let allowed : scan_off c.args.store.now.held.numbers c.args.cvd c.args.vids.now ≡ None
    = subst (λ (name : List ℕ). scan_off c.args.store.now.held.numbers name c.args.vids.now ≡ None) same c.in-Ok.ensures.allowed
    in let merges : (d : Dataset) → set_named w c.args.cvd ≡ Some d → IsMergeOf d c.args.vids.now c.in-Ok.made
    = subst (λ (name : List ℕ). (d : Dataset) → set_named w name ≡ Some d → IsMergeOf d c.args.vids.now c.in-Ok.made) same (λ d named. c.in-Ok.ensures.world w d at named)
    in checkout_given w c.args.store.now.held (g.H.Host.state c.args.host.now) (g.H.Host.state c.merged.new.host) at c.in-Ok.ensures.looked
    (session_of (g.T.Stage.staged c.args.stage.now).files user) c.args.vids.now c.args.file c.args.cvd
    (session_of (g.T.Stage.staged c.give.new.stage).files user) c.give.result allowed
    (λ d named. c.give.ensures.given w user d c.args.vids.now told (merges d named) (named_is w c.args.cvd d named))

pub returns-in-Err-clause-acts : goal.returns-in-Err-clause-acts
returns-in-Err-clause-acts g c = λ w user told at.
    let same : c.as_str.result.now ≡ c.args.cvd = search rules
    in let unscanned : IsUnscanned (scan_off c.args.store.now.held.numbers c.args.cvd c.args.vids.now) (set_in c.args.store.now.held.numbers c.args.cvd) c.args.vids.now
    (g.H.Host.state c.args.host.now) (g.H.Host.state c.merged.new.host) c.in-Err.off
    = subst (λ (name : List ℕ). IsUnscanned (scan_off c.args.store.now.held.numbers name c.args.vids.now) (set_in c.args.store.now.held.numbers name) c.args.vids.now
    (g.H.Host.state c.args.host.now) (g.H.Host.state c.merged.new.host) c.in-Err.off) same c.in-Err.ensures.why
    in checkout_off w c.args.store.now.held (g.H.Host.state c.args.host.now) (g.H.Host.state c.merged.new.host) at c.in-Err.ensures.looked
    (session_of (g.T.Stage.staged c.args.stage.now).files user) c.args.vids.now c.args.file c.args.cvd
    c.refused.result c.in-Err.off unscanned c.refused.ensures.reply

pub returns-in-Ok-clause-undamaged : goal.returns-in-Ok-clause-undamaged
returns-in-Ok-clause-undamaged g c = λ w at. result_no_host c.give.result c.give.ensures.stage_alone

pub returns-in-Err-clause-undamaged : goal.returns-in-Err-clause-undamaged
returns-in-Err-clause-undamaged g c = λ w at.
    result_spared c.in-Err.off c.refused.result c.refused.ensures.end
    (scan_spared w c.args.store.now.held (g.H.Host.state c.args.host.now) at c.as_str.result.now c.args.vids.now (g.H.Host.state c.merged.new.host) c.in-Err.off c.in-Err.ensures.why
    (λ d is. c.in-Err.ensures.world w d at is))

pub returns-in-Ok-clause-fetched : goal.returns-in-Ok-clause-fetched
returns-in-Ok-clause-fetched g c =
    subst (λ (name : List ℕ). (g.H.Host.state c.merged.new.host).fetched ≤ (g.H.Host.state c.args.host.now).fetched + bytes_in (set_in c.args.store.now.held.numbers name) c.args.vids.now) c.as_str.ensures.text
    c.merged.ensures.fetched

pub returns-in-Err-clause-fetched : goal.returns-in-Err-clause-fetched
returns-in-Err-clause-fetched g c =
    subst (λ (name : List ℕ). (g.H.Host.state c.merged.new.host).fetched ≤ (g.H.Host.state c.args.host.now).fetched + bytes_in (set_in c.args.store.now.held.numbers name) c.args.vids.now) c.as_str.ensures.text
    c.merged.ensures.fetched

pub returns-in-Ok-clause-unread : goal.returns-in-Ok-clause-unread
returns-in-Ok-clause-unread g c = λ off is.
    c.merged.ensures.unread off (ap (λ (name : List ℕ). scan_off c.args.store.now.held.numbers name c.args.vids.now) c.as_str.ensures.text ∙ is)

pub returns-in-Err-clause-unread : goal.returns-in-Err-clause-unread
returns-in-Err-clause-unread g c = λ off is.
    c.merged.ensures.unread off (ap (λ (name : List ℕ). scan_off c.args.store.now.held.numbers name c.args.vids.now) c.as_str.ensures.text ∙ is)

pub returns-in-Err-clause-seen : goal.returns-in-Err-clause-seen
returns-in-Err-clause-seen g c = result_seen c.args.cvd c.in-Err.off c.refused.result c.refused.ensures.reply

pub returns-in-Ok-clause-idle : goal.returns-in-Ok-clause-idle
returns-in-Ok-clause-idle g c =
    idle_given c.args.store.now c.args.store.now (g.T.Stage.staged c.args.stage.now) (g.T.Stage.staged c.give.new.stage) (g.H.Host.state c.args.host.now) (g.H.Host.state c.merged.new.host) c.give.result c.give.ensures.stage_alone
    (record { store = refl; looked = c.merged.ensures.looked })

pub returns-in-Err-clause-idle : goal.returns-in-Err-clause-idle
returns-in-Err-clause-idle g c =
    result_unmoved c.args.store.now c.args.store.now (g.T.Stage.staged c.args.stage.now) (g.T.Stage.staged c.args.stage.now) (g.H.Host.state c.args.host.now) (g.H.Host.state c.merged.new.host) c.refused.result
    (record { store = refl; looked = c.merged.ensures.looked }) refl

pub returns-in-Ok-clause-damaged : goal.returns-in-Ok-clause-damaged
returns-in-Ok-clause-damaged g c =
    spared_damaged c.args.store.now.held c.as_str.result.now c.args.cvd c.args.vids.now (g.H.Host.state c.args.host.now) (g.H.Host.state c.merged.new.host) c.as_str.ensures.text c.merged.ensures.looked
    c.give.result c.give.ensures.stage_alone

pub returns-in-Err-clause-damaged : goal.returns-in-Err-clause-damaged
returns-in-Err-clause-damaged g c =
    scan_damaged c.args.store.now.held c.as_str.result.now c.args.cvd c.args.vids.now (g.H.Host.state c.args.host.now) (g.H.Host.state c.merged.new.host) c.as_str.ensures.text c.merged.ensures.looked
    c.in-Err.off c.refused.result c.refused.ensures.end c.in-Err.ensures.why

pub returns-in-Ok-clause-whole : goal.returns-in-Ok-clause-whole
returns-in-Ok-clause-whole g c = λ page told.
    given_whole c.args.store.now.held c.as_str.result.now c.args.cvd c.args.vids.now (g.H.Host.state c.args.host.now) (g.H.Host.state c.merged.new.host) page c.as_str.ensures.text c.give.result
    (c.in-Ok.ensures.whole page told)

pub returns-in-Err-clause-whole : goal.returns-in-Err-clause-whole
returns-in-Err-clause-whole g c = λ page told.
    refused_whole c.args.store.now.held c.as_str.result.now c.args.cvd c.args.vids.now (g.H.Host.state c.args.host.now) (g.H.Host.state c.merged.new.host) page c.as_str.ensures.text c.in-Err.off
    c.refused.result c.in-Err.ensures.why c.refused.ensures.reply
