use Rattle.std.proofs.Common.{◌≡◌, ◌∙◌, ap, rules, subst, sym}
use Rattle.ov_host.specs.Stops.{Only}
use Rattle.ov_core.specs.AtWorld.{IsAtNext, IsEither}
use Rattle.law_room.specs.Room.{IsWithin}
use Rattle.ov_model.specs.Moves.{BeginPlan}
use Rattle.ov_optimize.specs.Planned.{IsReport, IsSplitFor}
use Rattle.ov_store.specs.Planning.{IsBegun, IsPlanLack, begun_in}
use Rattle.ov_store.specs.Scanning.{set_in}
use Rattle.ov_store.specs.Thresholds.{IsUnbegunWith}
use Rattle.ov_store.specs.Worlds.{and_made}
use Rattle.ov_store.proofs.Looking.{looked_at}
use Rattle.ov_choose.specs.Choices.{IsNoThreshold, IsUnchosen}
use Rattle.ov_choose.specs.Worlds.{IsPlanLackOf, IsRefusedTo, within_in, within_refused}
use Rattle.ov_choose.proofs.Numbers.{set_there, within_there}
use Rattle.ov_choose.proofs.Picks.{never_refused, next_world, same_best, shown_allowed, told_of}
use Rattle.ov_choose.proofs.Plans.{begun_before, next_before, part_before, plan_lacks, plan_no_threshold, plan_refused_to, still_looked, still_world_looked, stops_before, unbegun_unchosen}
use Rattle.ov_choose.proofs.Tables.{lines_whole}
use Rattle.ov_choose.proofs.choosing.optimize_within.Goals as goal

-- ---- nothing is chosen

pub returns-in_err-lists-clause-stops : goal.returns-in_err-lists-clause-stops
returns-in_err-lists-clause-stops g c = λ w at.
    still_looked w (within_in c.args.name.now c.args.budget w) c.args.store.now.held (g.H.Host.state c.args.host.now) (g.H.Host.state c.choose.new.host) c.in_err-lists.ensures.looked at

pub returns-in_err-lists-clause-refused : goal.returns-in_err-lists-clause-refused
returns-in_err-lists-clause-refused g c = λ w at.
    let fact : IsRefusedTo c.args.name.now c.args.budget (within_refused w c.args.name.now c.args.budget) c.in_err-lists.field-0.0
    = c.in_err-lists.ensures.world w at
    in search (rules, fact)

pub returns-in_err-lists-clause-still : goal.returns-in_err-lists-clause-still
returns-in_err-lists-clause-still g c = λ w refusal at refused.
    still_world_looked w w c.args.store.now.held (g.H.Host.state c.args.host.now) (g.H.Host.state c.choose.new.host) c.in_err-lists.ensures.looked at

-- ---- its plan began

pub begin_plan-requires-clause-split : goal.begin_plan-requires-clause-split
begin_plan-requires-clause-split g c = λ s named.
    let from : c.from.result ≡ c.in_ok-lists.field-0.p = search rules
    in subst (λ q. IsSplitFor s q 100 c.in_ok-lists.field-0.split) (sym from) (c.in_ok-lists.ensures.split s named)

pub returns-in-Ok-clause-done : goal.returns-in-Ok-clause-done
returns-in-Ok-clause-done g c = λ s named.
    let from : c.from.result ≡ c.in_ok-lists.field-0.p = search rules
    in record {
      picked = c.in_ok-lists.ensures.chosen s named;
      begun = subst (λ q. IsBegun s q 100 (g.H.Host.state c.args.host.now) c.args.store.now.held c.begin_plan.new.self.held c.in-Ok.report) from
          (begun_before (g.H.Host.state c.args.host.now) (g.H.Host.state c.choose.new.host) c.in_ok-lists.ensures.looked s c.from.result c.args.store.now.held c.begin_plan.new.self.held c.in-Ok.report (c.in-Ok.ensures.done s named));
    }

pub returns-in-Ok-clause-undamaged : goal.returns-in-Ok-clause-undamaged
returns-in-Ok-clause-undamaged g c = λ s told named page.
    let looked = c.in_ok-lists.ensures.looked
    in let picked = c.in_ok-lists.ensures.chosen s named
    in (
      lines_whole s (g.H.Host.state c.args.host.now) picked.lines told picked.choice.are page,
      (λ bad. c.in-Ok.ensures.undamaged s (looked.told ∙ told) named page (part_before (g.H.Host.state c.args.host.now) (g.H.Host.state c.choose.new.host) looked s c.from.result page told bad)),
    )

pub returns-in-Ok-clause-stops : goal.returns-in-Ok-clause-stops
returns-in-Ok-clause-stops g c = λ w at.
    let shown = c.in_ok-lists.ensures.world w at
    in let from : c.from.result ≡ c.in_ok-lists.field-0.p = search rules
    in let next : begun_in c.args.name.now c.from.result 100 w ≡ within_in c.args.name.now c.args.budget w = ap (λ q. begun_in c.args.name.now q 100 w) from ∙ next_world w c.args.name.now c.args.budget c.in_ok-lists.field-0.lines c.in_ok-lists.field-0.p shown
    in stops_before w (within_in c.args.name.now c.args.budget w) c.args.store.now.held (g.H.Host.state c.args.host.now) (g.H.Host.state c.choose.new.host) c.in_ok-lists.ensures.looked at (g.H.Host.state c.begin_plan.new.host)
    (subst (λ v. Only (g.H.Host.state c.choose.new.host).tape (g.H.Host.state c.begin_plan.new.host).tape (IsEither w v (g.H.Host.state c.choose.new.host).tape.disk.printed)) next (c.begin_plan.ensures.stops w (looked_at w c.args.store.now.held (g.H.Host.state c.args.host.now) (g.H.Host.state c.choose.new.host) c.in_ok-lists.ensures.looked at)))

pub returns-in-Ok-clause-moves : goal.returns-in-Ok-clause-moves
returns-in-Ok-clause-moves g c = λ w at.
    let shown = c.in_ok-lists.ensures.world w at
    in let from : c.from.result ≡ c.in_ok-lists.field-0.p = search rules
    in let next : begun_in c.args.name.now c.from.result 100 w ≡ within_in c.args.name.now c.args.budget w = ap (λ q. begun_in c.args.name.now q 100 w) from ∙ next_world w c.args.name.now c.args.budget c.in_ok-lists.field-0.lines c.in_ok-lists.field-0.p shown
    in next_before w (within_in c.args.name.now c.args.budget w) c.args.store.now.held (g.H.Host.state c.args.host.now) (g.H.Host.state c.choose.new.host) c.in_ok-lists.ensures.looked at c.begin_plan.new.self.held (g.H.Host.state c.begin_plan.new.host)
    (subst (λ v. IsAtNext v c.begin_plan.new.self.held (g.H.Host.state c.choose.new.host) (g.H.Host.state c.begin_plan.new.host)) next (c.in-Ok.ensures.moves w (looked_at w c.args.store.now.held (g.H.Host.state c.args.host.now) (g.H.Host.state c.choose.new.host) c.in_ok-lists.ensures.looked at)))

pub returns-in-Ok-clause-shown : goal.returns-in-Ok-clause-shown
returns-in-Ok-clause-shown g c = λ w d at named.
    let from : c.from.result ≡ c.in_ok-lists.field-0.p = search rules
    in told_of w c.args.name.now c.args.budget c.in_ok-lists.field-0.lines c.in_ok-lists.field-0.p (c.in_ok-lists.ensures.world w at) d named c.in-Ok.report
    (subst (λ q. IsReport d q 100 c.in-Ok.report) from (c.in-Ok.ensures.report w d (looked_at w c.args.store.now.held (g.H.Host.state c.args.host.now) (g.H.Host.state c.choose.new.host) c.in_ok-lists.ensures.looked at) named))

pub returns-in-Ok-clause-refused : goal.returns-in-Ok-clause-refused
returns-in-Ok-clause-refused g c = λ w at. shown_allowed w c.args.name.now c.args.budget c.in_ok-lists.field-0.lines c.in_ok-lists.field-0.p (c.in_ok-lists.ensures.world w at)

pub returns-in-Ok-clause-still : goal.returns-in-Ok-clause-still
returns-in-Ok-clause-still g c = λ w refusal at refused. absurd (never_refused w c.args.name.now c.args.budget c.in_ok-lists.field-0.lines c.in_ok-lists.field-0.p (c.in_ok-lists.ensures.world w at) refusal refused)

pub returns-in-Ok-clause-room : goal.returns-in-Ok-clause-room
returns-in-Ok-clause-room g c = λ w d best entry past at named chosen within.
    let from : c.from.result ≡ c.in_ok-lists.field-0.p = search rules
    in subst (λ q. IsWithin entry (and_made past (BeginPlan d.cvd.number q 100) w) c.begin_plan.new.self.held)
    (from ∙ same_best w c.args.name.now c.args.budget c.in_ok-lists.field-0.lines c.in_ok-lists.field-0.p (c.in_ok-lists.ensures.world w at) d named best chosen)
    (c.in-Ok.ensures.room w d entry past (looked_at w c.args.store.now.held (g.H.Host.state c.args.host.now) (g.H.Host.state c.choose.new.host) c.in_ok-lists.ensures.looked at) named within)

-- ---- or it didn't

pub returns-clause-why : goal.returns-clause-why
returns-clause-why g c =
    let o = set_in c.args.store.now.held.numbers c.args.name.now
    in let there = set_there o (within_there o c.in_ok-lists.ensures.within)
    in let from : c.from.result ≡ c.in_ok-lists.field-0.p = search rules
    in subst (IsUnchosen (set_in c.args.store.now.held.numbers c.args.name.now) c.args.budget c.args.store.now.held (g.H.Host.state c.args.host.now) (g.H.Host.state c.begin_plan.new.host)) (sym c.unbegun.ensures)
    (unbegun_unchosen (g.H.Host.state c.args.host.now) (g.H.Host.state c.choose.new.host) c.in_ok-lists.ensures.looked there.0 c.in_ok-lists.field-0.p c.args.budget c.in_ok-lists.field-0.lines
    (c.in_ok-lists.ensures.chosen there.0 there.1) o c.args.store.now.held (g.H.Host.state c.begin_plan.new.host) c.in-Err.off there.1 c.in_ok-lists.ensures.within
    (subst (λ q. IsUnbegunWith (set_in c.args.store.now.held.numbers c.args.name.now) q 100 (g.H.Host.state c.choose.new.host) (g.H.Host.state c.begin_plan.new.host) c.args.store.now.held c.in-Err.off) from c.in-Err.ensures.why))

pub returns-clause-stops : goal.returns-clause-stops
returns-clause-stops g c = λ w at.
    let shown = c.in_ok-lists.ensures.world w at
    in let from : c.from.result ≡ c.in_ok-lists.field-0.p = search rules
    in let next : begun_in c.args.name.now c.from.result 100 w ≡ within_in c.args.name.now c.args.budget w = ap (λ q. begun_in c.args.name.now q 100 w) from ∙ next_world w c.args.name.now c.args.budget c.in_ok-lists.field-0.lines c.in_ok-lists.field-0.p shown
    in stops_before w (within_in c.args.name.now c.args.budget w) c.args.store.now.held (g.H.Host.state c.args.host.now) (g.H.Host.state c.choose.new.host) c.in_ok-lists.ensures.looked at (g.H.Host.state c.begin_plan.new.host)
    (subst (λ v. Only (g.H.Host.state c.choose.new.host).tape (g.H.Host.state c.begin_plan.new.host).tape (IsEither w v (g.H.Host.state c.choose.new.host).tape.disk.printed)) next (c.begin_plan.ensures.stops w (looked_at w c.args.store.now.held (g.H.Host.state c.args.host.now) (g.H.Host.state c.choose.new.host) c.in_ok-lists.ensures.looked at)))

pub returns-clause-lists_alone : goal.returns-clause-lists_alone
returns-clause-lists_alone g c = λ s named no. absurd (plan_no_threshold c.in-Err.off (subst IsNoThreshold c.unbegun.ensures no))

pub returns-clause-refused : goal.returns-clause-refused
returns-clause-refused g c = λ w at.
    subst (IsRefusedTo c.args.name.now c.args.budget (within_refused w c.args.name.now c.args.budget)) (sym c.unbegun.ensures)
    (plan_refused_to c.args.name.now c.args.budget (within_refused w c.args.name.now c.args.budget) c.in-Err.off
    (shown_allowed w c.args.name.now c.args.budget c.in_ok-lists.field-0.lines c.in_ok-lists.field-0.p (c.in_ok-lists.ensures.world w at)) (c.in-Err.ensures.refused w (looked_at w c.args.store.now.held (g.H.Host.state c.args.host.now) (g.H.Host.state c.choose.new.host) c.in_ok-lists.ensures.looked at)))

pub returns-clause-still : goal.returns-clause-still
returns-clause-still g c = λ w refusal at refused. absurd (never_refused w c.args.name.now c.args.budget c.in_ok-lists.field-0.lines c.in_ok-lists.field-0.p (c.in_ok-lists.ensures.world w at) refusal refused)

pub returns-clause-room : goal.returns-clause-room
returns-clause-room g c = λ w d best entry past at named chosen within.
    let from : c.from.result ≡ c.in_ok-lists.field-0.p = search rules
    in subst (IsPlanLackOf entry past (BeginPlan d.cvd.number best.0 100) w) (sym c.unbegun.ensures)
    (plan_lacks entry past (BeginPlan d.cvd.number best.0 100) w c.in-Err.off
    (subst (λ q. IsPlanLack entry past (BeginPlan d.cvd.number q 100) w c.in-Err.off)
    (from ∙ same_best w c.args.name.now c.args.budget c.in_ok-lists.field-0.lines c.in_ok-lists.field-0.p (c.in_ok-lists.ensures.world w at) d named best chosen)
    (c.in-Err.ensures.room w d entry past (looked_at w c.args.store.now.held (g.H.Host.state c.args.host.now) (g.H.Host.state c.choose.new.host) c.in_ok-lists.ensures.looked at) named within)))
