use Rattle.std.proofs.Common.{◌≡◌, [], ◌∙◌, subst, sym}
use Rattle.std.specs.Prelude.{Some}
use Rattle.std.specs.List.{AllZip}
use Rattle.ov_catalog.specs.Raw.{event_in}
use Rattle.ov_catalog.specs.Sets.{set_in}
use Rattle.ov_catalog.specs.Shown.{plan_event}
use Rattle.ov_catalog.specs.Stands.{asked_as}
use Rattle.ov_core.specs.Brought.{content}
use Rattle.ov_fetch.specs.Extents.{page_bytes}
use Rattle.ov_fetch.proofs.Gathered.{passed_on}
use Rattle.ov_fetch.proofs.Looks.{same_pages}
use Rattle.ov_read.specs.OfWorld.{IsSpared}
use Rattle.ov_optimize.specs.Damages.{RefusesParts, RefusesPlan}
use Rattle.ov_optimize.specs.Planned.{IsPlanned, IsReport}
use Rattle.ov_optimize.specs.Reading.{IsListAt, IsListOf, all_vids}
use Rattle.ov_optimize.proofs.VersionLists.{lists_refuse_plan, parts_refuse_plan}
use Rattle.ov_optimize.proofs.Worlds.{made_is, spared}
use Rattle.ov_optimize.proofs.planning.plan_of.Goals as goal

-- ---- the lists

pub returns-in_err-lists-clause-answer : goal.returns-in_err-lists-clause-answer
returns-in_err-lists-clause-answer g c told =
    let s = set_in c.args.d.now in
    let area = page_bytes (g.H.Host.state c.args.host.now) in
    passed_on (λ made. IsPlanned area s c.args.p c.args.q made.event) (λ e. RefusesPlan e area s)
    c.from_residual.result c.in_err-lists.field-0.0 c.from_residual.ensures
    (lists_refuse_plan c.in_err-lists.field-0.0 area s (c.in_err-lists.ensures.answer told))

pub returns-in_err-lists-clause-world : goal.returns-in_err-lists-clause-world
returns-in_err-lists-clause-world g c told w ds of =
    let s = set_in c.args.d.now in
    let area = page_bytes (g.H.Host.state c.args.host.now) in
    passed_on (λ made. (Some (content (event_in made.event) [] []) ≡ Some (asked_as (plan_event ds.cvd.number c.args.p c.args.q ds))) × IsReport ds c.args.p c.args.q made.report) IsSpared
    c.from_residual.result c.in_err-lists.field-0.0 c.from_residual.ensures
    (spared w ds area s of c.in_err-lists.field-0.0 (lists_refuse_plan c.in_err-lists.field-0.0 area s (c.in_err-lists.ensures.answer told)))

-- ---- the partitions

pub plan_with-requires-clause-lists : goal.plan_with-requires-clause-lists
plan_with-requires-clause-lists g c =
    let s = set_in c.args.d.now in
    subst (AllZip (IsListOf s) (all_vids s)) (sym c.deref.ensures.value) c.in_ok-lists.ensures.listed

pub returns-in_err-made-clause-answer : goal.returns-in_err-made-clause-answer
returns-in_err-made-clause-answer g c told =
    let s0 = g.H.Host.state c.args.host.now in
    let s1 = g.H.Host.state c.all_lists.new.host in
    let s = set_in c.args.d.now in
    let looked = c.in_ok-lists.ensures.looked in
    let e = c.in_err-made.field-0.0 in
    passed_on (λ made. IsPlanned (page_bytes s0) s c.args.p c.args.q made.event) (λ x. RefusesPlan x (page_bytes s0) s)
    c.from_residual-in_err-made.result e c.from_residual-in_err-made.ensures
    (parts_refuse_plan e (page_bytes s0) s
    (subst (λ area. RefusesParts e area s) (same_pages s0 s1 looked told) (c.in_err-made.ensures.refuses (looked.told ∙ told))))

pub returns-in_err-made-clause-world : goal.returns-in_err-made-clause-world
returns-in_err-made-clause-world g c told w ds of =
    let s0 = g.H.Host.state c.args.host.now in
    let s1 = g.H.Host.state c.all_lists.new.host in
    let s = set_in c.args.d.now in
    let looked = c.in_ok-lists.ensures.looked in
    let e = c.in_err-made.field-0.0 in
    passed_on (λ made. (Some (content (event_in made.event) [] []) ≡ Some (asked_as (plan_event ds.cvd.number c.args.p c.args.q ds))) × IsReport ds c.args.p c.args.q made.report) IsSpared
    c.from_residual-in_err-made.result e c.from_residual-in_err-made.ensures
    (spared w ds (page_bytes s0) s of e (parts_refuse_plan e (page_bytes s0) s
    (subst (λ area. RefusesParts e area s) (same_pages s0 s1 looked told) (c.in_err-made.ensures.refuses (looked.told ∙ told)))))

pub returns-clause-answer : goal.returns-clause-answer
returns-clause-answer g c told =
    let s0 = g.H.Host.state c.args.host.now in
    let s1 = g.H.Host.state c.all_lists.new.host in
    let s = set_in c.args.d.now in
    let looked = c.in_ok-lists.ensures.looked in
    let pages = same_pages s0 s1 looked told in
    subst (λ area. IsPlanned area s c.args.p c.args.q c.in_ok-made.made.event) pages
    (c.in_ok-made.ensures.says (looked.told ∙ told)
    (subst (λ ls. AllZip (IsListAt (page_bytes s1) s) (all_vids s) ls) (sym c.deref.ensures.value)
    (subst (λ area. AllZip (IsListAt area s) (all_vids s) c.in_ok-lists.lists.items) (sym pages) (c.in_ok-lists.ensures.answer told))))

pub returns-clause-world : goal.returns-clause-world
returns-clause-world g c told w ds of =
    let s0 = g.H.Host.state c.args.host.now in
    let s1 = g.H.Host.state c.all_lists.new.host in
    let s = set_in c.args.d.now in
    let looked = c.in_ok-lists.ensures.looked in
    let pages = same_pages s0 s1 looked told in
    made_is w ds (page_bytes s0) s of c.args.p c.args.q c.in_ok-made.made c.in_ok-made.ensures.made
    (subst (λ area. IsPlanned area s c.args.p c.args.q c.in_ok-made.made.event) pages
    (c.in_ok-made.ensures.says (looked.told ∙ told)
    (subst (λ ls. AllZip (IsListAt (page_bytes s1) s) (all_vids s) ls) (sym c.deref.ensures.value)
    (subst (λ area. AllZip (IsListAt area s) (all_vids s) c.in_ok-lists.lists.items) (sym pages) (c.in_ok-lists.ensures.answer told)))))
