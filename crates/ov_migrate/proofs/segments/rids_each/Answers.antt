use Rattle.std.proofs.Common.{ℕ, List, [], ◌∷◌, ◌++◌, get_or, take, sym, subst}
use Rattle.std.proofs.lemmas.List.{take_more}
use Rattle.ov_host.specs.declared.area.Extent.{Extent}
use Rattle.ov_fetch.specs.Extents.{page_bytes}
use Rattle.ov_fetch.specs.Gathering.{RefusesSegments}
use Rattle.ov_fetch.specs.Rows.{HaveRids}
use Rattle.ov_fetch.proofs.Gathered.{is_among, passed_on}
use Rattle.ov_migrate.proofs.Kept.{HasSets, goes_on, stops}
use Rattle.ov_migrate.proofs.segments.rids_each.Goals as goal

pub loop-segment-preserved : goal.loop-segment-preserved
loop-segment-preserved g c =
    let s0 = g.H.Host.state c.args.host.now in
    let s1 = g.H.Host.state c.loop-segment.host in
    let s2 = g.H.Host.state c.rids_of.new.host in
    let all : List Extent = c.args.segments.now in
    let k = c.loop-segment.segment-index in
    let one : Extent = get_or all k (record { page = 0; bytes = 0 }) in
    let more : List (List ℕ) = c.loop-segment.sets.items ++ c.in_ok-rids_of.field-0 ∷ [] in
    let at : HasSets c.args.schema.now s0 s2 (take k all ++ one ∷ []) more =
    goes_on c.args.schema.now s0 s1 s2 (take k all) one c.loop-segment.sets.items c.in_ok-rids_of.field-0 c.loop-segment.invariant
    c.in_ok-rids_of.ensures.looked c.in_ok-rids_of.ensures.answer in
    rw c.in_ok-push.ensures.items (subst (λ (l : List Extent). HasSets c.args.schema.now s0 s2 l more) (sym (take_more all k (record { page = 0; bytes = 0 }) c.loop-segment-test.true)) at)

pub returns-in_err-rids_of-clause-answer : goal.returns-in_err-rids_of-clause-answer
returns-in_err-rids_of-clause-answer g c told =
    let none : Extent = record { page = 0; bytes = 0 } in
    let all : List Extent = c.args.segments.now in
    let k = c.loop-segment.segment-index in
    let s0 = g.H.Host.state c.args.host.now in
    passed_on (λ sets. HaveRids c.args.schema.now (page_bytes s0) all sets.items)
    (λ e. RefusesSegments e c.args.schema.now (page_bytes s0) all) c.from_residual-in_err-rids_of.result c.in_err-rids_of.field-0.0 c.from_residual-in_err-rids_of.ensures
    (stops c.args.schema.now s0 (g.H.Host.state c.loop-segment.host) all (take k all) (get_or all k none) c.loop-segment.sets.items
    c.in_err-rids_of.field-0.0 c.loop-segment.invariant (is_among all k none c.loop-segment-test.true) c.in_err-rids_of.ensures.answer told)
