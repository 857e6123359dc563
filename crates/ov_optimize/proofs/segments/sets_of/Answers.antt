use Rattle.std.proofs.Common.{◌++◌, ◌∷◌, [], ℕ, List, get_or, take, subst, sym}
use Rattle.std.proofs.lemmas.List.{take_more}
use Rattle.ov_host.specs.declared.area.Extent.{Extent}
use Rattle.ov_optimize.proofs.SegmentSets.{HasSets, goes_on}
use Rattle.ov_optimize.proofs.segments.sets_of.Goals as goal

pub loop-segment-preserved : goal.loop-segment-preserved
loop-segment-preserved g c =
    let s0 = g.H.Host.state c.args.host.now in
    let s1 = g.H.Host.state c.loop-segment.host in
    let s2 = g.H.Host.state c.rids_of.new.host in
    let k = c.loop-segment.segment-index in
    let none : Extent = record { page = 0; bytes = 0 } in
    let one : Extent = get_or c.args.segments.now c.loop-segment.segment-index (record { page = 0; bytes = 0 }) in
    let more : List (List ℕ) = c.loop-segment.sets.items ++ c.in_ok-rids_of.field-0 ∷ [] in
    rw c.in_ok-push.ensures.items (subst (λ (l : List Extent). HasSets s0 s2 c.args.schema.now l more) (sym (take_more c.args.segments.now k none c.loop-segment-test.true))
    (goes_on s0 s1 s2 c.args.schema.now (take k c.args.segments.now) one c.loop-segment.sets.items c.in_ok-rids_of.field-0 c.loop-segment.invariant
    c.in_ok-rids_of.ensures.looked c.in_ok-rids_of.ensures.fetched c.in_ok-rids_of.ensures.set c.in_ok-rids_of.ensures.answer))
