use Rattle.std.proofs.Common.{◌≡◌, ◌∷◌, [], ℕ, List, Some, length, ap, arith}
use Rattle.ov_catalog.specs.Sets.{set_in}
use Rattle.ov_catalog.specs.Shown.{segment_of}
use Rattle.ov_core.specs.Brought.{segments_in}
use Rattle.ov_fetch.specs.Extents.{page_bytes}
use Rattle.ov_fetch.proofs.Gathered.{passed_on}
use Rattle.ov_model.specs.Records.{order_of}
use Rattle.ov_read.specs.OfWorld.{IsSpared}
use Rattle.ov_copies.proofs.Spelling.{bounded, extent_sound, small}
use Rattle.ov_copies.proofs.Worlds.{segment_is, spared}
use Rattle.ov_copies.proofs.copying.copy_of.Goals as goal

pub segment_of-requires : goal.segment_of-requires
segment_of-requires g c = small c.args.d.now.schema c.in_ok-records.records.records c.in_ok-records.ensures.are

pub copy_event-requires : goal.copy_event-requires
copy_event-requires g c =
    let bounds = bounded c.args.d.now.schema c.in_ok-records.records.records c.args.wanted.rids.now c.in_ok-segment.segment.items c.in_ok-records.ensures.are c.in_ok-records.ensures.rids c.requires.some c.requires.few c.in_ok-segment.ensures in
    omega (arith, bounds.1, ap length c.deref.ensures.value)

pub returns-clause-is : goal.returns-clause-is
returns-clause-is g c =
    let bounds = bounded c.args.d.now.schema c.in_ok-records.records.records c.args.wanted.rids.now c.in_ok-segment.segment.items c.in_ok-records.ensures.are c.in_ok-records.ensures.rids c.requires.some c.requires.few c.in_ok-segment.ensures in
    (rw (← c.len-count.ensures.count, ← c.deref.ensures.value) c.copy_event.ensures.made, c.new.ensures.items, bounds.0)

pub returns-clause-may_be_placed : goal.returns-clause-may_be_placed
returns-clause-may_be_placed g c =
    let bounds = bounded c.args.d.now.schema c.in_ok-records.records.records c.args.wanted.rids.now c.in_ok-segment.segment.items c.in_ok-records.ensures.are c.in_ok-records.ensures.rids c.requires.some c.requires.few c.in_ok-segment.ensures in
    extent_sound c.in_ok-segment.segment.items bounds.0 bounds.1

pub returns-clause-world : goal.returns-clause-world
returns-clause-world g c told w ds piece of_world lists rids known =
    let bounds = bounded c.args.d.now.schema c.in_ok-records.records.records c.args.wanted.rids.now c.in_ok-segment.segment.items c.in_ok-records.ensures.are c.in_ok-records.ensures.rids c.requires.some c.requires.few c.in_ok-segment.ensures in
    segment_is w (page_bytes (g.H.Host.state c.args.host.now)) (set_in c.args.d.now) ds of_world c.args.wanted.versions.now c.args.wanted.lists.now c.requires.there
    c.args.wanted.rids.now c.in_ok-segment.segment.items piece (record {
      records = c.in_ok-records.records.records;
      spelled = c.in_ok-segment.ensures;
      copied = c.in_ok-records.ensures.answer told;
    }) bounds.0 rids known

pub returns-in_err-records-clause-world : goal.returns-in_err-records-clause-world
returns-in_err-records-clause-world g c told w ds piece of_world lists rids known =
    let area : List ℕ = page_bytes (g.H.Host.state c.args.host.now) in
    passed_on (λ b. segments_in b.segment.items ≡ Some (segment_of (order_of ds.cvd.versions) piece) ∷ []) IsSpared c.from_residual.result c.in_err-records.field-0.0 c.from_residual.ensures
    (spared w area (set_in c.args.d.now) ds of_world c.args.wanted.versions.now c.args.wanted.lists.now c.requires.there c.args.wanted.rids.now c.in_err-records.field-0.0 lists
    (c.in_err-records.ensures.answer told))
