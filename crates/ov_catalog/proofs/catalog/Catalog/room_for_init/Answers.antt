use Rattle.std.proofs.Common.{length, ap, arith}
use Rattle.std.proofs.lemmas.List.{length-map}
use Rattle.ov_host.specs.declared.area.Extent.{Extent}
use Rattle.ov_catalog.specs.Numbers.{Numbers}
use Rattle.ov_catalog.specs.Sets.{set_in, sets_in}
use Rattle.ov_catalog.proofs.RoomLemmas.{init-few, space-stays}
use Rattle.ov_catalog.proofs.catalog.Catalog.room_for_init.Goals as goal

pub invariant_of-self : goal.invariant_of-self
invariant_of-self c =
    let inside = c.self.inside in
    let items = c.in_err-reserve.ensures.items in
    (rw items c.self.invariant.0, space-stays inside.room inside.sets c.reserve.new.self items c.in_err-reserve.ensures.capacity c.self.invariant.1, rw items c.self.invariant.2)

pub invariant_of-self-2 : goal.invariant_of-self-2
invariant_of-self-2 c =
    let inside = c.self.inside in
    let n : Numbers Extent Extent = record { next = inside.next; sets = sets_in c.as_slice-sets.result.now } in
    let few = init-few c.args.name.now c.args.schema.now c.args.rows c.args.list c.args.segment n c.in_ok-made.ensures.answer in
    let slice = ap (λ ds. length (sets_in ds)) c.as_slice-sets.ensures.value in
    let long = length-map inside.sets.items set_in in
    let items = c.in_ok-reserve.ensures.items in
    let same = ap (λ ds. length ds) items in
    let len = c.reserve.new.self.ok.0 in
    let ok = c.in_ok-reserve.ensures.ok in
    (rw items c.self.invariant.0, (c.in_ok-spare.ensures.spare, omega (arith, len, ok, same), omega (arith, few, slice, long, same)), rw items c.self.invariant.2)
