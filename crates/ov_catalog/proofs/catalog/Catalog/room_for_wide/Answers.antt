use Rattle.std.proofs.Common.{◌≡◌, List, length, ap, ◌∙◌}
use Rattle.ov_layout.proofs.FlippedLemmas.{whole}
use Rattle.ov_catalog.specs.declared.cvd.Cvd.{Cvd}
use Rattle.ov_catalog.specs.Raw.{place_in}
use Rattle.ov_catalog.proofs.RoomLemmas.{are-same, up-to-same}
use Rattle.ov_catalog.proofs.SetLemmas.{same-numbers}
use Rattle.ov_catalog.proofs.WideLemmas.{room-schema}
use Rattle.ov_catalog.proofs.catalog.Catalog.room_for_wide.Goals as goal

pub invariant_of-self : goal.invariant_of-self
invariant_of-self c =
    let inside = c.self.inside in
    let new = c.room_for_wide.new.sets in
    let size : length new ≡ length inside.sets.items = c.room_for_wide.auto.sets ∙ ap (λ (ds : List Cvd). length ds) c.deref_mut.ensures.value in
    let is = whole new inside.sets.items inside.sets.len size inside.sets.ok.0 in
    let same = rw c.deref_mut.ensures.value at c.room_for_wide.ensures.same in
    rw is (are-same inside.next inside.sets.items new (same-numbers new inside.sets.items same) c.room_for_wide.ensures.sound c.self.invariant.0, tt, up-to-same inside.reach inside.sets.items new (same-numbers new inside.sets.items same) c.self.invariant.2)

pub invariant_of-self-2 : goal.invariant_of-self-2
invariant_of-self-2 c =
    let inside = c.self.inside in
    let new = c.room_for_wide.new.sets in
    let size : length new ≡ length inside.sets.items = c.room_for_wide.auto.sets ∙ ap (λ (ds : List Cvd). length ds) c.deref_mut.ensures.value in
    let is = whole new inside.sets.items inside.sets.len size inside.sets.ok.0 in
    let same = rw c.deref_mut.ensures.value at c.room_for_wide.ensures.same in
    rw is (are-same inside.next inside.sets.items new (same-numbers new inside.sets.items same) c.room_for_wide.ensures.sound c.self.invariant.0, c.in_ok-schema.ensures.room, up-to-same inside.reach inside.sets.items new (same-numbers new inside.sets.items same) c.self.invariant.2)

pub returns-clause-ready : goal.returns-clause-ready
returns-clause-ready c =
    let inside = c.self.inside in
    let made = rw c.deref_mut.ensures.value at c.in_ok-schema.ensures.made in
    rw (← c.self.view_is) (room-schema c.args.cvd (place_in c.args.new.now.place) c.args.columns.now c.in_ok-schema.schema _ made)
