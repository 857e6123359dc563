use Rattle.std.proofs.Common.{◌≡◌, List, length, ap, ◌∙◌}
use Rattle.ov_host.specs.declared.area.Extent.{Extent}
use Rattle.ov_layout.proofs.FlippedLemmas.{whole}
use Rattle.ov_catalog.specs.declared.cvd.Cvd.{Cvd}
use Rattle.ov_catalog.specs.Numbers.{Numbers, SetNumbers}
use Rattle.ov_catalog.proofs.RoomLemmas.{are-same}
use Rattle.ov_catalog.proofs.catalog.Catalog.copy.Goals as goal

pub invariant_of-self : goal.invariant_of-self
invariant_of-self c =
    let inside = c.self.inside in
    let new = c.copy_in.new.sets in
    let size : length new ≡ length inside.sets.items = c.copy_in.auto.sets ∙ ap (λ (ds : List Cvd). length ds) c.deref_mut.ensures.value in
    let is = whole new inside.sets.items inside.sets.len size inside.sets.ok.0 in
    let numbers = rw c.deref_mut.ensures.value at c.copy_in.ensures.numbers in
    rw is (are-same inside.next inside.sets.items new numbers c.copy_in.ensures.sound c.self.invariant.0, tt, tt)

pub returns-clause-copied : goal.returns-clause-copied
returns-clause-copied c =
    let inside = c.self.inside in
    let new = c.copy_in.new.sets in
    let size : length new ≡ length inside.sets.items = c.copy_in.auto.sets ∙ ap (λ (ds : List Cvd). length ds) c.deref_mut.ensures.value in
    let is = whole new inside.sets.items inside.sets.len size inside.sets.ok.0 in
    let changed = rw c.deref_mut.ensures.value at c.copy_in.ensures.copied in
    rw (is, ← c.self.view_is) (ap {B = Numbers Extent Extent} (λ (sets : List (SetNumbers Extent Extent)). record { next = inside.next; sets = sets }) changed)
