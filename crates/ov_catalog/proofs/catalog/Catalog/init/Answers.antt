use Rattle.std.proofs.Common.{◌≡◌, ◌+◌, ◌++◌, [], ◌∷◌, List, ap, ◌∙◌, arith}
use Rattle.ov_host.specs.declared.area.Extent.{Extent}
use Rattle.ov_layout.specs.Changes.{extents_of}
use Rattle.ov_value.specs.Shapes.{Shape}
use Rattle.ov_catalog.specs.declared.cvd.Cvd.{Cvd}
use Rattle.ov_catalog.specs.Events.{new_set}
use Rattle.ov_catalog.specs.Numbers.{Numbers, SetNumbers}
use Rattle.ov_catalog.specs.Ready.{ready_in}
use Rattle.ov_catalog.specs.Sets.{sets_in}
use Rattle.ov_catalog.proofs.RoomLemmas.{for-init, sets-push}
use Rattle.ov_catalog.proofs.SetLemmas.{push-in}
use Rattle.ov_catalog.proofs.catalog.Catalog.init.Goals as goal

pub invariant_of-self : goal.invariant_of-self
invariant_of-self c =
    let inside = c.self.inside in
    let d = c.begin-d.result in
    let space = rw (← c.in-Init.ensures.value) at c.self.invariant.1 in
    let len = inside.sets.ok.0 in
    let room = space.1 in
    let ok = c.push.ensures.succeeds (omega (arith, room, len)) in
    let items : c.push.new.self.items ≡ inside.sets.items ++ d ∷ [] = rw ok at c.push.ensures.items in
    let number = ap (λ (s : SetNumbers Extent Extent). s.number) c.begin-d.ensures.made in
    (rw items (sets-push inside.next inside.sets.items d c.self.invariant.0 space.2 number c.begin-d.ensures.set), rw c.in-Init.ensures.after tt, tt)

pub returns-in-Init-clause-begun : goal.returns-in-Init-clause-begun
returns-in-Init-clause-begun c schema is =
    let inside = c.self.inside in
    let d = c.begin-d.result in
    let space = rw (← c.in-Init.ensures.value) at c.self.invariant.1 in
    let len = inside.sets.ok.0 in
    let room = space.1 in
    let ok = c.push.ensures.succeeds (omega (arith, room, len)) in
    let items : c.push.new.self.items ≡ inside.sets.items ++ d ∷ [] = rw ok at c.push.ensures.items in
    let same : c.in-Init.spare.schema ≡ schema = for-init c.in-Init.spare.schema schema (ap ready_in c.in-Init.ensures.value ∙ (rw (← c.self.view_is) at is)) in
    let all : sets_in c.push.new.self.items ≡ sets_in inside.sets.items ++ new_set inside.next c.args.name schema c.args.rows c.args.list (extents_of c.args.segment) ∷ [] =
    ap (λ (ds : List Cvd). sets_in ds) items
    ∙ push-in inside.sets.items d
    ∙ ap (λ (s : SetNumbers Extent Extent). sets_in inside.sets.items ++ s ∷ []) (c.begin-d.ensures.made ∙ ap (λ (s : Shape). new_set inside.next c.args.name s c.args.rows c.args.list (extents_of c.args.segment)) same) in
    rw (← c.self.view_is) (ap {B = Numbers Extent Extent} (λ (sets : List (SetNumbers Extent Extent)). record { next = inside.next + 1; sets = sets }) all)
