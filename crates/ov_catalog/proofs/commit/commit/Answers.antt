use Rattle.std.proofs.Common.{◌≡◌, ◌+◌, List, length, map, ap, refl, sym, subst, ◌∙◌, arith}
use Rattle.ov_catalog.proofs.CommitLemmas.{facts-of, there, fits, planned-on, set-more}
use Rattle.ov_graph.specs.Versions.{IsGraph}
use Rattle.ov_layout.proofs.PlacedLemmas.{ids-ascend}
use Rattle.ov_catalog.specs.Events.{graph_of}
use Rattle.ov_catalog.specs.Sets.{version_in}
use Rattle.ov_catalog.proofs.GraphLemmas.{versions-graph}
use Rattle.std.proofs.lemmas.List.{length-append}
use Rattle.ov_catalog.specs.declared.cvd.Version.{Version}
use Rattle.ov_catalog.specs.Raw.{place_in}
use Rattle.ov_catalog.proofs.commit.commit.Goals as goal

pub place_version-requires-clause-there : goal.place_version-requires-clause-there
place_version-requires-clause-there c =
    let d = c.args.d.now in
    there d c.args.parents c.args.new.now c.requires.set (facts-of d c.args.message c.args.parents c.args.new.now c.requires.applies)

pub place_version-requires-clause-records : goal.place_version-requires-clause-records
place_version-requires-clause-records c =
    let d = c.args.d.now in
    fits d c.args.parents c.args.new.now (facts-of d c.args.message c.args.parents c.args.new.now c.requires.applies)

pub overflow_add-d : goal.overflow_add-d
overflow_add-d c =
    let d = c.args.d.now in
    let few = (facts-of d c.args.message c.args.parents c.args.new.now c.requires.applies).records in
    omega (arith, few)

pub place_version-requires-clause-next : goal.place_version-requires-clause-next
place_version-requires-clause-next c =
    let d = c.args.d.now in
    let fact = facts-of d c.args.message c.args.parents c.args.new.now c.requires.applies in
    let next = c.requires.set.next in
    let vid = fact.vid in
    let few = fact.few in
    omega (arith, next, vid, few)

pub returns-clause-set : goal.returns-clause-set
returns-clause-set c =
    let d = c.args.d.now in
    let new = c.args.new.now in
    let set = c.requires.set in
    let fact = facts-of d c.args.message c.args.parents new c.requires.applies in
    let room = c.requires.room.version in
    let len = d.versions.ok.0 in
    let ok = c.push.ensures.succeeds (omega (arith, room, len)) in
    let items = rw ok at c.push.ensures.items in
    let size : length c.push.new.self.items ≡ length d.versions.items + 1 = ap (λ (vs : List Version). length vs) items ∙ length-append d.versions.items _ in
    let placed = c.place_version.ensures in
    let vid = fact.vid in
    let few = fact.few in
    let graph : IsGraph (graph_of (map version_in c.push.new.self.items)) =
    subst (λ (vs : List Version). IsGraph (graph_of (map version_in vs))) (sym items) (versions-graph d.versions.items _ set.some (omega (arith, vid, few)) set.graph fact.parents_are) in
    let ascend = ids-ascend 1 d.layout.next d.layout.parts placed.sound.sound in
    set-more d _ new.vid (place_in new.place) set fact.vid fact.few size placed.new placed.stay placed.placed placed.next refl refl graph
    (placed.others 0 (λ e. absurd (omega (arith, e, vid))) set.none_other)
    (planned-on d c.args.parents new d.plan _ refl set fact ascend placed.numbered placed.zero set.plan)
    (let records = fact.records in omega (arith, records))
