use Rattle.std.proofs.Common.{◌≡◌, ◌<◌, ℕ, List, [], map, length, get_or, sym, ◌∙◌, ap, subst, arith}
use Rattle.std.proofs.lemmas.List.{length-map}
use Rattle.ov_graph.specs.Versions.{Version, MayFollow}
use Rattle.ov_lineage.specs.Bare.{bare_edge, bare_version}
use Rattle.ov_lineage.specs.Related.{lists_of}
use Rattle.ov_lineage.proofs.Growing.{may-follow, list-at, list-more, graph-more}
use Rattle.ov_lineage.proofs.lineage.Lineage.of.Goals as goal

pub add-requires-clause-may_follow : goal.add-requires-clause-may_follow
add-requires-clause-may_follow c =
    let parents = lists_of c.args.parents.now in
    let i = c.loop-vids.vids-index in
    let lt : i < length parents = omega (arith, c.loop-vids-test.true, length-map c.args.parents.now (λ list. list.items)) in
    let own = c.deref.ensures.value ∙ list-at c.args.parents.now i c.vids-item.result c.loop-vids-test.true c.vids-item.is in
    let edges : c.deref-in-loop-vids.result.now ≡ map bare_edge (get_or parents i []) = c.deref-in-loop-vids.ensures.value ∙ c.in_ok-edges.ensures ∙ ap (map bare_edge) own in
    subst (λ (es : List (ℕ × ℕ)). MayFollow c.loop-vids.graph (record { records = 0; parents = es })) (sym edges)
    (subst (λ (vs : List Version). MayFollow vs (bare_version (get_or parents i []))) (sym c.loop-vids.invariant.1) (may-follow parents c.requires i lt))

pub loop-vids-preserved : goal.loop-vids-preserved
loop-vids-preserved c =
    let parents = lists_of c.args.parents.now in
    let i = c.loop-vids.vids-index in
    let lt : i < length parents = omega (arith, c.loop-vids-test.true, length-map c.args.parents.now (λ list. list.items)) in
    let at = list-at c.args.parents.now i c.vids-item.result c.loop-vids-test.true c.vids-item.is in
    let own = c.deref.ensures.value ∙ at in
    let edges : c.deref-in-loop-vids.result.now ≡ map bare_edge (get_or parents i []) = c.deref-in-loop-vids.ensures.value ∙ c.in_ok-edges.ensures ∙ ap (map bare_edge) own in
    let list : c.in_ok-from_slice.field-0 ≡ get_or parents i [] = c.in_ok-from_slice.ensures ∙ c.deref-in-loop-vids-2.ensures.value ∙ at in (
      c.in_ok-push.ensures.ok ∙ list-more parents i c.in_ok-from_slice.field-0 c.loop-vids.kept lt list c.loop-vids.invariant.0,
      c.in_ok-add.ensures.added ∙ graph-more parents i c.loop-vids.graph c.deref-in-loop-vids.result.now lt edges c.loop-vids.invariant.1,
    )
