use Rattle.std.proofs.Common.{ℕ, List, [], ◌∷◌, ◌++◌, map, take, get_or, sym, ◌∙◌, ap}
use Rattle.std.proofs.lemmas.List.{take_more, map-append}
use Rattle.ov_catalog.specs.Sets.{set_in}
use Rattle.ov_host.specs.declared.area.Extent.{Extent}
use Rattle.ov_read.specs.Agreement.{list_of}
use Rattle.ov_read.proofs.Numbered.{there, list_is}
use Rattle.ov_read.proofs.grouping.extents_of.Goals as goal

pub loop-vid-preserved : goal.loop-vid-preserved
loop-vid-preserved c =
    let d = c.args.d.now in
    let vids : List ℕ = c.args.vids.now in
    let k = c.loop-vid.vid-index in
    let vid = get_or vids k 0 in
    c.in_ok-push.ensures.items
    ∙ (ap (λ (l : List Extent). l ++ c.index.result.now.list ∷ []) c.loop-vid.invariant
    ∙ (ap (λ (e : Extent). map (list_of (set_in d)) (take k vids) ++ e ∷ []) (sym (list_is d vid c.index.result.now (there d vid (c.requires k 0 c.loop-vid-test.true)) c.index.ensures))
    ∙ sym (ap (map (list_of (set_in d))) (take_more vids k 0 c.loop-vid-test.true) ∙ map-append (list_of (set_in d)) (take k vids) (vid ∷ []))))
