use Rattle.std.proofs.Common.{◌++◌, List, length, map, ap, ◌∙◌, arith}
use Rattle.std.specs.Prelude.{flat_map}
use Rattle.std.proofs.lemmas.List.{length-append, length-map}
use Rattle.std.proofs.lemmas.List.Concat.{length-flat_map}
use Rattle.ov_host.specs.declared.area.Extent.{Extent}
use Rattle.ov_layout.specs.declared.part.Part.{Part}
use Rattle.ov_catalog.specs.declared.cvd.Version.{Version}
use Rattle.ov_catalog.specs.Extents.{of_plan}
use Rattle.ov_catalog.specs.Sets.{plan_in}
use Rattle.ov_catalog.proofs.SetLemmas.{extents-of}
use Rattle.ov_catalog.proofs.freeing.extents_in.Goals as goal

pub returns : goal.returns
returns c =
    let d = c.args.d.now in
    let lists = map (λ (v : Version). v.list) d.versions.items in
    let segments = flat_map (λ (p : Part). p.segments) d.layout.parts in
    let copied = of_plan (plan_in d.plan) in
    let all = ap (λ (es : List Extent). length es) (extents-of d) ∙ length-append lists (segments ++ copied) in
    let both = length-append segments copied in
    let a = length-map d.versions.items (λ (v : Version). v.list) in
    let b = length-flat_map (λ (p : Part). p.segments) d.layout.parts in
    let segs = rw c.parts.ensures.parts at c.in_ok-segments.ensures in
    let first = c.in_ok-lists.ensures.1 in
    let count = c.in_ok-count.ensures.1 in
    let own = c.copied_in.ensures in
    let size = c.len.ensures in
    let len = d.versions.ok.0 in
    omega (arith, all, both, a, b, segs, first, count, own, size, len)
