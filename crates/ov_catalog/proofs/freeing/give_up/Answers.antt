use Rattle.std.proofs.Common.{◌≡◌, ◌++◌, List, length, map, ap, ◌∙◌, sym, arith, append_assoc}
use Rattle.std.specs.Prelude.{flat_map}
use Rattle.std.proofs.lemmas.List.{length-append}
use Rattle.ov_host.specs.declared.area.Extent.{Extent}
use Rattle.ov_layout.specs.declared.part.Part.{Part}
use Rattle.ov_catalog.specs.declared.cvd.Version.{Version}
use Rattle.ov_catalog.specs.Extents.{of_plan}
use Rattle.ov_catalog.specs.Sets.{plan_in}
use Rattle.ov_catalog.proofs.SetLemmas.{extents-of}
use Rattle.ov_catalog.proofs.freeing.give_up.Goals as goal

pub give_segments-requires : goal.give_segments-requires
give_segments-requires c =
    let d = c.args.d.now in
    let lists = map (λ (v : Version). v.list) d.versions.items in
    let segments = flat_map (λ (p : Part). p.segments) d.layout.parts in
    let copied = of_plan (plan_in d.plan) in
    let given : c.give_lists.new.freed.items ≡ c.args.freed.now.items ++ lists = rw c.deref.ensures.value at c.give_lists.ensures.freed in
    let size = ap (λ (es : List Extent). length es) given ∙ length-append c.args.freed.now.items lists in
    let all = ap (λ (es : List Extent). length es) (extents-of d) ∙ length-append lists (segments ++ copied) in
    let both = length-append segments copied in
    let room = c.requires.room in
    let grown = c.give_lists.ensures.capacity in
    rw c.parts.ensures.parts (omega (arith, size, all, both, room, grown))

pub give_copied-requires : goal.give_copied-requires
give_copied-requires c =
    let d = c.args.d.now in
    let lists = map (λ (v : Version). v.list) d.versions.items in
    let segments = flat_map (λ (p : Part). p.segments) d.layout.parts in
    let copied = of_plan (plan_in d.plan) in
    let given : c.give_lists.new.freed.items ≡ c.args.freed.now.items ++ lists = rw c.deref.ensures.value at c.give_lists.ensures.freed in
    let size = ap (λ (es : List Extent). length es) given ∙ length-append c.args.freed.now.items lists in
    let last : c.give_segments.new.freed.items ≡ c.give_lists.new.freed.items ++ segments = rw c.parts.ensures.parts at c.give_segments.ensures.freed in
    let more = ap (λ (es : List Extent). length es) last ∙ length-append c.give_lists.new.freed.items segments in
    let all = ap (λ (es : List Extent). length es) (extents-of d) ∙ length-append lists (segments ++ copied) in
    let both = length-append segments copied in
    let room = c.requires.room in
    let grown = c.give_lists.ensures.capacity in
    let again = c.give_segments.ensures.capacity in
    omega (arith, size, more, all, both, room, grown, again)

pub returns : goal.returns
returns c =
    let d = c.args.d.now in
    let old = c.args.freed.now.items in
    let lists = map (λ (v : Version). v.list) d.versions.items in
    let segments = flat_map (λ (p : Part). p.segments) d.layout.parts in
    let copied = of_plan (plan_in d.plan) in
    let given : c.give_lists.new.freed.items ≡ old ++ lists = rw c.deref.ensures.value at c.give_lists.ensures.freed in
    let last : c.give_segments.new.freed.items ≡ c.give_lists.new.freed.items ++ segments = rw c.parts.ensures.parts at c.give_segments.ensures.freed in
    c.give_copied.ensures ∙ ap (λ (es : List Extent). es ++ copied) (last ∙ ap (λ (es : List Extent). es ++ segments) given)
    ∙ append_assoc (old ++ lists) segments copied ∙ append_assoc old lists (segments ++ copied) ∙ ap (λ (es : List Extent). old ++ es) (sym (extents-of d))
