use Rattle.std.proofs.Common.{◌≡◌, ◌++◌, length, vec_len, sym, ◌∙◌, ap, List, get_or, refl}
use Rattle.ov_host.specs.declared.area.Extent.{Extent}
use Rattle.ov_layout.specs.Parts.{segments_in}
use Rattle.ov_layout.specs.Flips.{chosen, segments_at}
use Rattle.ov_layout.proofs.FlipLemmas.{numbered-here, source-there, rotated, length-chosen, some-long}
use Rattle.ov_layout.proofs.flips.with_kept.Goals as goal

pub place_of-at-requires-clause-is_there : goal.place_of-at-requires-clause-is_there
place_of-at-requires-clause-is_there c =
    source-there c.args.parts.now c.args.source c.args.kept.now c.requires.within (some-long c.args.kept.now (sym c.if-not-is_empty.ensures))

pub put_chosen-requires-clause-within : goal.put_chosen-requires-clause-within
put_chosen-requires-clause-within c =
    let parts = c.args.parts.now in
    let here : segments_at c.args.source parts ≡ (get_or parts c.place_of-at.result c.index-parts-at.result).segments = ap segments_in (numbered-here 0 parts c.place_of-at.result c.args.source c.index-parts-at.result c.requires.numbers c.place_of-at.ensures.bound (c.place_of-at.ensures.place c.index-parts-at.result)) in
    rw (c.as_slice.ensures, sym here) c.requires.within

pub returns-then-not-is_empty : goal.returns-then-not-is_empty
returns-then-not-is_empty c =
    let parts = c.args.parts.now in
    let copied = c.args.copied.now.items in
    let kept = c.args.kept.now in
    let here : segments_at c.args.source parts ≡ (get_or parts c.place_of-at.result c.index-parts-at.result).segments = ap segments_in (numbered-here 0 parts c.place_of-at.result c.args.source c.index-parts-at.result c.requires.numbers c.place_of-at.ensures.bound (c.place_of-at.ensures.place c.index-parts-at.result)) in
    let put : c.put_chosen.new.list.items ≡ copied ++ chosen kept (segments_at c.args.source parts) = c.put_chosen.ensures ∙ rw (c.as_slice.ensures, sym here) refl in
    let len : vec_len c.put_chosen.new.list ≡ length (copied ++ chosen kept (segments_at c.args.source parts)) = c.put_chosen.new.list.ok.0 ∙ ap (λ (es : List Extent). length es) put in
    c.rotate_right.ensures.items ∙ rw put (rotated copied (chosen kept (segments_at c.args.source parts)) _ _ len (sym (length-chosen kept (segments_at c.args.source parts))))
