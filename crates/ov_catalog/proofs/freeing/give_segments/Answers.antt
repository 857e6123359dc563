use Rattle.std.proofs.Common.{◌≡◌, ◌+◌, ◌++◌, [], ◌∷◌, List, length, get_or, take, ap, ◌∙◌, arith, append-nil, append_assoc}
use Rattle.std.specs.Prelude.{flat_map}
use Rattle.std.proofs.lemmas.List.{length-append, take_more}
use Rattle.std.proofs.lemmas.List.Folds.{length-flat_map-take}
use Rattle.std.proofs.lemmas.Grind.{flat_map-append}
use Rattle.ov_host.specs.declared.area.Extent.{Extent}
use Rattle.ov_layout.specs.declared.part.Part.{Part}
use Rattle.ov_catalog.proofs.freeing.give_segments.Goals as goal

pub loop-part-preserved : goal.loop-part-preserved
loop-part-preserved c =
    let parts = c.args.parts.now in
    let k = c.loop-part.part-index in
    let d = c.part-item.result in
    let part = get_or parts k d in
    let old = c.args.freed.now.items in
    let before = flat_map (λ (p : Part). p.segments) (take k parts) in
    let within = length-flat_map-take (λ (p : Part). p.segments) parts k d c.loop-part-test.true in
    let given : c.loop-part.freed.items ≡ old ++ before = c.loop-part.invariant.given in
    let size = ap (λ (es : List Extent). length es) given ∙ length-append old before in
    let own : c.as_slice.result.now ≡ part.segments = c.as_slice.ensures ∙ ap (λ (p : Part). p.segments) c.part-item.is in
    let more = ap (λ (es : List Extent). length es) own in
    let len = c.loop-part.freed.ok.0 in
    let room = c.requires in
    let capacity = c.loop-part.invariant.capacity in
    let ok = c.extend_from_slice.ensures.succeeds (omega (arith, within, size, more, len, room, capacity)) in
    let items : c.extend_from_slice.new.self.items ≡ c.loop-part.freed.items ++ c.as_slice.result.now = rw ok at c.extend_from_slice.ensures.items in
    let next : flat_map (λ (p : Part). p.segments) (take (k + 1) parts) ≡ before ++ part.segments =
    ap (λ (ps : List Part). flat_map (λ (p : Part). p.segments) ps) (take_more parts k d c.loop-part-test.true)
    ∙ flat_map-append (λ (p : Part). p.segments) (take k parts) (part ∷ [])
    ∙ ap (λ (es : List Extent). before ++ es) (append-nil part.segments) in
    record {
      given = items ∙ (rw (given, own, next) (append_assoc old before part.segments));
      capacity = let grown = c.extend_from_slice.ensures.capacity in omega (arith, grown, capacity);
    }
