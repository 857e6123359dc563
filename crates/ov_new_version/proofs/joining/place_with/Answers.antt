use Rattle.std.proofs.Common.{◌≡◌, true, ◌==◌, get_or, sym, ◌∙◌, ap, arith}
use Rattle.std.proofs.lemmas.Bool.{eq-eqb}
use Rattle.ov_fetch.proofs.Gathered.{same_default}
use Rattle.ov_layout.specs.declared.part.Part.{Part}
use Rattle.ov_new_version.proofs.Finding.{nobody, none_numbered, one_numbered}
use Rattle.ov_new_version.proofs.joining.place_with.Goals as goal

pub returns-then-part-id : goal.returns-then-part-id
returns-then-part-id c =
    let part : Part = c.index-parts-place.result in
    let same : get_or c.args.parts.now c.loop-place.place nobody ≡ part = same_default c.args.parts.now c.loop-place.place nobody part c.loop-place-test.true ∙ sym c.index-parts-place.is in
    let here : ((get_or c.args.parts.now c.loop-place.place nobody).id == c.args.id) ≡ true = ap (λ (p : Part). p.id == c.args.id) same ∙ eq-eqb part.id c.args.id c.if-part-id.true in
    (c.loop-place-test.true, one_numbered c.args.id c.args.parts.now c.loop-place.place c.loop-place-test.true c.loop-place.invariant here)

pub returns : goal.returns
returns c = none_numbered c.args.id c.args.parts.now (λ j low. c.loop-place.invariant j (omega (arith, low, c.loop-place-test.false)))
