use Rattle.std.proofs.Common.{◌≡◌, ◌≤◌, ℕ, List, true, false, ◌||◌, get_or, take, length, sym, subst, ap, ◌∙◌, arith}
use Rattle.std.proofs.Math.Seq.{take-length}
use Rattle.std.specs.List.{list_any}
use Rattle.ov_layout.specs.declared.part.Part.{Part}
use Rattle.ov_layout.specs.Parts.{has, is_placed, times_placed}
use Rattle.ov_catalog.proofs.SeenLemmas.{placed-at}
use Rattle.ov_catalog.proofs.WholeMarks.{once-more, placed-more, twice}
use Rattle.ov_catalog.proofs.whole_parts.mark_once.Goals as goal

pub is_seen-requires : goal.is_seen-requires
is_seen-requires c vid there =
    let parts = c.args.parts.now in
    let part = c.part-item.result in
    let versions = c.as_slice-versions.ensures ∙ ap (λ (p : Part). p.versions) c.part-item.is in
    let own : has (get_or parts c.loop-part.part-index part).versions vid ≡ true = subst (λ (vs : List ℕ). has vs vid ≡ true) versions there in
    let low = c.requires.within vid (placed-at parts c.loop-part.part-index vid part c.loop-part-test.true own) in
    let long = c.loop-part.auto.seen in
    omega (arith, low, long)

pub mark-requires : goal.mark-requires
mark-requires c vid there =
    let parts = c.args.parts.now in
    let part = c.part-item.result in
    let versions = c.as_slice-versions.ensures ∙ ap (λ (p : Part). p.versions) c.part-item.is in
    let own : has (get_or parts c.loop-part.part-index part).versions vid ≡ true = subst (λ (vs : List ℕ). has vs vid ≡ true) versions there in
    let low = c.requires.within vid (placed-at parts c.loop-part.part-index vid part c.loop-part-test.true own) in
    let long = c.loop-part.auto.seen in
    omega (arith, low, long)

pub returns-then-is_seen : goal.returns-then-is_seen
returns-then-is_seen c =
    let parts = c.args.parts.now in
    let seen = c.loop-part.seen in
    let versions = c.as_slice-versions.ensures ∙ ap (λ (p : Part). p.versions) c.part-item.is in
    let some = ap (λ (vs : List ℕ). list_any (λ vid. get_or seen vid false) vs) (sym versions) ∙ sym c.is_seen.ensures ∙ c.if-is_seen.true in
    twice parts c.loop-part.part-index c.part-item.result c.loop-part-test.true seen c.loop-part.invariant.marks seen some

pub loop-part-preserved : goal.loop-part-preserved
loop-part-preserved c =
    let parts = c.args.parts.now in
    let at = c.loop-part.part-index in
    let part = c.part-item.result in
    let seen = c.loop-part.seen in
    let lt = c.loop-part-test.true in
    let versions = c.as_slice-versions.ensures ∙ ap (λ (p : Part). p.versions) c.part-item.is in
    let none = ap (λ (vs : List ℕ). list_any (λ vid. get_or seen vid false) vs) (sym versions) ∙ sym c.is_seen.ensures ∙ c.if-is_seen.false in
    let marks = c.loop-part.invariant.marks in
    record {
      marks = placed-more parts at part lt seen marks c.mark.new.seen (λ vid. c.mark.ensures vid ∙ ap (λ (vs : List ℕ). get_or seen vid false || has vs vid) versions);
      once = once-more parts at part lt seen marks none c.loop-part.invariant.once;
    }

pub returns : goal.returns
returns c =
    let parts = c.args.parts.now in
    let past = c.loop-part-test.false in
    let within = c.loop-part.auto.part-index-end in
    let same : c.loop-part.part-index ≡ length parts = omega (arith, past, within) in
    let all : take c.loop-part.part-index parts ≡ parts = ap (λ (n : ℕ). take n parts) same ∙ take-length parts in
    (λ vid. c.loop-part.invariant.marks vid ∙ ap (λ (ps : List Part). is_placed ps vid) all, λ vid. subst (λ (ps : List Part). times_placed vid ps ≤ 1) all (c.loop-part.invariant.once vid))
