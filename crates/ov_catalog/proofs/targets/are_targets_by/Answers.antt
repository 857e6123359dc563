use Rattle.std.proofs.Common.{◌≡◌, ◌<◌, ◌+◌, ◌-◌, ◌&&◌, ◌||◌, ℕ, Bool, List, true, false, get_or, drop, length, map, sym, ap, ◌∙◌, arith}
use Rattle.ov_host.specs.declared.area.Extent.{Extent}
use Rattle.ov_layout.specs.Parts.{has}
use Rattle.ov_catalog.specs.declared.cvd.Target.{Target}
use Rattle.ov_catalog.specs.Numbers.{SetNumbers}
use Rattle.ov_catalog.specs.Planning.{are_targets, is_size}
use Rattle.ov_catalog.specs.Running.{is_in_target}
use Rattle.ov_catalog.specs.Seen.{is_source_by}
use Rattle.ov_catalog.specs.Sets.{set_in, target_in}
use Rattle.ov_catalog.proofs.SeenLemmas.{are-not, are-one, marks-one}
use Rattle.ov_catalog.proofs.targets.are_targets_by.Goals as goal

pub returns-then-not-may_be : goal.returns-then-not-may_be
returns-then-not-may_be c =
    let n : SetNumbers Extent Extent = set_in c.args.d.now in
    let ts = c.args.targets.now in
    let at = c.loop-at.at in
    let k = at - 1 in
    let e = c.index-targets-at.result in
    let test = c.loop-at-test.true in
    let within = c.loop-at.invariant.within in
    let up : k + 1 ≡ at = omega (arith, test) in
    let lt : k < length ts = omega (arith, test, within) in
    let f : ℕ → Bool = λ vid. get_or c.loop-at.seen vid false in
    let marks : (vid : ℕ) → f vid ≡ is_in_target (drop (k + 1) ts) vid = λ vid. c.loop-at.invariant.marks vid ∙ ap (λ (m : ℕ). is_in_target (drop m ts) vid) (sym up) in
    let later : are_targets n (map target_in (drop (k + 1) ts)) ≡ true = ap (λ (m : ℕ). are_targets n (map target_in (drop m ts))) up ∙ c.loop-at.invariant.are in
    let one = are-one n f ts k e lt marks later in
    let may = c.may_be.ensures ∙ ap (λ (x : Target). is_size n (target_in x) && is_source_by f n.parts (target_in x)) c.index-targets-at.is in
    sym (are-not n k ts (one ∙ sym may ∙ c.if-not-may_be.true))

pub loop-at-preserved : goal.loop-at-preserved
loop-at-preserved c =
    let n : SetNumbers Extent Extent = set_in c.args.d.now in
    let ts = c.args.targets.now in
    let at = c.loop-at.at in
    let k = at - 1 in
    let e = c.index-targets-at.result in
    let test = c.loop-at-test.true in
    let within = c.loop-at.invariant.within in
    let up : k + 1 ≡ at = omega (arith, test) in
    let lt : k < length ts = omega (arith, test, within) in
    let f : ℕ → Bool = λ vid. get_or c.loop-at.seen vid false in
    let marks : (vid : ℕ) → f vid ≡ is_in_target (drop (k + 1) ts) vid = λ vid. c.loop-at.invariant.marks vid ∙ ap (λ (m : ℕ). is_in_target (drop m ts) vid) (sym up) in
    let later : are_targets n (map target_in (drop (k + 1) ts)) ≡ true = ap (λ (m : ℕ). are_targets n (map target_in (drop m ts))) up ∙ c.loop-at.invariant.are in
    let one = are-one n f ts k e lt marks later in
    let may = c.may_be.ensures ∙ ap (λ (x : Target). is_size n (target_in x) && is_source_by f n.parts (target_in x)) c.index-targets-at.is in
    let slice = c.as_slice.ensures ∙ ap (λ (x : Target). x.versions) c.index-targets-at.is in
    record {
      within = omega (arith, lt);
      marks = marks-one c.loop-at.seen c.mark.new.seen ts k e lt marks (λ vid. c.mark.ensures vid ∙ ap (λ (vs : List ℕ). f vid || has vs vid) slice);
      are = one ∙ sym may ∙ c.if-not-may_be.false;
    }
