use Rattle.std.proofs.Common.{◌≡◌, ◌<◌, ◌+◌, ◌-◌, ◌||◌, ℕ, Bool, List, true, false, get_or, drop, length, map, sym, subst, ap, ◌∙◌, arith}
use Rattle.ov_layout.specs.Parts.{has}
use Rattle.ov_catalog.specs.declared.cvd.Target.{Target}
use Rattle.ov_catalog.specs.Running.{is_in_target}
use Rattle.ov_catalog.specs.Seen.{is_target_by}
use Rattle.ov_catalog.specs.Sets.{target_in}
use Rattle.ov_catalog.specs.Wholes.{are_targets}
use Rattle.ov_catalog.proofs.SeenLemmas.{marks-one}
use Rattle.ov_catalog.proofs.WholeMarks.{target-there, targets-not, targets-one}
use Rattle.ov_catalog.proofs.whole_plans.are_targets_by.Goals as goal

pub is_target-requires : goal.is_target-requires
is_target-requires c = let long = c.requires.long in let kept = c.loop-at.auto.seen in omega (arith, long, kept)

pub mark-requires : goal.mark-requires
mark-requires c vid is =
    let d = c.args.d.now in
    let t = c.index-targets-at.result in
    let le = target-there (λ v. get_or c.loop-at.seen v false) (length d.versions.items) d.records t vid (sym c.is_target.ensures ∙ c.if-not-is_target.false) (subst (λ (vs : List ℕ). has vs vid ≡ true) c.as_slice.ensures is) in
    let long = c.requires.long in
    let kept = c.loop-at.auto.seen in
    omega (arith, le, long, kept)

pub returns-then-not-is_target : goal.returns-then-not-is_target
returns-then-not-is_target c =
    let d = c.args.d.now in
    let count = length d.versions.items in
    let ts = c.args.targets.now in
    let at = c.loop-at.at in
    let k = at - 1 in
    let e = c.index-targets-at.result in
    let test = c.loop-at-test.true in
    let within = c.loop-at.invariant.within in
    let up : k + 1 ≡ at = omega (arith, test) in
    let lt : k < length ts = omega (arith, test, within) in
    let f : ℕ → Bool = λ vid. get_or c.loop-at.seen vid false in
    let marks : (vid : ℕ) → f vid ≡ is_in_target (drop (k + 1) ts) vid = λ vid. c.loop-at.invariant.marks vid ∙ ap (λ (m : ℕ). is_in_target (drop m ts) vid) (sym up) in
    let later : are_targets count d.records (map target_in (drop (k + 1) ts)) ≡ true = ap (λ (m : ℕ). are_targets count d.records (map target_in (drop m ts))) up ∙ c.loop-at.invariant.are in
    let one = targets-one count d.records f ts k e lt marks later in
    let is = c.is_target.ensures ∙ ap (λ (x : Target). is_target_by f count d.records (target_in x)) c.index-targets-at.is in
    sym (targets-not count d.records k ts (one ∙ sym is ∙ c.if-not-is_target.true))

pub loop-at-preserved : goal.loop-at-preserved
loop-at-preserved c =
    let d = c.args.d.now in
    let count = length d.versions.items in
    let ts = c.args.targets.now in
    let at = c.loop-at.at in
    let k = at - 1 in
    let e = c.index-targets-at.result in
    let test = c.loop-at-test.true in
    let within = c.loop-at.invariant.within in
    let up : k + 1 ≡ at = omega (arith, test) in
    let lt : k < length ts = omega (arith, test, within) in
    let f : ℕ → Bool = λ vid. get_or c.loop-at.seen vid false in
    let marks : (vid : ℕ) → f vid ≡ is_in_target (drop (k + 1) ts) vid = λ vid. c.loop-at.invariant.marks vid ∙ ap (λ (m : ℕ). is_in_target (drop m ts) vid) (sym up) in
    let later : are_targets count d.records (map target_in (drop (k + 1) ts)) ≡ true = ap (λ (m : ℕ). are_targets count d.records (map target_in (drop m ts))) up ∙ c.loop-at.invariant.are in
    let one = targets-one count d.records f ts k e lt marks later in
    let is = c.is_target.ensures ∙ ap (λ (x : Target). is_target_by f count d.records (target_in x)) c.index-targets-at.is in
    let slice = c.as_slice.ensures ∙ ap (λ (x : Target). x.versions) c.index-targets-at.is in
    record {
      within = omega (arith, lt);
      marks = marks-one c.loop-at.seen c.mark.new.seen ts k e lt marks (λ vid. c.mark.ensures vid ∙ ap (λ (vs : List ℕ). f vid || has vs vid) slice);
      are = one ∙ sym is ∙ c.if-not-is_target.false;
    }
