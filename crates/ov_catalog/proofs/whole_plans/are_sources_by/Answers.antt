use Rattle.std.proofs.Common.{◌≡◌, ◌<◌, ◌+◌, ◌-◌, ◌||◌, ℕ, Bool, List, true, false, get_or, drop, length, map, sym, subst, ap, ◌∙◌, arith}
use Rattle.std.specs.List.{flat_map}
use Rattle.ov_layout.specs.Parts.{has}
use Rattle.ov_catalog.specs.declared.cvd.Target.{Target}
use Rattle.ov_catalog.specs.Events.{is_one}
use Rattle.ov_catalog.specs.Numbers.{TargetNumbers}
use Rattle.ov_catalog.specs.Running.{is_in_target}
use Rattle.ov_catalog.specs.Seen.{may_leave_by}
use Rattle.ov_catalog.specs.Sets.{part_in, target_in}
use Rattle.ov_catalog.specs.Wholes.{are_sources}
use Rattle.ov_catalog.proofs.SeenLemmas.{marks-one}
use Rattle.ov_catalog.proofs.WholeMarks.{sources-not, sources-one, target-at}
use Rattle.ov_catalog.proofs.WholePlans.{in-all}
use Rattle.ov_catalog.proofs.whole_plans.are_sources_by.Goals as goal

pub may_leave-requires-clause-long : goal.may_leave-requires-clause-long
may_leave-requires-clause-long c = let long = c.requires.long in let kept = c.loop-at.auto.later in omega (arith, long, kept)

pub mark-requires : goal.mark-requires
mark-requires c vid is =
    let ts = c.args.targets.now in
    let e = c.index-targets-at.result in
    let test = c.loop-at-test.true in
    let within = c.loop-at.invariant.within in
    let slice = c.as_slice.ensures ∙ ap (λ (x : Target). x.versions) c.index-targets-at.is in
    let low = c.requires.within vid (target-at ts (c.loop-at.at - 1) vid e (omega (arith, test, within)) (subst (λ (vs : List ℕ). has vs vid ≡ true) slice is)) in
    let long = c.requires.long in
    let kept = c.loop-at.auto.later in
    omega (arith, low, long, kept)

pub returns-then-not-may_leave : goal.returns-then-not-may_leave
returns-then-not-may_leave c =
    let parts = map part_in c.args.parts.now in
    let ts = c.args.targets.now in
    let vids = flat_map (λ (t : TargetNumbers). t.versions) (map target_in ts) in
    let at = c.loop-at.at in
    let k = at - 1 in
    let e = c.index-targets-at.result in
    let test = c.loop-at-test.true in
    let within = c.loop-at.invariant.within in
    let up : k + 1 ≡ at = omega (arith, test) in
    let lt : k < length ts = omega (arith, test, within) in
    let f : ℕ → Bool = λ vid. get_or c.loop-at.later vid false in
    let g : ℕ → Bool = λ vid. get_or c.args.left.now vid false in
    let left : (vid : ℕ) → g vid ≡ is_one vids vid = λ vid. c.requires.marks vid ∙ sym (in-all ts vid) in
    let marks : (vid : ℕ) → f vid ≡ is_in_target (drop (k + 1) ts) vid = λ vid. c.loop-at.invariant.marks vid ∙ ap (λ (m : ℕ). is_in_target (drop m ts) vid) (sym up) in
    let behind : are_sources parts vids (map target_in (drop (k + 1) ts)) ≡ true = ap (λ (m : ℕ). are_sources parts vids (map target_in (drop m ts))) up ∙ c.loop-at.invariant.are in
    let one = sources-one parts vids f g ts k e lt marks left behind in
    let may = c.may_leave.ensures ∙ ap (λ (x : Target). may_leave_by f g parts (target_in x)) c.index-targets-at.is in
    sym (sources-not parts vids k ts (one ∙ sym may ∙ c.if-not-may_leave.true))

pub loop-at-preserved : goal.loop-at-preserved
loop-at-preserved c =
    let parts = map part_in c.args.parts.now in
    let ts = c.args.targets.now in
    let vids = flat_map (λ (t : TargetNumbers). t.versions) (map target_in ts) in
    let at = c.loop-at.at in
    let k = at - 1 in
    let e = c.index-targets-at.result in
    let test = c.loop-at-test.true in
    let within = c.loop-at.invariant.within in
    let up : k + 1 ≡ at = omega (arith, test) in
    let lt : k < length ts = omega (arith, test, within) in
    let f : ℕ → Bool = λ vid. get_or c.loop-at.later vid false in
    let g : ℕ → Bool = λ vid. get_or c.args.left.now vid false in
    let left : (vid : ℕ) → g vid ≡ is_one vids vid = λ vid. c.requires.marks vid ∙ sym (in-all ts vid) in
    let marks : (vid : ℕ) → f vid ≡ is_in_target (drop (k + 1) ts) vid = λ vid. c.loop-at.invariant.marks vid ∙ ap (λ (m : ℕ). is_in_target (drop m ts) vid) (sym up) in
    let behind : are_sources parts vids (map target_in (drop (k + 1) ts)) ≡ true = ap (λ (m : ℕ). are_sources parts vids (map target_in (drop m ts))) up ∙ c.loop-at.invariant.are in
    let one = sources-one parts vids f g ts k e lt marks left behind in
    let may = c.may_leave.ensures ∙ ap (λ (x : Target). may_leave_by f g parts (target_in x)) c.index-targets-at.is in
    let slice = c.as_slice.ensures ∙ ap (λ (x : Target). x.versions) c.index-targets-at.is in
    record {
      within = omega (arith, lt);
      marks = marks-one c.loop-at.later c.mark.new.seen ts k e lt marks (λ vid. c.mark.ensures vid ∙ ap (λ (vs : List ℕ). f vid || has vs vid) slice);
      are = one ∙ sym may ∙ c.if-not-may_leave.false;
    }
