use Rattle.std.proofs.Common.{◌≡◌, ◌&&◌, ℕ, List, true, length, map, Vec, Global, refl, sym, subst, ap, ◌∙◌, arith}
use Rattle.std.specs.Prelude.{nat_le, is_none}
use Rattle.std.proofs.lemmas.Bool.{eqb-true, leb-true}
use Rattle.std.proofs.lemmas.List.{length-map}
use Rattle.ov_event.specs.declared.event.PlanTarget.{PlanTarget}
use Rattle.ov_lyre.specs.Parts.{lists_of}
use Rattle.ov_catalog.specs.declared.cvd.Target.{Target}
use Rattle.ov_catalog.specs.Events.{targets_of}
use Rattle.ov_catalog.specs.Planning.{are_targets, is_threshold}
use Rattle.ov_catalog.specs.Ready.{CanBegin, said_by}
use Rattle.ov_catalog.specs.Sets.{set_in, target_in}
use Rattle.ov_catalog.proofs.CommitLemmas.{and-both, off-true}
use Rattle.ov_catalog.proofs.SplitLemmas.{can-begin, split-there}
use Rattle.ov_catalog.proofs.plans.plan_for.Goals as goal

pub are_targets-requires-clause-there : goal.are_targets-requires-clause-there
are_targets-requires-clause-there c =
    let d = c.args.d.now in
    let said = c.args.said.now in
    let parts = lists_of c.in_ok-split.split.parts.items in
    let ts = c.in_ok-targets.targets.items in
    let counts = off-true _ _ c.in_ok-unless-2.ensures in
    let equal = eqb-true _ _ counts in
    let len = c.len.ensures in
    let ok = c.in_ok-split.split.parts.ok.0 in
    let size = length-map c.in_ok-split.split.parts.items (λ (part : Vec ℕ Global). part.items) in
    let long : length said ≡ length parts = omega (arith, equal, len, ok, size) in
    let same : map target_in ts ≡ targets_of parts said = rw c.deref.ensures.value at c.in_ok-targets.ensures.targets in
    rw c.deref-2.ensures.value (split-there d c.args.p c.args.q parts said ts c.in_ok-split.ensures same long)

pub returns-clause-begins : goal.returns-clause-begins
returns-clause-begins c =
    let d = c.args.d.now in
    let said = c.args.said.now in
    let parts = lists_of c.in_ok-split.split.parts.items in
    let ts = c.in_ok-targets.targets.items in
    let counts = off-true _ _ c.in_ok-unless-2.ensures in
    let equal = eqb-true _ _ counts in
    let len = c.len.ensures in
    let ok = c.in_ok-split.split.parts.ok.0 in
    let size = length-map c.in_ok-split.split.parts.items (λ (part : Vec ℕ Global). part.items) in
    let long : length said ≡ length parts = omega (arith, equal, len, ok, size) in
    let same : map target_in ts ≡ targets_of parts said = rw c.deref.ensures.value at c.in_ok-targets.ensures.targets in
    let begins = sym c.may_begin.ensures ∙ off-true _ _ c.in_ok-unless.ensures in
    let idle = and-both (is_none d.plan) (is_threshold c.args.p c.args.q && nat_le d.layout.next 4294000000) begins in
    let low = and-both (is_threshold c.args.p c.args.q) (nat_le d.layout.next 4294000000) idle.1 in
    let range = and-both (nat_le 1 c.args.p) (nat_le c.args.p c.args.q && nat_le c.args.q 1000000) low.0 in
    let spoken : map target_in ts ≡ targets_of parts (map said_by ts) = same ∙ ap (λ (xs : List PlanTarget). targets_of parts xs) (sym c.in_ok-targets.ensures.said) in
    let told = ap (λ (xs : List PlanTarget). length xs) c.in_ok-targets.ensures.said in
    let all = length-map ts said_by in
    let many : length ts ≡ length parts = omega (arith, told, all, long) in
    let are : are_targets (set_in d) (map target_in ts) ≡ true = sym (rw c.deref-2.ensures.value at c.in_ok-are_targets.ensures) ∙ off-true _ _ c.in_ok-unless-3.ensures in
    subst (λ (xs : List Target). CanBegin (record { p = c.args.p; q = c.args.q; targets = xs; at = 0; copied = 0; segments = c.new-2.result }) d) (sym c.new.ensures)
    (can-begin d (record { p = c.args.p; q = c.args.q; targets = ts; at = 0; copied = 0; segments = c.new-2.result }) parts c.requires c.parts.ensures.sound.sound idle.0 (leb-true _ _ range.0) (leb-true _ _ low.1) c.in_ok-split.ensures spoken many are refl refl c.new-2.ensures.items)
