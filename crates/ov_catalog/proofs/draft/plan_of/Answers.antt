use Rattle.std.proofs.Common.{◌≡◌, map, refl, ap, ◌∙◌}
use Rattle.std.specs.Prelude.{List}
use Rattle.ov_catalog.specs.declared.cvd.Target.{Target}
use Rattle.ov_catalog.specs.Raw.{raw_target}
use Rattle.ov_catalog.specs.Sets.{target_in}
use Rattle.ov_catalog.proofs.DraftLemmas.{targets-kept}
use Rattle.ov_catalog.proofs.draft.plan_of.Goals as goal

pub returns : goal.returns
returns c =
    let said = c.in-Some.plan in
    let kept = c.new.ensures ∙ c.in_ok-targets.ensures in
    let targets : map target_in c.new.result ≡ map raw_target said.targets = ap (λ (ts : List Target). map target_in ts) kept ∙ targets-kept said.targets in
    rw (c.in-Some.is, targets, c.into_vec.ensures) refl
