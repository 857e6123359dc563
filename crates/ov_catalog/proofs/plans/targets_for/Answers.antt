use Rattle.std.proofs.Common.{◌≡◌, ◌++◌, [], ◌∷◌, ap, ◌∙◌, get_or, arith, Vec, Global}
use Rattle.std.specs.Prelude.{ℕ}
use Rattle.ov_catalog.specs.Events.{target_of}
use Rattle.ov_catalog.specs.Ready.{said_by}
use Rattle.ov_catalog.specs.Sets.{target_in}
use Rattle.ov_catalog.proofs.SplitLemmas.{said-one, target-more}
use Rattle.ov_catalog.proofs.plans.targets_for.Goals as goal

pub loop-at-preserved : goal.loop-at-preserved
loop-at-preserved c =
    let parts = c.args.parts.now in
    let said = c.args.said.now in
    let targets = c.loop-at.targets.items in
    let t = c.in_ok-target_of.field-0 in
    let at = c.loop-at.at in
    let d = c.index-parts-at.result in
    let s = c.index-said-at.result in
    let lt = c.loop-at-test.true in
    let long = c.requires in
    let items : c.push.new.self.items ≡ targets ++ t ∷ [] = c.in_ok-push.ensures.items in
    let slice : c.deref.result.now ≡ (get_or parts at d).items = c.deref.ensures.value ∙ ap (λ (v : Vec ℕ Global). v.items) c.index-parts-at.is in
    let own : target_in t ≡ target_of (get_or parts at d).items (get_or said at s) = c.in_ok-target_of.ensures.0 ∙ (λ i. target_of (slice i) (c.index-said-at.is i)) in
    let spoken : said_by t ≡ get_or said at s = c.in_ok-target_of.ensures.1 ∙ c.index-said-at.is in
    record {
      targets_are = rw items (target-more parts said targets t at d s lt long c.loop-at.invariant.targets_are own);
      said_are = rw items (said-one said targets t at s (omega (arith, lt, long)) c.loop-at.invariant.said_are spoken);
    }
