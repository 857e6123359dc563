use Rattle.std.proofs.Common.{◌≡◌, ◌+◌, ◌++◌, ℕ, suc, List, [], ◌∷◌, sym, ◌∙◌, ap, arith, append_assoc}
use Rattle.std.proofs.lemmas.List.{append-nil}
use Rattle.ov_member.specs.Lists.{run}
use Rattle.ov_member.proofs.RunLemmas.{run-more}
use Rattle.ov_migrate.proofs.picking.push_run.Goals as goal

pub loop-at-init : goal.loop-at-init
unfolding run
loop-at-init c low = sym (append-nil c.args.found.now.items)

pub loop-at-preserved : goal.loop-at-preserved
loop-at-preserved c low =
    let first = c.args.first + c.args.skipped in
    let at = c.loop-at.at in
    let old = c.args.found.now.items in
    let is : c.saturating_add-in-loop-at.result ≡ c.args.first + c.args.skipped + c.loop-at.at = omega (arith, c.saturating_add-in-loop-at.ensures, c.saturating_add.ensures, low, c.loop-at-test.true) in
    let suc_is : at + 1 ≡ suc at = omega arith in
    c.in_ok-push.ensures.items
    ∙ ap (λ (n : ℕ). c.loop-at.found.items ++ n ∷ []) is
    ∙ ap (λ (l : List ℕ). l ++ (first + at) ∷ []) (c.loop-at.invariant low)
    ∙ append_assoc old (run first at) ((first + at) ∷ [])
    ∙ ap (λ (l : List ℕ). old ++ l) (sym (run-more first at) ∙ ap (run first) (sym suc_is))
