use Rattle.std.proofs.Common.{◌≡◌, ◌≤◌, true, ℕ, List, subst, rules, arith}
use Rattle.std.specs.List.{All}
use Rattle.std.proofs.lemmas.List.{take_all}
use Rattle.std.proofs.lemmas.List.Elements.{All-more}
use Rattle.ov_member.specs.Rids.{AreRids}
use Rattle.ov_optimize.proofs.listing.first_over.Goals as goal

pub loop-at-preserved : goal.loop-at-preserved
loop-at-preserved c =
    let lists : List (List ℕ) = c.args.lists.now in
    let rids : List ℕ = c.index-lists-at.result in
    let Low : List ℕ → Type 0 = λ xs. All (λ rid. rid ≤ c.args.last) xs in
    let here : c.is_within.result ≡ true = search rules in
    record {
      sets = All-more AreRids lists c.loop-at.at rids c.loop-at-test.true c.loop-at.invariant.sets (subst AreRids c.index-lists-at.is c.is_within.ensures.set);
      within = All-more Low lists c.loop-at.at rids c.loop-at-test.true c.loop-at.invariant.within (subst Low c.index-lists-at.is (c.is_within.ensures.within.0 here));
    }

pub returns-clause-sets : goal.returns-clause-sets
returns-clause-sets c none =
    subst (All AreRids) (take_all c.loop-at.at c.args.lists.now (omega (arith, c.loop-at-test.false))) c.loop-at.invariant.sets

pub returns-clause-found : goal.returns-clause-found
returns-clause-found c =
    subst (All (λ rids. All (λ rid. rid ≤ c.args.last) rids)) (take_all c.loop-at.at c.args.lists.now (omega (arith, c.loop-at-test.false))) c.loop-at.invariant.within
