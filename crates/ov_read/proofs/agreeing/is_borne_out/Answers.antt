use Rattle.std.proofs.Common.{◌≡◌, ◌≤◌, ◌==◌, ℕ, true, List, [], ◌∷◌, All, inl, inr, sym, ◌∙◌, arith}
use Rattle.std.proofs.lemmas.Bool.{eqb-true, leb-true, le-leb, or_cases}
use Rattle.std.proofs.lemmas.List.Elements.{All-head, All-tail}
use Rattle.ov_member.specs.Rids.{has}
use Rattle.ov_read.proofs.agreeing.is_borne_out.Goals as goal

-- what is among rids up to the last one is so too
up_to : (rids : List ℕ) (rid last : ℕ) → All (λ r. r ≤ last) rids → has rids rid ≡ true → rid ≤ last
up_to [] rid last all is = absurd cc
up_to (x ∷ rids) rid last all is = elim (or_cases (x == rid) (has rids rid) is) [
  | inl here ↦ omega (arith, eqb-true x rid here, All-head (λ r. r ≤ last) x rids all)
  | inr later ↦ up_to rids rid last (All-tail (λ r. r ≤ last) x rids all) later
]

pub returns-in-Some : goal.returns-in-Some
returns-in-Some c = (
  λ le. record {
    count_is = sym c.len.ensures.count ∙ c.if-len-count.true;
    below = λ k d lt. omega (arith, c.in-Some.ensures.above k d lt, leb-true c.in-Some.rid c.args.last le);
  },
  λ out. le-leb c.in-Some.rid c.args.last (up_to c.args.rids.now c.in-Some.rid c.args.last out.below c.in-Some.ensures.there),
)
