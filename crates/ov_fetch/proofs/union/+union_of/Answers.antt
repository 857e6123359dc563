use Rattle.std.proofs.Common.{◌≡◌, ◌<◌, ◌≤◌, ℕ, List, [], ◌∷◌, length, get_or, sym, ◌∙◌, ap, arith}
use Rattle.std.proofs.Math.Bool.{or-false}
use Rattle.ov_member.specs.Rids.{AreRids, has}
use Rattle.ov_fetch.specs.Gathering.{IsAskedSet}
use Rattle.ov_fetch.proofs.union.+union_of.Goals as goal

-- the only set has all rids that are asked for
of_one : (members : List (List ℕ)) (one copy : List ℕ) → 1 ≤ length members → length members < 2 → one ≡ get_or members 0 one → copy ≡ one → AreRids copy → IsAskedSet members copy
of_one [] one copy some few is same set = absurd (omega (arith, some))
of_one (x ∷ []) one copy some few is same set = record { rids = set; members_are = λ rid. ap (λ rids. has rids rid) (same ∙ is) ∙ sym (or-false (has x rid)) }
of_one (x ∷ y ∷ members) one copy some few is same set = absurd (omega (arith, few))

pub returns-in_ok-copy-in-len1 : goal.returns-in_ok-copy-in-len1
returns-in_ok-copy-in-len1 t c = of_one c.args.members.now c.one-item.result c.in_ok-copy-in-len1.copy c.in-len1.len_at_least c.in-len1.len_below c.one-item.is c.in_ok-copy-in-len1.ensures.same c.in_ok-copy-in-len1.ensures.set
