use Rattle.std.proofs.Common.{◌≡◌, ◌<◌, ◌≤◌, ℕ, List, [], ◌∷◌, length, get_or, sym, ◌∙◌, ap, arith}
use Rattle.std.proofs.Math.Bool.{or-false}
use Rattle.ov_member.specs.Rids.{AreRids, has}
use Rattle.ov_migrate.specs.Picked.{IsUnionOf}
use Rattle.ov_migrate.proofs.uniting.+union_of.Goals as goal

-- the only set has all rids
of_one : (sets : List (List ℕ)) (one copy : List ℕ) → 1 ≤ length sets → length sets < 2 → one ≡ get_or sets 0 one → copy ≡ one → AreRids copy → IsUnionOf sets copy
of_one [] one copy some few is same set = absurd (omega (arith, some))
of_one (x ∷ []) one copy some few is same set = record { set = set; members = λ rid. ap (λ rids. has rids rid) (same ∙ is) ∙ sym (or-false (has x rid)) }
of_one (x ∷ y ∷ sets) one copy some few is same set = absurd (omega (arith, few))

pub returns-in_ok-copy-in-len1 : goal.returns-in_ok-copy-in-len1
returns-in_ok-copy-in-len1 t c = of_one c.args.sets.now c.one-item.result c.in_ok-copy-in-len1.copy c.in-len1.len_at_least c.in-len1.len_below c.one-item.is c.in_ok-copy-in-len1.ensures.same c.in_ok-copy-in-len1.ensures.set
