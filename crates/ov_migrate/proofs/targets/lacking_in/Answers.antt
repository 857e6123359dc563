use Rattle.std.proofs.Common.{◌≡◌, ◌^◌, ℕ, List, length, ap, subst, arith}
use Rattle.ov_member.specs.Rids.{left_out}
use Rattle.std.specs.Prelude.{Option, MatchOption}
use Rattle.ov_catalog.specs.Sets.{target_in}
use Rattle.ov_catalog.specs.Numbers.{TargetNumbers}
use Rattle.ov_read.specs.Agreement.{AreTogether, IsBorneOut, PartAgrees}
use Rattle.ov_migrate.proofs.Lacked.{lacks, not_together, not_within}
use Rattle.ov_migrate.proofs.targets.lacking_in.Goals as goal

abbrev IsFound : ℕ → List (List ℕ) → Option (List ℕ) → Type 0
IsFound count sets o = MatchOption o (PartAgrees count (2 ^ 31) sets → ⊥) (λ all. AreTogether sets all × IsBorneOut count (2 ^ 31) all)

pub returns-in_default : goal.returns-in_default
returns-in_default c =
    let t : TargetNumbers = target_in c.args.target.now in
    let sets = c.args.sets.now in
    not_together t c.args.lists.now sets c.in_ok-wanted.wanted c.in_ok-wanted.ensures
    (subst (IsFound t.kept_records sets) c.in_default.is c.in_ok-kept.ensures)

pub returns-then-len-gt0 : goal.returns-then-len-gt0
returns-then-len-gt0 c =
    let t : TargetNumbers = target_in c.args.target.now in
    let sets = c.args.sets.now in
    let found = subst (IsFound t.kept_records sets) c.in-Some.is c.in_ok-kept.ensures in
    not_within t c.args.lists.now sets c.in_ok-wanted.wanted c.in-Some.kept c.in_ok-wanted.ensures found.0
    (omega (arith, c.if-len-gt0.true, c.len-2.ensures.count, ap (λ (l : List ℕ). length l) c.in_ok-others.ensures.members))

pub returns : goal.returns
returns c =
    let t : TargetNumbers = target_in c.args.target.now in
    let sets = c.args.sets.now in
    let found = subst (IsFound t.kept_records sets) c.in-Some.is c.in_ok-kept.ensures in
    let size : length c.in_ok-wanted.wanted ≡ t.size = omega (arith, c.if-len-target.false, c.len.ensures.count) in
    let none : length (left_out c.in-Some.kept c.in_ok-wanted.wanted) ≡ 0 =
    omega (arith, c.if-len-gt0.false, c.len-2.ensures.count, ap (λ (l : List ℕ). length l) c.in_ok-others.ensures.members) in
    lacks t c.args.lists.now sets c.in_ok-wanted.wanted c.in-Some.kept c.in_ok-without.field-0 c.in_ok-wanted.ensures size found.0 found.1 none c.in_ok-without.ensures.members
