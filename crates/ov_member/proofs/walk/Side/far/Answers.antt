use Rattle.std.proofs.Common.{◌≡◌, ◌%◌, leb, leb-true, leb-false, eqb, not, if◌then◌else◌, subst, sym, refl, ◌∙◌, inl, inr, rules, arith}
use Rattle.std.proofs.lemmas.Bool.Decides.{eqb_tells}
use Rattle.std.proofs.lemmas.List.{take_rest}
use Rattle.std.proofs.lemmas.List.Sorted.{IsPartitionPoint-from_clause, IsPartitionedBy-leb}
use Rattle.ov_member.specs.Walks.{IsLeap}
use Rattle.ov_member.proofs.EdgeLemmas.{Ascend-ordered}
use Rattle.ov_member.proofs.LeapLemmas.{leap_over}
use Rattle.ov_member.proofs.walk.Side.far.Goals as goal
use Rattle.ov_member.proofs.walk.Side.far.Goals.{then-passed-eq1, else-passed-eq1}

pub returns : goal.returns
returns c =
    let edges = c.args.self.edges.now in
    let number = c.args.number in
    let passed = c.partition_point-passed.result in
    let after : c.if-passed-eq1.inside ≡ (if eqb (passed % 2) 1 then not c.args.self.inside else c.args.self.inside) = elim c.if-passed-eq1.branch [
      | then-passed-eq1 w ↦ w.inside-is ∙ rw w.if-passed-eq1.true refl
      | else-passed-eq1 w ↦ elim (eqb_tells (passed % 2) 1) [
        | inl odd ↦ absurd (w.if-passed-eq1.false odd.1)
        | inr even ↦ w.inside-is ∙ rw even.0 refl
      ]
    ] in
    subst (IsLeap number c.args.self.inside edges c.if-passed-eq1.inside) (sym (take_rest edges passed))
    (leap_over number c.args.self.inside edges passed c.if-passed-eq1.inside c.partition_point-passed.ensures.bound
    (λ low h k lt.
    let point = IsPartitionPoint-from_clause (λ x. leb x number) edges _ c.partition_point-passed.ensures.partitioned (IsPartitionedBy-leb (λ x. x) edges number (Ascend-ordered low edges h)) (λ a r q k. search rules) in
    leb-true _ _ (point.0 k 0 (omega arith) lt))
    (λ low h k from lt.
    let point = IsPartitionPoint-from_clause (λ x. leb x number) edges _ c.partition_point-passed.ensures.partitioned (IsPartitionedBy-leb (λ x. x) edges number (Ascend-ordered low edges h)) (λ a r q k. search rules) in
    leb-false _ _ (point.1 k 0 from lt)) after)
