use Rattle.std.proofs.Common.{◌≡◌, ◌∙◌, ℕ, List, length, sym, ap, subst, arith}
use Rattle.std.proofs.lemmas.Bool.{eq-eqb, eqb-true}
use Rattle.ov_member.specs.Rids.{AreRids, left_out}
use Rattle.ov_fetch.specs.Extents.{rids_of}
use Rattle.ov_copies.proofs.Same.{none_out, same_of_out}
use Rattle.ov_copies.proofs.segment.has_rids.Goals.{then-len-eq0, else-len-eq0}
use Rattle.ov_copies.proofs.segment.has_rids.Goals as goal

pub returns-in-Some : goal.returns-in-Some
returns-in-Some c =
    let rids : List ℕ = c.args.rids.now in
    let found : List ℕ = c.in-Some.found in
    let of = (rw c.in-Some.is at c.in_ok-found.ensures) in
    let is : found ≡ rids_of c.args.records.now.records = of.1 ∙ c.deref.ensures.value ∙ c.in_ok-listed.ensures in
    let set : AreRids found = subst AreRids (sym of.1) of.0 in
    let none : rids_of c.args.records.now.records ≡ rids → length (left_out found rids) ≡ 0 =
    λ same. ap (λ (xs : List ℕ). length (left_out found xs)) (sym (is ∙ same)) ∙ ap length (none_out found set) in
    elim c.if-len-eq0.branch [
      | then-len-eq0 w ↦
          rw w.result-is (
            (λ yes. sym is ∙ same_of_out found rids set c.requires (ap length (sym c.in_ok-more-in-Some.ensures.members) ∙ omega (arith, c.len.ensures.count, w.if-len-eq0.true))
                (ap length (sym c.in_ok-fewer-in-Some.ensures.members) ∙ sym w.len-then-len-eq0.ensures.count ∙ eqb-true w.len-then-len-eq0.result 0 yes)),
            (λ same. eq-eqb w.len-then-len-eq0.result 0 (w.len-then-len-eq0.ensures.count ∙ ap length c.in_ok-fewer-in-Some.ensures.members
                ∙ ap (λ (xs : List ℕ). length (left_out rids xs)) (is ∙ same) ∙ ap length (none_out rids c.requires))),
          )
      | else-len-eq0 w ↦ (
        (λ yes. absurd (w.if-len-eq0.false (eqb-true c.len.result 0 (sym w.result-is ∙ yes)))),
        (λ same. absurd (w.if-len-eq0.false (c.len.ensures.count ∙ ap length c.in_ok-more-in-Some.ensures.members ∙ none same))),
      )
    ]

pub returns : goal.returns
returns c =
    let none = (rw c.in-None.is at c.in_ok-found.ensures) in (
      (λ same. absurd cc),
      (λ same. absurd (none (subst AreRids (sym (c.deref.ensures.value ∙ c.in_ok-listed.ensures ∙ same)) c.requires))),
    )
