use Rattle.std.proofs.Common.{◌⊎◌, ◌≤◌, ◌-◌, ◌++◌, take, ℕ, List, length, drop, ◌∙◌, ap, inl, inr, append_assoc}
use Rattle.std.proofs.lemmas.List.{take_rest}
use Rattle.std.specs.declared.cmp.Ordering.{Ordering}
use Rattle.ov_merge.specs.Places.{place_cmp}
use Rattle.ov_merge.proofs.Steps.{both_end}
use Rattle.ov_merge.proofs.both.both.Goals.{then-loop-i-test+else-j-second, else-loop-i-test}
use Rattle.ov_merge.proofs.both.both.Goals as goal

pub returns : goal.returns
returns c =
    let R : ℕ → ℕ → Ordering = place_cmp c.args.schema.now c.args.records.now in
    let first : List ℕ = c.args.first.now in
    let second : List ℕ = c.args.second.now in
    let end : (length first ≤ c.loop-i.i) ⊎ (length second ≤ c.loop-i.j) = elim c.loop-i-test.branch [
      | then-loop-i-test+else-j-second w ↦ inr w.if-j-second.false
      | else-loop-i-test w ↦ inl w.loop-i-test.false
    ] in
    c.in_ok-extend_from_slice-2.ensures.items
    ∙ ap (λ l. l ++ take (length second - c.loop-i.j) (drop c.loop-i.j second)) (c.in_ok-extend_from_slice.ensures.items ∙ ap (λ l. c.loop-i.made.items ++ l) (take_rest first c.loop-i.i))
    ∙ ap (λ l. (c.loop-i.made.items ++ drop c.loop-i.i first) ++ l) (take_rest second c.loop-i.j)
    ∙ append_assoc c.loop-i.made.items (drop c.loop-i.i first) (drop c.loop-i.j second)
    ∙ ap (λ l. c.loop-i.made.items ++ l) (both_end R first second c.loop-i.i c.loop-i.j end)
    ∙ c.loop-i.invariant.so_far
