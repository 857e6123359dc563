use Rattle.std.proofs.Common.{ℕ, rules}
use Rattle.std.specs.Prelude.{Vec}
use Rattle.std.specs.declared.alloc.Global.{Global}
use Rattle.std.proofs.lemmas.Fn.{always_returns_same}
use Rattle.std.proofs.lemmas.List.Sorted.{IsNonDecreasingBy-from_sort_by_key}
use Rattle.ov_graph.specs.Splits.{first_of}
use Rattle.ov_lyre.proofs.OrderFacts.{stable-keys}
use Rattle.ov_lyre.proofs.front.in_order.Goals as goal

pub returns-clause-parts : goal.returns-clause-parts
returns-clause-parts c = let h = c.in_ok-sort_by_key-2.ensures in record {
  permutation = h.permutation;
  sorted = IsNonDecreasingBy-from_sort_by_key (λ (part : Vec ℕ Global). first_of part.items) _ h.sorted (λ a r q k. search rules);
  kept = stable-keys (λ (part : Vec ℕ Global). first_of part.items) _ _ h.permutation (h.stable (λ (part : Vec ℕ Global). first_of part.items) (always_returns_same _ _ _ (λ a r q k. search rules)));
}

pub returns-clause-cuts : goal.returns-clause-cuts
returns-clause-cuts c = let h = c.in_ok-sort_by_key.ensures in record {
  permutation = h.permutation;
  sorted = IsNonDecreasingBy-from_sort_by_key (λ (vid : ℕ). vid) _ h.sorted (λ a r q k. search rules);
  kept = stable-keys (λ (vid : ℕ). vid) _ _ h.permutation (h.stable (λ (vid : ℕ). vid) (always_returns_same _ _ _ (λ a r q k. search rules)));
}
