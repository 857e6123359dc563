use Rattle.std.proofs.Common.{rules}
use Rattle.std.proofs.lemmas.List.Sorted.{IsNonDecreasingBy-from_sort_by_key}
use Rattle.ov_pages.proofs.RunLemmas.{runs_moved}
use Rattle.ov_pages.proofs.live.sorted_runs.Goals as goal

pub returns : goal.returns
returns c = record {
  runs = runs_moved _ _ _ c.sort_unstable_by_key.ensures.permutation c.in_ok-runs.ensures;
  sorted = IsNonDecreasingBy-from_sort_by_key (λ r. r.first) c.sort_unstable_by_key.new.self.items c.sort_unstable_by_key.ensures.sorted (λ a r q k. search rules);
}
