use Rattle.std.proofs.Common.{rules}
use Rattle.std.specs.Ordering.{is_lt}
use Rattle.std.proofs.lemmas.Fn.{always_returns_same}
use Rattle.std.proofs.lemmas.List.MinMax.{ranks_by}
use Rattle.ov_tally.specs.Ranks.{pair_order}
use Rattle.ov_tally.proofs.Cutting.{pairs_total}
use Rattle.ov_tally.proofs.Sorting.{one-sort}
use Rattle.ov_tally.proofs.first.sort_pairs.Goals as goal

pub returns : goal.returns
returns c =
    one-sort pair_order pairs_total _ _
    (c.in_ok-sort_by.ensures.sorted (λ a b. is_lt (pair_order a b)) (ranks_by pairs_total (λ p. p)) (always_returns_same _ _ _ (λ a r q k. search rules)))
    (c.in_ok-sort_by.ensures.stable (λ a b. is_lt (pair_order a b)) (ranks_by pairs_total (λ p. p)) (always_returns_same _ _ _ (λ a r q k. search rules)))
