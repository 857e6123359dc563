use Rattle.std.proofs.Common.{◌≡◌, ℕ, map, length, refl, ◌∙◌}
use Rattle.std.proofs.lemmas.List.{length-map}
use Rattle.std.proofs.lemmas.Map.Views.{btree_set_len-from_list}
use Rattle.std.specs.Cmp.{nat_cmp_total}
use Rattle.std.specs.Ordering.{nat_cmp, eq_by_cmp}
use Rattle.std.specs.Set.{distinct_count}
use Rattle.ov_catalog.proofs.parents.are_distinct.Goals as goal

pub returns : goal.returns
returns c =
    let vids = map (λ (edge : ℕ × ℕ). edge.0) c.args.parents.now in
    let count : c.len.result ≡ distinct_count (eq_by_cmp nat_cmp) vids = c.len.ensures.len ∙ btree_set_len-from_list nat_cmp_total vids c.in_ok-vids.vids c.in_ok-vids.ensures in
    let size : length vids ≡ length c.args.parents.now = length-map c.args.parents.now (λ (edge : ℕ × ℕ). edge.0) in
    rw (count, size) refl
