-- The worked splits, by computing.
use Rattle.std.proofs.Common.{refl}
use Rattle.ov_graph.specs.Splits.{is_under, stops, may_cut, versions_apart, records_apart, chosen, cuts_within, cuts_of}
use Rattle.ov_lyre.specs.Examples.{IsSplitSo, AllSplit, worked, whole_chain, once_cut_chain, twice_cut_chain, equality, all_cut, star, fine_star, random_tree, other_random_tree, heavy_tree, other_heavy_tree, equal_chain, long_chain, wide_star, wide_tree, coarse_tree}

is_whole_chain : IsSplitSo whole_chain
unfolding is_under stops may_cut versions_apart records_apart chosen cuts_within cuts_of
is_whole_chain = record { parts = refl; cuts = refl; depth = refl }

is_once_cut_chain : IsSplitSo once_cut_chain
unfolding is_under stops may_cut versions_apart records_apart chosen cuts_within cuts_of
is_once_cut_chain = record { parts = refl; cuts = refl; depth = refl }

is_twice_cut_chain : IsSplitSo twice_cut_chain
unfolding is_under stops may_cut versions_apart records_apart chosen cuts_within cuts_of
is_twice_cut_chain = record { parts = refl; cuts = refl; depth = refl }

is_equality : IsSplitSo equality
unfolding is_under stops may_cut versions_apart records_apart chosen cuts_within cuts_of
is_equality = record { parts = refl; cuts = refl; depth = refl }

is_all_cut : IsSplitSo all_cut
unfolding is_under stops may_cut versions_apart records_apart chosen cuts_within cuts_of
is_all_cut = record { parts = refl; cuts = refl; depth = refl }

is_star : IsSplitSo star
unfolding is_under stops may_cut versions_apart records_apart chosen cuts_within cuts_of
is_star = record { parts = refl; cuts = refl; depth = refl }

is_fine_star : IsSplitSo fine_star
unfolding is_under stops may_cut versions_apart records_apart chosen cuts_within cuts_of
is_fine_star = record { parts = refl; cuts = refl; depth = refl }

is_random_tree : IsSplitSo random_tree
unfolding is_under stops may_cut versions_apart records_apart chosen cuts_within cuts_of
is_random_tree = record { parts = refl; cuts = refl; depth = refl }

is_other_random_tree : IsSplitSo other_random_tree
unfolding is_under stops may_cut versions_apart records_apart chosen cuts_within cuts_of
is_other_random_tree = record { parts = refl; cuts = refl; depth = refl }

is_heavy_tree : IsSplitSo heavy_tree
unfolding is_under stops may_cut versions_apart records_apart chosen cuts_within cuts_of
is_heavy_tree = record { parts = refl; cuts = refl; depth = refl }

is_other_heavy_tree : IsSplitSo other_heavy_tree
unfolding is_under stops may_cut versions_apart records_apart chosen cuts_within cuts_of
is_other_heavy_tree = record { parts = refl; cuts = refl; depth = refl }

is_equal_chain : IsSplitSo equal_chain
unfolding is_under stops may_cut versions_apart records_apart chosen cuts_within cuts_of
is_equal_chain = record { parts = refl; cuts = refl; depth = refl }

is_long_chain : IsSplitSo long_chain
unfolding is_under stops may_cut versions_apart records_apart chosen cuts_within cuts_of
is_long_chain = record { parts = refl; cuts = refl; depth = refl }

is_wide_star : IsSplitSo wide_star
unfolding is_under stops may_cut versions_apart records_apart chosen cuts_within cuts_of
is_wide_star = record { parts = refl; cuts = refl; depth = refl }

is_wide_tree : IsSplitSo wide_tree
unfolding is_under stops may_cut versions_apart records_apart chosen cuts_within cuts_of
is_wide_tree = record { parts = refl; cuts = refl; depth = refl }

is_coarse_tree : IsSplitSo coarse_tree
unfolding is_under stops may_cut versions_apart records_apart chosen cuts_within cuts_of
is_coarse_tree = record { parts = refl; cuts = refl; depth = refl }

pub all_split : AllSplit worked
all_split = (is_whole_chain, (is_once_cut_chain, (is_twice_cut_chain, (is_equality, (is_all_cut, (is_star, (is_fine_star, (is_random_tree, (is_other_random_tree, (is_heavy_tree, (is_other_heavy_tree, (is_equal_chain, (is_long_chain, (is_wide_star, (is_wide_tree, (is_coarse_tree, tt))))))))))))))))
