use Rattle.std.specs.List.Sorted.{IsPermutation, IsStableByKey}
use Rattle.std.specs.Ordering.{nat_cmp}
use Rattle.std.proofs.Common.{subst}
use Rattle.ov_segment.specs.declared.numbered.Record.{Record}
use Rattle.ov_segment.specs.Tables.{Content, records_at}
use Rattle.ov_segment.proofs.SortLemmas.{are_sorted, records_permuted, records_sorted, records_stable}
use Rattle.ov_segment.proofs.table.Table.sort_by_rid.Goals as goal

pub invariant_of-self-2 : goal.invariant_of-self-2
invariant_of-self-2 c = are_sorted _ _ _ _ c.self.invariant c.in_ok-sort_places.ensures.permutation

pub returns-clause-permutation : goal.returns-clause-permutation
returns-clause-permutation c =
    subst (λ (t : Content). IsPermutation t.records (records_at c.self.inside.columns.items c.self.inside.bytes.items c.sort_places.new.places.items)) c.self.view_is
    (records_permuted c.self.inside.columns.items c.self.inside.bytes.items c.self.inside.places.items c.sort_places.new.places.items c.in_ok-sort_places.ensures.permutation)

pub returns-clause-sorted : goal.returns-clause-sorted
returns-clause-sorted c = records_sorted c.self.inside.columns.items c.self.inside.bytes.items c.sort_places.new.places.items c.in_ok-sort_places.ensures.sorted

pub returns-clause-stable : goal.returns-clause-stable
returns-clause-stable c =
    subst (λ (t : Content). IsStableByKey (λ (r : Record). r.rid) nat_cmp t.records (records_at c.self.inside.columns.items c.self.inside.bytes.items c.sort_places.new.places.items)) c.self.view_is
    (records_stable c.self.inside.columns.items c.self.inside.bytes.items c.self.inside.places.items c.sort_places.new.places.items c.in_ok-sort_places.ensures.stable)
