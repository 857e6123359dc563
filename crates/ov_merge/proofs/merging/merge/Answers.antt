use Rattle.std.proofs.Common.{ℕ, List, subst, sym}
use Rattle.std.specs.List.{All}
use Rattle.ov_segment.specs.declared.numbered.Record.{Record}
use Rattle.ov_model.specs.Lists.{joined}
use Rattle.ov_fetch.specs.Scans.{InKeyOrder, rows_at}
use Rattle.ov_merge.specs.Places.{place_cmp, IsMerge}
use Rattle.ov_merge.proofs.Merged.{merge_rows, first_place}
use Rattle.ov_merge.proofs.merging.merge.Goals as goal

pub merge_picks-requires-clause-ordered : goal.merge_picks-requires-clause-ordered
merge_picks-requires-clause-ordered c = subst (λ picks. All (λ pick. InKeyOrder c.args.schema.now (rows_at c.args.scan.now.records pick)) picks) (sym c.as_slice.ensures) c.requires.ordered

pub returns : goal.returns
returns c =
    let schema = c.args.schema.now in
    let records : List Record = c.args.scan.now.records in
    let picks : List (List ℕ) = c.args.scan.now.picks in
    let made : IsMerge (place_cmp schema records) (joined picks) c.in_ok-places.places.items =
    subst (λ l. IsMerge (place_cmp schema records) (joined l) c.in_ok-places.places.items) c.as_slice.ensures c.in_ok-places.ensures.merge in
    let same : IsMerge (place_cmp schema records) (joined picks) c.new.result =
    subst (IsMerge (place_cmp schema records) (joined picks)) (sym c.new.ensures) made in
    record {
      rows = merge_rows schema records picks c.new.result same;
      first = λ place is. first_place schema records (joined picks) place (same.first place is);
    }
