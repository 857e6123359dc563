use Rattle.std.proofs.Common.{arith}
use Rattle.std.proofs.lemmas.List.Sorted.{length_permutation}
use Rattle.ov_rows.proofs.versions.version_rows.Goals as goal

pub returns-in-None-clause-count : goal.returns-in-None-clause-count
returns-in-None-clause-count c = length_permutation c.args.rows c.in_ok-made.made c.in_ok-made.ensures.kept

pub returns-in-None-clause-few : goal.returns-in-None-clause-few
returns-in-None-clause-few c =
    let same = length_permutation c.args.rows c.in_ok-made.made c.in_ok-made.ensures.kept in
    omega (arith, same, c.if-len-gt-MOST_ROWS.false)
