-- A checkout of few versions of few rows gives few rows.
use Rattle.ov_plain_act.proofs.Counting.{merge_few}
use Rattle.ov_plain_act.proofs.showing.rows_merged.Goals as goal
use Rattle.ov_plain_act.specs.Small.{HaveFewRows}

pub returns-clause-count : goal.returns-clause-count
returns-clause-count c =
    let rows : HaveFewRows c.set.inside.cvd.versions = rw (← c.set.view_is) at c.requires.small.rows
    in rw c.in_ok-rows.ensures (merge_few c.set.inside.cvd c.args.vids.now rows c.requires.few)
