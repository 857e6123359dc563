use Rattle.std.proofs.Common.{◌≡◌, ◌∙◌, Some, sym}
use Rattle.ov_catalog.specs.Sets as sets
use Rattle.ov_model.specs.Registry.{both, vids_staged}
use Rattle.ov_staging.specs.Origins.{set_staged_in}
use Rattle.ov_staging.proofs.Sources.{listed_some}
use Rattle.ov_staging.proofs.origins.origin_of_row.Goals as goal

pub returns-in_ok-cvd-in-Some-2-clause-of : goal.returns-in_ok-cvd-in-Some-2-clause-of
returns-in_ok-cvd-in-Some-2-clause-of c =
    let set : set_staged_in c.args.store.now.held.numbers c.args.row.now ≡ Some (sets.set_in c.in-Some.d.now) = sym c.in-Some.ensures
    in let vids : vids_staged c.args.row.now ≡ Some c.in-Some-2.vids = sym c.in_ok-vids.ensures ∙ c.in-Some-2.is
    in (sets.set_in c.in-Some.d.now, (λ i. both (set i) (vids i)), c.in_ok-cvd-in-Some-2.ensures.ok)

pub returns-in_ok-cvd-in-Some-2-clause-some : goal.returns-in_ok-cvd-in-Some-2-clause-some
returns-in_ok-cvd-in-Some-2-clause-some c = listed_some c.args.row.now c.in-Some-2.vids (sym c.in_ok-vids.ensures ∙ c.in-Some-2.is)
