-- Where conditions and keys are read over a dataset.
use Rattle.std.specs.Prelude.{Bool, List, Option}
use Rattle.std.specs.declared.cmp.Ordering.{Ordering}
use Rattle.ov_model.specs.Answers.{Here, Pair, here_for, holds, order_by}
use Rattle.ov_model.specs.Book.{Cvd}
use Rattle.ov_model.specs.Lineages.{relatives}
use Rattle.ov_model.specs.declared.query.Cond.{Cond}
use Rattle.ov_model.specs.declared.query.Key.{Key}

-- a group of pairs of this dataset
abbrev pub here : Cvd → List Pair → Here
here cvd group = here_for cvd.schema (relatives cvd) group

-- whether WHERE or HAVING takes the group
unfoldable pub is_taken : Cvd → Option Cond → List Pair → Bool
is_taken cvd cond group = holds (here cvd group) cond

-- how ORDER BY orders two groups
unfoldable pub group_order : List Key → Cvd → List Pair → List Pair → Ordering
group_order keys cvd a b = order_by keys (here cvd a) (here cvd b)
