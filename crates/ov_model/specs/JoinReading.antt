-- Reading the symbols of a join from left to right, as those of a query are read.
--     join_of symbols      the join that all of the symbols spell, or nothing
use Rattle.std.specs.Prelude.{ℕ, List, Option, Some, None}
use Rattle.ov_model.specs.Reading.{◌>>=◌, Reading, or_else, made_at, eaten, list_at, count_at, name_at, operand_by, operand_test_at, cond_at, items_at, of_cvd_at, guard_at, tail_at}
use Rattle.ov_model.specs.declared.query.JoinQuery.{JoinQuery}
use Rattle.ov_model.specs.declared.query.Items.{Items}
use Rattle.ov_model.specs.declared.query.Side.{Side}
use Rattle.ov_model.specs.declared.query.Col.{Col}
use Rattle.ov_model.specs.declared.query.Col.TheVariants as col
use Rattle.ov_model.specs.declared.query.Term.{Term}
use Rattle.ov_model.specs.declared.query.Term.TheVariants as term
use Rattle.ov_model.specs.declared.query.Key.{Key}
use Rattle.ov_model.specs.declared.query.Operand.{Operand}
use Rattle.ov_model.specs.declared.query.Operand.TheVariants as operand
use Rattle.ov_model.specs.declared.query.Cond.{Cond}
use Rattle.ov_model.specs.declared.query.Fixed.TheVariants as f
use Rattle.ov_model.specs.declared.query.Symbol.{Symbol}

-- ---- columns and conditions

-- a dot and a name
unfoldable pub dotted_at : Reading (List ℕ)
dotted_at symbols = do
  name ← eaten f.Dot symbols
  name_at name

unfoldable pub side_col_at : Reading Col
side_col_at symbols =
    or_else (eaten f.Left symbols) (made_at col.Left dotted_at)
    (or_else (eaten f.Right symbols) (made_at col.Right dotted_at) None)

unfoldable pub side_term_at : Reading Term
side_term_at symbols = made_at term.Plain side_col_at symbols

unfoldable pub side_operand_at : Reading Operand
side_operand_at symbols = operand_by (made_at operand.Term side_term_at) symbols

unfoldable pub side_test_at : Reading Cond
side_test_at symbols = operand_test_at side_operand_at symbols

-- ---- FROM and ON

unfoldable pub side_at : Reading Side
side_at symbols = do
  version ← eaten f.Version symbols
  vid ← count_at version
  cvd ← of_cvd_at vid.1
  Some (record { vid = vid.0; cvd = cvd.0 }, cvd.1)

unfoldable pub equation_at : Reading (List ℕ × List ℕ)
equation_at symbols = do
  left ← eaten f.Left symbols
  one ← dotted_at left
  equal ← eaten f.Equal one.1
  right ← eaten f.Right equal
  other ← dotted_at right
  Some ((one.0, other.0), other.1)

unfoldable pub sides_at : Reading (Side × Side)
sides_at symbols = do
  left ← side_at symbols
  join ← eaten f.Join left.1
  right ← side_at join
  Some ((left.0, right.0), right.1)

unfoldable pub matched_at : Reading (List (List ℕ × List ℕ))
matched_at symbols = do
  on ← eaten f.On symbols
  list_at f.And equation_at on

-- SELECT and FROM
unfoldable pub join_head_at : Reading (Items × (Side × Side))
join_head_at symbols = do
  select ← eaten f.Select symbols
  shown ← items_at side_term_at select
  from ← eaten f.From shown.1
  sides ← sides_at from
  Some ((shown.0, sides.0), sides.1)

abbrev pub join_made_of : Items × (Side × Side) → List (List ℕ × List ℕ) → Option Cond → List Key × Option ℕ → JoinQuery
join_made_of head on filter tail = record { left = head.1.0; right = head.1.1; items = head.0; on = on; filter = filter; order = tail.0; limit = tail.1 }

-- all of the symbols
unfoldable pub join_of : List Symbol → Option JoinQuery
join_of symbols = do
  head ← join_head_at symbols
  on ← matched_at head.1
  kept ← guard_at f.Where (cond_at side_test_at 100) on.1
  tail ← tail_at side_term_at kept.1
  Some (join_made_of head.0 on.0 kept.0 tail)
