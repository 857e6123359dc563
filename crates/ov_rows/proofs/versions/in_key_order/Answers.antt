use Rattle.std.proofs.Common.{None, sym, ◌∙◌, subst}
use Rattle.std.specs.List.Sorted.{IsPermutation}
use Rattle.ov_value.specs.Rows.{key_cmp}
use Rattle.ov_model.specs.Lists.{Rises}
use Rattle.ov_rows.specs.FileRows.{lines_at}
use Rattle.ov_rows.proofs.Ordered.{rows_moved, sorted_rises, sorted_is_order}
use Rattle.ov_rows.proofs.Positions.{rows_at}
use Rattle.ov_rows.proofs.Repeating.{least_is_first}
use Rattle.ov_rows.proofs.Standing.{none_repeated, stands}
use Rattle.ov_rows.proofs.versions.in_key_order.Goals as goal

pub returns-then-keys_rise-clause-answer : goal.returns-then-keys_rise-clause-answer
returns-then-keys_rise-clause-answer c = none_repeated c.args.schema.now c.args.rows (c.keys_rise.ensures.0 c.if-keys_rise.true)

pub returns-then-keys_rise-clause-rows : goal.returns-then-keys_rise-clause-rows
returns-then-keys_rise-clause-rows c = stands c.args.schema.now c.args.rows (c.keys_rise.ensures.0 c.if-keys_rise.true)

pub returns-clause-answer : goal.returns-clause-answer
returns-clause-answer c =
    let schema = c.args.schema.now in
    let told = c.in_ok-order.ensures in
    let none = told.apart in
    least_is_first schema c.args.rows (lines_at c.args.rows c.in_ok-order.order.items) None told.moved told.rise none

pub returns-clause-rows : goal.returns-clause-rows
returns-clause-rows c =
    let schema = c.args.schema.now in
    let told = c.in_ok-order.ensures in
    let none = told.apart in
    (rw (c.in_ok-at.ensures, c.as_slice.ensures.value) (sym (rows_at c.args.rows c.in_ok-order.order.items)))
    ∙ sorted_is_order schema c.args.rows (lines_at c.args.rows c.in_ok-order.order.items) told.moved told.rise none

pub returns-clause-rise : goal.returns-clause-rise
returns-clause-rise c =
    let schema = c.args.schema.now in
    let told = c.in_ok-order.ensures in
    let none = told.apart in
    rw (c.in_ok-at.ensures, c.as_slice.ensures.value)
    (subst (Rises (key_cmp schema)) (rows_at c.args.rows c.in_ok-order.order.items) (sorted_rises schema (lines_at c.args.rows c.in_ok-order.order.items) told.rise none))

pub returns-clause-kept : goal.returns-clause-kept
returns-clause-kept c =
    rw (c.in_ok-at.ensures, c.as_slice.ensures.value)
    (subst (IsPermutation c.args.rows) (rows_at c.args.rows c.in_ok-order.order.items)
    (rows_moved c.args.rows (lines_at c.args.rows c.in_ok-order.order.items) c.in_ok-order.ensures.moved))
