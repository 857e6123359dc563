use Rattle.std.proofs.Common.{◌≡◌, ◌<◌, None, Some, List, length, map, ap, refl, sym, ◌∙◌, subst}
use Rattle.std.specs.Option.{option_map}
use Rattle.std.specs.List.{All}
use Rattle.std.specs.List.Sorted.{IsPermutation}
use Rattle.ov_value.specs.Rows.{key_cmp}
use Rattle.ov_model.specs.Lists.{Rises}
use Rattle.ov_rows.specs.declared.keyed.Keyed.{Keyed}
use Rattle.ov_rows.specs.declared.rows_err.RowsErr.TheVariants.{DuplicateKey}
use Rattle.ov_rows.specs.FileRows.{file_row_cmp, numbered, least_repeat, lines_at}
use Rattle.ov_rows.specs.Keyed.{Tells, places, row_at}
use Rattle.ov_rows.proofs.Fronts.{as_lines, sorted_lines, stand_again, stand_first, within_all}
use Rattle.ov_rows.proofs.Positions.{positions_moved}
use Rattle.ov_rows.proofs.Repeating.{least_is_first}
use Rattle.ov_rows.proofs.Standing.{lines_rise, no_repeat}
use Rattle.ov_rows.proofs.file_rows.sorted_positions.Goals as goal

pub are_rising-requires-clause-within : goal.are_rising-requires-clause-within
are_rising-requires-clause-within c =
    let schema = c.args.schema.now in
    let rows = c.args.rows.now in
    let keyed : List Keyed = c.sort_by_fronts.new.keyed.items in
    let first = stand_first schema rows c.in_ok-keyed.keyed.items c.sort_by_fronts.new.keyed.items c.in_ok-keyed.ensures.places c.in_ok-keyed.ensures.tells c.in_ok-sort_by_fronts.ensures in
    subst (λ (l : List Keyed). All (λ i. i < length rows) (places l)) (sym c.as_slice.ensures.value) (within_all schema rows keyed first)

pub are_rising-requires-clause-tells : goal.are_rising-requires-clause-tells
are_rising-requires-clause-tells c =
    let schema = c.args.schema.now in
    let rows = c.args.rows.now in
    let keyed : List Keyed = c.sort_by_fronts.new.keyed.items in
    let first = stand_first schema rows c.in_ok-keyed.keyed.items c.sort_by_fronts.new.keyed.items c.in_ok-keyed.ensures.places c.in_ok-keyed.ensures.tells c.in_ok-sort_by_fronts.ensures in
    subst (Tells schema rows) (sym c.as_slice.ensures.value) first.tells

pub returns-then-are_rising-clause-within : goal.returns-then-are_rising-clause-within
returns-then-are_rising-clause-within c =
    let schema = c.args.schema.now in
    let rows = c.args.rows.now in
    let keyed : List Keyed = c.sort_by_fronts.new.keyed.items in
    let first = stand_first schema rows c.in_ok-keyed.keyed.items c.sort_by_fronts.new.keyed.items c.in_ok-keyed.ensures.places c.in_ok-keyed.ensures.tells c.in_ok-sort_by_fronts.ensures in
    let order = c.in_ok-places_of.field-0.items in
    let is : places keyed ≡ order = sym (c.in_ok-places_of.ensures ∙ ap places c.as_slice-then-are_rising.ensures.value) in
    let up : Rises (key_cmp schema) (map (row_at rows) (places keyed)) = subst (λ (l : List Keyed). Rises (key_cmp schema) (map (row_at rows) (places l))) c.as_slice.ensures.value (c.if-are_rising.ensures refl) in
    subst (All (λ i. i < length rows)) is (within_all schema rows keyed first)

pub returns-then-are_rising-clause-moved : goal.returns-then-are_rising-clause-moved
returns-then-are_rising-clause-moved c =
    let schema = c.args.schema.now in
    let rows = c.args.rows.now in
    let keyed : List Keyed = c.sort_by_fronts.new.keyed.items in
    let first = stand_first schema rows c.in_ok-keyed.keyed.items c.sort_by_fronts.new.keyed.items c.in_ok-keyed.ensures.places c.in_ok-keyed.ensures.tells c.in_ok-sort_by_fronts.ensures in
    let order = c.in_ok-places_of.field-0.items in
    let is : places keyed ≡ order = sym (c.in_ok-places_of.ensures ∙ ap places c.as_slice-then-are_rising.ensures.value) in
    let up : Rises (key_cmp schema) (map (row_at rows) (places keyed)) = subst (λ (l : List Keyed). Rises (key_cmp schema) (map (row_at rows) (places l))) c.as_slice.ensures.value (c.if-are_rising.ensures refl) in
    subst (λ l. IsPermutation (numbered 1 rows) (lines_at rows l)) is (positions_moved rows (places keyed) first.moved)

pub returns-then-are_rising-clause-rise : goal.returns-then-are_rising-clause-rise
returns-then-are_rising-clause-rise c =
    let schema = c.args.schema.now in
    let rows = c.args.rows.now in
    let keyed : List Keyed = c.sort_by_fronts.new.keyed.items in
    let first = stand_first schema rows c.in_ok-keyed.keyed.items c.sort_by_fronts.new.keyed.items c.in_ok-keyed.ensures.places c.in_ok-keyed.ensures.tells c.in_ok-sort_by_fronts.ensures in
    let order = c.in_ok-places_of.field-0.items in
    let is : places keyed ≡ order = sym (c.in_ok-places_of.ensures ∙ ap places c.as_slice-then-are_rising.ensures.value) in
    let up : Rises (key_cmp schema) (map (row_at rows) (places keyed)) = subst (λ (l : List Keyed). Rises (key_cmp schema) (map (row_at rows) (places l))) c.as_slice.ensures.value (c.if-are_rising.ensures refl) in
    subst (λ l. Rises (file_row_cmp schema) (lines_at rows l)) is (lines_rise schema (lines_at rows (places keyed)) (as_lines schema rows (places keyed) up))

pub returns-then-are_rising-clause-apart : goal.returns-then-are_rising-clause-apart
returns-then-are_rising-clause-apart c =
    let schema = c.args.schema.now in
    let rows = c.args.rows.now in
    let keyed : List Keyed = c.sort_by_fronts.new.keyed.items in
    let first = stand_first schema rows c.in_ok-keyed.keyed.items c.sort_by_fronts.new.keyed.items c.in_ok-keyed.ensures.places c.in_ok-keyed.ensures.tells c.in_ok-sort_by_fronts.ensures in
    let order = c.in_ok-places_of.field-0.items in
    let is : places keyed ≡ order = sym (c.in_ok-places_of.ensures ∙ ap places c.as_slice-then-are_rising.ensures.value) in
    let up : Rises (key_cmp schema) (map (row_at rows) (places keyed)) = subst (λ (l : List Keyed). Rises (key_cmp schema) (map (row_at rows) (places l))) c.as_slice.ensures.value (c.if-are_rising.ensures refl) in
    subst (λ l. least_repeat schema None (lines_at rows l) ≡ None) is (no_repeat schema (lines_at rows (places keyed)) (as_lines schema rows (places keyed) up))

pub least_repeat-requires-clause-within : goal.least_repeat-requires-clause-within
least_repeat-requires-clause-within c =
    let schema = c.args.schema.now in
    let rows = c.args.rows.now in
    let keyed : List Keyed = c.sort_by_fronts.new.keyed.items in
    let first = stand_first schema rows c.in_ok-keyed.keyed.items c.sort_by_fronts.new.keyed.items c.in_ok-keyed.ensures.places c.in_ok-keyed.ensures.tells c.in_ok-sort_by_fronts.ensures in
    let second = stand_again schema rows c.sort_by_fronts.new.keyed.items c.sort_by_keys.new.keyed.items first c.in_ok-sort_by_keys.ensures.permutation in
    let keys : List Keyed = c.sort_by_keys.new.keyed.items in
    let order = c.in_ok-order.order.items in
    let is : places keys ≡ order = sym (c.in_ok-order.ensures ∙ ap places c.as_slice-2.ensures.value) in
    subst (All (λ i. i < length rows)) (is ∙ sym c.as_slice-3.ensures.value) (within_all schema rows keys second)

pub returns-in-Some-clause-repeated : goal.returns-in-Some-clause-repeated
returns-in-Some-clause-repeated c =
    let schema = c.args.schema.now in
    let rows = c.args.rows.now in
    let keyed : List Keyed = c.sort_by_fronts.new.keyed.items in
    let first = stand_first schema rows c.in_ok-keyed.keyed.items c.sort_by_fronts.new.keyed.items c.in_ok-keyed.ensures.places c.in_ok-keyed.ensures.tells c.in_ok-sort_by_fronts.ensures in
    let second = stand_again schema rows c.sort_by_fronts.new.keyed.items c.sort_by_keys.new.keyed.items first c.in_ok-sort_by_keys.ensures.permutation in
    let keys : List Keyed = c.sort_by_keys.new.keyed.items in
    let order = c.in_ok-order.order.items in
    let is : places keys ≡ order = sym (c.in_ok-order.ensures ∙ ap places c.as_slice-2.ensures.value) in
    let found = ap (λ l. least_repeat schema None (lines_at rows l)) (sym c.as_slice-3.ensures.value) ∙ sym c.least_repeat.ensures ∙ c.in-Some.is in
    λ _. ap (option_map DuplicateKey) (least_is_first schema rows (lines_at rows order) (Some c.in-Some.row) (subst (λ l. IsPermutation (numbered 1 rows) (lines_at rows l)) is (positions_moved rows (places keys) second.moved)) (subst (λ l. Rises (file_row_cmp schema) (lines_at rows l)) is (sorted_lines schema rows keys second c.in_ok-sort_by_keys.ensures.sorted)) found)

pub returns-clause-within : goal.returns-clause-within
returns-clause-within c =
    let schema = c.args.schema.now in
    let rows = c.args.rows.now in
    let keyed : List Keyed = c.sort_by_fronts.new.keyed.items in
    let first = stand_first schema rows c.in_ok-keyed.keyed.items c.sort_by_fronts.new.keyed.items c.in_ok-keyed.ensures.places c.in_ok-keyed.ensures.tells c.in_ok-sort_by_fronts.ensures in
    let second = stand_again schema rows c.sort_by_fronts.new.keyed.items c.sort_by_keys.new.keyed.items first c.in_ok-sort_by_keys.ensures.permutation in
    let keys : List Keyed = c.sort_by_keys.new.keyed.items in
    let order = c.in_ok-order.order.items in
    let is : places keys ≡ order = sym (c.in_ok-order.ensures ∙ ap places c.as_slice-2.ensures.value) in
    subst (All (λ i. i < length rows)) is (within_all schema rows keys second)

pub returns-clause-moved : goal.returns-clause-moved
returns-clause-moved c =
    let schema = c.args.schema.now in
    let rows = c.args.rows.now in
    let keyed : List Keyed = c.sort_by_fronts.new.keyed.items in
    let first = stand_first schema rows c.in_ok-keyed.keyed.items c.sort_by_fronts.new.keyed.items c.in_ok-keyed.ensures.places c.in_ok-keyed.ensures.tells c.in_ok-sort_by_fronts.ensures in
    let second = stand_again schema rows c.sort_by_fronts.new.keyed.items c.sort_by_keys.new.keyed.items first c.in_ok-sort_by_keys.ensures.permutation in
    let keys : List Keyed = c.sort_by_keys.new.keyed.items in
    let order = c.in_ok-order.order.items in
    let is : places keys ≡ order = sym (c.in_ok-order.ensures ∙ ap places c.as_slice-2.ensures.value) in
    subst (λ l. IsPermutation (numbered 1 rows) (lines_at rows l)) is (positions_moved rows (places keys) second.moved)

pub returns-clause-rise : goal.returns-clause-rise
returns-clause-rise c =
    let schema = c.args.schema.now in
    let rows = c.args.rows.now in
    let keyed : List Keyed = c.sort_by_fronts.new.keyed.items in
    let first = stand_first schema rows c.in_ok-keyed.keyed.items c.sort_by_fronts.new.keyed.items c.in_ok-keyed.ensures.places c.in_ok-keyed.ensures.tells c.in_ok-sort_by_fronts.ensures in
    let second = stand_again schema rows c.sort_by_fronts.new.keyed.items c.sort_by_keys.new.keyed.items first c.in_ok-sort_by_keys.ensures.permutation in
    let keys : List Keyed = c.sort_by_keys.new.keyed.items in
    let order = c.in_ok-order.order.items in
    let is : places keys ≡ order = sym (c.in_ok-order.ensures ∙ ap places c.as_slice-2.ensures.value) in
    subst (λ l. Rises (file_row_cmp schema) (lines_at rows l)) is (sorted_lines schema rows keys second c.in_ok-sort_by_keys.ensures.sorted)
