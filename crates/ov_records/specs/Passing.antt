-- How far a parent's list, in key order, is passed for rows in key order.
--     AreBelow s front row      each of these records has a key below the row's
--     AreNotAbove s front row      none of them has a key above the row's
use Rattle.std.specs.Prelude.{◌≡◌, ◌≢◌, List}
use Rattle.std.specs.List.{All}
use Rattle.std.specs.declared.cmp.Ordering.TheVariants.{Less, Greater}
use Rattle.ov_value.specs.Rows.{key_cmp}
use Rattle.ov_value.specs.Shapes.{Shape}
use Rattle.ov_segment.specs.declared.numbered.Record.{Record}
use Rattle.ov_model.specs.Book.{Row}

abbrev pub AreBelow : Shape → List Record → Row → Type 0
AreBelow schema front row = All (λ r. key_cmp schema r.row row ≡ Less) front

abbrev pub AreNotAbove : Shape → List Record → Row → Type 0
AreNotAbove schema front row = All (λ r. key_cmp schema r.row row ≢ Greater) front
