-- Where the rows of a table lie.
--     rows_in source      the rows
use Rattle.std.specs.Prelude.{List}
use Rattle.ov_fetch.specs.Scans.{rows_of}
use Rattle.ov_model.specs.Book.{Row}
use Rattle.ov_terms.specs.declared.table.Source.{Source}
use Rattle.ov_terms.specs.declared.table.Source.TheVariants.{One, Two}

abbrev pub rows_in : Source → List Row
rows_in (One records) = rows_of records.now
rows_in (Two rows) = rows.now
