use Rattle.std.proofs.Common.{◌≢◌, Some, ap, sym, ◌∙◌}
use Rattle.std.specs.List.{All}
use mathlib.Core.Bool.{true≢false}
use Rattle.ov_value.specs.declared.value.Value.TheVariants.{Null}
use Rattle.ov_value.specs.Rows.{value_at}
use Rattle.ov_value.specs.Reading.{Spelled}
use Rattle.ov_value.proofs.MarkLemmas.{row_spelled, spelled_row}
use Rattle.ov_value.proofs.reading.read_row_slice.Goals as goal

pub read_spelled-requires : goal.read_spelled-requires
read_spelled-requires c = rw c.columns.ensures.columns c.columns.ensures.sound.few_columns

pub returns-in-None-clause-only : goal.returns-in-None-clause-only
returns-in-None-clause-only c row is e =
    let spelled : Spelled c.columns.result.now c.args.marked c.args.bytes.now row = rw c.columns.ensures.columns (row_spelled c.args.schema.now c.args.marked c.args.bytes.now row is e) in
    let only = rw c.in-None.is at c.in_ok-read_spelled.ensures.only in
    absurd (only row spelled)

pub returns-then-has_key-clause-found : goal.returns-then-has_key-clause-found
returns-then-has_key-clause-found c =
    let found = rw c.in-Some.is at c.in_ok-read_spelled.ensures.found in
    let spelled : Spelled c.args.schema.now.columns c.args.marked c.args.bytes.now c.new-row.result = rw (c.new-row.ensures, ← c.columns.ensures.columns) found in
    spelled_row c.args.schema.now c.args.marked c.args.bytes.now c.new-row.result spelled (c.has_key.ensures.0 c.if-has_key.true)

pub returns-then-has_key-clause-only : goal.returns-then-has_key-clause-only
returns-then-has_key-clause-only c row is e =
    let spelled : Spelled c.columns.result.now c.args.marked c.args.bytes.now row = rw c.columns.ensures.columns (row_spelled c.args.schema.now c.args.marked c.args.bytes.now row is e) in
    let only = rw c.in-Some.is at c.in_ok-read_spelled.ensures.only in
    ap Some (c.new-row.ensures ∙ only row spelled)

pub returns-else-has_key-clause-only : goal.returns-else-has_key-clause-only
returns-else-has_key-clause-only c row is e =
    let spelled : Spelled c.columns.result.now c.args.marked c.args.bytes.now row = rw c.columns.ensures.columns (row_spelled c.args.schema.now c.args.marked c.args.bytes.now row is e) in
    let only = rw c.in-Some.is at c.in_ok-read_spelled.ensures.only in
    let keyed : All (λ place. value_at c.new-row.result place ≢ Null) c.args.schema.now.key = rw (c.new-row.ensures, only row spelled) is.fits.keyed in
    absurd (true≢false (sym (c.has_key.ensures.1 keyed) ∙ c.if-has_key.false))
