use Rattle.std.proofs.Common.{◌≡◌, map, ◌∙◌, sym}
use Rattle.ov_catalog.specs.Applying.{name_at}
use Rattle.ov_catalog.proofs.CommitLemmas.{off-true}
use Rattle.ov_catalog.proofs.SchemaLemmas.{schema-is}
use Rattle.ov_catalog.proofs.schemas.schema_from.Goals as goal

pub returns-clause-made : goal.returns-clause-made
returns-clause-made c =
    let raw = c.args.raw.now in
    let columns = c.in_ok-copies_of.ensures ∙ c.as_slice-columns.ensures in
    let names : c.in_ok-names.names.items ≡ map (name_at raw.columns) raw.key = rw (c.as_slice-columns.ensures, c.as_slice-key.ensures) at c.in_ok-names.ensures in
    let made = rw (columns, names) at c.in_ok-made.ensures.made in
    let there = rw (c.as_slice-columns.ensures, c.as_slice-key.ensures) at c.are_places.ensures in
    schema-is raw.columns raw.key c.in_ok-made.made made c.in_ok-made.ensures.sound (sym there ∙ off-true _ _ c.in_ok-unless.ensures)
