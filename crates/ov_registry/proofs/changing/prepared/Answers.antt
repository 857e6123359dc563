use Rattle.std.proofs.Common.{subst}
use Rattle.std.specs.List.{All}
use Rattle.std.proofs.lemmas.List.Sorted.{All-permutation}
use Rattle.ov_store.specs.Beginning.{IsShort}
use Rattle.ov_value.specs.Shapes.{Shape}
use Rattle.ov_value.specs.Spelling.{IsRow}
use Rattle.ov_registry.proofs.changing.prepared.Goals as goal

pub returns-clause-fit : goal.returns-clause-fit
returns-clause-fit c =
    subst (λ (x : Shape). All (IsRow x) c.in_ok-rows.rows) c.in_ok-schema.ensures
    (All-permutation (IsRow c.in_ok-schema.schema) c.in_ok-table.table c.in_ok-rows.rows c.in_ok-rows.ensures.kept c.in_ok-table.ensures.fit)

pub returns-clause-short : goal.returns-clause-short
returns-clause-short c = All-permutation IsShort c.in_ok-table.table c.in_ok-rows.rows c.in_ok-rows.ensures.kept c.in_ok-table.ensures.short
