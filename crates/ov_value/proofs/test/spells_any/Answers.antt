use Rattle.std.proofs.Common.{◌≤◌, ℕ, List, length, IsTrue, ap, sym, subst, ◌∙◌, arith}
use Rattle.std.specs.List.{All}
use Rattle.ov_value.specs.declared.column.Column.{Column}
use Rattle.ov_value.specs.Spelling.{kept, marks}
use Rattle.ov_value.specs.Reading.{Spelled}
use Rattle.ov_value.specs.Decoding.{row_of, AreRow, stands}
use Rattle.ov_value.proofs.RowLemmas.{length-HasKinds}
use Rattle.ov_value.proofs.KeptLemmas.{length-kept}
use Rattle.ov_value.proofs.MarkLemmas.{row_spelled}
use Rattle.ov_value.proofs.Standing.{test_found, test_only}
use Rattle.ov_value.proofs.test.spells_any.Goals as goal

pub all_stand-requires : goal.all_stand-requires
all_stand-requires c =
    let row = row_of c.columns.result.now c.args.marked c.args.bytes.now in
    let few : length c.columns.result.now ≤ 64 = rw c.columns.ensures.columns c.columns.ensures.sound.few_columns in
    omega (arith, c.in-Some.ensures.kept, length-kept row, length-HasKinds row _ c.in-Some.ensures.found.kinds, few)

pub returns-in-None-clause-only : goal.returns-in-None-clause-only
returns-in-None-clause-only c row is e =
    let spelled : Spelled c.columns.result.now c.args.marked c.args.bytes.now row = rw c.columns.ensures.columns (row_spelled c.args.schema.now c.args.marked c.args.bytes.now row is e) in
    absurd (c.in-None.ensures.none row spelled)

pub returns-in-Some-clause-found : goal.returns-in-Some-clause-found
returns-in-Some-clause-found c = λ t.
    let columns = c.columns.ensures.columns in
    test_found c.args.schema.now c.args.marked c.args.bytes.now c.in-Some.kept c.in-Some.nulls
    (subst (λ (l : List Column). AreRow l c.args.marked c.args.bytes.now) columns c.in-Some.ensures.found)
    (c.in-Some.ensures.kept ∙ ap (λ (l : List Column). length (kept (row_of l c.args.marked c.args.bytes.now))) columns)
    (c.in-Some.ensures.marks ∙ ap (λ (l : List Column). marks (kept (row_of l c.args.marked c.args.bytes.now))) columns)
    (subst (λ (k : List ℕ). All (λ place. IsTrue (stands c.in-Some.kept c.in-Some.nulls place)) k) c.key.ensures.key (c.all_stand.ensures.0 t))

pub returns-in-Some-clause-only : goal.returns-in-Some-clause-only
returns-in-Some-clause-only c row is e =
    let columns = c.columns.ensures.columns in
    let only = test_only c.args.schema.now c.args.marked c.args.bytes.now c.in-Some.kept c.in-Some.nulls row is e
    (c.in-Some.ensures.kept ∙ ap (λ (l : List Column). length (kept (row_of l c.args.marked c.args.bytes.now))) columns)
    (c.in-Some.ensures.marks ∙ ap (λ (l : List Column). marks (kept (row_of l c.args.marked c.args.bytes.now))) columns) in
    (c.all_stand.ensures.1 (subst (λ (k : List ℕ). All (λ place. IsTrue (stands c.in-Some.kept c.in-Some.nulls place)) k) (sym c.key.ensures.key) only.0), only.1)
