use Rattle.std.proofs.Common.{◌≡◌, ◌++◌, ◌∙◌, ℕ, List, ap, sym, rules}
use Rattle.std.specs.Prelude.{OnOk}
use Rattle.std.specs.Fmt.{signed_decimal}
use Rattle.csv.specs.Writing.{default_writer, field_text, next_sep}
use Rattle.ov_value.specs.Cells.{value_of}
use Rattle.ov_model.specs.Csv.{field_of}
use Rattle.std.proofs.lemmas.Result.{on_ok_weaker}
use Rattle.ov_csv.proofs.QuoteLemmas.{number_field}
use Rattle.ov_csv.proofs.row_line.push_cell.Goals as goal

pub returns-in-Int : goal.returns-in-Int
returns-in-Int c =
    let field : signed_decimal c.in-Int.number ≡ field_text default_writer (field_of c.args.kind (value_of c.args.cell)) =
    sym (number_field c.in-Int.number) ∙ ap (λ cell. field_text default_writer (field_of c.args.kind (value_of cell))) (sym c.in-Int.is) in
    let written : OnOk c.push_number.result (c.push_number.new.text.items ≡ c.args.text.now.items ++ (next_sep default_writer c.args.place ++ signed_decimal c.in-Int.number)) = search rules in
    on_ok_weaker c.push_number.result (λ is. is ∙ ap (λ (l : List ℕ). c.args.text.now.items ++ (next_sep default_writer c.args.place ++ l)) field) written
