use Rattle.std.proofs.Common.{◌≡◌, ◌++◌, ◌∙◌, ℕ, List, ap, sym, rules}
use Rattle.std.specs.Prelude.{OnOk}
use Rattle.std.specs.Fmt.{signed_decimal}
use Rattle.csv.specs.Writing.{default_writer, field_text, next_sep}
use Rattle.ov_model.specs.Answers.{cell_field}
use Rattle.std.proofs.lemmas.Result.{on_ok_weaker}
use Rattle.ov_csv.proofs.QuoteLemmas.{number_field}
use Rattle.ov_csv.proofs.answer_line.push_one.Goals as goal

pub returns-in-Sum : goal.returns-in-Sum
returns-in-Sum c =
    let field : signed_decimal c.in-Sum.sum ≡ field_text default_writer (cell_field c.args.kind c.args.cell.now) =
    sym (number_field c.in-Sum.sum) ∙ ap (λ cell. field_text default_writer (cell_field c.args.kind cell)) (sym c.in-Sum.is) in
    let written : OnOk c.push_sum.result (c.push_sum.new.text.items ≡ c.args.text.now.items ++ (next_sep default_writer c.args.place ++ signed_decimal c.in-Sum.sum)) = search rules in
    on_ok_weaker c.push_sum.result (λ is. is ∙ ap (λ (l : List ℕ). c.args.text.now.items ++ (next_sep default_writer c.args.place ++ l)) field) written
