use Rattle.std.proofs.Common.{◌≡◌, ◌∙◌, sym, ap, map}
use Rattle.ov_model.specs.Line.{line_of, by_name}
use Rattle.ov_model.specs.Words.{next_word}
use Rattle.ov_cmd.specs.Table.{form_of}
use Rattle.ov_cmd.proofs.Lines.{of_text, of_no_text}
use Rattle.ov_cmd.proofs.line.read_line_of.Goals as goal

pub returns-in-Ok-clause-ok : goal.returns-in-Ok-clause-ok
returns-in-Ok-clause-ok c =
    let same : line_of (map form_of c.args.forms.now) c.args.line.now ≡ by_name (map form_of c.args.forms.now) (next_word c.in-Ok.text.now) =
    of_text (map form_of c.args.forms.now) c.args.line.now c.if-line-gt-LINE_BYTES.false (sym c.is_comment.ensures ∙ c.if-is_comment.false) c.in-Ok.ensures.cases.1
    ∙ ap (λ t. by_name (map form_of c.args.forms.now) (next_word t)) (sym c.in-Ok.ensures.cases.0) in
    rw same c.read_text.ensures.ok

pub returns-in-Ok-clause-err : goal.returns-in-Ok-clause-err
returns-in-Ok-clause-err c =
    let same : line_of (map form_of c.args.forms.now) c.args.line.now ≡ by_name (map form_of c.args.forms.now) (next_word c.in-Ok.text.now) =
    of_text (map form_of c.args.forms.now) c.args.line.now c.if-line-gt-LINE_BYTES.false (sym c.is_comment.ensures ∙ c.if-is_comment.false) c.in-Ok.ensures.cases.1
    ∙ ap (λ t. by_name (map form_of c.args.forms.now) (next_word t)) (sym c.in-Ok.ensures.cases.0) in
    rw same c.read_text.ensures.err

pub returns-in-Err-clause-err : goal.returns-in-Err-clause-err
returns-in-Err-clause-err c = λ _.
    of_no_text (map form_of c.args.forms.now) c.args.line.now c.if-line-gt-LINE_BYTES.false (sym c.is_comment.ensures ∙ c.if-is_comment.false) c.in-Err.ensures.cases.0
