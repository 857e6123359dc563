use Rattle.std.proofs.Common.{◌∙◌, List, ℕ, sym, ap}
use Rattle.std.specs.Prelude.{Option}
use Rattle.ov_cmd.specs.Said.{said}
use Rattle.ov_model.specs.Users.{line_by, permit, unless_denied}
use Rattle.ov_model.specs.declared.refusal.Refusal.{Refusal}
use Rattle.ov_session.specs.declared.lines.Unasked.TheVariants as unasked
use Rattle.ov_session.proofs.lines.asked.Goals as goal

pub returns-in-Ok-None-clause-ok : goal.returns-in-Ok-None-clause-ok
returns-in-Ok-None-clause-ok c = ap (line_by c.args.user.now) (c.in-Ok-None.ensures.ok ∙ ap said c.in-Ok-None.field-0-is)

pub returns-in-Ok-clause-ok : goal.returns-in-Ok-clause-ok
returns-in-Ok-clause-ok c =
    ap (line_by c.args.user.now) (c.in-Ok-Some.ensures.ok ∙ ap said c.in-Ok-Some.field-0-is)
    ∙ ap (λ (o : Option Refusal). unless_denied o c.in-Ok-Some.command)
    (sym (c.in-Ok.ensures.least ∙ ap (λ (user : List ℕ). permit user c.in-Ok-Some.command) c.as_str.ensures.text))

pub returns-in-Err-permit-clause-err : goal.returns-in-Err-permit-clause-err
returns-in-Err-permit-clause-err c = λ some.
    ap (line_by c.args.user.now) (c.in-Ok-Some.ensures.ok ∙ ap said c.in-Ok-Some.field-0-is)
    ∙ ap (λ (o : Option Refusal). unless_denied o c.in-Ok-Some.command)
    (sym (c.in-Err-permit.ensures.least ∙ ap (λ (user : List ℕ). permit user c.in-Ok-Some.command) c.as_str.ensures.text))

pub returns-in-Err-clause-err : goal.returns-in-Err-clause-err
returns-in-Err-clause-err c = λ some. ap (line_by c.args.user.now) (c.in-Err.ensures.err (λ memory. some (ap unasked.Line memory)))
