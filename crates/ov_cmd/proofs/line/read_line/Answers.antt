use Rattle.std.proofs.Common.{◌≡◌, subst}
use Rattle.std.specs.Prelude.{IfOk}
use Rattle.ov_model.specs.Line.{line_of}
use Rattle.ov_cmd.specs.Said.{said}
use Rattle.ov_cmd.proofs.Asked.{asks_any}
use Rattle.ov_cmd.proofs.line.read_line.Goals as goal

pub returns-clause-asked : goal.returns-clause-asked
returns-clause-asked c =
    asks_any c.args.line.now c.read_line_of.result
    (subst (λ forms. IfOk c.read_line_of.result (λ r. line_of forms c.args.line.now ≡ said r)) c.all.ensures c.read_line_of.ensures.ok)
