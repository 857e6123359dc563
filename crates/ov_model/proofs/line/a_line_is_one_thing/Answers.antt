use Rattle.ov_model.specs.Line.{line_of}
use Rattle.ov_model.proofs.Lines.{comment_is, some_line, asks_refused, comment_asks, comment_refused}
use Rattle.ov_model.proofs.line.a_line_is_one_thing.Goals as goal

pub returns-clause-comment : goal.returns-clause-comment
returns-clause-comment c = comment_is

pub returns-clause-some : goal.returns-clause-some
returns-clause-some c = some_line

pub returns-clause-no_command_refused : goal.returns-clause-no_command_refused
returns-clause-no_command_refused c forms text = asks_refused (line_of forms text)

pub returns-clause-no_comment_asks : goal.returns-clause-no_comment_asks
returns-clause-no_comment_asks c forms text = comment_asks (line_of forms text)

pub returns-clause-no_comment_refused : goal.returns-clause-no_comment_refused
returns-clause-no_comment_refused c forms text = comment_refused (line_of forms text)
