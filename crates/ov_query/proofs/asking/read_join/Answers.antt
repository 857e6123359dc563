use Rattle.std.proofs.Common.{subst}
use Rattle.ov_parse.specs.Refusing.{RefusesJoin}
use Rattle.ov_query.proofs.Asked.{is_none}
use Rattle.ov_query.proofs.asking.read_join.Goals as goal

pub returns-in-Err-NotAQuery : goal.returns-in-Err-NotAQuery
returns-in-Err-NotAQuery c =
    is_none c.args.text.now c.args.found.now c.requires.tokens c.requires.none
    (subst (RefusesJoin c.args.text.now c.args.found.now) c.in-Err-NotAQuery.field-0-is c.in-Err-NotAQuery.ensures)
