-- What may stand in a scope: terms, operands and tests of a query, of its rows or its groups, and those of a join.
--     term_in, operand_in, test_in scope      how they are read there
use Rattle.std.specs.Prelude.{true, false}
use Rattle.ov_model.specs.JoinReading.{side_term_at, side_test_at}
use Rattle.ov_model.specs.Reading.{Reading, made_at, operand_by, standing_at, term_at, test_at}
use Rattle.ov_model.specs.declared.query.Cond.{Cond}
use Rattle.ov_model.specs.declared.query.Operand.{Operand}
use Rattle.ov_model.specs.declared.query.Operand.TheVariants as operand
use Rattle.ov_model.specs.declared.query.Term.{Term}
use Rattle.ov_parse.specs.declared.scope.Scope.{Scope}
use Rattle.ov_parse.specs.declared.scope.Scope.TheVariants.{Rows, Groups, Sides}

abbrev pub term_in : Scope → Reading Term
term_in Rows = term_at
term_in Groups = term_at
term_in Sides = side_term_at

-- a term, where it may stand
abbrev pub standing_in : Scope → Reading Operand
standing_in Rows = standing_at false
standing_in Groups = standing_at true
standing_in Sides = made_at operand.Term side_term_at

abbrev pub operand_in : Scope → Reading Operand
operand_in scope = operand_by (standing_in scope)

abbrev pub test_in : Scope → Reading Cond
test_in Rows = test_at false
test_in Groups = test_at true
test_in Sides = side_test_at
