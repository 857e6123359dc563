use Rattle.std.proofs.Common.{sym}
use Rattle.ov_parse.proofs.Found.{in_clauses, in_orders, in_values, in_relations}
use Rattle.ov_parse.proofs.keywords.keyword.Goals as goal

pub returns-in-Some : goal.returns-in-Some
returns-in-Some c = sym (in_clauses c.args.word.now c.in-Some.found (sym c.in-Some.ensures))

pub returns-in-Some-of_orders : goal.returns-in-Some-of_orders
returns-in-Some-of_orders c = sym (in_orders c.args.word.now c.in-Some-of_orders.found (sym c.in_default.ensures) (sym c.in-Some-of_orders.ensures))

pub returns-in-Some-of_values : goal.returns-in-Some-of_values
returns-in-Some-of_values c = sym (in_values c.args.word.now c.in-Some-of_values.found (sym c.in_default.ensures) (sym c.in_default-of_orders.ensures) (sym c.in-Some-of_values.ensures))

pub returns : goal.returns
returns c = sym (in_relations c.args.word.now c.of_relations.result (sym c.in_default.ensures) (sym c.in_default-of_orders.ensures) (sym c.in_default-of_values.ensures) (sym c.of_relations.ensures))
