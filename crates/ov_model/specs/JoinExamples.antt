-- Worked examples of joins, each with what it prints over a few small versions, as it was worked out by hand. That they print
-- just this is proved by computing it.
use Rattle.std.specs.Prelude.{◌≡◌, ℕ, pos, ◌∷◌, [], List, true, false, Some, None, codes}
use Rattle.ov_value.specs.declared.value.Value.TheVariants.{Int, Text}
use Rattle.ov_model.specs.BudgetExamples.{chain}
use Rattle.ov_model.specs.Examples.{people, served_all}
use Rattle.ov_model.specs.Joins.{join_deed}
use Rattle.ov_model.specs.Questions.{with_null}
use Rattle.ov_model.specs.Replies.{reply_text}
use Rattle.ov_model.specs.declared.query.JoinQuery.{JoinQuery}
use Rattle.ov_model.specs.declared.query.Side.{Side}
use Rattle.ov_model.specs.declared.query.Items.TheVariants.{Everything, Terms}
use Rattle.ov_model.specs.declared.query.Col.{Col}
use Rattle.ov_model.specs.declared.query.Col.TheVariants.{Left, Right}
use Rattle.ov_model.specs.declared.query.Term.{Term}
use Rattle.ov_model.specs.declared.query.Term.TheVariants as term
use Rattle.ov_model.specs.declared.query.Operand.TheVariants as operand
use Rattle.ov_model.specs.declared.query.Sign.TheVariants.{Eq, Gt}
use Rattle.ov_model.specs.declared.query.Cond.{Cond}
use Rattle.ov_model.specs.declared.query.Cond.TheVariants.{Compare}

-- what a join prints behind a script
abbrev pub joined : List ℕ → JoinQuery → List ℕ
joined script join = reply_text (join_deed (served_all script).world (served_all script).session join).reply

abbrev pub side : List ℕ → ℕ → Side
side name vid = record { vid = vid; cvd = name }

-- SELECT * FROM VERSION 1 OF CVD people JOIN VERSION 2 OF CVD people ON LEFT.id = RIGHT.id
abbrev pub of_both : JoinQuery
of_both = record {
  left = side (codes "people") 1;
  right = side (codes "people") 2;
  items = Everything;
  on = (codes "id", codes "id") ∷ [];
  filter = None;
  order = [];
  limit = None;
}

abbrev pub plain : Col → Term
plain c = term.Plain c

-- SELECT LEFT.name, LEFT.score, RIGHT.score FROM .. ORDER BY RIGHT.score DESC LIMIT 1
abbrev pub raised : JoinQuery
raised = record of_both {
  items = Terms (plain (Left (codes "name")) ∷ plain (Left (codes "score")) ∷ plain (Right (codes "score")) ∷ []);
  order = record { term = plain (Right (codes "score")); down = true } ∷ [];
  limit = Some 1;
}

-- SELECT LEFT.id, RIGHT.id FROM .. ON LEFT.score = RIGHT.score, in a dataset where a score is NULL
abbrev pub with_itself : JoinQuery
with_itself = record of_both {
  left = side (codes "people") 1;
  right = side (codes "people") 1;
  items = Terms (plain (Left (codes "id")) ∷ plain (Right (codes "id")) ∷ []);
  on = (codes "score", codes "score") ∷ [];
}

-- SELECT LEFT.id, RIGHT.id FROM .. ON LEFT.id = RIGHT.id AND LEFT.score = RIGHT.score
abbrev pub on_two : JoinQuery
on_two = record of_both {
  items = Terms (plain (Left (codes "id")) ∷ plain (Right (codes "id")) ∷ []);
  on = (codes "id", codes "id") ∷ (codes "score", codes "score") ∷ [];
}

-- a column and a number, and a column and a text
abbrev pub over : Col → ℕ → Cond
over c n = Compare (operand.Term (plain c)) Gt (operand.Literal (Int (pos n)))

abbrev pub is_text : Col → List ℕ → Cond
is_text c text = Compare (operand.Term (plain c)) Eq (operand.Literal (Text text))

-- SELECT LEFT.k, RIGHT.k FROM VERSION 1 .. JOIN VERSION 1 .. ON LEFT.x = RIGHT.x LIMIT 5, where each x is 1
abbrev pub of_chain : JoinQuery
of_chain = record {
  left = side (codes "chain") 1;
  right = side (codes "chain") 1;
  items = Terms (plain (Left (codes "k")) ∷ plain (Right (codes "k")) ∷ []);
  on = (codes "x", codes "x") ∷ [];
  filter = None;
  order = [];
  limit = Some 5;
}

-- each of these joins prints this
pub record AllJoined : Type 0 where
  pub both_prints : joined people of_both ≡ codes "1,ann,10,1,ann,10\n2,bob,20,2,bob,25\n(2 rows)\n"
  pub raised_prints : joined people raised ≡ codes "bob,20,25\n(1 rows)\n"
  pub kinds_prints : joined people (record raised { on = (codes "id", codes "name") ∷ [] }) ≡ codes "error 43: comparison 1 compares int with text\n"
  pub unknown_prints : joined people (record of_both { items = Terms (plain (Right (codes "nme")) ∷ []) }) ≡ codes "error 42: no column RIGHT.nme\n"
  pub null_prints : joined with_null with_itself ≡ codes "2,2\n3,3\n(2 rows)\n"
  pub no_version_prints : joined people (record of_both { right = side (codes "people") 3 }) ≡ codes "error 12: no version 3\n"
  pub no_left_prints : joined people (record of_both { left = side (codes "towns") 1; right = side (codes "people") 3 }) ≡ codes "error 10: no dataset towns\n"
  -- the left side's refusals come before the right side's
  pub left_first_prints : joined people (record of_both { left = side (codes "people") 9; right = side (codes "towns") 1 }) ≡ codes "error 12: no version 9\n"
  pub version_zero_prints : joined people (record of_both { left = side (codes "people") 0; right = side (codes "people") 9 }) ≡ codes "error 12: no version 0\n"
  -- ON is read behind the items and before all else, each comparison from its left, and is counted first
  pub items_first_prints : joined people (record raised { items = Terms (plain (Left (codes "nme")) ∷ []); on = (codes "idd", codes "id") ∷ [] })
      ≡ codes "error 42: no column LEFT.nme\n"
  pub on_next_prints : joined people (record raised { on = (codes "idd", codes "ide") ∷ []; order = record { term = plain (Right (codes "nme")); down = false } ∷ [] })
      ≡ codes "error 42: no column LEFT.idd\n"
  pub on_right_prints : joined people (record raised { on = (codes "id", codes "ide") ∷ [] }) ≡ codes "error 42: no column RIGHT.ide\n"
  pub second_on_prints : joined people (record on_two { on = (codes "id", codes "id") ∷ (codes "id", codes "name") ∷ [] })
      ≡ codes "error 43: comparison 2 compares int with text\n"
  pub where_counted_prints : joined people (record on_two { filter = Some (is_text (Left (codes "id")) (codes "x")) })
      ≡ codes "error 43: comparison 3 compares int with text\n"
  pub where_unknown_prints : joined people (record of_both { filter = Some (over (Right (codes "nme")) 1); order = record { term = plain (Left (codes "nme")); down = false } ∷ [] })
      ≡ codes "error 42: no column RIGHT.nme\n"
  -- every comparison of ON is asked; WHERE is asked of what they leave; and pairs stand in the order of the left and then the right rows
  pub every_on_prints : joined people on_two ≡ codes "1,1\n(1 rows)\n"
  pub where_prints : joined people (record of_both { filter = Some (over (Right (codes "score")) 20) }) ≡ codes "2,bob,20,2,bob,25\n(1 rows)\n"
  pub pairs_prints : joined chain of_chain ≡ codes "1,1\n1,2\n1,3\n1,4\n2,1\n(5 rows)\n"
