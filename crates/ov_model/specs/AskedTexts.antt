-- Worked texts of queries and joins: what each asks, as it was worked out by hand, and what some of them print over a few small
-- versions. That they do is proved by computing it.
--     AllAsk texts      each of these texts asks this
--     AllPrint texts      behind each of these scripts this text prints this
use Rattle.std.specs.Prelude.{◌≡◌, ℕ, zero, suc, pos, negsuc, true, false, List, [], ◌∷◌, ◌++◌, Some, None, replicate, codes}
use Rattle.ov_value.specs.declared.value.Value.TheVariants.{Int, Text}
use Rattle.ov_model.specs.Examples.{people}
use Rattle.ov_model.specs.Lists.{joined}
use Rattle.ov_model.specs.QueryTexts.{Asked, BadByte, NoQuery, AsksQuery, AsksJoin, asked_of}
use Rattle.ov_model.specs.Questions.{said, of_all, plain, with_null, four_versions}
use Rattle.ov_model.specs.declared.query.JoinQuery.{JoinQuery}
use Rattle.ov_model.specs.declared.query.Items.TheVariants.{Everything, Terms}
use Rattle.ov_model.specs.declared.query.Src.TheVariants.{Listed}
use Rattle.ov_model.specs.declared.query.LineageKind.TheVariants.{Parents, Descendants}
use Rattle.ov_model.specs.declared.query.Col.TheVariants.{Vid, Name, Left, Right}
use Rattle.ov_model.specs.declared.query.Term.{Term}
use Rattle.ov_model.specs.declared.query.Term.TheVariants as term
use Rattle.ov_model.specs.declared.query.Operand.{Operand}
use Rattle.ov_model.specs.declared.query.Operand.TheVariants as operand
use Rattle.ov_model.specs.declared.query.Sign.TheVariants.{Eq, Ne, Lt, Le, Gt, Ge}
use Rattle.ov_model.specs.declared.query.Cond.{Cond}
use Rattle.ov_model.specs.declared.query.Cond.TheVariants.{Compare, IsNull, InLineage, Not, Every, Any}

abbrev pub column : List ℕ → Operand
column name = operand.Term (plain name)

abbrev pub number : ℕ → Operand
number n = operand.Literal (Int (pos n))

abbrev pub of_left : List ℕ → Term
of_left name = term.Plain (Left name)

abbrev pub of_right : List ℕ → Term
of_right name = term.Plain (Right name)

-- all columns of versions 1 and 2 side by side
abbrev pub of_people : JoinQuery
of_people = record {
  left = record { vid = 1; cvd = codes "people" };
  right = record { vid = 2; cvd = codes "people" };
  items = Everything;
  on = [];
  filter = None;
  order = [];
  limit = None;
}

-- NOT so many times before a test
abbrev pub negated_text : ℕ → List ℕ
negated_text n = codes "SELECT * FROM CVD people WHERE " ++ (joined (replicate n (codes "NOT ")) ++ codes "id = 1")

abbrev pub negated : ℕ → Cond
negated zero = Compare (column (codes "id")) Eq (number 1)
negated (suc n) = Not (negated n)

-- texts, and what each asks
abbrev pub AllAsk : List (List ℕ × Asked) → Type 0
AllAsk [] = Unit {0}
AllAsk (example ∷ examples) = (asked_of example.0 ≡ example.1) × AllAsk examples

abbrev pub asked_texts : List (List ℕ × Asked)
asked_texts =
    -- a comparison with a number
    (
      codes "SELECT * FROM VERSION 1, 2 OF CVD people WHERE score > 15",
      AsksQuery (record of_all {
        source = Listed (1 ∷ 2 ∷ []) (codes "people");
        filter = Some (Compare (column (codes "score")) Gt (number 15));
      }),
    )
    -- groups that are kept
    ∷ (
      codes "SELECT vid, SUM(score), MAX(name) FROM CVD people GROUP BY vid HAVING COUNT(*) > 2",
      AsksQuery (record of_all {
        items = Terms (term.Plain Vid ∷ term.Sum (Name (codes "score")) ∷ term.Max (Name (codes "name")) ∷ []);
        groups = Vid ∷ [];
        having = Some (Compare (operand.Term term.CountAll) Gt (number 2));
      }),
    )
    -- one group
    ∷ (
      codes "SELECT SUM(score), COUNT(*) FROM VERSION 1 OF CVD people WHERE score > 99",
      AsksQuery (record of_all {
        items = Terms (term.Sum (Name (codes "score")) ∷ term.CountAll ∷ []);
        source = Listed (1 ∷ []) (codes "people");
        filter = Some (Compare (column (codes "score")) Gt (number 99));
      }),
    )
    -- a comparison of two kinds
    ∷ (
      codes "SELECT id FROM CVD people WHERE name > 3",
      AsksQuery (record of_all {
        items = Terms (plain (codes "id") ∷ []);
        filter = Some (Compare (column (codes "name")) Gt (number 3));
      }),
    )
    -- NOT and a condition in parentheses, a key and a limit
    ∷ (
      codes "SELECT name, vid FROM VERSION 2, 1 OF CVD people WHERE NOT (id = 1 OR id = 3) ORDER BY score DESC LIMIT 1",
      AsksQuery (record of_all {
        items = Terms (plain (codes "name") ∷ term.Plain Vid ∷ []);
        source = Listed (2 ∷ 1 ∷ []) (codes "people");
        filter = Some (Not (Any (Compare (column (codes "id")) Eq (number 1) ∷ Compare (column (codes "id")) Eq (number 3) ∷ [])));
        order = record { term = plain (codes "score"); down = true } ∷ [];
        limit = Some 1;
      }),
    )
    -- tests for NULL, and either of two
    ∷ (
      codes "SELECT id FROM VERSION 1 OF CVD p WHERE score IS NULL OR name IS NOT NULL ORDER BY score DESC",
      AsksQuery (record of_all {
        items = Terms (plain (codes "id") ∷ []);
        source = Listed (1 ∷ []) (codes "p");
        filter = Some (Any (IsNull (column (codes "score")) false ∷ IsNull (column (codes "name")) true ∷ []));
        order = record { term = plain (codes "score"); down = true } ∷ [];
      }),
    )
    -- parentheses alone make no node
    ∷ (
      codes "SELECT id FROM VERSION 1 OF CVD p WHERE NOT (score < 10)",
      AsksQuery (record of_all {
        items = Terms (plain (codes "id") ∷ []);
        source = Listed (1 ∷ []) (codes "p");
        filter = Some (Not (Compare (column (codes "score")) Lt (number 10)));
      }),
    )
    -- a lineage and a comparison
    ∷ (
      codes "SELECT vid, id FROM CVD people WHERE vid IN DESCENDANTS(2) AND id = 1",
      AsksQuery (record of_all {
        items = Terms (term.Plain Vid ∷ plain (codes "id") ∷ []);
        filter = Some (Every (InLineage Descendants 2 false ∷ Compare (column (codes "id")) Eq (number 1) ∷ []));
      }),
    )
    -- AND binds closer than OR, and the signs that need two bytes
    ∷ (
      codes "SELECT * FROM CVD people WHERE id <= -5 AND id >= 2 OR id != 3 AND NOT id <> 4",
      AsksQuery (record of_all {
        filter = Some (Any
            (Every (Compare (column (codes "id")) Le (operand.Literal (Int (negsuc 4))) ∷ Compare (column (codes "id")) Ge (number 2) ∷ [])
            ∷ Every (Compare (column (codes "id")) Ne (number 3) ∷ Not (Compare (column (codes "id")) Ne (number 4)) ∷ [])
            ∷ []));
      }),
    )
    -- keywords in any case, a name that spells one, a quote within a text, and the end
    ∷ (
      codes "select \"Count\" From cvd people Where name = 'it''s' And Vid Not In parents(2);",
      AsksQuery (record of_all {
        items = Terms (plain (codes "Count") ∷ []);
        filter = Some (Every
            (Compare (column (codes "name")) Eq (operand.Literal (Text (codes "it's")))
            ∷ InLineage Parents 2 true
            ∷ []));
      }),
    )
    -- a join
    ∷ (
      codes "SELECT LEFT.name, LEFT.score, RIGHT.score FROM VERSION 1 OF CVD people JOIN VERSION 2 OF CVD people ON LEFT.id = RIGHT.id WHERE RIGHT.score > 15",
      AsksJoin (record of_people {
        items = Terms (of_left (codes "name") ∷ of_left (codes "score") ∷ of_right (codes "score") ∷ []);
        on = (codes "id", codes "id") ∷ [];
        filter = Some (Compare (operand.Term (of_right (codes "score"))) Gt (number 15));
      }),
    )
    -- a join by two columns, ordered and cut off
    ∷ (
      codes "SELECT * FROM VERSION 1 OF CVD people JOIN VERSION 2 OF CVD people ON LEFT.id = RIGHT.name AND LEFT.name = RIGHT.name ORDER BY RIGHT.id DESC, LEFT.id ASC LIMIT 3;",
      AsksJoin (record of_people {
        on = (codes "id", codes "name") ∷ (codes "name", codes "name") ∷ [];
        order =
            record { term = of_right (codes "id"); down = true }
            ∷ record { term = of_left (codes "id"); down = false }
            ∷ [];
        limit = Some 3;
      }),
    )
    -- a number out of range begins no token
    ∷ (codes "SELECT id FROM CVD people WHERE id = 9223372036854775808", BadByte 37)
    -- nor do a quote that isn't closed, quotes with no name between them, and a line feed
    ∷ (codes "'a''", BadByte 3)
    ∷ (codes "'''", BadByte 2)
    ∷ (codes "\"\"", BadByte 0)
    ∷ (codes "SELECT\n*", BadByte 6)
    -- neither a query nor a join: nothing behind SELECT, nothing at all
    ∷ (codes "SELECT", NoQuery)
    ∷ (codes "", NoQuery)
    -- a keyword as a column, an aggregate in WHERE, HAVING alone, a limit with a minus sign, two ends
    ∷ (codes "SELECT count FROM CVD people", NoQuery)
    ∷ (codes "SELECT * FROM CVD people WHERE COUNT(*) > 1", NoQuery)
    ∷ (codes "SELECT * FROM CVD people HAVING COUNT(*) > 1", NoQuery)
    ∷ (codes "SELECT * FROM CVD people LIMIT -1", NoQuery)
    ∷ (codes "SELECT * FROM CVD people;;", NoQuery)
    -- a join with the version's number, over two versions on one side, or with a lineage
    ∷ (codes "SELECT vid FROM VERSION 1 OF CVD p JOIN VERSION 2 OF CVD p ON LEFT.id = RIGHT.id", NoQuery)
    ∷ (codes "SELECT * FROM VERSION 1, 2 OF CVD p JOIN VERSION 2 OF CVD p ON LEFT.id = RIGHT.id", NoQuery)
    ∷ (
      codes "SELECT * FROM VERSION 1 OF CVD p JOIN VERSION 2 OF CVD p ON LEFT.id = RIGHT.id WHERE vid IN PARENTS(2)",
      NoQuery,
    )
    -- NOT 100 times, and once more
    ∷ (negated_text 100, AsksQuery (record of_all { filter = Some (negated 100) }))
    ∷ (negated_text 101, NoQuery)
    ∷ []

-- four versions, each the parent of the next
abbrev pub in_a_row : List ℕ
in_a_row = people ++ codes "commit people -v 2 -f a.csv -m back\ncommit people -v 3 -f both.csv -m more\n"

-- scripts and texts, and what each prints there
abbrev pub AllPrint : List (List ℕ × List ℕ × List ℕ) → Type 0
AllPrint [] = Unit {0}
AllPrint (example ∷ examples) = (said example.0 (asked_of example.1) ≡ example.2) × AllPrint examples

abbrev pub printed_texts : List (List ℕ × List ℕ × List ℕ)
printed_texts =
    -- groups
    (people, codes "SELECT vid, COUNT(*) FROM CVD people GROUP BY vid", codes "1,2\n2,3\n(2 rows)\n")
    -- groups in order, of which two are shown
    ∷ (
      people,
      codes "SELECT COUNT(*), MIN(name) FROM CVD people GROUP BY score ORDER BY COUNT(*) DESC, MIN(name) LIMIT 2",
      codes "2,ann\n1,bob\n(2 rows)\n",
    )
    -- what WHERE keeps, and HAVING
    ∷ (
      people,
      codes "SELECT * FROM VERSION 1, 2 OF CVD people WHERE score > 15",
      codes "2,bob,20\n2,bob,25\n3,cy,30\n(3 rows)\n",
    )
    ∷ (
      people,
      codes "SELECT vid, SUM(score), MAX(name) FROM CVD people GROUP BY vid HAVING COUNT(*) > 2",
      codes "2,65,cy\n(1 rows)\n",
    )
    ∷ (people, codes "SELECT SUM(score), COUNT(*) FROM VERSION 1 OF CVD people WHERE score > 99", codes ",0\n(1 rows)\n")
    ∷ (
      people,
      codes "SELECT name, vid FROM VERSION 2, 1 OF CVD people WHERE NOT (id = 1 OR id = 3) ORDER BY score DESC LIMIT 1",
      codes "bob,2\n(1 rows)\n",
    )
    -- a comparison with NULL is unknown, and so is its negation
    ∷ (with_null, codes "SELECT id FROM VERSION 1 OF CVD people WHERE score < 10", codes "3\n(1 rows)\n")
    ∷ (with_null, codes "SELECT id FROM VERSION 1 OF CVD people WHERE NOT (score < 10)", codes "2\n(1 rows)\n")
    ∷ (
      with_null,
      codes "SELECT id FROM VERSION 1 OF CVD people WHERE score IS NULL OR name IS NOT NULL ORDER BY score DESC",
      codes "3\n1\n(2 rows)\n",
    )
    -- refusals of names and kinds
    ∷ (people, codes "SELECT nme FROM CVD people", codes "error 42: no column nme\n")
    ∷ (people, codes "SELECT nme FROM VERSION 1 OF CVD people", codes "error 42: no column nme\n")
    ∷ (people, codes "SELECT name, COUNT(*) FROM CVD people GROUP BY vid", codes "error 44: name is not grouped\n")
    ∷ (people, codes "SELECT SUM(name) FROM CVD people", codes "error 45: name is not int\n")
    ∷ (people, codes "SELECT id FROM CVD people WHERE name > 3", codes "error 43: comparison 1 compares text with int\n")
    -- refusals of the text
    ∷ (people, codes "SELECT id FROM CVD people WHERE id = 9223372036854775808", codes "error 40: byte 37 begins no token\n")
    ∷ (people, codes "SELECT", codes "error 41: not a query\n")
    -- NULL
    ∷ (
      with_null,
      codes "SELECT COUNT(*), COUNT(name), SUM(score), MIN(name) FROM CVD people",
      codes "3,2,25,\\\\N\n(1 rows)\n",
    )
    -- lineages
    ∷ (four_versions, codes "SELECT vid, COUNT(*) FROM ANCESTORS(4) OF CVD people GROUP BY vid", codes "1,2\n2,3\n(2 rows)\n")
    ∷ (four_versions, codes "SELECT vid, COUNT(*) FROM PARENTS(1) OF CVD people GROUP BY vid", codes "(0 rows)\n")
    ∷ (
      four_versions,
      codes "SELECT vid, COUNT(*) FROM PARENTS(9) OF CVD people GROUP BY vid",
      codes "error 12: no version 9\n",
    )
    ∷ (
      four_versions,
      codes "SELECT vid, id FROM CVD people WHERE vid IN DESCENDANTS(2) AND id = 1",
      codes "3,1\n4,1\n(2 rows)\n",
    )
    ∷ (four_versions, codes "SELECT * FROM CVD people WHERE vid IN PARENTS(9)", codes "error 12: no version 9\n")
    ∷ []

-- of lineages
abbrev pub lineage_texts : List (List ℕ × List ℕ × List ℕ)
lineage_texts =
    -- the first from the left whose version isn't there is refused, before versions that are listed
    (four_versions, codes "SELECT * FROM PARENTS(8) OF CVD people WHERE vid IN PARENTS(9)", codes "error 12: no version 8\n")
    ∷ (four_versions, codes "SELECT * FROM CVD people WHERE vid IN PARENTS(9) OR vid IN PARENTS(8)", codes "error 12: no version 9\n")
    ∷ (four_versions, codes "SELECT * FROM VERSION 8, 8 OF CVD people WHERE vid IN PARENTS(9)", codes "error 12: no version 9\n")
    ∷ (four_versions, codes "SELECT vid FROM VERSION 1, 1 OF CVD people GROUP BY vid HAVING vid IN PARENTS(0)", codes "error 12: no version 0\n")
    -- in HAVING, where the number has to be grouped
    ∷ (
      four_versions,
      codes "SELECT vid, COUNT(*) FROM CVD people GROUP BY vid HAVING vid IN ANCESTORS(4)",
      codes "1,2\n2,3\n(2 rows)\n",
    )
    ∷ (
      four_versions,
      codes "SELECT vid, COUNT(*) FROM CVD people GROUP BY vid HAVING vid NOT IN ANCESTORS(4)",
      codes "3,2\n4,3\n(2 rows)\n",
    )
    ∷ (
      four_versions,
      codes "SELECT name FROM CVD people GROUP BY name HAVING vid IN PARENTS(2)",
      codes "error 44: vid is not grouped\n",
    )
    -- parents, and what descends and what is descended from in one step, two and three
    ∷ (four_versions, codes "SELECT vid, COUNT(*) FROM PARENTS(4) OF CVD people GROUP BY vid", codes "1,2\n2,3\n(2 rows)\n")
    ∷ (four_versions, codes "SELECT vid, COUNT(*) FROM ANCESTORS(3) OF CVD people GROUP BY vid", codes "1,2\n2,3\n(2 rows)\n")
    ∷ (in_a_row, codes "SELECT vid, COUNT(*) FROM PARENTS(4) OF CVD people GROUP BY vid", codes "3,2\n(1 rows)\n")
    ∷ (in_a_row, codes "SELECT vid, COUNT(*) FROM ANCESTORS(4) OF CVD people GROUP BY vid", codes "1,2\n2,3\n3,2\n(3 rows)\n")
    ∷ (in_a_row, codes "SELECT vid, COUNT(*) FROM ANCESTORS(3) OF CVD people GROUP BY vid", codes "1,2\n2,3\n(2 rows)\n")
    ∷ (in_a_row, codes "SELECT vid, COUNT(*) FROM DESCENDANTS(1) OF CVD people GROUP BY vid", codes "2,3\n3,2\n4,3\n(3 rows)\n")
    ∷ (in_a_row, codes "SELECT vid, COUNT(*) FROM DESCENDANTS(4) OF CVD people GROUP BY vid", codes "(0 rows)\n")
    ∷ []
