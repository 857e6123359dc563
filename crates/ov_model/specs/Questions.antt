-- Worked examples of queries, each with what it prints over a few small versions, as it was worked out by hand. That they print
-- just this is proved by computing it.
use Rattle.std.specs.Prelude.{◌≡◌, ℕ, ◌∷◌, ◌++◌, [], List, true, false, Some, None, codes}
use Rattle.ov_model.specs.Asking.{run_deed}
use Rattle.ov_model.specs.QueryTexts.{Asked, BadByte, NoQuery, AsksQuery}
use Rattle.ov_model.specs.Examples.{people, served_all}
use Rattle.ov_model.specs.Replies.{reply_text}
use Rattle.ov_model.specs.declared.query.Query.{Query}
use Rattle.ov_model.specs.declared.query.Items.TheVariants.{Everything, Terms}
use Rattle.ov_model.specs.declared.query.Src.TheVariants.{Listed, Whole, Lineage}
use Rattle.ov_model.specs.declared.query.LineageKind.TheVariants.{Parents, Ancestors}
use Rattle.ov_model.specs.declared.query.Col.TheVariants.{Vid, Name}
use Rattle.ov_model.specs.declared.query.Term.{Term}
use Rattle.ov_model.specs.declared.query.Term.TheVariants as term

-- what a text that asks this prints behind a script that makes `people`
abbrev pub said : List ℕ → Asked → List ℕ
said script asked = reply_text (run_deed (served_all script).world (served_all script).session asked).reply

-- what a query prints there
abbrev pub answered : List ℕ → Query → List ℕ
answered script query = said script (AsksQuery query)

abbrev pub of_all : Query
of_all = record { items = Everything; source = Whole (codes "people"); filter = None; groups = []; having = None; order = []; limit = None }

abbrev pub plain : List ℕ → Term
plain name = term.Plain (Name name)

-- SELECT vid, COUNT(*) FROM CVD people GROUP BY vid
abbrev pub counts : Query
counts = record of_all { items = Terms (term.Plain Vid ∷ term.CountAll ∷ []); groups = Vid ∷ [] }

-- SELECT COUNT(*), MIN(name) FROM CVD people GROUP BY score ORDER BY COUNT(*) DESC, MIN(name) LIMIT 2
abbrev pub by_score : Query
by_score = record of_all {
  items = Terms (term.CountAll ∷ term.Min (Name (codes "name")) ∷ []);
  groups = Name (codes "score") ∷ [];
  order = record { term = term.CountAll; down = true } ∷ record { term = term.Min (Name (codes "name")); down = false } ∷ [];
  limit = Some 2;
}

-- SELECT nme FROM CVD people
abbrev pub unknown : Query
unknown = record of_all { items = Terms (plain (codes "nme") ∷ []) }

-- SELECT name, COUNT(*) FROM CVD people GROUP BY vid
abbrev pub not_grouped : Query
not_grouped = record of_all { items = Terms (plain (codes "name") ∷ term.CountAll ∷ []); groups = Vid ∷ [] }

-- SELECT SUM(name) FROM CVD people
abbrev pub no_int : Query
no_int = record of_all { items = Terms (term.Sum (Name (codes "name")) ∷ []) }

-- a dataset with NULL in it
abbrev pub with_null : List ℕ
with_null = codes "init people -s id:int,name:text,score:int -k id -f n.csv\n"

-- SELECT COUNT(*), COUNT(name), SUM(score), MIN(name) FROM CVD people
abbrev pub totals : Query
totals = record of_all {
  items = Terms (term.CountAll ∷ term.Count (Name (codes "name")) ∷ term.Sum (Name (codes "score")) ∷ term.Min (Name (codes "name")) ∷ []);
}

-- two more versions, the last with two parents
abbrev pub four_versions : List ℕ
four_versions = people ++ codes "commit people -v 2 -f a.csv -m back\ncommit people -v 1,2 -f both.csv -m both\n"

-- SELECT vid, COUNT(*) FROM ANCESTORS(4) OF CVD people GROUP BY vid
abbrev pub of_ancestors : Query
of_ancestors = record counts { source = Lineage Ancestors 4 (codes "people") }

-- each of these queries prints this
pub record AllAnswered : Type 0 where
  pub counts_prints : answered people counts ≡ codes "1,2\n2,3\n(2 rows)\n"
  pub by_score_prints : answered people by_score ≡ codes "2,ann\n1,bob\n(2 rows)\n"
  pub unknown_prints : answered people unknown ≡ codes "error 42: no column nme\n"
  pub not_grouped_prints : answered people not_grouped ≡ codes "error 44: name is not grouped\n"
  pub no_int_prints : answered people no_int ≡ codes "error 45: name is not int\n"
  pub totals_prints : answered with_null totals ≡ codes "3,2,25,\\\\N\n(1 rows)\n"
  pub of_ancestors_prints : answered four_versions of_ancestors ≡ codes "1,2\n2,3\n(2 rows)\n"
  pub of_parents_prints : answered four_versions (record counts { source = Lineage Parents 1 (codes "people") }) ≡ codes "(0 rows)\n"
  pub bad_byte_prints : said people (BadByte 7) ≡ codes "error 40: byte 7 begins no token\n"
  pub no_query_prints : said people NoQuery ≡ codes "error 41: not a query\n"
  pub no_dataset_prints : answered people (record unknown { source = Lineage Parents 9 (codes "towns") }) ≡ codes "error 10: no dataset towns\n"
  pub no_version_prints : answered people (record unknown { source = Lineage Parents 9 (codes "people") }) ≡ codes "error 12: no version 9\n"
  pub repeated_prints : answered people (record unknown { source = Listed (2 ∷ 2 ∷ 9 ∷ []) (codes "people") }) ≡ codes "error 13: version 2 is repeated\n"
