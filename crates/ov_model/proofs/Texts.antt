-- The worked texts of queries and joins, by computing.
use Rattle.std.proofs.Common.{refl}
use Rattle.std.specs.Prelude.{ℕ, true, false, List, ◌∷◌, [], Some, codes}
use lib.Utf8.{encode}
use Rattle.std.specs.Fmt.{digits}
use Rattle.std.specs.Str.{is_utf8, chars}
use Rattle.csv.specs.Machine.{next_record}
use Rattle.csv.specs.Reading.{strip_bom, records_from}
use Rattle.csv.specs.Writing.{escaped, fields_text, is_blank}
use Rattle.ov_lex.specs.Lexing.{tokens_of}
use Rattle.ov_lex.specs.Scans.{closing}
use Rattle.ov_value.specs.Making.{name_refusal, column_refusal, key_refusal}
use Rattle.ov_value.specs.Naming.{is_name, is_vid, is_column_name}
use Rattle.ov_value.specs.Spelling.{row_spelling}
use Rattle.ov_model.specs.AskedTexts.{column, number, AllAsk, asked_texts, AllPrint, printed_texts}
use Rattle.ov_model.specs.Grammar.{found_in, keyword_of}
use Rattle.ov_model.specs.JoinReading.{dotted_at, side_col_at, side_term_at, side_operand_at, side_test_at, side_at, equation_at, sides_at, matched_at, join_head_at, join_of}
use Rattle.ov_model.specs.QueryTexts.{unescaped, asked_of}
use Rattle.ov_model.specs.Reading.{same_word, eaten, not_at, more_at, list_at, col_of, col_at, inner_at, all_at, counted_at, term_at, literal_of, standing_at, operand_by, count_of, count_at, name_of, name_at, kind_at, lineage_at, sign_of, sign_at, vid_in, null_at, comparison_at, operand_test_at, lineage_test_at, test_at, conj_at, disj_at, closed_at, unit_at, cond_at, items_at, of_cvd_at, listed_at, of_lineage_at, source_at, guard_at, grouped_at, grouping_at, direction_at, key_at, ordered_at, order_at, limit_at, is_end, tail_at, head_at, kept_at, query_of}
use Rattle.ov_model.specs.Replies.{line}
use Rattle.ov_model.specs.Examples.{people}
use Rattle.ov_model.specs.Questions.{of_all, plain, with_null, four_versions}
use Rattle.ov_model.specs.declared.query.Items.TheVariants.{Terms}
use Rattle.ov_model.specs.declared.query.Src.TheVariants.{Listed}
use Rattle.ov_model.specs.declared.query.LineageKind.TheVariants.{Parents, Descendants}
use Rattle.ov_model.specs.declared.query.Col.TheVariants.{Vid, Name}
use Rattle.ov_model.specs.declared.query.Term.TheVariants as term
use Rattle.ov_model.specs.declared.query.Operand.TheVariants as operand
use Rattle.ov_model.specs.declared.query.Query.{Query}
use Rattle.ov_model.specs.declared.query.Sign.{Sign}
use Rattle.ov_model.specs.declared.query.Sign.TheVariants.{Eq, Lt, Gt}
use Rattle.ov_model.specs.declared.query.Cond.TheVariants.{Compare}
use Rattle.ov_model.proofs.Told.{Told, told-compare, told-null, told-lineage, told-not, told-every, told-any, where_prints, having_prints}

pub all_ask : AllAsk asked_texts
unfolding asked_of tokens_of closing unescaped found_in keyword_of same_word eaten not_at more_at list_at col_of col_at inner_at all_at counted_at term_at literal_of standing_at operand_by count_of count_at name_of name_at kind_at lineage_at sign_of sign_at vid_in null_at comparison_at operand_test_at lineage_test_at test_at conj_at disj_at closed_at unit_at cond_at items_at of_cvd_at listed_at of_lineage_at source_at guard_at grouped_at grouping_at direction_at key_at ordered_at order_at limit_at is_end tail_at head_at kept_at query_of dotted_at side_col_at side_term_at side_operand_at side_test_at side_at equation_at sides_at matched_at join_head_at join_of
all_ask = (refl, (refl, (refl, (refl, (refl, (refl, (refl, (refl, (refl, (refl, (refl, (refl, (refl, (refl, (refl, (refl, (refl, (refl, (refl, (refl, (refl, (refl, (refl, (refl, (refl, (refl, (refl, (refl, (refl, tt)))))))))))))))))))))))))))))

-- a column and a number
abbrev told : (name : List ℕ) (by : Sign) (n : ℕ) → Told (Compare (column name) by (number n))
told name by n = told-compare (column name) by (number n)

abbrev first_ids : Query
first_ids = record of_all { items = Terms (plain (codes "id") ∷ []); source = Listed (1 ∷ []) (codes "people") }

pub all_print : AllPrint printed_texts
unfolding encode digits is_utf8 chars records_from next_record strip_bom escaped fields_text is_blank is_name is_vid is_column_name name_refusal column_refusal key_refusal row_spelling line asked_of tokens_of closing unescaped found_in keyword_of same_word eaten not_at more_at list_at col_of col_at inner_at all_at counted_at term_at literal_of standing_at operand_by count_of count_at name_of name_at kind_at lineage_at sign_of sign_at vid_in null_at comparison_at operand_test_at lineage_test_at test_at conj_at disj_at closed_at unit_at cond_at items_at of_cvd_at listed_at of_lineage_at source_at guard_at grouped_at grouping_at direction_at key_at ordered_at order_at limit_at is_end tail_at head_at kept_at query_of dotted_at side_col_at side_term_at side_operand_at side_test_at side_at equation_at sides_at matched_at join_head_at join_of
all_print = (
  refl,
  (
    refl,
    (
      where_prints people (codes "SELECT * FROM VERSION 1, 2 OF CVD people WHERE score > 15")
          (record of_all { source = Listed (1 ∷ 2 ∷ []) (codes "people") }) (told (codes "score") Gt 15) refl refl,
      (
        having_prints people (codes "SELECT vid, SUM(score), MAX(name) FROM CVD people GROUP BY vid HAVING COUNT(*) > 2")
            (record of_all { items = Terms (term.Plain Vid ∷ term.Sum (Name (codes "score")) ∷ term.Max (Name (codes "name")) ∷ []); groups = Vid ∷ [] })
            (told-compare (operand.Term term.CountAll) Gt (number 2)) refl refl,
        (
          where_prints people (codes "SELECT SUM(score), COUNT(*) FROM VERSION 1 OF CVD people WHERE score > 99")
              (record of_all { items = Terms (term.Sum (Name (codes "score")) ∷ term.CountAll ∷ []); source = Listed (1 ∷ []) (codes "people") })
              (told (codes "score") Gt 99) refl refl,
          (
            where_prints people (codes "SELECT name, vid FROM VERSION 2, 1 OF CVD people WHERE NOT (id = 1 OR id = 3) ORDER BY score DESC LIMIT 1")
                (record of_all { items = Terms (plain (codes "name") ∷ term.Plain Vid ∷ []); source = Listed (2 ∷ 1 ∷ []) (codes "people"); order = record { term = plain (codes "score"); down = true } ∷ []; limit = Some 1 })
                (told-not (told-any (told (codes "id") Eq 1) (told (codes "id") Eq 3))) refl refl,
            (
              where_prints with_null (codes "SELECT id FROM VERSION 1 OF CVD people WHERE score < 10") first_ids (told (codes "score") Lt 10) refl refl,
              (
                where_prints with_null (codes "SELECT id FROM VERSION 1 OF CVD people WHERE NOT (score < 10)") first_ids (told-not (told (codes "score") Lt 10)) refl refl,
                (
                  where_prints with_null (codes "SELECT id FROM VERSION 1 OF CVD people WHERE score IS NULL OR name IS NOT NULL ORDER BY score DESC")
                      (record first_ids { order = record { term = plain (codes "score"); down = true } ∷ [] })
                      (told-any (told-null (column (codes "score")) false) (told-null (column (codes "name")) true)) refl refl,
                  (
                    refl,
                    (
                      refl,
                      (
                        refl,
                        (
                          refl,
                          (
                            where_prints people (codes "SELECT id FROM CVD people WHERE name > 3") (record of_all { items = Terms (plain (codes "id") ∷ []) }) (told (codes "name") Gt 3) refl refl,
                            (
                              refl,
                              (
                                refl,
                                (
                                  refl,
                                  (
                                    refl,
                                    (
                                      refl,
                                      (
                                        refl,
                                        (
                                          where_prints four_versions (codes "SELECT vid, id FROM CVD people WHERE vid IN DESCENDANTS(2) AND id = 1")
                                              (record of_all { items = Terms (term.Plain Vid ∷ plain (codes "id") ∷ []) })
                                              (told-every (told-lineage Descendants 2 false) (told (codes "id") Eq 1)) refl refl,
                                          (
                                            where_prints four_versions (codes "SELECT * FROM CVD people WHERE vid IN PARENTS(9)") of_all (told-lineage Parents 9 false) refl refl,
                                            tt,
                                          ),
                                        ),
                                      ),
                                    ),
                                  ),
                                ),
                              ),
                            ),
                          ),
                        ),
                      ),
                    ),
                  ),
                ),
              ),
            ),
          ),
        ),
      ),
    ),
  ),
)
