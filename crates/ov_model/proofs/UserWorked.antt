-- The worked examples of users and staged tables, by computing.
use Rattle.std.proofs.Common.{refl}
use lib.Utf8.{encode}
use Rattle.std.specs.Fmt.{digits}
use Rattle.std.specs.Str.{is_utf8, chars}
use Rattle.csv.specs.Machine.{next_record}
use Rattle.csv.specs.Reading.{strip_bom, records_from}
use Rattle.csv.specs.Writing.{escaped, fields_text, is_blank}
use Rattle.ov_graph.specs.Splits.{is_under, stops, may_cut, versions_apart, records_apart, chosen, cuts_within, cuts_of}
use Rattle.ov_lex.specs.Lexing.{tokens_of}
use Rattle.ov_lex.specs.Scans.{closing}
use Rattle.ov_value.specs.Making.{name_refusal, column_refusal, key_refusal}
use Rattle.ov_value.specs.Naming.{is_name, is_vid, is_column_name}
use Rattle.ov_value.specs.Spelling.{row_spelling}
use Rattle.ov_model.specs.Examples.{AllPrint}
use Rattle.ov_model.specs.Grammar.{found_in, keyword_of}
use Rattle.ov_model.specs.JoinReading.{dotted_at, side_col_at, side_term_at, side_operand_at, side_test_at, side_at, equation_at, sides_at, matched_at, join_head_at, join_of}
use Rattle.ov_model.specs.QueryTexts.{unescaped, asked_of}
use Rattle.ov_model.specs.Reading.{same_word, eaten, not_at, more_at, list_at, col_of, col_at, inner_at, all_at, counted_at, term_at, literal_of, standing_at, operand_by, count_of, count_at, name_of, name_at, kind_at, lineage_at, sign_of, sign_at, vid_in, null_at, comparison_at, operand_test_at, lineage_test_at, test_at, conj_at, disj_at, closed_at, unit_at, cond_at, items_at, of_cvd_at, listed_at, of_lineage_at, source_at, guard_at, grouped_at, grouping_at, direction_at, key_at, ordered_at, order_at, limit_at, is_end, tail_at, head_at, kept_at, query_of}
use Rattle.ov_model.specs.Replies.{line}
use Rattle.ov_model.specs.UserExamples.{user_examples, query_examples, AllStaged}

pub all_users : AllPrint user_examples
unfolding encode digits is_utf8 chars records_from next_record strip_bom escaped fields_text is_blank is_name is_vid is_column_name name_refusal column_refusal key_refusal row_spelling line is_under stops may_cut versions_apart records_apart chosen cuts_within cuts_of
all_users = (refl, (refl, (refl, (refl, tt))))

pub all_queries : AllPrint query_examples
unfolding encode digits is_utf8 chars records_from next_record strip_bom escaped fields_text is_blank is_name is_vid is_column_name name_refusal column_refusal key_refusal row_spelling line asked_of tokens_of closing unescaped found_in keyword_of same_word eaten not_at more_at list_at col_of col_at inner_at all_at counted_at term_at literal_of standing_at operand_by count_of count_at name_of name_at kind_at lineage_at sign_of sign_at vid_in null_at comparison_at operand_test_at lineage_test_at test_at conj_at disj_at closed_at unit_at cond_at items_at of_cvd_at listed_at of_lineage_at source_at guard_at grouped_at grouping_at direction_at key_at ordered_at order_at limit_at is_end tail_at head_at kept_at query_of dotted_at side_col_at side_term_at side_operand_at side_test_at side_at equation_at sides_at matched_at join_head_at join_of
all_queries = (refl, (refl, tt))

pub all_staged : AllStaged
unfolding encode digits is_utf8 chars records_from next_record strip_bom escaped fields_text is_blank is_name is_vid is_column_name name_refusal column_refusal key_refusal row_spelling line
all_staged = record { last_first = refl; first_first = refl; refused = refl }
