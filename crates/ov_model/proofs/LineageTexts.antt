-- The worked texts of lineages, by computing.
use Rattle.std.proofs.Common.{refl}
use Rattle.std.specs.Prelude.{true, false, ◌∷◌, [], codes}
use lib.Utf8.{encode}
use Rattle.std.specs.Fmt.{digits}
use Rattle.std.specs.Str.{is_utf8, chars}
use Rattle.csv.specs.Machine.{next_record}
use Rattle.csv.specs.Reading.{strip_bom, records_from}
use Rattle.csv.specs.Writing.{escaped, fields_text, is_blank}
use Rattle.ov_lex.specs.Lexing.{tokens_of}
use Rattle.ov_lex.specs.Scans.{closing}
use Rattle.ov_value.specs.Making.{name_refusal, column_refusal, key_refusal}
use Rattle.ov_value.specs.Naming.{is_name, is_vid, is_column_name}
use Rattle.ov_value.specs.Spelling.{row_spelling}
use Rattle.ov_model.specs.AskedTexts.{AllPrint, lineage_texts}
use Rattle.ov_model.specs.Grammar.{found_in, keyword_of}
use Rattle.ov_model.specs.JoinReading.{dotted_at, side_col_at, side_term_at, side_operand_at, side_test_at, side_at, equation_at, sides_at, matched_at, join_head_at, join_of}
use Rattle.ov_model.specs.QueryTexts.{unescaped, asked_of}
use Rattle.ov_model.specs.Reading.{same_word, eaten, not_at, more_at, list_at, col_of, col_at, inner_at, all_at, counted_at, term_at, literal_of, standing_at, operand_by, count_of, count_at, name_of, name_at, kind_at, lineage_at, sign_of, sign_at, vid_in, null_at, comparison_at, operand_test_at, lineage_test_at, test_at, conj_at, disj_at, closed_at, unit_at, cond_at, items_at, of_cvd_at, listed_at, of_lineage_at, source_at, guard_at, grouped_at, grouping_at, direction_at, key_at, ordered_at, order_at, limit_at, is_end, tail_at, head_at, kept_at, query_of}
use Rattle.ov_model.specs.Replies.{line}
use Rattle.ov_model.specs.Questions.{of_all, plain, four_versions}
use Rattle.ov_model.specs.declared.query.Items.TheVariants.{Terms}
use Rattle.ov_model.specs.declared.query.Src.TheVariants.{Listed, Lineage}
use Rattle.ov_model.specs.declared.query.LineageKind.TheVariants.{Parents, Ancestors}
use Rattle.ov_model.specs.declared.query.Col.TheVariants.{Vid, Name}
use Rattle.ov_model.specs.declared.query.Term.TheVariants as term
use Rattle.ov_model.proofs.Told.{told-lineage, told-any, where_prints, having_prints}

pub all_lineages : AllPrint lineage_texts
unfolding encode digits is_utf8 chars records_from next_record strip_bom escaped fields_text is_blank is_name is_vid is_column_name name_refusal column_refusal key_refusal row_spelling line asked_of tokens_of closing unescaped found_in keyword_of same_word eaten not_at more_at list_at col_of col_at inner_at all_at counted_at term_at literal_of standing_at operand_by count_of count_at name_of name_at kind_at lineage_at sign_of sign_at vid_in null_at comparison_at operand_test_at lineage_test_at test_at conj_at disj_at closed_at unit_at cond_at items_at of_cvd_at listed_at of_lineage_at source_at guard_at grouped_at grouping_at direction_at key_at ordered_at order_at limit_at is_end tail_at head_at kept_at query_of dotted_at side_col_at side_term_at side_operand_at side_test_at side_at equation_at sides_at matched_at join_head_at join_of
all_lineages = (where_prints four_versions (codes "SELECT * FROM PARENTS(8) OF CVD people WHERE vid IN PARENTS(9)") (record of_all { source = Lineage Parents 8 (codes "people") }) (told-lineage Parents 9 false) refl refl, (where_prints four_versions (codes "SELECT * FROM CVD people WHERE vid IN PARENTS(9) OR vid IN PARENTS(8)") of_all (told-any (told-lineage Parents 9 false) (told-lineage Parents 8 false)) refl refl, (where_prints four_versions (codes "SELECT * FROM VERSION 8, 8 OF CVD people WHERE vid IN PARENTS(9)") (record of_all { source = Listed (8 ∷ 8 ∷ []) (codes "people") }) (told-lineage Parents 9 false) refl refl, (having_prints four_versions (codes "SELECT vid FROM VERSION 1, 1 OF CVD people GROUP BY vid HAVING vid IN PARENTS(0)") (record of_all { items = Terms (term.Plain Vid ∷ []); source = Listed (1 ∷ 1 ∷ []) (codes "people"); groups = Vid ∷ [] }) (told-lineage Parents 0 false) refl refl, (having_prints four_versions (codes "SELECT vid, COUNT(*) FROM CVD people GROUP BY vid HAVING vid IN ANCESTORS(4)") (record of_all { items = Terms (term.Plain Vid ∷ term.CountAll ∷ []); groups = Vid ∷ [] }) (told-lineage Ancestors 4 false) refl refl, (having_prints four_versions (codes "SELECT vid, COUNT(*) FROM CVD people GROUP BY vid HAVING vid NOT IN ANCESTORS(4)") (record of_all { items = Terms (term.Plain Vid ∷ term.CountAll ∷ []); groups = Vid ∷ [] }) (told-lineage Ancestors 4 true) refl refl, (having_prints four_versions (codes "SELECT name FROM CVD people GROUP BY name HAVING vid IN PARENTS(2)") (record of_all { items = Terms (plain (codes "name") ∷ []); groups = Name (codes "name") ∷ [] }) (told-lineage Parents 2 false) refl refl, (refl, (refl, (refl, (refl, (refl, (refl, (refl, tt))))))))))))))
