-- The worked examples of queries, by computing.
use Rattle.std.proofs.Common.{◌≡◌, refl}
use Rattle.std.specs.Prelude.{◌∷◌, [], codes}
use lib.Utf8.{encode}
use Rattle.std.specs.Fmt.{digits}
use Rattle.std.specs.Str.{is_utf8, chars}
use Rattle.csv.specs.Machine.{next_record}
use Rattle.csv.specs.Reading.{strip_bom, records_from}
use Rattle.csv.specs.Writing.{escaped, fields_text, is_blank}
use Rattle.ov_value.specs.Making.{name_refusal, column_refusal, key_refusal}
use Rattle.ov_value.specs.Naming.{is_name, is_vid, is_column_name}
use Rattle.ov_value.specs.Spelling.{row_spelling}
use Rattle.ov_model.specs.QueryTexts.{BadByte, NoQuery}
use Rattle.ov_model.specs.Examples.{people}
use Rattle.ov_model.specs.Questions.{AllAnswered, said, answered, counts, by_score, unknown, not_grouped, no_int, with_null, totals, four_versions, of_ancestors}
use Rattle.ov_model.specs.Replies.{line}
use Rattle.ov_model.specs.declared.query.Src.TheVariants.{Listed, Lineage}
use Rattle.ov_model.specs.declared.query.LineageKind.TheVariants.{Parents}

counts_is-is : answered people counts ≡ codes "1,2\n2,3\n(2 rows)\n"
unfolding encode digits is_utf8 chars records_from next_record strip_bom escaped fields_text is_blank is_name is_vid is_column_name name_refusal column_refusal key_refusal row_spelling line
counts_is-is = refl

by_score_is-is : answered people by_score ≡ codes "2,ann\n1,bob\n(2 rows)\n"
unfolding encode digits is_utf8 chars records_from next_record strip_bom escaped fields_text is_blank is_name is_vid is_column_name name_refusal column_refusal key_refusal row_spelling line
by_score_is-is = refl

unknown_is-is : answered people unknown ≡ codes "error 42: no column nme\n"
unfolding encode digits is_utf8 chars records_from next_record strip_bom escaped fields_text is_blank is_name is_vid is_column_name name_refusal column_refusal key_refusal row_spelling line
unknown_is-is = refl

not_grouped_is-is : answered people not_grouped ≡ codes "error 44: name is not grouped\n"
unfolding encode digits is_utf8 chars records_from next_record strip_bom escaped fields_text is_blank is_name is_vid is_column_name name_refusal column_refusal key_refusal row_spelling line
not_grouped_is-is = refl

no_int_is-is : answered people no_int ≡ codes "error 45: name is not int\n"
unfolding encode digits is_utf8 chars records_from next_record strip_bom escaped fields_text is_blank is_name is_vid is_column_name name_refusal column_refusal key_refusal row_spelling line
no_int_is-is = refl

totals_is-is : answered with_null totals ≡ codes "3,2,25,\\\\N\n(1 rows)\n"
unfolding encode digits is_utf8 chars records_from next_record strip_bom escaped fields_text is_blank is_name is_vid is_column_name name_refusal column_refusal key_refusal row_spelling line
totals_is-is = refl

of_ancestors_is-is : answered four_versions of_ancestors ≡ codes "1,2\n2,3\n(2 rows)\n"
unfolding encode digits is_utf8 chars records_from next_record strip_bom escaped fields_text is_blank is_name is_vid is_column_name name_refusal column_refusal key_refusal row_spelling line
of_ancestors_is-is = refl

of_parents_is-is : answered four_versions (record counts { source = Lineage Parents 1 (codes "people") }) ≡ codes "(0 rows)\n"
unfolding encode digits is_utf8 chars records_from next_record strip_bom escaped fields_text is_blank is_name is_vid is_column_name name_refusal column_refusal key_refusal row_spelling line
of_parents_is-is = refl

bad_byte_is-is : said people (BadByte 7) ≡ codes "error 40: byte 7 begins no token\n"
unfolding encode digits is_utf8 chars records_from next_record strip_bom escaped fields_text is_blank is_name is_vid is_column_name name_refusal column_refusal key_refusal row_spelling line
bad_byte_is-is = refl

no_query_is-is : said people NoQuery ≡ codes "error 41: not a query\n"
unfolding encode digits is_utf8 chars records_from next_record strip_bom escaped fields_text is_blank is_name is_vid is_column_name name_refusal column_refusal key_refusal row_spelling line
no_query_is-is = refl

no_dataset_is-is : answered people (record unknown { source = Lineage Parents 9 (codes "towns") }) ≡ codes "error 10: no dataset towns\n"
unfolding encode digits is_utf8 chars records_from next_record strip_bom escaped fields_text is_blank is_name is_vid is_column_name name_refusal column_refusal key_refusal row_spelling line
no_dataset_is-is = refl

no_version_is-is : answered people (record unknown { source = Lineage Parents 9 (codes "people") }) ≡ codes "error 12: no version 9\n"
unfolding encode digits is_utf8 chars records_from next_record strip_bom escaped fields_text is_blank is_name is_vid is_column_name name_refusal column_refusal key_refusal row_spelling line
no_version_is-is = refl

repeated_is-is : answered people (record unknown { source = Listed (2 ∷ 2 ∷ 9 ∷ []) (codes "people") }) ≡ codes "error 13: version 2 is repeated\n"
unfolding encode digits is_utf8 chars records_from next_record strip_bom escaped fields_text is_blank is_name is_vid is_column_name name_refusal column_refusal key_refusal row_spelling line
repeated_is-is = refl

pub all_answered : AllAnswered
all_answered = record {
  counts_prints = counts_is-is;
  by_score_prints = by_score_is-is;
  unknown_prints = unknown_is-is;
  not_grouped_prints = not_grouped_is-is;
  no_int_prints = no_int_is-is;
  totals_prints = totals_is-is;
  of_ancestors_prints = of_ancestors_is-is;
  of_parents_prints = of_parents_is-is;
  bad_byte_prints = bad_byte_is-is;
  no_query_prints = no_query_is-is;
  no_dataset_prints = no_dataset_is-is;
  no_version_prints = no_version_is-is;
  repeated_prints = repeated_is-is;
}
