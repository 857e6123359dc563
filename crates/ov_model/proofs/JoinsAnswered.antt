-- The worked examples of joins, by computing.
use Rattle.std.proofs.Common.{◌≡◌, refl}
use Rattle.std.specs.Prelude.{pos, false, ◌∷◌, [], Some, codes}
use lib.Utf8.{encode}
use Rattle.std.specs.Fmt.{digits}
use Rattle.std.specs.Str.{is_utf8, chars}
use Rattle.csv.specs.Machine.{next_record}
use Rattle.csv.specs.Reading.{strip_bom, records_from}
use Rattle.csv.specs.Writing.{escaped, fields_text, is_blank}
use Rattle.ov_value.specs.Making.{name_refusal, column_refusal, key_refusal}
use Rattle.ov_value.specs.Naming.{is_name, is_vid, is_column_name}
use Rattle.ov_value.specs.declared.value.Value.TheVariants.{Int, Text}
use Rattle.ov_value.specs.Spelling.{row_spelling}
use Rattle.ov_model.specs.Examples.{people}
use Rattle.ov_model.specs.BudgetExamples.{chain}
use Rattle.ov_model.specs.JoinExamples.{AllJoined, joined, side, of_both, raised, with_itself, plain, on_two, over, is_text, of_chain}
use Rattle.ov_model.specs.Questions.{with_null}
use Rattle.ov_model.specs.Replies.{line}
use Rattle.ov_model.specs.declared.query.Items.TheVariants.{Terms}
use Rattle.ov_model.specs.declared.query.Col.TheVariants.{Left, Right}
use Rattle.ov_model.specs.declared.query.Operand.TheVariants as operand
use Rattle.ov_model.specs.declared.query.Sign.TheVariants.{Eq, Gt}
use Rattle.ov_model.proofs.JoinsTold.{filtered_prints}

both_is : joined people of_both ≡ codes "1,ann,10,1,ann,10\n2,bob,20,2,bob,25\n(2 rows)\n"
unfolding encode digits is_utf8 chars records_from next_record strip_bom escaped fields_text is_blank is_name is_vid is_column_name name_refusal column_refusal key_refusal row_spelling line
both_is = refl

raised_is : joined people raised ≡ codes "bob,20,25\n(1 rows)\n"
unfolding encode digits is_utf8 chars records_from next_record strip_bom escaped fields_text is_blank is_name is_vid is_column_name name_refusal column_refusal key_refusal row_spelling line
raised_is = refl

kinds_is : joined people (record raised { on = (codes "id", codes "name") ∷ [] }) ≡ codes "error 43: comparison 1 compares int with text\n"
unfolding encode digits is_utf8 chars records_from next_record strip_bom escaped fields_text is_blank is_name is_vid is_column_name name_refusal column_refusal key_refusal row_spelling line
kinds_is = refl

unknown_is : joined people (record of_both { items = Terms (plain (Right (codes "nme")) ∷ []) }) ≡ codes "error 42: no column RIGHT.nme\n"
unfolding encode digits is_utf8 chars records_from next_record strip_bom escaped fields_text is_blank is_name is_vid is_column_name name_refusal column_refusal key_refusal row_spelling line
unknown_is = refl

null_is : joined with_null with_itself ≡ codes "2,2\n3,3\n(2 rows)\n"
unfolding encode digits is_utf8 chars records_from next_record strip_bom escaped fields_text is_blank is_name is_vid is_column_name name_refusal column_refusal key_refusal row_spelling line
null_is = refl

no_version_is : joined people (record of_both { right = side (codes "people") 3 }) ≡ codes "error 12: no version 3\n"
unfolding encode digits is_utf8 chars records_from next_record strip_bom escaped fields_text is_blank is_name is_vid is_column_name name_refusal column_refusal key_refusal row_spelling line
no_version_is = refl

no_left_is : joined people (record of_both { left = side (codes "towns") 1; right = side (codes "people") 3 }) ≡ codes "error 10: no dataset towns\n"
unfolding encode digits is_utf8 chars records_from next_record strip_bom escaped fields_text is_blank is_name is_vid is_column_name name_refusal column_refusal key_refusal row_spelling line
no_left_is = refl

left_first_is : joined people (record of_both { left = side (codes "people") 9; right = side (codes "towns") 1 }) ≡ codes "error 12: no version 9\n"
unfolding encode digits is_utf8 chars records_from next_record strip_bom escaped fields_text is_blank is_name is_vid is_column_name name_refusal column_refusal key_refusal row_spelling line
left_first_is = refl

version_zero_is : joined people (record of_both { left = side (codes "people") 0; right = side (codes "people") 9 }) ≡ codes "error 12: no version 0\n"
unfolding encode digits is_utf8 chars records_from next_record strip_bom escaped fields_text is_blank is_name is_vid is_column_name name_refusal column_refusal key_refusal row_spelling line
version_zero_is = refl

items_first_is : joined people (record raised { items = Terms (plain (Left (codes "nme")) ∷ []); on = (codes "idd", codes "id") ∷ [] }) ≡ codes "error 42: no column LEFT.nme\n"
unfolding encode digits is_utf8 chars records_from next_record strip_bom escaped fields_text is_blank is_name is_vid is_column_name name_refusal column_refusal key_refusal row_spelling line
items_first_is = refl

on_next_is : joined people (record raised { on = (codes "idd", codes "ide") ∷ []; order = record { term = plain (Right (codes "nme")); down = false } ∷ [] }) ≡ codes "error 42: no column LEFT.idd\n"
unfolding encode digits is_utf8 chars records_from next_record strip_bom escaped fields_text is_blank is_name is_vid is_column_name name_refusal column_refusal key_refusal row_spelling line
on_next_is = refl

on_right_is : joined people (record raised { on = (codes "id", codes "ide") ∷ [] }) ≡ codes "error 42: no column RIGHT.ide\n"
unfolding encode digits is_utf8 chars records_from next_record strip_bom escaped fields_text is_blank is_name is_vid is_column_name name_refusal column_refusal key_refusal row_spelling line
on_right_is = refl

second_on_is : joined people (record on_two { on = (codes "id", codes "id") ∷ (codes "id", codes "name") ∷ [] }) ≡ codes "error 43: comparison 2 compares int with text\n"
unfolding encode digits is_utf8 chars records_from next_record strip_bom escaped fields_text is_blank is_name is_vid is_column_name name_refusal column_refusal key_refusal row_spelling line
second_on_is = refl

where_counted_is : joined people (record on_two { filter = Some (is_text (Left (codes "id")) (codes "x")) }) ≡ codes "error 43: comparison 3 compares int with text\n"
unfolding encode digits is_utf8 chars records_from next_record strip_bom escaped fields_text is_blank is_name is_vid is_column_name name_refusal column_refusal key_refusal row_spelling line
where_counted_is = filtered_prints people on_two (operand.Term (plain (Left (codes "id")))) Eq (operand.Literal (Text (codes "x"))) refl

where_unknown_is : joined people (record of_both { filter = Some (over (Right (codes "nme")) 1); order = record { term = plain (Left (codes "nme")); down = false } ∷ [] }) ≡ codes "error 42: no column RIGHT.nme\n"
unfolding encode digits is_utf8 chars records_from next_record strip_bom escaped fields_text is_blank is_name is_vid is_column_name name_refusal column_refusal key_refusal row_spelling line
where_unknown_is = filtered_prints people (record of_both { order = record { term = plain (Left (codes "nme")); down = false } ∷ [] }) (operand.Term (plain (Right (codes "nme")))) Gt (operand.Literal (Int (pos 1))) refl

every_on_is : joined people on_two ≡ codes "1,1\n(1 rows)\n"
unfolding encode digits is_utf8 chars records_from next_record strip_bom escaped fields_text is_blank is_name is_vid is_column_name name_refusal column_refusal key_refusal row_spelling line
every_on_is = refl

where_is : joined people (record of_both { filter = Some (over (Right (codes "score")) 20) }) ≡ codes "2,bob,20,2,bob,25\n(1 rows)\n"
unfolding encode digits is_utf8 chars records_from next_record strip_bom escaped fields_text is_blank is_name is_vid is_column_name name_refusal column_refusal key_refusal row_spelling line
where_is = filtered_prints people of_both (operand.Term (plain (Right (codes "score")))) Gt (operand.Literal (Int (pos 20))) refl

pairs_is : joined chain of_chain ≡ codes "1,1\n1,2\n1,3\n1,4\n2,1\n(5 rows)\n"
unfolding encode digits is_utf8 chars records_from next_record strip_bom escaped fields_text is_blank is_name is_vid is_column_name name_refusal column_refusal key_refusal row_spelling line
pairs_is = refl

pub all_joined : AllJoined
all_joined = record {
  both_prints = both_is;
  raised_prints = raised_is;
  kinds_prints = kinds_is;
  unknown_prints = unknown_is;
  null_prints = null_is;
  no_version_prints = no_version_is;
  no_left_prints = no_left_is;
  left_first_prints = left_first_is;
  version_zero_prints = version_zero_is;
  items_first_prints = items_first_is;
  on_next_prints = on_next_is;
  on_right_prints = on_right_is;
  second_on_prints = second_on_is;
  where_counted_prints = where_counted_is;
  where_unknown_prints = where_unknown_is;
  every_on_prints = every_on_is;
  where_prints = where_is;
  pairs_prints = pairs_is;
}
