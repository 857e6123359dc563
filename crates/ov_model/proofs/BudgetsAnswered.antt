-- The worked examples of the storage budget, by computing.
use Rattle.std.proofs.Common.{◌≡◌, None, refl, true, false}
use Rattle.std.specs.Prelude.{codes}
use lib.Utf8.{encode}
use Rattle.std.specs.Fmt.{digits}
use Rattle.std.specs.Str.{is_utf8, chars}
use Rattle.csv.specs.Machine.{next_record}
use Rattle.csv.specs.Reading.{strip_bom, records_from}
use Rattle.csv.specs.Writing.{escaped, fields_text, is_blank}
use Rattle.ov_graph.specs.Splits.{is_under, stops, may_cut, versions_apart, records_apart, chosen, cuts_within, cuts_of}
use Rattle.ov_value.specs.Making.{name_refusal, column_refusal, key_refusal}
use Rattle.ov_value.specs.Naming.{is_name, is_vid, is_column_name}
use Rattle.ov_value.specs.Spelling.{row_spelling}
use Rattle.ov_model.specs.BudgetExamples.{AllWithin, advised, advised_at, lines, numbered, running_set, the_set, within, within_at}
use Rattle.ov_model.specs.Replies.{line}
use Rattle.ov_model.specs.declared.reply.Reply.TheVariants as says
use Rattle.ov_model.specs.declared.refusal.Refusal.TheVariants as no

twelve_is : within 12 ≡ says.Within lines 55 1 2 9 8 13 14 4
unfolding encode digits is_utf8 chars records_from next_record strip_bom escaped fields_text is_blank is_under stops may_cut versions_apart records_apart chosen cuts_within cuts_of is_name is_vid is_column_name name_refusal column_refusal key_refusal row_spelling line
twelve_is = refl

thirteen_is : within 13 ≡ says.Within lines 91 2 3 13 8 13 13 6
unfolding encode digits is_utf8 chars records_from next_record strip_bom escaped fields_text is_blank is_under stops may_cut versions_apart records_apart chosen cuts_within cuts_of is_name is_vid is_column_name name_refusal column_refusal key_refusal row_spelling line
thirteen_is = refl

seven_is : within 7 ≡ says.Refused (no.NoThreshold 7 8)
unfolding encode digits is_utf8 chars records_from next_record strip_bom escaped fields_text is_blank is_under stops may_cut versions_apart records_apart chosen cuts_within cuts_of is_name is_vid is_column_name name_refusal column_refusal key_refusal row_spelling line
seven_is = refl

worth_is : advised 12 3 2 ≡ says.Advise 24 14 true
unfolding encode digits is_utf8 chars records_from next_record strip_bom escaped fields_text is_blank is_under stops may_cut versions_apart records_apart chosen cuts_within cuts_of is_name is_vid is_column_name name_refusal column_refusal key_refusal row_spelling line
worth_is = refl

no_worth_is : advised 12 2 1 ≡ says.Advise 24 14 false
unfolding encode digits is_utf8 chars records_from next_record strip_bom escaped fields_text is_blank is_under stops may_cut versions_apart records_apart chosen cuts_within cuts_of is_name is_vid is_column_name name_refusal column_refusal key_refusal row_spelling line
no_worth_is = refl

as_much_is : advised 12 12 7 ≡ says.Advise 24 14 false
unfolding encode digits is_utf8 chars records_from next_record strip_bom escaped fields_text is_blank is_under stops may_cut versions_apart records_apart chosen cuts_within cuts_of is_name is_vid is_column_name name_refusal column_refusal key_refusal row_spelling line
as_much_is = refl

out_of_range_is : advised 12 2 3 ≡ says.Refused no.BadThreshold
unfolding encode digits is_utf8 chars records_from next_record strip_bom escaped fields_text is_blank is_under stops may_cut versions_apart records_apart chosen cuts_within cuts_of is_name is_vid is_column_name name_refusal column_refusal key_refusal row_spelling line
out_of_range_is = refl

greatest_is : advised 12 1000000 1000000 ≡ says.Advise 24 14 true
unfolding encode digits is_utf8 chars records_from next_record strip_bom escaped fields_text is_blank is_under stops may_cut versions_apart records_apart chosen cuts_within cuts_of is_name is_vid is_column_name name_refusal column_refusal key_refusal row_spelling line
greatest_is = refl

steepest_is : advised 12 1000000 1 ≡ says.Advise 24 14 false
unfolding encode digits is_utf8 chars records_from next_record strip_bom escaped fields_text is_blank is_under stops may_cut versions_apart records_apart chosen cuts_within cuts_of is_name is_vid is_column_name name_refusal column_refusal key_refusal row_spelling line
steepest_is = refl

least_is : advised 12 1 1 ≡ says.Advise 24 14 true
unfolding encode digits is_utf8 chars records_from next_record strip_bom escaped fields_text is_blank is_under stops may_cut versions_apart records_apart chosen cuts_within cuts_of is_name is_vid is_column_name name_refusal column_refusal key_refusal row_spelling line
least_is = refl

too_great_is : advised 12 1000001 1 ≡ says.Refused no.BadThreshold
unfolding encode digits is_utf8 chars records_from next_record strip_bom escaped fields_text is_blank is_under stops may_cut versions_apart records_apart chosen cuts_within cuts_of is_name is_vid is_column_name name_refusal column_refusal key_refusal row_spelling line
too_great_is = refl

by_none_is : advised 12 1 0 ≡ says.Refused no.BadThreshold
unfolding encode digits is_utf8 chars records_from next_record strip_bom escaped fields_text is_blank is_under stops may_cut versions_apart records_apart chosen cuts_within cuts_of is_name is_vid is_column_name name_refusal column_refusal key_refusal row_spelling line
by_none_is = refl

ratio_first_is : advised 7 2 3 ≡ says.Refused no.BadThreshold
unfolding encode digits is_utf8 chars records_from next_record strip_bom escaped fields_text is_blank is_under stops may_cut versions_apart records_apart chosen cuts_within cuts_of is_name is_vid is_column_name name_refusal column_refusal key_refusal row_spelling line
ratio_first_is = refl

no_budget_is : advised 7 2 2 ≡ says.Refused (no.NoThreshold 7 8)
unfolding encode digits is_utf8 chars records_from next_record strip_bom escaped fields_text is_blank is_under stops may_cut versions_apart records_apart chosen cuts_within cuts_of is_name is_vid is_column_name name_refusal column_refusal key_refusal row_spelling line
no_budget_is = refl

eight_is : within 8 ≡ says.Within lines 1 0 1 8 8 13 24 1
unfolding encode digits is_utf8 chars records_from next_record strip_bom escaped fields_text is_blank is_under stops may_cut versions_apart records_apart chosen cuts_within cuts_of is_name is_vid is_column_name name_refusal column_refusal key_refusal row_spelling line
eight_is = refl

nine_is : within 9 ≡ says.Within lines 55 1 2 9 8 13 14 4
unfolding encode digits is_utf8 chars records_from next_record strip_bom escaped fields_text is_blank is_under stops may_cut versions_apart records_apart chosen cuts_within cuts_of is_name is_vid is_column_name name_refusal column_refusal key_refusal row_spelling line
nine_is = refl

running_is : within_at running_set 7 ≡ says.Refused (no.Migrating (codes "chain"))
unfolding encode digits is_utf8 chars records_from next_record strip_bom escaped fields_text is_blank is_under stops may_cut versions_apart records_apart chosen cuts_within cuts_of is_name is_vid is_column_name name_refusal column_refusal key_refusal row_spelling line
running_is = refl

numbers_is : within_at (numbered 4294000001 the_set) 7 ≡ says.Refused (no.NoNumbers (codes "chain"))
unfolding encode digits is_utf8 chars records_from next_record strip_bom escaped fields_text is_blank is_under stops may_cut versions_apart records_apart chosen cuts_within cuts_of is_name is_vid is_column_name name_refusal column_refusal key_refusal row_spelling line
numbers_is = refl

numbers_left_is : within_at (numbered 4294000000 the_set) 7 ≡ says.Refused (no.NoThreshold 7 8)
unfolding encode digits is_utf8 chars records_from next_record strip_bom escaped fields_text is_blank is_under stops may_cut versions_apart records_apart chosen cuts_within cuts_of is_name is_vid is_column_name name_refusal column_refusal key_refusal row_spelling line
numbers_left_is = refl

running_first_is : within_at (numbered 4294000001 running_set) 7 ≡ says.Refused (no.Migrating (codes "chain"))
unfolding encode digits is_utf8 chars records_from next_record strip_bom escaped fields_text is_blank is_under stops may_cut versions_apart records_apart chosen cuts_within cuts_of is_name is_vid is_column_name name_refusal column_refusal key_refusal row_spelling line
running_first_is = refl

advised_then_is : advised_at running_set 12 3 2 ≡ says.Advise 24 14 true
unfolding encode digits is_utf8 chars records_from next_record strip_bom escaped fields_text is_blank is_under stops may_cut versions_apart records_apart chosen cuts_within cuts_of is_name is_vid is_column_name name_refusal column_refusal key_refusal row_spelling line
advised_then_is = refl

no_set_is : within_at None 7 ≡ says.Refused (no.NoCvd (codes "chain"))
unfolding encode digits is_utf8 chars records_from next_record strip_bom escaped fields_text is_blank is_under stops may_cut versions_apart records_apart chosen cuts_within cuts_of is_name is_vid is_column_name name_refusal column_refusal key_refusal row_spelling line
no_set_is = refl

no_set_advised_is : advised_at None 7 2 3 ≡ says.Refused (no.NoCvd (codes "chain"))
unfolding encode digits is_utf8 chars records_from next_record strip_bom escaped fields_text is_blank is_under stops may_cut versions_apart records_apart chosen cuts_within cuts_of is_name is_vid is_column_name name_refusal column_refusal key_refusal row_spelling line
no_set_advised_is = refl

pub all_within : AllWithin
all_within = record {
  twelve = twelve_is;
  thirteen = thirteen_is;
  seven = seven_is;
  worth = worth_is;
  no_worth = no_worth_is;
  as_much = as_much_is;
  out_of_range = out_of_range_is;
  greatest = greatest_is;
  steepest = steepest_is;
  least = least_is;
  too_great = too_great_is;
  by_none = by_none_is;
  ratio_first = ratio_first_is;
  no_budget = no_budget_is;
  eight = eight_is;
  nine = nine_is;
  running = running_is;
  numbers = numbers_is;
  numbers_left = numbers_left_is;
  running_first = running_first_is;
  advised_then = advised_then_is;
  no_set = no_set_is;
  no_set_advised = no_set_advised_is;
}
