-- The worked examples of added columns, by computing.
use Rattle.std.proofs.Common.{refl}
use lib.Utf8.{encode}
use Rattle.std.specs.Fmt.{digits}
use Rattle.std.specs.Str.{is_utf8, chars}
use Rattle.csv.specs.Machine.{next_record}
use Rattle.csv.specs.Reading.{strip_bom, records_from}
use Rattle.csv.specs.Writing.{escaped, fields_text, is_blank}
use Rattle.ov_graph.specs.Splits.{is_under, stops, may_cut, versions_apart, records_apart, chosen, cuts_within, cuts_of}
use Rattle.ov_value.specs.Making.{name_refusal, column_refusal, key_refusal}
use Rattle.ov_value.specs.Naming.{is_name, is_vid, is_column_name}
use Rattle.ov_value.specs.Spelling.{row_spelling}
use Rattle.ov_model.specs.ColumnExamples.{AllWiden, AllOld}
use Rattle.ov_model.specs.Replies.{line}

pub all_widen : AllWiden
unfolding encode digits is_utf8 chars records_from next_record strip_bom escaped fields_text is_blank is_under stops may_cut versions_apart records_apart chosen cuts_within cuts_of is_name is_vid is_column_name name_refusal column_refusal key_refusal row_spelling line
all_widen = record { plan = refl; names = refl; too_many = refl; repeated = refl; one = refl }

pub all_old : AllOld
unfolding encode digits is_utf8 chars records_from next_record strip_bom escaped fields_text is_blank is_under stops may_cut versions_apart records_apart chosen cuts_within cuts_of is_name is_vid is_column_name name_refusal column_refusal key_refusal row_spelling line
all_old = record { null = refl; added = refl }
