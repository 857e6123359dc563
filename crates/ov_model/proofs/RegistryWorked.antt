-- The worked examples of registries made by hand and of full stores, by computing.
use Rattle.std.proofs.Common.{refl}
use lib.Utf8.{encode}
use Rattle.std.specs.Fmt.{digits}
use Rattle.std.specs.Str.{is_utf8, chars}
use Rattle.csv.specs.Machine.{next_record}
use Rattle.csv.specs.Reading.{strip_bom, records_from}
use Rattle.csv.specs.Writing.{escaped, fields_text, is_blank}
use Rattle.ov_value.specs.Making.{name_refusal, column_refusal, key_refusal}
use Rattle.ov_value.specs.Naming.{is_name, is_vid, is_column_name}
use Rattle.ov_value.specs.Spelling.{row_spelling}
use Rattle.ov_model.specs.RegistryExamples.{AllForeign, AllByHand, AllFull}
use Rattle.ov_model.specs.Replies.{line}

pub all_foreign : AllForeign
unfolding encode digits is_utf8 chars records_from next_record strip_bom escaped fields_text is_blank is_name is_vid is_column_name name_refusal column_refusal key_refusal row_spelling line
all_foreign = record { create = refl; create_bad = refl; config = refl; config_bad = refl; stage = refl; stage_bad = refl; stage_many = refl; commit = refl; commit_denied = refl; unstage = refl; unstage_denied = refl; tables = refl; whoami = refl }

pub all_by_hand : AllByHand
unfolding encode digits is_utf8 chars records_from next_record strip_bom escaped fields_text is_blank is_name is_vid is_column_name name_refusal column_refusal key_refusal row_spelling line
all_by_hand = record { good = refl; no_name = refl; other_number = refl; other_version = refl; no_number = refl; no_dataset = refl; stores_own = refl; no_list = refl; no_text = refl; unstaged = refl; config_bad = refl; config_other = refl; others = refl; all = refl }

pub all_full : AllFull
unfolding encode digits is_utf8 chars records_from next_record strip_bom escaped fields_text is_blank is_name is_vid is_column_name name_refusal column_refusal key_refusal row_spelling line
all_full = record { create = refl; stage = refl; create_both = refl; create_number = refl; stage_number = refl; later = refl; many = refl; too_many = refl; many_of_none = refl; too_many_of_none = refl }
