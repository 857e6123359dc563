use Rattle.std.proofs.Common.{◌≡◌, [], length, true}
use Rattle.std.specs.List.{list_all}
use Rattle.std.specs.Str.{is_utf8, IsAscii}
use Rattle.csv.specs.Machine.{next_record}
use Rattle.csv.specs.Reading.{default_config}
use Rattle.csv.specs.declared.parser.State.TheVariants as st
use Rattle.ov_csv.specs.Plain.{IsPlain, slices}
use Rattle.ov_csv.proofs.plain.cut_record.Given as goal

abbrev pub invariant-loop-byte : goal.invariant-loop-byte
invariant-loop-byte l = record {
  plain : IsPlain l.rest;
  ascii : IsAscii l.fn.bytes → (list_all is_utf8 (slices l.fields.items) ≡ true) × IsAscii l.rest;
  same : next_record default_config st.InField [] [] l.fn.bytes ≡ next_record default_config st.InField (slices l.fields.items) [] l.rest;
}

abbrev pub decreases-loop-byte : goal.decreases-loop-byte
decreases-loop-byte l = length l.rest
