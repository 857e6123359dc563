use Rattle.std.proofs.Common.{◌≡◌, [], length}
use Rattle.std.specs.Str.{IsAscii}
use Rattle.csv.specs.Machine.{next_record}
use Rattle.csv.specs.Reading.{default_config}
use Rattle.csv.specs.declared.parser.State.TheVariants as st
use Rattle.ov_csv.specs.Plain.{IsPlain}
use Rattle.ov_csv.proofs.plain.skip_ends.Given as goal

abbrev pub invariant-loop-first : goal.invariant-loop-first
invariant-loop-first l = record {
  plain : IsPlain l.rest;
  ascii : IsAscii l.fn.bytes → IsAscii l.rest;
  same : next_record default_config st.StartRecord [] [] l.fn.bytes ≡ next_record default_config st.StartRecord [] [] l.rest;
}

abbrev pub decreases-loop-first : goal.decreases-loop-first
decreases-loop-first l = length l.rest
