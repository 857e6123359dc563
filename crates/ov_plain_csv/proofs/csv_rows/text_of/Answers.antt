-- The test of a field is the field's.
use Rattle.std.proofs.Common.{refl}
use Rattle.std.proofs.lemmas.Str.{is_utf8-from_IsUtf8}
use Rattle.ov_plain_csv.proofs.Spelled.{no-text}
use Rattle.ov_plain_csv.proofs.csv_rows.text_of.Goals as goal

pub returns-in_ok-new-in-Ok : goal.returns-in_ok-new-in-Ok
returns-in_ok-new-in-Ok c = rw (is_utf8-from_IsUtf8 _ c.in-Ok.ensures.cases.1, c.in_ok-new-in-Ok.ensures.ok, c.in-Ok.ensures.cases.0) refl

pub returns-in-Err : goal.returns-in-Err
returns-in-Err c = rw (no-text _ c.in-Err.ensures.cases.0) refl
