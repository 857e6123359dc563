-- Digits behind a sign, in 64 bits, and nothing else.
use Rattle.std.proofs.Common.{rules}
use Rattle.ov_plain_csv.proofs.Spelled.{int-read, int-refused}
use Rattle.ov_plain_csv.proofs.fields.int_value.Goals as goal

pub returns-in-Ok : goal.returns-in-Ok
returns-in-Ok c = int-read c.args.field.now c.in-Ok.number (search rules) c.in-Ok.ensures.value.0

pub returns-in-Err : goal.returns-in-Err
returns-in-Err c = int-refused c.args.field.now (search rules) c.in-Err.ensures.value.0
