-- Digits behind a sign, in 64 bits, and nothing else.
use Rattle.std.proofs.Common.{rules, sym}
use Rattle.ov_csv.proofs.Spelled.{int-read, int-refused}
use Rattle.ov_csv.proofs.fields.read_int.Goals as goal

pub returns-in-Ok : goal.returns-in-Ok
returns-in-Ok c = sym (int-read c.args.text.now c.in-Ok.number (search rules) c.in-Ok.ensures.value.0)

pub returns-in-Err : goal.returns-in-Err
returns-in-Err c = sym (int-refused c.args.text.now (search rules) c.in-Err.ensures.value.0)
