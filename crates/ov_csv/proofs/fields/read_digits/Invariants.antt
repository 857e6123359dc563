use Rattle.ov_csv.proofs.Digits.{DigitsSoFar}
use Rattle.ov_csv.proofs.fields.read_digits.Given as goal

abbrev pub invariant-loop-digit : goal.invariant-loop-digit
invariant-loop-digit l = DigitsSoFar l.digits l.digit-index l.number
