-- A number in range is parsed.
use Rattle.std.proofs.Common.{ℕ, List, Result, Ok, Err, ℤ, FitsSigned, refl}
use Rattle.std.specs.Int.{w64}
use Rattle.std.specs.Result.{OkIff, IsOk}
use Rattle.std.specs.Str.Parse.{IsNumeral, without_leading_sign, signed_digits_value}
use Rattle.ov_lex.specs.Spellings.{IsNumber, number_of}
use Rattle.ov_lex.proofs.Numbers.{numeral}

pub is_parsed : {E : Type 0} (bytes : List ℕ) (r : Result ℤ E) → IsNumber bytes → FitsSigned w64 (number_of bytes) → OkIff r (IsNumeral 10 (without_leading_sign bytes) × FitsSigned w64 (signed_digits_value 10 bytes)) (signed_digits_value 10 bytes) → IsOk r
is_parsed bytes (Ok n) s fits h = refl
is_parsed bytes (Err e) s fits h = absurd (h (numeral bytes s, fits))
