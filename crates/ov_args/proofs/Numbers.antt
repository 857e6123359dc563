-- What one digit to four write.
use Rattle.std.proofs.Common.{◌≡◌, ◌<◌, ◌≤◌, ℕ, Bool, true, ◌&&◌, List, length, refl, sym, ◌∙◌, ap, arith, rules}
use Rattle.std.specs.Prelude.{Result, Some, None, nat_le}
use Rattle.std.specs.Result.{result_ok}
use Rattle.std.specs.Char.{is_ascii_digit}
use Rattle.std.specs.List.{list_all}
use Rattle.std.specs.Str.Parse.{ParsesUnsigned, digits_value}
use Rattle.std.proofs.lemmas.Bool.{cond-true, le-leb}
use Rattle.std.proofs.lemmas.Str.Parse.{IsDigitsTest, IsNumeralModel, numerals_by_value, parse_gives, digits_value_short}
use Rattle.ov_args.specs.Proposed.{value_of}

tells : IsDigitsTest (λ ds. list_all is_ascii_digit ds ≡ true)
tells = search rules

own : IsNumeralModel (λ ds. list_all is_ascii_digit ds ≡ true) (digits_value 10)
own = numerals_by_value (λ ds. list_all is_ascii_digit ds ≡ true) tells

all_three : (a b c : Bool) → a ≡ true → b ≡ true → c ≡ true → (a && (b && c)) ≡ true
all_three a b c e f g = rw (e, f, g) refl

pub value_is : {E : Type 0} (bs : List ℕ) (r : Result ℕ E) → ParsesUnsigned 32 10 bs r → 0 < length bs → length bs ≤ 4 → list_all is_ascii_digit bs ≡ true → result_ok r ≡ value_of bs
value_is bs r read some few digits =
    ap result_ok (parse_gives own 32 bs r read digits some (omega (arith, digits_value_short own bs 4 digits few)))
    ∙ sym (cond-true _ (Some (digits_value 10 bs)) None
    (all_three (nat_le 1 (length bs)) (nat_le (length bs) 4) (list_all is_ascii_digit bs) (le-leb 1 (length bs) (omega arith)) (le-leb (length bs) 4 few) digits))
