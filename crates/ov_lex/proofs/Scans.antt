-- The longest front of each kind, as the scans find it behind the first byte.
use Rattle.std.proofs.Common.{◌≡◌, ℕ, ◌+◌, ◌-◌, ◌<◌, ◌≤◌, Bool, true, false, List, [], ◌∷◌, length, take, drop, get_or, Option, Some, None, refl, sym, subst, arith}
use Rattle.std.specs.List.{prefix_len, position_or_len}
use Rattle.std.specs.Option.{MatchOption}
use Rattle.std.specs.Char.{is_ascii_digit}
use Rattle.std.proofs.lemmas.Bool.{ne_eqb}
use Rattle.std.proofs.lemmas.List.{drop_more, take_rest, nil_from_length, length-drop}
use Rattle.std.proofs.lemmas.List.Sums.{prefix_len-le-length}
use Rattle.ov_lex.specs.declared.token.TokenKind.TheVariants.{Word, Quoted, Number, Text, Sign}
use Rattle.ov_lex.specs.Spellings.{begins_word, continues_word, is_double_quote, is_short_sign, is_long_sign}
use Rattle.ov_lex.specs.Scans.{IsLongest, HasNone}
use Rattle.ov_lex.specs.Scans.{closing}
use Rattle.ov_lex.proofs.Fronts.{Closes, closing_is, word_longest, word_none, quoted_none, quoted_longest, signed_longest, signed_none, unsigned_longest, unsigned_none, text_none_first, text_none, text_longest, sign_longest_two, sign_longest_one, sign_none, sign_longest_single, sign_none_single}

-- what stands behind the first byte, as a scan is given it
abbrev pub behind : List ℕ → List ℕ
behind bytes = take (length bytes - 1) (drop 1 bytes)

pub parts : (bytes : List ℕ) → 1 ≤ length bytes → get_or bytes 0 0 ∷ behind bytes ≡ bytes
parts bytes some = rw (take_rest bytes 1) (sym (drop_more bytes 0 0 some))

-- what holds of the first byte before the others
along : (P : List ℕ → Type 0) (bytes : List ℕ) → 1 ≤ length bytes → P (get_or bytes 0 0 ∷ behind bytes) → P bytes
along P bytes some h = subst P (parts bytes some) h

pub is_empty : (bytes : List ℕ) → length bytes < 1 → bytes ≡ []
is_empty bytes lt = nil_from_length bytes (omega arith)

pub word_is : (bytes : List ℕ) (n : ℕ) → 1 ≤ length bytes → begins_word (get_or bytes 0 0) ≡ true → n ≡ prefix_len continues_word (behind bytes) → IsLongest Word bytes (1 + n)
word_is bytes n some e is = rw is (along (λ xs. IsLongest Word xs (1 + prefix_len continues_word (behind bytes))) bytes some (word_longest (get_or bytes 0 0) (behind bytes) e))

pub word_is_none : (bytes : List ℕ) → 1 ≤ length bytes → begins_word (get_or bytes 0 0) ≡ false → HasNone Word bytes
word_is_none bytes some e = along (HasNone Word) bytes some (word_none (get_or bytes 0 0) (behind bytes) e)

pub quoted_is : (bytes : List ℕ) (n : ℕ) → 1 ≤ length bytes → get_or bytes 0 0 ≡ 34 → n ≡ position_or_len is_double_quote (behind bytes) → 0 < n → n < length (behind bytes) → IsLongest Quoted bytes (n + 2)
quoted_is bytes n some e is low high =
    let place = position_or_len is_double_quote (behind bytes) in
    let found : IsLongest Quoted (get_or bytes 0 0 ∷ behind bytes) (place + 2) = rw e (quoted_longest (behind bytes) (omega arith) (omega arith)) in
    rw is (along (λ xs. IsLongest Quoted xs (place + 2)) bytes some found)

pub quoted_is_none : (bytes : List ℕ) (n : ℕ) → 1 ≤ length bytes → n ≡ position_or_len is_double_quote (behind bytes) → (get_or bytes 0 0 ≡ 34 → 0 < n → n < length (behind bytes) → ⊥) → HasNone Quoted bytes
quoted_is_none bytes n some is never = along (HasNone Quoted) bytes some (quoted_none (get_or bytes 0 0) (behind bytes) (λ e low high. never e (omega arith) (omega arith)))

pub signed_is : (bytes : List ℕ) (n : ℕ) → 1 ≤ length bytes → get_or bytes 0 0 ≡ 45 → n ≡ prefix_len is_ascii_digit (behind bytes) → 0 < n → IsLongest Number bytes (1 + n)
signed_is bytes n some e is low =
    let found : IsLongest Number (get_or bytes 0 0 ∷ behind bytes) (1 + n) = rw (e, is) (signed_longest (behind bytes) (omega arith)) in
    along (λ xs. IsLongest Number xs (1 + n)) bytes some found

pub signed_is_none : (bytes : List ℕ) → 1 ≤ length bytes → get_or bytes 0 0 ≡ 45 → prefix_len is_ascii_digit (behind bytes) ≡ 0 → HasNone Number bytes
signed_is_none bytes some e none =
    let found : HasNone Number (get_or bytes 0 0 ∷ behind bytes) = rw e (signed_none (behind bytes) none) in
    along (HasNone Number) bytes some found

pub unsigned_is : (bytes : List ℕ) (n : ℕ) → 1 ≤ length bytes → (get_or bytes 0 0 ≡ 45 → ⊥) → n ≡ prefix_len is_ascii_digit bytes → 0 < n → IsLongest Number bytes n
unsigned_is bytes n some other is low =
    rw is (along (λ xs. 0 < prefix_len is_ascii_digit xs → IsLongest Number xs (prefix_len is_ascii_digit xs)) bytes some (unsigned_longest (get_or bytes 0 0) (behind bytes) (ne_eqb (get_or bytes 0 0) 45 other)) (omega arith))

pub unsigned_is_none : (bytes : List ℕ) → 1 ≤ length bytes → (get_or bytes 0 0 ≡ 45 → ⊥) → prefix_len is_ascii_digit bytes ≡ 0 → HasNone Number bytes
unsigned_is_none bytes some other none =
    along (λ xs. prefix_len is_ascii_digit xs ≡ 0 → HasNone Number xs) bytes some (unsigned_none (get_or bytes 0 0) (behind bytes) (ne_eqb (get_or bytes 0 0) 45 other)) none

pub text_is : (bytes : List ℕ) (n : ℕ) → 1 ≤ length bytes → get_or bytes 0 0 ≡ 39 → closing (behind bytes) ≡ Some n → IsLongest Text bytes (1 + n)
text_is bytes n some e found =
    let first : IsLongest Text (get_or bytes 0 0 ∷ behind bytes) (1 + n) = rw e (text_longest (behind bytes) n found) in
    along (λ xs. IsLongest Text xs (1 + n)) bytes some first

pub text_is_none : (bytes : List ℕ) → 1 ≤ length bytes → closing (behind bytes) ≡ None → HasNone Text bytes
text_is_none bytes some none = along (HasNone Text) bytes some (text_none (get_or bytes 0 0) (behind bytes) none)

pub text_is_other : (bytes : List ℕ) → 1 ≤ length bytes → (get_or bytes 0 0 ≡ 39 → ⊥) → HasNone Text bytes
text_is_other bytes some other = along (HasNone Text) bytes some (text_none_first (get_or bytes 0 0) (behind bytes) other)

-- one byte alone
single : (bytes : List ℕ) → 1 ≤ length bytes → length bytes < 2 → get_or bytes 0 0 ∷ [] ≡ bytes
single (b ∷ []) some few = refl
single [] some few = absurd (omega arith)
single (b ∷ c ∷ bytes) some few = absurd (omega arith)

-- two bytes and others
double : (bytes : List ℕ) → 2 ≤ length bytes → get_or bytes 0 0 ∷ get_or bytes 1 0 ∷ drop 2 bytes ≡ bytes
double [] some = absurd (omega arith)
double (b ∷ []) some = absurd (omega arith)
double (b ∷ c ∷ bytes) some = refl

pub sign_single : (bytes : List ℕ) → 1 ≤ length bytes → length bytes < 2 → is_short_sign (get_or bytes 0 0) ≡ true → IsLongest Sign bytes 1
sign_single bytes some few e = subst (λ (xs : List ℕ). IsLongest Sign xs 1) (single bytes some few) (sign_longest_single (get_or bytes 0 0) e)

pub sign_single_none : (bytes : List ℕ) → 1 ≤ length bytes → length bytes < 2 → is_short_sign (get_or bytes 0 0) ≡ false → HasNone Sign bytes
sign_single_none bytes some few e = subst (HasNone Sign) (single bytes some few) (sign_none_single (get_or bytes 0 0) e)

pub sign_long : (bytes : List ℕ) → 2 ≤ length bytes → is_long_sign (get_or bytes 0 0) (get_or bytes 1 0) ≡ true → IsLongest Sign bytes 2
sign_long bytes some e = subst (λ (xs : List ℕ). IsLongest Sign xs 2) (double bytes some) (sign_longest_two (get_or bytes 0 0) (get_or bytes 1 0) (drop 2 bytes) e)

pub sign_short : (bytes : List ℕ) → 2 ≤ length bytes → is_long_sign (get_or bytes 0 0) (get_or bytes 1 0) ≡ false → is_short_sign (get_or bytes 0 0) ≡ true → IsLongest Sign bytes 1
sign_short bytes some other e = subst (λ (xs : List ℕ). IsLongest Sign xs 1) (double bytes some) (sign_longest_one (get_or bytes 0 0) (get_or bytes 1 0) (drop 2 bytes) other e)

pub sign_is_none : (bytes : List ℕ) → 2 ≤ length bytes → is_long_sign (get_or bytes 0 0) (get_or bytes 1 0) ≡ false → is_short_sign (get_or bytes 0 0) ≡ false → HasNone Sign bytes
sign_is_none bytes some long short = subst (HasNone Sign) (double bytes some) (sign_none (get_or bytes 0 0) (get_or bytes 1 0) (drop 2 bytes) long short)

-- ---- bounds of what is found

pub length-behind : (bytes : List ℕ) → 1 ≤ length bytes → length (behind bytes) + 1 ≡ length bytes
length-behind bytes some = rw (take_rest bytes 1) (omega (arith, length-drop 1 bytes))

-- one more than the length of a front that passes is no more than the length
pub one_more : (p : ℕ → Bool) (bytes : List ℕ) (n : ℕ) → 1 ≤ length bytes → n ≡ prefix_len p (behind bytes) → 1 + n ≤ length bytes
one_more p bytes n some is = omega (arith, prefix_len-le-length p (behind bytes), length-behind bytes some)

pub one_more_closed : (bytes : List ℕ) (n : ℕ) → 1 ≤ length bytes → closing (behind bytes) ≡ Some n → 1 + n ≤ length bytes
one_more_closed bytes n some found =
    let closed : Closes (behind bytes) n = closing_is (behind bytes) n found in
    omega (arith, closed.within, length-behind bytes some)

-- what is found without a minus sign, either way
pub unsigned_found : (bytes : List ℕ) (found : Option ℕ) → 1 ≤ length bytes → (get_or bytes 0 0 ≡ 45 → ⊥) → MatchOption found (prefix_len is_ascii_digit bytes ≡ 0) (λ n. (n ≡ prefix_len is_ascii_digit bytes) × (0 < n)) → MatchOption found (HasNone Number bytes) (IsLongest Number bytes)
unsigned_found bytes None some other h = unsigned_is_none bytes some other h
unsigned_found bytes (Some n) some other h = unsigned_is bytes n some other h.0 h.1
