-- The tokens of a text, by computing them: at each place that is no blank the longest front that is a token.
--     front_len kind bytes      how many bytes the longest front of this kind has
--     first_token bytes      the kind of the token that the bytes begin with, and how many bytes it has
--     tokens_of text      the tokens of the text, or else the first place where none begins
use Rattle.std.specs.Prelude.{ℕ, zero, suc, ◌+◌, ◌-◌, ◌^◌, ℤ, pos, negsuc, Bool, true, false, ◌&&◌, ◌==◌, nat_lt, if◌then◌else◌, List, [], ◌∷◌, length, take, Option, Some, None, Result, Ok, Err}
use Rattle.std.specs.Char.{is_ascii_digit}
use Rattle.std.specs.List.{prefix_len, position_or_len}
use Rattle.std.specs.Option.{option_map}
use Rattle.ov_lex.specs.declared.token.Token.{Token}
use Rattle.ov_lex.specs.declared.token.TokenKind.{TokenKind}
use Rattle.ov_lex.specs.declared.token.TokenKind.TheVariants.{Word, Quoted, Number, Text, Sign}
use Rattle.ov_lex.specs.Spellings.{begins_word, continues_word, is_double_quote, number_of, is_short_sign, is_long_sign}
use Rattle.ov_lex.specs.Scans.{kind_by, closing}
use Rattle.ov_lex.specs.Texts.{is_blank}

-- ---- the longest front of a kind

abbrev pub word_len : List ℕ → Option ℕ
word_len [] = None
word_len (b ∷ bytes) = if begins_word b then Some (1 + prefix_len continues_word bytes) else None

-- so many bytes of a name between two quotes: one at least, and a quote stands behind them
abbrev pub closed_len : ℕ → ℕ → Option ℕ
closed_len name behind = if nat_lt 0 name && nat_lt name behind then Some (name + 2) else None

abbrev pub quoted_len : List ℕ → Option ℕ
quoted_len [] = None
quoted_len (b ∷ bytes) = if is_double_quote b then closed_len (position_or_len is_double_quote bytes) (length bytes) else None

-- one digit at least
abbrev pub some_digits : ℕ → Option ℕ
some_digits zero = None
some_digits (suc n) = Some (suc n)

-- behind a minus sign, or not
abbrev pub number_len : List ℕ → Option ℕ
number_len [] = None
number_len (b ∷ bytes) =
    if b == 45 then option_map (λ n. 1 + n) (some_digits (prefix_len is_ascii_digit bytes))
    else some_digits (prefix_len is_ascii_digit (b ∷ bytes))

abbrev pub text_len : List ℕ → Option ℕ
text_len [] = None
text_len (b ∷ bytes) = if b == 39 then option_map (λ n. 1 + n) (closing bytes) else None

abbrev pub sign_len : List ℕ → Option ℕ
sign_len [] = None
sign_len (b ∷ []) = if is_short_sign b then Some 1 else None
sign_len (b ∷ c ∷ bytes) = if is_long_sign b c then Some 2 else if is_short_sign b then Some 1 else None

abbrev pub front_len : TokenKind → List ℕ → Option ℕ
front_len Word bytes = word_len bytes
front_len Quoted bytes = quoted_len bytes
front_len Number bytes = number_len bytes
front_len Text bytes = text_len bytes
front_len Sign bytes = sign_len bytes

-- ---- the token at a place

-- from -2^63 to 2^63 - 1
abbrev pub is_64_bits : ℤ → Bool
is_64_bits (pos n) = nat_lt n (2 ^ 63)
is_64_bits (negsuc n) = nat_lt n (2 ^ 63)

-- no number that is out of range
abbrev pub is_in_range : TokenKind → List ℕ → Bool
is_in_range Word bytes = true
is_in_range Quoted bytes = true
is_in_range Number bytes = is_64_bits (number_of bytes)
is_in_range Text bytes = true
is_in_range Sign bytes = true

abbrev pub kept_front : TokenKind → List ℕ → Option ℕ → Option (TokenKind × ℕ)
kept_front kind bytes None = None
kept_front kind bytes (Some n) = if is_in_range kind (take n bytes) then Some (kind, n) else None

-- the first byte tells its kind
abbrev pub first_token : List ℕ → Option (TokenKind × ℕ)
first_token [] = None
first_token (b ∷ bytes) = kept_front (kind_by b) (b ∷ bytes) (front_len (kind_by b) (b ∷ bytes))

-- ---- the tokens of a text

abbrev pub with_token : Token → Result (List Token) ℕ → Result (List Token) ℕ
with_token token (Ok tokens) = Ok (token ∷ tokens)
with_token token (Err at) = Err at

-- The tokens from a place on, whose first byte is a blank or not and begins this token or none. `more next left` are those from
-- the next place on, where so many bytes are left of the token before.
abbrev pub tokens_by : (ℕ → ℕ → Result (List Token) ℕ) → ℕ → Bool → Option (TokenKind × ℕ) → Result (List Token) ℕ
tokens_by more at true first = more (at + 1) 0
tokens_by more at false None = Err at
tokens_by more at false (Some first) = with_token (record { kind = first.0; at = at; end = at + first.1 }) (more (at + 1) (first.1 - 1))

-- the tokens of the bytes from a place on, of which so many are left of the token before
abbrev pub tokens_from : List ℕ → ℕ → ℕ → Result (List Token) ℕ
tokens_from [] at left = Ok []
tokens_from (b ∷ bytes) at (suc left) = tokens_from bytes (at + 1) left
tokens_from (b ∷ bytes) at zero = tokens_by (tokens_from bytes) at (is_blank b) (first_token (b ∷ bytes))

unfoldable pub tokens_of : List ℕ → Result (List Token) ℕ
tokens_of text = tokens_from text 0 0
