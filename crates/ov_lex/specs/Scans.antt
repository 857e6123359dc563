-- What the scans look for: the longest front of one kind, told by its first byte.
--     IsLongest kind bytes n      the first n bytes are the longest front that is of this kind
--     HasNone kind bytes      no front is of this kind
--     kind_by b      the kind of a token that begins with this byte
--     closing bytes      how many bytes there are up to the last quote that may close a text, that one included
use Rattle.std.specs.Prelude.{ℕ, ◌+◌, ◌≤◌, ◌||◌, ◌==◌, if◌then◌else◌, List, [], ◌∷◌, length, take, Option, Some, None}
use Rattle.std.specs.Char.{is_ascii_digit}
use Rattle.std.specs.Option.{option_map, unwrap_or}
use Rattle.ov_lex.specs.declared.token.TokenKind.{TokenKind}
use Rattle.ov_lex.specs.declared.token.TokenKind.TheVariants.{Word, Quoted, Number, Text, Sign}
use Rattle.ov_lex.specs.Spellings.{begins_word, is_double_quote, IsSpelling}

pub record IsLongest (kind : TokenKind) (bytes : List ℕ) (n : ℕ) : Type 0 where
  pub within : n ≤ length bytes
  pub spelled : IsSpelling kind (take n bytes)
  pub longest : (m : ℕ) → m ≤ length bytes → IsSpelling kind (take m bytes) → m ≤ n

-- no front is of this kind
abbrev pub HasNone : TokenKind → List ℕ → Type 0
HasNone kind bytes = (m : ℕ) → m ≤ length bytes → IsSpelling kind (take m bytes) → ⊥

-- the kind of a token by its first byte; where none begins with it, a sign
abbrev pub kind_by : ℕ → TokenKind
kind_by b =
    if begins_word b then Word
    else if is_double_quote b then Quoted
    else if b == 39 then Text
    else if b == 45 || is_ascii_digit b then Number
    else Sign

-- at a quote: two quotes are one of the text's, and the first of them may close the text as well
unfoldable pub closing : List ℕ → Option ℕ
closing [] = None
closing (b ∷ []) = if b == 39 then Some 1 else None
closing (b ∷ c ∷ bytes) =
    if b == 39 then (if c == 39 then Some (unwrap_or (option_map (λ n. 2 + n) (closing bytes)) 1) else Some 1)
    else option_map (λ n. 1 + n) (closing (c ∷ bytes))
