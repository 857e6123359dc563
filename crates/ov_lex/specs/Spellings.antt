-- What a token looks like, and which token bytes begin with. A spelling is a list of bytes.
--     IsWord, IsQuoted, IsNumber, IsText, IsSign      the bytes, all of them, are a word, a quoted name, and so on
--     IsSpelling kind bytes      the bytes, all of them, are of this kind
--     number_of bytes      what a number says
--     Begins bytes kind n      the bytes begin with a token of this kind, whose spelling is the first n of them
use Rattle.std.specs.Prelude.{◌≡◌, ℕ, ◌<◌, ◌≤◌, Bool, ◌||◌, ◌&&◌, not, ◌==◌, nat_eq, if◌then◌else◌, IsTrue, ℤ, List, [], ◌∷◌, ◌++◌, length, take, codes, FitsSigned}
use Rattle.std.specs.List.{list_all, list_any, flat_map}
use Rattle.std.specs.Char.{is_ascii_alphabetic, is_ascii_alphanumeric, is_ascii_digit}
use Rattle.std.specs.Int.{w64}
use Rattle.std.specs.Str.Parse.{signed_digits_value}
use Rattle.ov_lex.specs.declared.token.TokenKind.{TokenKind}
use Rattle.ov_lex.specs.declared.token.TokenKind.TheVariants.{Word, Quoted, Number, Text, Sign}

-- an ASCII letter or an underscore
abbrev pub begins_word : ℕ → Bool
begins_word b = is_ascii_alphabetic b || b == 95

-- an ASCII letter, a digit or an underscore
abbrev pub continues_word : ℕ → Bool
continues_word b = is_ascii_alphanumeric b || b == 95

abbrev pub IsWord : List ℕ → Type 0
IsWord [] = ⊥
IsWord (b ∷ bs) = IsTrue (begins_word b) × IsTrue (list_all continues_word bs)

abbrev pub is_double_quote : ℕ → Bool
is_double_quote b = b == 34

-- a name of at least one byte, none of them a double quote, between double quotes
pub record IsQuoted (bytes : List ℕ) : Type 0 where
  pub name : List ℕ
  pub between : bytes ≡ 34 ∷ (name ++ 34 ∷ [])
  pub some : 0 < length name
  pub without_quotes : IsTrue (list_all (λ b. not (is_double_quote b)) name)

-- what stands behind a minus sign, if there is one
abbrev pub digits_of : List ℕ → List ℕ
digits_of [] = []
digits_of (b ∷ bs) = if b == 45 then bs else b ∷ bs

-- one or more digits, behind a minus sign or not
pub record IsNumber (bytes : List ℕ) : Type 0 where
  pub some : 0 < length (digits_of bytes)
  pub digits : IsTrue (list_all is_ascii_digit (digits_of bytes))

-- what it says, in decimal
abbrev pub number_of : List ℕ → ℤ
number_of bytes = signed_digits_value 10 bytes

-- a single quote of the text is spelled by two
abbrev pub escaped : ℕ → List ℕ
escaped b = if b == 39 then 39 ∷ 39 ∷ [] else b ∷ []

abbrev pub text_spelling : List ℕ → List ℕ
text_spelling text = 39 ∷ (flat_map escaped text ++ 39 ∷ [])

-- a text between single quotes
pub record IsText (bytes : List ℕ) : Type 0 where
  pub text : List ℕ
  pub spelled : bytes ≡ text_spelling text

abbrev pub is_short_sign : ℕ → Bool
is_short_sign b = list_any (λ s. nat_eq s b) (codes "*,();.=<>")

-- <>  !=  <=  >=
abbrev pub is_long_sign : ℕ → ℕ → Bool
is_long_sign b c = (b == 60 && c == 62) || (b == 33 && c == 61) || (b == 60 && c == 61) || (b == 62 && c == 61)

abbrev pub IsSign : List ℕ → Type 0
IsSign (b ∷ []) = IsTrue (is_short_sign b)
IsSign (b ∷ c ∷ []) = IsTrue (is_long_sign b c)
IsSign _ = ⊥

abbrev pub IsSpelling : TokenKind → List ℕ → Type 0
IsSpelling Word bytes = IsWord bytes
IsSpelling Quoted bytes = IsQuoted bytes
IsSpelling Number bytes = IsNumber bytes
IsSpelling Text bytes = IsText bytes
IsSpelling Sign bytes = IsSign bytes

-- a number says one from -2^63 to 2^63 - 1
abbrev pub IsInRange : TokenKind → List ℕ → Type 0
IsInRange Number bytes = FitsSigned w64 (number_of bytes)
IsInRange _ bytes = Unit {0}

-- The first n bytes are a spelling, no longer front is one of any kind, and if they are a number it is in range: a number takes
-- all the digits that stand there, and one out of range begins no token.
pub record Begins (bytes : List ℕ) (kind : TokenKind) (n : ℕ) : Type 0 where
  pub within : n ≤ length bytes
  pub spelled : IsSpelling kind (take n bytes)
  pub longest : (other : TokenKind) (m : ℕ) → m ≤ length bytes → IsSpelling other (take m bytes) → m ≤ n
  pub in_range : IsInRange kind (take n bytes)

abbrev pub BeginsNone : List ℕ → Type 0
BeginsNone bytes = (kind : TokenKind) (n : ℕ) → Begins bytes kind n → ⊥
