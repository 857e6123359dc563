-- The tokens of a whole text, or the first place where no token begins. Places are counted in bytes from 0.
--     Stands text token      the token stands in the text, at its place and up to its end
--     Run text from tokens to      from one place to another the text is these tokens with nothing but blanks between them
--     AreTokens text tokens      the whole text is these tokens, with nothing but blanks between and around them
--     IsBad text at      before this place the text is tokens and blanks, and no token and no blank begins there
use Rattle.std.specs.Prelude.{◌≡◌, ℕ, ◌-◌, ◌<◌, ◌≤◌, Bool, false, ◌||◌, ◌==◌, IsTrue, List, [], ◌∷◌, length, drop, slice_index, slice_range}
use Rattle.ov_lex.specs.declared.token.LexErr.{LexErr}
use Rattle.ov_lex.specs.declared.token.LexErr.TheVariants.{BadByte, Memory}
use Rattle.ov_lex.specs.declared.token.Token.{Token}
use Rattle.ov_lex.specs.Spellings.{Begins, BeginsNone}

-- space, tab and CR
abbrev pub is_blank : ℕ → Bool
is_blank b = b == 32 || b == 9 || b == 13

-- nothing but blanks stands from one place to another
pub record Blank (text : List ℕ) (from to : ℕ) : Type 0 where
  pub forward : from ≤ to
  pub within : to ≤ length text
  pub blanks : (k : ℕ) → from ≤ k → k < to → IsTrue (is_blank (slice_index text k))

-- the bytes of a token
abbrev pub spelling_of : List ℕ → Token → List ℕ
spelling_of text token = slice_range text token.at token.end

pub record Stands (text : List ℕ) (token : Token) : Type 0 where
  pub forward : token.at ≤ token.end
  pub longest : Begins (drop token.at text) token.kind (token.end - token.at)

abbrev pub Run : List ℕ → ℕ → List Token → ℕ → Type 0
Run text from [] to = from ≡ to
Run text from (token ∷ tokens) to = Blank text from token.at × Stands text token × Run text token.end tokens to

pub record AreTokens (text : List ℕ) (tokens : List Token) : Type 0 where
  pub to : ℕ
  pub run : Run text 0 tokens to
  pub last : Blank text to (length text)

pub record IsBad (text : List ℕ) (at : ℕ) : Type 0 where
  pub before : List Token
  pub to : ℕ
  pub run : Run text 0 before to
  pub blank : Blank text to at
  pub within : at < length text
  pub no_blank : is_blank (slice_index text at) ≡ false
  pub no_token : BeginsNone (drop at text)

-- why there are no tokens; want of memory has no cause in the text
abbrev pub Refuses : List ℕ → LexErr → Type 0
Refuses text (BadByte at) = IsBad text at
Refuses text Memory = Unit {0}
