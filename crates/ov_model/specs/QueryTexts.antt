-- What the text of a `run` asks: as a relation, by its tokens and what they spell, and by computing it from left to right.
--     Asks text asked      this is what the text asks
--     symbols_of text tokens      what the tokens of a text say; none where one of them says nothing
--     asked_of text      what the text asks, computed
use Rattle.std.specs.Prelude.{ℕ, ◌-◌, ◌==◌, if◌then◌else◌, List, [], ◌∷◌, length, take, Option, Some, Result, Ok, Err}
use Rattle.std.specs.Option.{option_map}
use Rattle.std.specs.Str.Parse.{starts_with_minus}
use Rattle.ov_lex.specs.declared.token.Token.{Token}
use Rattle.ov_lex.specs.declared.token.TokenKind.{TokenKind}
use Rattle.ov_lex.specs.declared.token.TokenKind.TheVariants as token
use Rattle.ov_lex.specs.Lexing.{tokens_of}
use Rattle.ov_lex.specs.Spellings.{number_of}
use Rattle.ov_lex.specs.Texts.{spelling_of, AreTokens, IsBad}
use Rattle.ov_model.specs.Grammar.{found_in, signs, keyword_of, word_says, Spells}
use Rattle.ov_model.specs.JoinGrammar.{TokensSpellJoin}
use Rattle.ov_model.specs.JoinReading.{join_of}
use Rattle.ov_model.specs.Reading.{◌>>=◌, or_else, query_of}
use Rattle.ov_model.specs.declared.query.Query.{Query}
use Rattle.ov_model.specs.declared.query.JoinQuery.{JoinQuery}
use Rattle.ov_model.specs.declared.query.Symbol.{Symbol}
use Rattle.ov_model.specs.declared.query.Symbol.TheVariants.{Fixed, Name, Number, Text}

-- ---- as a relation

pub data Asked : Type 0 where
  -- at this byte no token begins
  BadByte : (at : ℕ) → Asked
  -- its tokens spell neither a query nor a join
  NoQuery : Asked
  -- its tokens spell this query
  AsksQuery : (query : Query) → Asked
  -- its tokens spell this join
  AsksJoin : (join : JoinQuery) → Asked

pub record SpellsNone (text : List ℕ) : Type 0 where
  pub tokens : List Token
  pub are : AreTokens text tokens
  pub no_query : (query : Query) → Spells text tokens query → ⊥
  pub no_join : (join : JoinQuery) → TokensSpellJoin text tokens join → ⊥

pub record SpellsOne (text : List ℕ) (query : Query) : Type 0 where
  pub tokens : List Token
  pub are : AreTokens text tokens
  pub spells : Spells text tokens query

pub record SpellsOneJoin (text : List ℕ) (join : JoinQuery) : Type 0 where
  pub tokens : List Token
  pub are : AreTokens text tokens
  pub spells : TokensSpellJoin text tokens join

abbrev pub Asks : List ℕ → Asked → Type 0
Asks text (BadByte at) = IsBad text at
Asks text NoQuery = SpellsNone text
Asks text (AsksQuery query) = SpellsOne text query
Asks text (AsksJoin join) = SpellsOneJoin text join

-- ---- by computing it

-- what stands between two quotes
abbrev pub inside : List ℕ → List ℕ
inside [] = []
inside (quote ∷ bytes) = take (length bytes - 1) bytes

-- two single quotes stand for one
unfoldable pub unescaped : List ℕ → List ℕ
unescaped [] = []
unescaped (b ∷ []) = b ∷ []
unescaped (b ∷ c ∷ bytes) = if b == 39 then 39 ∷ unescaped bytes else b ∷ unescaped (c ∷ bytes)

-- the symbol that a spelling of this kind says
abbrev pub said_by : TokenKind → List ℕ → Option Symbol
said_by token.Word bytes = Some (word_says (keyword_of bytes) bytes)
said_by token.Quoted bytes = Some (Name (inside bytes))
said_by token.Number bytes = Some (Number (number_of bytes) (starts_with_minus bytes))
said_by token.Text bytes = Some (Text (unescaped (inside bytes)))
said_by token.Sign bytes = option_map Fixed (found_in signs bytes)

abbrev pub symbols_of : List ℕ → List Token → Option (List Symbol)
symbols_of text [] = Some []
symbols_of text (token ∷ tokens) = do
  symbol ← said_by token.kind (spelling_of text token)
  symbols ← symbols_of text tokens
  Some (symbol ∷ symbols)

abbrev pub asked_by_symbols : List Symbol → Asked
asked_by_symbols symbols = or_else (query_of symbols) AsksQuery (or_else (join_of symbols) AsksJoin NoQuery)

abbrev pub asked_by_tokens : List ℕ → Result (List Token) ℕ → Asked
asked_by_tokens text (Ok tokens) = or_else (symbols_of text tokens) asked_by_symbols NoQuery
asked_by_tokens text (Err at) = BadByte at

unfoldable pub asked_of : List ℕ → Asked
asked_of text = asked_by_tokens text (tokens_of text)
