-- A text asks one thing, which is what is computed.
use Rattle.std.proofs.Common.{◌≡◌, ℕ, List, Option, Some, None, Result, Ok, Err, MatchResult, refl, ap, subst, arith}
use Rattle.ov_lex.specs.declared.token.Token.{Token}
use Rattle.ov_lex.specs.Texts.{AreTokens, IsBad}
use Rattle.ov_lex.specs.Lexing.{tokens_of}
use Rattle.ov_lex.proofs.Lexing.{are_read}
use Rattle.ov_lex.proofs.Runs.{one_reading, tokens_end, bad_ends}
use Rattle.ov_model.specs.QueryTexts.{Asked, BadByte, NoQuery, AsksQuery, AsksJoin, SpellsNone, SpellsOne, SpellsOneJoin, Asks, asked_by_tokens, asked_of}
use Rattle.ov_model.specs.JoinGrammar.{TokensSpellJoin}
use Rattle.ov_model.specs.JoinReading.{join_of}
use Rattle.ov_model.specs.Reading.{or_else, query_of}
use Rattle.ov_model.specs.Grammar.{AllSay, Spells}
use Rattle.ov_model.specs.declared.query.Query.{Query}
use Rattle.ov_model.specs.declared.query.JoinQuery.{JoinQuery}
use Rattle.ov_model.specs.declared.query.Symbol.{Symbol}
use Rattle.ov_model.proofs.Deciding.{is_spelled, is_none, one_query_is, is_join, is_no_join, one_join_is, no_query_joins}
use Rattle.ov_model.proofs.Symbols.{tokens_said}

one_list : (text : List ℕ) (xs ys : List Token) → AreTokens text xs → AreTokens text ys → xs ≡ ys
one_list text xs ys g h = (one_reading text 0 xs ys _ _ _ _ g.run (tokens_end text xs g) h.run (tokens_end text ys h)).0

one_bad : (text : List ℕ) (i j : ℕ) → IsBad text i → IsBad text j → i ≡ j
one_bad text i j g h = (one_reading text 0 g.before h.before _ _ _ _ g.run (bad_ends text i g) h.run (bad_ends text j h)).1

no_both : (text : List ℕ) (xs : List Token) (at : ℕ) → AreTokens text xs → IsBad text at → ⊥
no_both text xs at g h = omega (arith, (one_reading text 0 xs h.before _ _ _ _ g.run (tokens_end text xs g) h.run (bad_ends text at h)).1, h.within)

no_query : (text : List ℕ) (query : Query) → SpellsNone text → SpellsOne text query → ⊥
no_query text query none one = none.no_query query (subst (λ tokens. Spells text tokens query) (one_list text one.tokens none.tokens one.are none.are) one.spells)

no_join : (text : List ℕ) (join : JoinQuery) → SpellsNone text → SpellsOneJoin text join → ⊥
no_join text join none one = none.no_join join (subst (λ tokens. TokensSpellJoin text tokens join) (one_list text one.tokens none.tokens one.are none.are) one.spells)

not_both : (text : List ℕ) (query : Query) (join : JoinQuery) → SpellsOne text query → SpellsOneJoin text join → ⊥
not_both text query join g h =
    no_query_joins text h.tokens query join (subst (λ tokens. Spells text tokens query) (one_list text g.tokens h.tokens g.are h.are) g.spells) h.spells

same_query : (text : List ℕ) (p q : Query) → SpellsOne text p → SpellsOne text q → p ≡ q
same_query text p q g h =
    one_query_is text h.tokens p q (subst (λ tokens. Spells text tokens p) (one_list text g.tokens h.tokens g.are h.are) g.spells) h.spells

same_join : (text : List ℕ) (i j : JoinQuery) → SpellsOneJoin text i → SpellsOneJoin text j → i ≡ j
same_join text i j g h =
    one_join_is text h.tokens i j (subst (λ tokens. TokensSpellJoin text tokens i) (one_list text g.tokens h.tokens g.are h.are) g.spells) h.spells

pub asked_once : (text : List ℕ) (a b : Asked) → Asks text a → Asks text b → a ≡ b
asked_once text (BadByte i) (BadByte j) g h = ap BadByte (one_bad text i j g h)
asked_once text (BadByte i) NoQuery g h = absurd (no_both text h.tokens i h.are g)
asked_once text (BadByte i) (AsksQuery q) g h = absurd (no_both text h.tokens i h.are g)
asked_once text (BadByte i) (AsksJoin j) g h = absurd (no_both text h.tokens i h.are g)
asked_once text NoQuery (BadByte j) g h = absurd (no_both text g.tokens j g.are h)
asked_once text NoQuery NoQuery g h = refl
asked_once text NoQuery (AsksQuery q) g h = absurd (no_query text q g h)
asked_once text NoQuery (AsksJoin j) g h = absurd (no_join text j g h)
asked_once text (AsksQuery p) (BadByte j) g h = absurd (no_both text g.tokens j g.are h)
asked_once text (AsksQuery p) NoQuery g h = absurd (no_query text p h g)
asked_once text (AsksQuery p) (AsksQuery q) g h = ap AsksQuery (same_query text p q g h)
asked_once text (AsksQuery p) (AsksJoin j) g h = absurd (not_both text p j g h)
asked_once text (AsksJoin i) (BadByte j) g h = absurd (no_both text g.tokens j g.are h)
asked_once text (AsksJoin i) NoQuery g h = absurd (no_join text i h g)
asked_once text (AsksJoin i) (AsksQuery q) g h = absurd (not_both text q i h g)
asked_once text (AsksJoin i) (AsksJoin j) g h = ap AsksJoin (same_join text i j g h)

-- ---- what is computed

asks-by : (text : List ℕ) (tokens : List Token) (symbols : List Symbol) (query : Option Query) (join : Option JoinQuery) → AreTokens text tokens → AllSay text tokens symbols → query_of symbols ≡ query → join_of symbols ≡ join
    → Asks text (or_else query AsksQuery (or_else join AsksJoin NoQuery))
asks-by text tokens symbols (Some query) join are say e d = record { tokens = tokens; are = are; spells = is_spelled text tokens symbols query say e }
asks-by text tokens symbols None (Some join) are say e d = record { tokens = tokens; are = are; spells = is_join text tokens symbols join say d }
asks-by text tokens symbols None None are say e d = record { tokens = tokens; are = are; no_query = is_none text tokens symbols say e; no_join = is_no_join text tokens symbols say d }

asks-tokens : (text : List ℕ) (tokens : List Token) → AreTokens text tokens → Asks text (asked_by_tokens text (Ok tokens))
asks-tokens text tokens are =
    let said = tokens_said text tokens are in
    rw said.found (asks-by text tokens said.symbols (query_of said.symbols) (join_of said.symbols) are said.say refl refl)

asks-read : (text : List ℕ) (read : Result (List Token) ℕ) → MatchResult read (AreTokens text) (IsBad text) → Asks text (asked_by_tokens text read)
asks-read text (Ok tokens) are = asks-tokens text tokens are
asks-read text (Err at) bad = bad

pub asks_this : (text : List ℕ) → Asks text (asked_of text)
unfolding asked_of
asks_this text = asks-read text (tokens_of text) (are_read text)
