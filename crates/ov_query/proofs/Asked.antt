-- What a text asks, by its tokens.
use Rattle.std.proofs.Common.{◌≡◌, ℕ, List, subst}
use Rattle.ov_lex.specs.declared.token.Token.{Token}
use Rattle.ov_lex.specs.Texts.{AreTokens, IsBad}
use Rattle.ov_model.specs.Grammar.{Spells}
use Rattle.ov_model.specs.JoinGrammar.{SpellsJoin, TokensSpellJoin}
use Rattle.ov_model.specs.QueryTexts.{BadByte, NoQuery, AsksQuery, AsksJoin, Asks, asked_of}
use Rattle.ov_model.specs.declared.query.JoinQuery.{JoinQuery}
use Rattle.ov_model.specs.declared.query.Query.{Query}
use Rattle.ov_model.specs.declared.query.Symbol.{Symbol}
use Rattle.ov_model.proofs.AskedOnce.{asked_once, asks_this}

pub is_query : (text : List ℕ) (tokens : List Token) (query : Query) → AreTokens text tokens → Spells text tokens query → asked_of text ≡ AsksQuery query
is_query text tokens query are spells = asked_once text (asked_of text) (AsksQuery query) (asks_this text) (record { tokens = tokens; are = are; spells = spells })

pub is_join : (text : List ℕ) (tokens : List Token) (join : JoinQuery) → AreTokens text tokens → TokensSpellJoin text tokens join → asked_of text ≡ AsksJoin join
is_join text tokens join are spells = asked_once text (asked_of text) (AsksJoin join) (asks_this text) (record { tokens = tokens; are = are; spells = spells })

pub is_bad : (text : List ℕ) (at : ℕ) → IsBad text at → asked_of text ≡ BadByte at
is_bad text at bad = asked_once text (asked_of text) (BadByte at) (asks_this text) bad

-- tokens that spell neither
pub is_none : (text : List ℕ) (tokens : List Token) → AreTokens text tokens → ((query : Query) → Spells text tokens query → ⊥)
    → ((join : JoinQuery) → TokensSpellJoin text tokens join → ⊥) → asked_of text ≡ NoQuery
is_none text tokens are no_query no_join =
    asked_once text (asked_of text) NoQuery (asks_this text) (record { tokens = tokens; are = are; no_query = no_query; no_join = no_join })

-- some symbols spell the join that a text asks
pub spelled : (text : List ℕ) (join : JoinQuery) → asked_of text ≡ AsksJoin join → (symbols : List Symbol) × SpellsJoin symbols join
spelled text join is =
    let one = subst (Asks text) is (asks_this text)
    in (one.spells.symbols, one.spells.spells)
