-- Why parsing gives no query: none spells the tokens; and the same of joins. Want of memory has no cause in the text.
use Rattle.std.specs.Prelude.{ℕ, List}
use Rattle.ov_lex.specs.declared.token.Token.{Token}
use Rattle.ov_model.specs.declared.query.Query.{Query}
use Rattle.ov_model.specs.Grammar.{Spells}
use Rattle.ov_model.specs.JoinGrammar.{TokensSpellJoin}
use Rattle.ov_model.specs.declared.query.JoinQuery.{JoinQuery}
use Rattle.ov_parse.specs.declared.parsing.ParseErr.{ParseErr}
use Rattle.ov_parse.specs.declared.parsing.ParseErr.TheVariants.{NotAQuery, Memory}

abbrev pub Refuses : List ℕ → List Token → ParseErr → Type 0
Refuses text tokens NotAQuery = (query : Query) → Spells text tokens query → ⊥
Refuses text tokens Memory = Unit {0}

abbrev pub RefusesJoin : List ℕ → List Token → ParseErr → Type 0
RefusesJoin text tokens NotAQuery = (join : JoinQuery) → TokensSpellJoin text tokens join → ⊥
RefusesJoin text tokens Memory = Unit {0}
