-- What spells a join, which is a query over two versions side by side. Conditions, keys, LIMIT and the end are spelled as in a
-- query, but over columns of one side each.
--     IsSideCol symbols col      LEFT or RIGHT, a dot and a name
--     IsSide symbols side      the version of a side
--     IsEquation symbols names      the columns of both sides that have to be equal
--     SpellsJoin symbols join      the symbols spell this join
--     TokensSpellJoin text tokens join      the tokens of the text spell this join
use Rattle.std.specs.Prelude.{◌≡◌, ℕ, pos, false, List, [], ◌∷◌, ◌++◌}
use Rattle.ov_lex.specs.declared.token.Token.{Token}
use Rattle.ov_model.specs.Grammar.{AllSay, Joined, IsLiteral, IsOperandTest, IsCondOf, IsItems, of_cvd, IsGuard, IsOrder, IsLimit, IsEnd}
use Rattle.ov_model.specs.declared.query.JoinQuery.{JoinQuery}
use Rattle.ov_model.specs.declared.query.Side.{Side}
use Rattle.ov_model.specs.declared.query.Col.{Col}
use Rattle.ov_model.specs.declared.query.Col.TheVariants as col
use Rattle.ov_model.specs.declared.query.Term.{Term}
use Rattle.ov_model.specs.declared.query.Term.TheVariants as term
use Rattle.ov_model.specs.declared.query.Operand.{Operand}
use Rattle.ov_model.specs.declared.query.Operand.TheVariants as operand
use Rattle.ov_model.specs.declared.query.Cond.{Cond}
use Rattle.ov_model.specs.declared.query.Fixed.TheVariants as f
use Rattle.ov_model.specs.declared.query.Symbol.{Symbol}
use Rattle.ov_model.specs.declared.query.Symbol.TheVariants.{Fixed as fixed, Name, Number}

-- ---- columns and conditions

abbrev pub IsSideCol : List Symbol → Col → Type 0
IsSideCol symbols col.Vid = ⊥
IsSideCol symbols (col.Name _) = ⊥
IsSideCol symbols (col.Left name) = symbols ≡ fixed f.Left ∷ fixed f.Dot ∷ Name name ∷ []
IsSideCol symbols (col.Right name) = symbols ≡ fixed f.Right ∷ fixed f.Dot ∷ Name name ∷ []

-- a join has no aggregates
abbrev pub IsSideTerm : List Symbol → Term → Type 0
IsSideTerm symbols (term.Plain of) = IsSideCol symbols of
IsSideTerm symbols term.CountAll = ⊥
IsSideTerm symbols (term.Count _) = ⊥
IsSideTerm symbols (term.Sum _) = ⊥
IsSideTerm symbols (term.Min _) = ⊥
IsSideTerm symbols (term.Max _) = ⊥

abbrev pub IsSideOperand : List Symbol → Operand → Type 0
IsSideOperand symbols (operand.Term t) = IsSideTerm symbols t
IsSideOperand symbols (operand.Literal v) = IsLiteral symbols v

-- nor tests for lineages
abbrev pub IsSideTest : List Symbol → Cond → Type 0
IsSideTest symbols c = IsOperandTest IsSideOperand symbols c

abbrev pub IsJoinCond : List Symbol → Cond → Type 0
IsJoinCond symbols c = IsCondOf IsSideTest symbols c

-- ---- FROM and ON

-- VERSION count OF CVD name
abbrev pub IsSide : List Symbol → Side → Type 0
IsSide symbols side = symbols ≡ fixed f.Version ∷ Number (pos side.vid) false ∷ of_cvd side.cvd

-- LEFT . name = RIGHT . name
abbrev pub IsEquation : List Symbol → List ℕ × List ℕ → Type 0
IsEquation symbols names =
    symbols ≡ fixed f.Left ∷ fixed f.Dot ∷ Name names.0 ∷ fixed f.Equal ∷ fixed f.Right ∷ fixed f.Dot ∷ Name names.1 ∷ []

-- ---- joins

pub record SpellsJoin (symbols : List Symbol) (join : JoinQuery) : Type 0 where
  pub shown : List Symbol
  pub left : List Symbol
  pub right : List Symbol
  pub matched : List Symbol
  pub kept : List Symbol
  pub ordered : List Symbol
  pub limited : List Symbol
  pub ended : List Symbol
  pub symbols_are : symbols ≡ fixed f.Select ∷ (shown ++ fixed f.From ∷ (left ++ fixed f.Join ∷ (right ++ fixed f.On ∷ (matched ++ (kept ++ (ordered ++ (limited ++ ended)))))))
  pub items_are : IsItems IsSideTerm shown join.items
  pub left_is : IsSide left join.left
  pub right_is : IsSide right join.right
  pub on_is : Joined f.And IsEquation matched join.on
  pub filter_is : IsGuard f.Where IsJoinCond kept join.filter
  pub order_is : IsOrder IsSideTerm ordered join.order
  pub limit_is : IsLimit limited join.limit
  pub end_is : IsEnd ended

pub record TokensSpellJoin (text : List ℕ) (tokens : List Token) (join : JoinQuery) : Type 0 where
  pub symbols : List Symbol
  pub says : AllSay text tokens symbols
  pub spells : SpellsJoin symbols join
