-- What spells a query: first what each token says, then which symbols spell which query.
--     Says text token symbol      what a token of the text says
--     IsCol, IsTerm, IsOperand, IsLineage, IsKey ..      the symbols, all of them, spell this part
--     IsCondOf test symbols cond      the symbols spell this condition, whose tests are such
--     IsCond aggregates symbols cond      the same with the tests of a query; aggregates may stand in it, or not
--     SpellsQuery symbols query      the symbols spell this query
--     Spells text tokens query      the tokens of the text spell this query
use Rattle.std.specs.Prelude.{◌≡◌, ℕ, zero, suc, ◌⊎◌, Bool, true, false, if◌then◌else◌, pos, List, [], ◌∷◌, ◌++◌, map, codes, nat_eq, Option, Some, None}
use Rattle.std.specs.Cmp.Lexicographic.{pointwise}
use Rattle.std.specs.Char.{to_ascii_lowercase}
use Rattle.std.specs.Str.Parse.{starts_with_minus}
use Rattle.ov_lex.specs.declared.token.Token.{Token}
use Rattle.ov_lex.specs.declared.token.TokenKind.{TokenKind}
use Rattle.ov_lex.specs.declared.token.TokenKind.TheVariants as token
use Rattle.ov_lex.specs.Spellings.{number_of, text_spelling}
use Rattle.ov_lex.specs.Texts.{spelling_of}
use Rattle.ov_value.specs.declared.value.Value.{Value}
use Rattle.ov_value.specs.declared.value.Value.TheVariants as value
use Rattle.ov_model.specs.declared.query.Query.{Query}
use Rattle.ov_model.specs.declared.query.Items.{Items}
use Rattle.ov_model.specs.declared.query.Items.TheVariants as items
use Rattle.ov_model.specs.declared.query.Src.{Src}
use Rattle.ov_model.specs.declared.query.Src.TheVariants as source
use Rattle.ov_model.specs.declared.query.LineageKind.{LineageKind}
use Rattle.ov_model.specs.declared.query.LineageKind.TheVariants as lineage
use Rattle.ov_model.specs.declared.query.Col.{Col}
use Rattle.ov_model.specs.declared.query.Col.TheVariants as col
use Rattle.ov_model.specs.declared.query.Term.{Term}
use Rattle.ov_model.specs.declared.query.Term.TheVariants as term
use Rattle.ov_model.specs.declared.query.Key.{Key}
use Rattle.ov_model.specs.declared.query.Operand.{Operand}
use Rattle.ov_model.specs.declared.query.Operand.TheVariants as operand
use Rattle.ov_model.specs.declared.query.Sign.{Sign}
use Rattle.ov_model.specs.declared.query.Sign.TheVariants as sign
use Rattle.ov_model.specs.declared.query.Cond.{Cond}
use Rattle.ov_model.specs.declared.query.Cond.TheVariants as cond
use Rattle.ov_model.specs.declared.query.Fixed.{Fixed}
use Rattle.ov_model.specs.declared.query.Fixed.TheVariants as f
use Rattle.ov_model.specs.declared.query.Symbol.{Symbol}
use Rattle.ov_model.specs.declared.query.Symbol.TheVariants.{Fixed as fixed, Name, Number, Text}

-- ---- what a token says

-- the keywords, as their letters are in lower case
abbrev pub clause_words : List (List ℕ × Fixed)
clause_words =
    (codes "select", f.Select) ∷ (codes "from", f.From) ∷ (codes "version", f.Version) ∷ (codes "of", f.Of) ∷ (codes "cvd", f.Cvd)
    ∷ (codes "where", f.Where) ∷ (codes "group", f.Group) ∷ (codes "by", f.By) ∷ []

abbrev pub order_words : List (List ℕ × Fixed)
order_words =
    (codes "having", f.Having) ∷ (codes "order", f.Order) ∷ (codes "limit", f.Limit) ∷ (codes "asc", f.Asc) ∷ (codes "desc", f.Desc)
    ∷ (codes "and", f.And) ∷ (codes "or", f.Or) ∷ (codes "not", f.Not) ∷ []

abbrev pub value_words : List (List ℕ × Fixed)
value_words =
    (codes "count", f.Count) ∷ (codes "sum", f.Sum) ∷ (codes "min", f.Min) ∷ (codes "max", f.Max) ∷ (codes "true", f.True)
    ∷ (codes "false", f.False) ∷ (codes "vid", f.Vid) ∷ (codes "is", f.Is) ∷ (codes "null", f.Null) ∷ []

abbrev pub relation_words : List (List ℕ × Fixed)
relation_words =
    (codes "join", f.Join) ∷ (codes "on", f.On) ∷ (codes "left", f.Left) ∷ (codes "right", f.Right) ∷ (codes "parents", f.Parents)
    ∷ (codes "ancestors", f.Ancestors) ∷ (codes "descendants", f.Descendants) ∷ (codes "in", f.In) ∷ []

abbrev pub keywords : List (List ℕ × Fixed)
keywords = clause_words ++ (order_words ++ (value_words ++ relation_words))

abbrev pub signs : List (List ℕ × Fixed)
signs =
    (codes "*", f.Star) ∷ (codes ",", f.Comma) ∷ (codes "(", f.Open) ∷ (codes ")", f.Close) ∷ (codes ";", f.Semicolon)
    ∷ (codes ".", f.Dot) ∷ (codes "=", f.Equal) ∷ (codes "<>", f.Unequal) ∷ (codes "!=", f.Unequal) ∷ (codes "<", f.Less)
    ∷ (codes "<=", f.LessOrEqual) ∷ (codes ">", f.Greater) ∷ (codes ">=", f.GreaterOrEqual) ∷ []

-- the first one that is spelled so
unfoldable pub found_in : List (List ℕ × Fixed) → List ℕ → Option Fixed
found_in [] bytes = None
found_in (entry ∷ entries) bytes = if pointwise nat_eq bytes entry.0 then Some entry.1 else found_in entries bytes

-- a keyword in any case of letters
unfoldable pub keyword_of : List ℕ → Option Fixed
keyword_of bytes = found_in keywords (map to_ascii_lowercase bytes)

abbrev pub word_says : Option Fixed → List ℕ → Symbol
word_says (Some word) bytes = fixed word
word_says None bytes = Name bytes

-- what a spelling of each kind says
abbrev pub SpellingSays : TokenKind → List ℕ → Symbol → Type 0
SpellingSays token.Word bytes symbol = symbol ≡ word_says (keyword_of bytes) bytes
SpellingSays token.Quoted bytes symbol = (name : List ℕ) × (bytes ≡ 34 ∷ (name ++ 34 ∷ [])) × (symbol ≡ Name name)
SpellingSays token.Number bytes symbol = symbol ≡ Number (number_of bytes) (starts_with_minus bytes)
SpellingSays token.Text bytes symbol = (text : List ℕ) × (bytes ≡ text_spelling text) × (symbol ≡ Text text)
SpellingSays token.Sign bytes symbol = (word : Fixed) × (found_in signs bytes ≡ Some word) × (symbol ≡ fixed word)

abbrev pub Says : List ℕ → Token → Symbol → Type 0
Says text token symbol = SpellingSays token.kind (spelling_of text token) symbol

-- one symbol a token
abbrev pub AllSay : List ℕ → List Token → List Symbol → Type 0
AllSay text [] [] = Unit {0}
AllSay text (token ∷ tokens) (symbol ∷ symbols) = Says text token symbol × AllSay text tokens symbols
AllSay _ _ _ = ⊥

-- ---- lists

-- items, at least one, with a separator between each two
abbrev pub Joined : {A : Type 0} → Fixed → (List Symbol → A → Type 0) → List Symbol → List A → Type 0
Joined between item symbols [] = ⊥
Joined between item symbols (x ∷ []) = item symbols x
Joined between item symbols (x ∷ y ∷ xs) = (first : List Symbol) × (others : List Symbol) × (symbols ≡ first ++ fixed between ∷ others) × item first x × Joined between item others (y ∷ xs)

-- ---- columns, terms and operands

abbrev pub IsCol : List Symbol → Col → Type 0
IsCol symbols col.Vid = symbols ≡ fixed f.Vid ∷ []
IsCol symbols (col.Name name) = symbols ≡ Name name ∷ []
IsCol symbols (col.Left _) = ⊥
IsCol symbols (col.Right _) = ⊥

-- the word, and a column in parentheses
pub record IsCall (word : Fixed) (symbols : List Symbol) (of : Col) : Type 0 where
  pub inner : List Symbol
  pub symbols_are : symbols ≡ fixed word ∷ fixed f.Open ∷ (inner ++ fixed f.Close ∷ [])
  pub is_col : IsCol inner of

abbrev pub IsTerm : List Symbol → Term → Type 0
IsTerm symbols (term.Plain of) = IsCol symbols of
IsTerm symbols term.CountAll = symbols ≡ fixed f.Count ∷ fixed f.Open ∷ fixed f.Star ∷ fixed f.Close ∷ []
IsTerm symbols (term.Count of) = IsCall f.Count symbols of
IsTerm symbols (term.Sum of) = IsCall f.Sum symbols of
IsTerm symbols (term.Min of) = IsCall f.Min symbols of
IsTerm symbols (term.Max of) = IsCall f.Max symbols of

abbrev pub flag_word : Bool → Fixed
flag_word true = f.True
flag_word false = f.False

abbrev pub IsLiteral : List Symbol → Value → Type 0
IsLiteral symbols (value.Int number) = (minus : Bool) × (symbols ≡ Number number minus ∷ [])
IsLiteral symbols (value.Text text) = symbols ≡ Text text ∷ []
IsLiteral symbols (value.Flag flag) = symbols ≡ fixed (flag_word flag) ∷ []
IsLiteral symbols value.Null = ⊥

-- a column always may stand; an aggregate, where aggregates may
abbrev pub MayStand : Bool → Term → Type 0
MayStand aggregates (term.Plain _) = Unit {0}
MayStand aggregates _ = aggregates ≡ true

abbrev pub IsOperand : Bool → List Symbol → Operand → Type 0
IsOperand aggregates symbols (operand.Term t) = IsTerm symbols t × MayStand aggregates t
IsOperand aggregates symbols (operand.Literal v) = IsLiteral symbols v

-- a number without a minus sign
abbrev pub IsCount : List Symbol → ℕ → Type 0
IsCount symbols n = symbols ≡ Number (pos n) false ∷ []

abbrev pub lineage_word : LineageKind → Fixed
lineage_word lineage.Parents = f.Parents
lineage_word lineage.Ancestors = f.Ancestors
lineage_word lineage.Descendants = f.Descendants

abbrev pub IsLineage : List Symbol → LineageKind → ℕ → Type 0
IsLineage symbols kind vid = symbols ≡ fixed (lineage_word kind) ∷ fixed f.Open ∷ Number (pos vid) false ∷ fixed f.Close ∷ []

-- ---- conditions

abbrev pub sign_word : Sign → Fixed
sign_word sign.Eq = f.Equal
sign_word sign.Ne = f.Unequal
sign_word sign.Lt = f.Less
sign_word sign.Le = f.LessOrEqual
sign_word sign.Gt = f.Greater
sign_word sign.Ge = f.GreaterOrEqual

abbrev pub not_word : Bool → List Symbol
not_word true = fixed f.Not ∷ []
not_word false = []

-- operand sign operand
pub record IsComparison (operand : List Symbol → Operand → Type 0) (symbols : List Symbol) (c : Cond) : Type 0 where
  pub before : List Symbol
  pub after : List Symbol
  pub left : Operand
  pub by : Sign
  pub right : Operand
  pub symbols_are : symbols ≡ before ++ fixed (sign_word by) ∷ after
  pub left_is : operand before left
  pub right_is : operand after right
  pub cond_is : c ≡ cond.Compare left by right

-- operand IS [NOT] NULL
pub record IsNullTest (operand : List Symbol → Operand → Type 0) (symbols : List Symbol) (c : Cond) : Type 0 where
  pub before : List Symbol
  pub tested : Operand
  pub negated : Bool
  pub symbols_are : symbols ≡ before ++ fixed f.Is ∷ (not_word negated ++ fixed f.Null ∷ [])
  pub operand_is : operand before tested
  pub cond_is : c ≡ cond.IsNull tested negated

abbrev pub IsOperandTest : (List Symbol → Operand → Type 0) → List Symbol → Cond → Type 0
IsOperandTest operand symbols c = IsComparison operand symbols c ⊎ IsNullTest operand symbols c

-- VID [NOT] IN lineage
pub record IsLineageTest (symbols : List Symbol) (c : Cond) : Type 0 where
  pub inner : List Symbol
  pub kind : LineageKind
  pub vid : ℕ
  pub negated : Bool
  pub symbols_are : symbols ≡ fixed f.Vid ∷ (not_word negated ++ fixed f.In ∷ inner)
  pub lineage_is : IsLineage inner kind vid
  pub cond_is : c ≡ cond.InLineage kind vid negated

abbrev pub IsTest : Bool → List Symbol → Cond → Type 0
IsTest aggregates symbols c = IsOperandTest (IsOperand aggregates) symbols c ⊎ IsLineageTest symbols c

-- one stands for itself; more are a node
abbrev pub every : List Cond → Cond
every [] = cond.Every []
every (c ∷ []) = c
every (c ∷ d ∷ cs) = cond.Every (c ∷ d ∷ cs)

abbrev pub any : List Cond → Cond
any [] = cond.Any []
any (c ∷ []) = c
any (c ∷ d ∷ cs) = cond.Any (c ∷ d ∷ cs)

-- unit {AND unit}
pub record IsConj (unit : List Symbol → Cond → Type 0) (symbols : List Symbol) (c : Cond) : Type 0 where
  pub members : List Cond
  pub joined : Joined f.And unit symbols members
  pub cond_is : c ≡ every members

-- conj {OR conj}
pub record IsDisj (conj : List Symbol → Cond → Type 0) (symbols : List Symbol) (c : Cond) : Type 0 where
  pub members : List Cond
  pub joined : Joined f.Or conj symbols members
  pub cond_is : c ≡ any members

-- NOT unit
pub record IsNegation (unit : List Symbol → Cond → Type 0) (symbols : List Symbol) (c : Cond) : Type 0 where
  pub inner : List Symbol
  pub negated : Cond
  pub symbols_are : symbols ≡ fixed f.Not ∷ inner
  pub unit_is : unit inner negated
  pub cond_is : c ≡ cond.Not negated

-- ( cond ); parentheses make no node
pub record IsInParentheses (whole : List Symbol → Cond → Type 0) (symbols : List Symbol) (c : Cond) : Type 0 where
  pub inner : List Symbol
  pub symbols_are : symbols ≡ fixed f.Open ∷ (inner ++ fixed f.Close ∷ [])
  pub inner_is : whole inner c

-- a unit, of such tests, within which at most so many of `NOT unit` and `( cond )` stand one in another
unfoldable pub IsUnit : (List Symbol → Cond → Type 0) → ℕ → List Symbol → Cond → Type 0
IsUnit test zero symbols c = test symbols c
IsUnit test (suc depth) symbols c =
    test symbols c ⊎ (IsNegation (IsUnit test depth) symbols c ⊎ IsInParentheses (IsDisj (IsConj (IsUnit test depth))) symbols c)

-- at no place are more than 100 of them open
abbrev pub IsCondOf : (List Symbol → Cond → Type 0) → List Symbol → Cond → Type 0
IsCondOf test symbols c = IsDisj (IsConj (IsUnit test 100)) symbols c

abbrev pub IsCond : Bool → List Symbol → Cond → Type 0
IsCond aggregates symbols c = IsCondOf (IsTest aggregates) symbols c

-- ---- the parts of a query

-- *, or such terms
abbrev pub IsItems : (List Symbol → Term → Type 0) → List Symbol → Items → Type 0
IsItems item symbols items.Everything = symbols ≡ fixed f.Star ∷ []
IsItems item symbols (items.Terms terms) = Joined f.Comma item symbols terms

abbrev pub of_cvd : List ℕ → List Symbol
of_cvd name = fixed f.Of ∷ fixed f.Cvd ∷ Name name ∷ []

pub record IsListed (symbols : List Symbol) (vids : List ℕ) (name : List ℕ) : Type 0 where
  pub listed : List Symbol
  pub symbols_are : symbols ≡ fixed f.Version ∷ (listed ++ of_cvd name)
  pub vids_are : Joined f.Comma IsCount listed vids

pub record IsOfLineage (symbols : List Symbol) (kind : LineageKind) (vid : ℕ) (name : List ℕ) : Type 0 where
  pub inner : List Symbol
  pub symbols_are : symbols ≡ inner ++ of_cvd name
  pub lineage_is : IsLineage inner kind vid

abbrev pub IsSource : List Symbol → Src → Type 0
IsSource symbols (source.Listed vids name) = IsListed symbols vids name
IsSource symbols (source.Whole name) = symbols ≡ fixed f.Cvd ∷ Name name ∷ []
IsSource symbols (source.Lineage kind vid name) = IsOfLineage symbols kind vid name

-- a keyword before such a condition, or nothing
abbrev pub IsGuard : Fixed → (List Symbol → Cond → Type 0) → List Symbol → Option Cond → Type 0
IsGuard word condition symbols None = symbols ≡ []
IsGuard word condition symbols (Some c) = (inner : List Symbol) × (symbols ≡ fixed word ∷ inner) × condition inner c

pub record IsGrouped (symbols : List Symbol) (groups : List Col) (having : Option Cond) : Type 0 where
  pub listed : List Symbol
  pub guard : List Symbol
  pub symbols_are : symbols ≡ fixed f.Group ∷ fixed f.By ∷ (listed ++ guard)
  pub groups_are : Joined f.Comma IsCol listed groups
  pub having_is : IsGuard f.Having (IsCond true) guard having

-- GROUP BY with HAVING or without it, or neither
abbrev pub IsGrouping : List Symbol → List Col → Option Cond → Type 0
IsGrouping symbols [] having = (symbols ≡ []) × (having ≡ None)
IsGrouping symbols (g ∷ gs) having = IsGrouped symbols (g ∷ gs) having

-- nothing and ASC say the same
abbrev pub IsDirection : List Symbol → Bool → Type 0
IsDirection symbols true = symbols ≡ fixed f.Desc ∷ []
IsDirection symbols false = (symbols ≡ []) ⊎ (symbols ≡ fixed f.Asc ∷ [])

-- such a term, and its direction
pub record IsKey (by : List Symbol → Term → Type 0) (symbols : List Symbol) (key : Key) : Type 0 where
  pub before : List Symbol
  pub direction : List Symbol
  pub symbols_are : symbols ≡ before ++ direction
  pub term_is : by before key.term
  pub direction_is : IsDirection direction key.down

-- ORDER BY and keys of such terms, or nothing
abbrev pub IsOrder : (List Symbol → Term → Type 0) → List Symbol → List Key → Type 0
IsOrder by symbols [] = symbols ≡ []
IsOrder by symbols (k ∷ ks) = (listed : List Symbol) × (symbols ≡ fixed f.Order ∷ fixed f.By ∷ listed) × Joined f.Comma (IsKey by) listed (k ∷ ks)

abbrev pub IsLimit : List Symbol → Option ℕ → Type 0
IsLimit symbols None = symbols ≡ []
IsLimit symbols (Some n) = symbols ≡ fixed f.Limit ∷ Number (pos n) false ∷ []

abbrev pub IsEnd : List Symbol → Type 0
IsEnd symbols = (symbols ≡ []) ⊎ (symbols ≡ fixed f.Semicolon ∷ [])

-- ---- queries

pub record SpellsQuery (symbols : List Symbol) (query : Query) : Type 0 where
  pub shown : List Symbol
  pub read : List Symbol
  pub kept : List Symbol
  pub grouped : List Symbol
  pub ordered : List Symbol
  pub limited : List Symbol
  pub ended : List Symbol
  pub symbols_are : symbols ≡ fixed f.Select ∷ (shown ++ fixed f.From ∷ (read ++ (kept ++ (grouped ++ (ordered ++ (limited ++ ended))))))
  pub items_are : IsItems IsTerm shown query.items
  pub source_is : IsSource read query.source
  pub filter_is : IsGuard f.Where (IsCond false) kept query.filter
  pub grouping_is : IsGrouping grouped query.groups query.having
  pub order_is : IsOrder IsTerm ordered query.order
  pub limit_is : IsLimit limited query.limit
  pub end_is : IsEnd ended

pub record Spells (text : List ℕ) (tokens : List Token) (query : Query) : Type 0 where
  pub symbols : List Symbol
  pub says : AllSay text tokens symbols
  pub spells : SpellsQuery symbols query
