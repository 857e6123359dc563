-- Tokens say one list of symbols, and spell one query or one join, and not both.
use Rattle.std.proofs.Common.{◌≡◌, inl, inr, ℕ, true, ◌==◌, List, [], ◌∷◌, ◌++◌, Some, None, refl, sym, ap, subst, ◌∙◌}
use Rattle.std.specs.List.{flat_map}
use Rattle.std.proofs.lemmas.Bool.{cases_Bool, eqb-true}
use Rattle.std.proofs.lemmas.List.{append_cancel_right}
use Rattle.ov_lex.specs.declared.token.Token.{Token}
use Rattle.ov_lex.specs.declared.token.TokenKind.{TokenKind}
use Rattle.ov_lex.specs.declared.token.TokenKind.TheVariants as token
use Rattle.ov_lex.specs.Spellings.{escaped}
use Rattle.ov_lex.specs.Texts.{spelling_of}
use Rattle.ov_model.specs.declared.query.Query.{Query}
use Rattle.ov_model.specs.declared.query.JoinQuery.{JoinQuery}
use Rattle.ov_model.specs.declared.query.Fixed.{Fixed}
use Rattle.ov_model.specs.declared.query.Symbol.{Symbol}
use Rattle.ov_model.specs.declared.query.Symbol.TheVariants.{Fixed as fixed, Name, Text}
use Rattle.ov_model.specs.Grammar.{found_in, signs, SpellingSays, AllSay, Spells}
use Rattle.ov_model.specs.JoinGrammar.{SpellsJoin, TokensSpellJoin}
use Rattle.ov_model.specs.JoinReading.{join_of}
use Rattle.ov_model.specs.Reading.{query_of}
use Rattle.ov_model.proofs.Joins.{join-takes, join-again, not_both}
use Rattle.ov_model.proofs.Whole.{query-takes, query-again}

one_name : (quote : ℕ) (bytes m n : List ℕ) → bytes ≡ quote ∷ (m ++ quote ∷ []) → bytes ≡ quote ∷ (n ++ quote ∷ []) → m ≡ n
one_name quote bytes m n g h =
    let same : m ++ quote ∷ [] ≡ n ++ quote ∷ [] = cc in
    append_cancel_right m n (quote ∷ []) same

one_text : (s t : List ℕ) → flat_map escaped s ≡ flat_map escaped t → s ≡ t
one_text [] [] e = refl
one_text [] (y ∷ ys) e = elim (cases_Bool (y == 39)) [
  | inl q ↦ let same : [] ≡ 39 ∷ 39 ∷ flat_map escaped ys = rw q at e in absurd cc
  | inr q ↦ let same : [] ≡ y ∷ flat_map escaped ys = rw q at e in absurd cc
]
one_text (x ∷ xs) [] e = elim (cases_Bool (x == 39)) [
  | inl p ↦ let same : 39 ∷ 39 ∷ flat_map escaped xs ≡ [] = rw p at e in absurd cc
  | inr p ↦ let same : x ∷ flat_map escaped xs ≡ [] = rw p at e in absurd cc
]
one_text (x ∷ xs) (y ∷ ys) e = elim (cases_Bool (x == 39)) [
  | inl p ↦ elim (cases_Bool (y == 39)) [
    | inl q ↦
        let same : 39 ∷ 39 ∷ flat_map escaped xs ≡ 39 ∷ 39 ∷ flat_map escaped ys = rw (p, q) at e in
        let more : flat_map escaped xs ≡ flat_map escaped ys = cc in
        let first : x ≡ y = eqb-true x 39 p ∙ sym (eqb-true y 39 q) in
        let rest : xs ≡ ys = one_text xs ys more in
        cc
    | inr q ↦
        let same : 39 ∷ 39 ∷ flat_map escaped xs ≡ y ∷ flat_map escaped ys = rw (p, q) at e in
        let first : y ≡ 39 = cc in
        let is : (y == 39) ≡ true = rw first refl in
        absurd cc
  ]
  | inr p ↦ elim (cases_Bool (y == 39)) [
    | inl q ↦
        let same : x ∷ flat_map escaped xs ≡ 39 ∷ 39 ∷ flat_map escaped ys = rw (p, q) at e in
        let first : x ≡ 39 = cc in
        let is : (x == 39) ≡ true = rw first refl in
        absurd cc
    | inr q ↦
        let same : x ∷ flat_map escaped xs ≡ y ∷ flat_map escaped ys = rw (p, q) at e in
        let first : x ≡ y = cc in
        let more : flat_map escaped xs ≡ flat_map escaped ys = cc in
        let rest : xs ≡ ys = one_text xs ys more in
        cc
  ]
]

one_word : (bytes : List ℕ) (v w : Fixed) → found_in signs bytes ≡ Some v → found_in signs bytes ≡ Some w → v ≡ w
one_word bytes v w g h = let same : Some v ≡ Some w = sym g ∙ h in cc

one_symbol : (kind : TokenKind) (bytes : List ℕ) (s t : Symbol) → SpellingSays kind bytes s → SpellingSays kind bytes t → s ≡ t
one_symbol token.Word bytes s t g h = g ∙ sym h
one_symbol token.Quoted bytes s t g h = g.2 ∙ (ap Name (one_name 34 bytes g.0 h.0 g.1 h.1) ∙ sym h.2)
one_symbol token.Number bytes s t g h = g ∙ sym h
one_symbol token.Text bytes s t g h =
    let texts : g.0 ≡ h.0 = one_text g.0 h.0 (one_name 39 bytes (flat_map escaped g.0) (flat_map escaped h.0) g.1 h.1) in
    g.2 ∙ (ap Text texts ∙ sym h.2)
one_symbol token.Sign bytes s t g h = g.2 ∙ (ap fixed (one_word bytes g.0 h.0 g.1 h.1) ∙ sym h.2)

one_list : (text : List ℕ) (tokens : List Token) (ss ts : List Symbol) → AllSay text tokens ss → AllSay text tokens ts → ss ≡ ts
one_list text [] [] [] g h = refl
one_list text [] (s ∷ ss) ts g h = absurd g
one_list text [] [] (t ∷ ts) g h = absurd h
one_list text (u ∷ us) [] ts g h = absurd g
one_list text (u ∷ us) (s ∷ ss) [] g h = absurd h
one_list text (u ∷ us) (s ∷ ss) (t ∷ ts) g h =
    let first : s ≡ t = one_symbol u.kind (spelling_of text u) s t g.0 h.0 in
    let rest : ss ≡ ts = one_list text us ss ts g.1 h.1 in
    cc

pub is_spelled : (text : List ℕ) (tokens : List Token) (said : List Symbol) (q : Query) → AllSay text tokens said → query_of said ≡ Some q → Spells text tokens q
is_spelled text tokens said q says e = record { symbols = said; says = says; spells = query-takes said q e }

reads_one : (text : List ℕ) (tokens : List Token) (said : List Symbol) (q : Query) → AllSay text tokens said → Spells text tokens q → query_of said ≡ Some q
reads_one text tokens said q says h =
    let same : h.symbols ≡ said = one_list text tokens h.symbols said h.says says in
    ap query_of (sym same) ∙ query-again h.symbols q h.spells

pub is_none : (text : List ℕ) (tokens : List Token) (said : List Symbol) → AllSay text tokens said → query_of said ≡ None → (q : Query) → Spells text tokens q → ⊥
is_none text tokens said says e q h = let both : None ≡ Some q = sym e ∙ reads_one text tokens said q says h in cc

pub one_query_is : (text : List ℕ) (tokens : List Token) (p q : Query) → Spells text tokens p → Spells text tokens q → p ≡ q
one_query_is text tokens p q g h =
    let both : Some p ≡ Some q = sym (query-again g.symbols p g.spells) ∙ reads_one text tokens g.symbols q g.says h in
    cc

-- ---- joins

pub is_join : (text : List ℕ) (tokens : List Token) (said : List Symbol) (j : JoinQuery) → AllSay text tokens said → join_of said ≡ Some j → TokensSpellJoin text tokens j
is_join text tokens said j says e = record { symbols = said; says = says; spells = join-takes said j e }

reads_one_join : (text : List ℕ) (tokens : List Token) (said : List Symbol) (j : JoinQuery) → AllSay text tokens said → TokensSpellJoin text tokens j → join_of said ≡ Some j
reads_one_join text tokens said j says h =
    let same : h.symbols ≡ said = one_list text tokens h.symbols said h.says says in
    ap join_of (sym same) ∙ join-again h.symbols j h.spells

pub is_no_join : (text : List ℕ) (tokens : List Token) (said : List Symbol) → AllSay text tokens said → join_of said ≡ None → (j : JoinQuery) → TokensSpellJoin text tokens j → ⊥
is_no_join text tokens said says e j h = let both : None ≡ Some j = sym e ∙ reads_one_join text tokens said j says h in cc

pub one_join_is : (text : List ℕ) (tokens : List Token) (i j : JoinQuery) → TokensSpellJoin text tokens i → TokensSpellJoin text tokens j → i ≡ j
one_join_is text tokens i j g h =
    let both : Some i ≡ Some j = sym (join-again g.symbols i g.spells) ∙ reads_one_join text tokens g.symbols j g.says h in
    cc

pub no_query_joins : (text : List ℕ) (tokens : List Token) (q : Query) (j : JoinQuery) → Spells text tokens q → TokensSpellJoin text tokens j → ⊥
no_query_joins text tokens q j g h =
    let same : h.symbols ≡ g.symbols = one_list text tokens h.symbols g.symbols h.says g.says in
    not_both g.symbols q j g.spells (subst (λ (ss : List Symbol). SpellsJoin ss j) same h.spells)
