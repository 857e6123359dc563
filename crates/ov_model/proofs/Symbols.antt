-- The symbols that are computed are those that the tokens of a text say.
use Rattle.std.proofs.Common.{◌≡◌, inl, inr, ℕ, ◌-◌, false, ◌==◌, List, [], ◌∷◌, ◌++◌, length, Option, Some, None, IsSome, refl, sym, ap, ◌∙◌, arith}
use Rattle.std.specs.List.{flat_map}
use Rattle.std.specs.Option.{option_map}
use Rattle.std.proofs.lemmas.Bool.{cases_Bool, eqb-true}
use Rattle.std.proofs.lemmas.List.{take_at, length-append}
use Rattle.ov_lex.specs.declared.token.Token.{Token}
use Rattle.ov_lex.specs.declared.token.TokenKind.{TokenKind}
use Rattle.ov_lex.specs.declared.token.TokenKind.TheVariants as token
use Rattle.ov_lex.specs.Spellings.{escaped, IsQuoted, IsText, IsSpelling}
use Rattle.ov_lex.specs.Texts.{spelling_of, Run, AreTokens}
use Rattle.ov_model.specs.Grammar.{found_in, signs, SpellingSays, AllSay}
use Rattle.ov_model.specs.QueryTexts.{inside, unescaped, said_by, symbols_of}
use Rattle.ov_model.specs.declared.query.Fixed.{Fixed}
use Rattle.ov_model.specs.declared.query.Symbol.{Symbol}
use Rattle.ov_model.specs.declared.query.Symbol.TheVariants.{Fixed as fixed, Name, Text}
use Rattle.ov_model.proofs.Signs.{is_known}

-- ---- what stands between quotes

inside-quotes : (quote : ℕ) (bytes inner : List ℕ) → bytes ≡ quote ∷ (inner ++ quote ∷ []) → inside bytes ≡ inner
inside-quotes quote bytes inner e =
    let len : length inner ≡ length (inner ++ quote ∷ []) - 1 = omega (arith, length-append inner (quote ∷ [])) in
    ap inside e ∙ take_at inner (quote ∷ []) (length (inner ++ quote ∷ []) - 1) len

unescaped-quote : (bytes : List ℕ) → unescaped (39 ∷ 39 ∷ bytes) ≡ 39 ∷ unescaped bytes
unfolding unescaped
unescaped-quote bytes = refl

unescaped-other : (b : ℕ) (bytes : List ℕ) → (b == 39) ≡ false → unescaped (b ∷ bytes) ≡ b ∷ unescaped bytes
unfolding unescaped
unescaped-other b [] e = refl
unescaped-other b (c ∷ bytes) e = rw e refl

unescaped-nothing : unescaped [] ≡ []
unfolding unescaped
unescaped-nothing = refl

unescaped-escaped : (text : List ℕ) → unescaped (flat_map escaped text) ≡ text
unescaped-escaped [] = unescaped-nothing
unescaped-escaped (b ∷ text) = elim (cases_Bool (b == 39)) [
  | inl e ↦ rw (e, unescaped-quote (flat_map escaped text), unescaped-escaped text) (ap (λ (c : ℕ). c ∷ text) (sym (eqb-true b 39 e)))
  | inr e ↦ rw (e, unescaped-other b (flat_map escaped text) e, unescaped-escaped text) refl
]

-- ---- what spellings say

record IsSaid (kind : TokenKind) (bytes : List ℕ) : Type 0 where
  symbol : Symbol
  found : said_by kind bytes ≡ Some symbol
  says : SpellingSays kind bytes symbol

quoted-said : (bytes : List ℕ) → IsQuoted bytes → IsSaid token.Quoted bytes
quoted-said bytes h = record { symbol = Name h.name; found = ap (λ (name : List ℕ). Some (Name name)) (inside-quotes 34 bytes h.name h.between); says = (h.name, h.between, refl) }

text-said : (bytes : List ℕ) → IsText bytes → IsSaid token.Text bytes
text-said bytes h =
    let is : unescaped (inside bytes) ≡ h.text = ap unescaped (inside-quotes 39 bytes (flat_map escaped h.text) h.spelled) ∙ unescaped-escaped h.text in
    record { symbol = Text h.text; found = ap (λ (text : List ℕ). Some (Text text)) is; says = (h.text, h.spelled, refl) }

sign-said : (bytes : List ℕ) (found : Option Fixed) → found_in signs bytes ≡ found → IsSome found → IsSaid token.Sign bytes
sign-said bytes (Some word) e some = record { symbol = fixed word; found = ap (option_map fixed) e; says = (word, e, refl) }
sign-said bytes None e some = absurd cc

spelling-said : (kind : TokenKind) (bytes : List ℕ) → IsSpelling kind bytes → IsSaid kind bytes
spelling-said token.Word bytes h = record { symbol = _; found = refl; says = refl }
spelling-said token.Quoted bytes h = quoted-said bytes h
spelling-said token.Number bytes h = record { symbol = _; found = refl; says = refl }
spelling-said token.Text bytes h = text-said bytes h
spelling-said token.Sign bytes h = sign-said bytes (found_in signs bytes) refl (is_known bytes h)

-- ---- what the tokens of a text say

pub record AreSaid (text : List ℕ) (tokens : List Token) : Type 0 where
  pub symbols : List Symbol
  pub found : symbols_of text tokens ≡ Some symbols
  pub say : AllSay text tokens symbols

run-said : (text : List ℕ) (from : ℕ) (tokens : List Token) (to : ℕ) → Run text from tokens to → AreSaid text tokens
run-said text from [] to r = record { symbols = []; found = refl; say = tt }
run-said text from (t ∷ ts) to r =
    let first = spelling-said t.kind (spelling_of text t) r.1.longest.spelled in
    let rest = run-said text t.end ts to r.2 in
    record { symbols = first.symbol ∷ rest.symbols; found = rw (first.found, rest.found) refl; say = (first.says, rest.say) }

pub tokens_said : (text : List ℕ) (tokens : List Token) → AreTokens text tokens → AreSaid text tokens
tokens_said text tokens h = run-said text 0 tokens h.to h.run
