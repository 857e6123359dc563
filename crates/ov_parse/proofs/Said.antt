-- What tokens say, one after the other.
use Rattle.std.proofs.Common.{◌≡◌, ℕ, zero, suc, ◌+◌, ◌<◌, List, [], ◌∷◌, ◌++◌, length, take, get_or, sym, ap, subst, ◌∙◌, arith}
use Rattle.std.proofs.lemmas.List.{take_more}
use Rattle.std.specs.List.{All}
use Rattle.ov_lex.specs.declared.token.Token.{Token}
use Rattle.ov_lex.specs.Texts.{Stands, Run, AreTokens}
use Rattle.ov_model.specs.declared.query.Symbol.{Symbol}
use Rattle.ov_model.specs.Grammar.{Says, AllSay}

say-push : (text : List ℕ) (tokens : List Token) (said : List Symbol) (t : Token) (s : Symbol) → AllSay text tokens said → Says text t s → AllSay text (tokens ++ t ∷ []) (said ++ s ∷ [])
say-push text [] [] t s h k = (k, tt)
say-push text [] (x ∷ xs) t s h k = absurd h
say-push text (u ∷ us) [] t s h k = absurd h
say-push text (u ∷ us) (x ∷ xs) t s h k = (h.0, say-push text us xs t s h.1 k)

pub said-more : (text : List ℕ) (tokens : List Token) (said : List Symbol) (i : ℕ) (t : Token) (s : Symbol) → i < length tokens → t ≡ get_or tokens i t → AllSay text (take i tokens) said → Says text t s → AllSay text (take (i + 1) tokens) (said ++ s ∷ [])
said-more text tokens said i t s lt is h k =
    let more : take (i + 1) tokens ≡ take i tokens ++ t ∷ [] = take_more tokens i t lt ∙ ap (λ (u : Token). take i tokens ++ u ∷ []) (sym is) in
    subst (λ (ts : List Token). AllSay text ts (said ++ s ∷ [])) (sym more) (say-push text (take i tokens) said t s h k)

each-stands : (text : List ℕ) (from : ℕ) (tokens : List Token) (to : ℕ) → Run text from tokens to → (k : ℕ) (d : Token) → k < length tokens → Stands text (get_or tokens k d)
each-stands text from [] to r k d lt = absurd (omega arith)
each-stands text from (t ∷ ts) to r zero d lt = r.1
each-stands text from (t ∷ ts) to r (suc k) d lt = each-stands text t.end ts to r.2 k d (omega arith)

pub all-stand : (text : List ℕ) (tokens : List Token) → AreTokens text tokens → All (Stands text) tokens
all-stand text tokens h = each-stands text 0 tokens h.to h.run
