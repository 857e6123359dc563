-- Keywords and signs at the front of symbols.
use Rattle.std.proofs.Common.{rules, ◌≡◌, inl, inr, true, false, List, [], ◌∷◌, Some, None, refl, sym, ap}
use denote.Enum.Bare.{same_true, true_same}
use Rattle.std.proofs.lemmas.Bool.{cases_Bool, false≢true}
use Rattle.ov_model.specs.declared.query.Fixed.{Fixed}
use Rattle.ov_model.specs.contracts.query.Fixed.{the_type}
use Rattle.ov_model.specs.declared.query.Symbol.{Symbol}
use Rattle.ov_model.specs.declared.query.Symbol.TheVariants.{Fixed as fixed, Name, Number, Text}
use Rattle.ov_model.specs.Reading.{same_word, is_fixed, eaten}

pub same_word-true : (a b : Fixed) → same_word a b ≡ true → a ≡ b
unfolding same_word
same_word-true a b e = same_true the_type (search rules) a b e

pub same_word-refl : (a : Fixed) → same_word a a ≡ true
unfolding same_word
same_word-refl a = true_same the_type a a refl

pub is_fixed-true : (word : Fixed) (s : Symbol) → is_fixed word s ≡ true → s ≡ fixed word
is_fixed-true word (fixed other) e = ap fixed (sym (same_word-true word other e))
is_fixed-true word (Name _) e = absurd (false≢true e)
is_fixed-true word (Number _ _) e = absurd (false≢true e)
is_fixed-true word (Text _) e = absurd (false≢true e)

-- what is eaten stood there
pub eaten-some : (word : Fixed) (symbols rest : List Symbol) → eaten word symbols ≡ Some rest → symbols ≡ fixed word ∷ rest
unfolding eaten
eaten-some word [] rest e = absurd cc
eaten-some word (s ∷ symbols) rest e = elim (cases_Bool (is_fixed word s)) [
  | inl t ↦ let found : Some symbols ≡ Some rest = rw t at e in let first = is_fixed-true word s t in let others : symbols ≡ rest = cc in cc
  | inr t ↦ let none : None ≡ Some rest = rw t at e in absurd cc
]

-- what stands there is eaten
pub eaten-there : (word : Fixed) (rest : List Symbol) → eaten word (fixed word ∷ rest) ≡ Some rest
unfolding eaten
eaten-there word rest = rw (same_word-refl word) refl

-- two words are told apart
pub eaten-other : (word other : Fixed) (rest : List Symbol) → same_word word other ≡ false → eaten word (fixed other ∷ rest) ≡ None
unfolding eaten
eaten-other word other rest e = rw e refl
