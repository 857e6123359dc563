-- Looking a keyword up in one table after another.
use Rattle.std.proofs.Common.{◌≡◌, inl, inr, ℕ, nat_eq, List, [], ◌∷◌, ◌++◌, Option, Some, None, map}
use Rattle.std.specs.Char.{to_ascii_lowercase}
use Rattle.std.specs.Cmp.Lexicographic.{pointwise}
use Rattle.std.proofs.lemmas.Bool.{cases_Bool}
use Rattle.ov_model.specs.declared.query.Fixed.{Fixed}
use Rattle.ov_model.specs.Grammar.{found_in, keyword_of, clause_words, order_words, value_words, relation_words}

found-first : (xs ys : List (List ℕ × Fixed)) (bytes : List ℕ) (word : Fixed) → found_in xs bytes ≡ Some word → found_in (xs ++ ys) bytes ≡ Some word
unfolding found_in
found-first [] ys bytes word e = absurd cc
found-first (x ∷ xs) ys bytes word e = elim (cases_Bool (pointwise nat_eq bytes x.0)) [
  | inl t ↦ let same : Some x.1 ≡ Some word = rw t at e in rw t same
  | inr t ↦ let later : found_in xs bytes ≡ Some word = rw t at e in rw t (found-first xs ys bytes word later)
]

found-later : (xs ys : List (List ℕ × Fixed)) (bytes : List ℕ) (found : Option Fixed) → found_in xs bytes ≡ None → found_in ys bytes ≡ found → found_in (xs ++ ys) bytes ≡ found
unfolding found_in
found-later [] ys bytes found e h = h
found-later (x ∷ xs) ys bytes found e h = elim (cases_Bool (pointwise nat_eq bytes x.0)) [
  | inl t ↦ let some : Some x.1 ≡ None = rw t at e in absurd cc
  | inr t ↦ let later : found_in xs bytes ≡ None = rw t at e in rw t (found-later xs ys bytes found later h)
]

pub in_clauses : (word : List ℕ) (w : Fixed) → found_in clause_words (map to_ascii_lowercase word) ≡ Some w → keyword_of word ≡ Some w
unfolding keyword_of
in_clauses word w e = found-first clause_words (order_words ++ (value_words ++ relation_words)) (map to_ascii_lowercase word) w e

pub in_orders : (word : List ℕ) (w : Fixed) → found_in clause_words (map to_ascii_lowercase word) ≡ None → found_in order_words (map to_ascii_lowercase word) ≡ Some w → keyword_of word ≡ Some w
unfolding keyword_of
in_orders word w a e =
    found-later clause_words (order_words ++ (value_words ++ relation_words)) (map to_ascii_lowercase word) (Some w) a (found-first order_words (value_words ++ relation_words) (map to_ascii_lowercase word) w e)

pub in_values : (word : List ℕ) (w : Fixed) → found_in clause_words (map to_ascii_lowercase word) ≡ None → found_in order_words (map to_ascii_lowercase word) ≡ None → found_in value_words (map to_ascii_lowercase word) ≡ Some w → keyword_of word ≡ Some w
unfolding keyword_of
in_values word w a b e =
    found-later clause_words (order_words ++ (value_words ++ relation_words)) (map to_ascii_lowercase word) (Some w) a
    (found-later order_words (value_words ++ relation_words) (map to_ascii_lowercase word) (Some w) b (found-first value_words relation_words (map to_ascii_lowercase word) w e))

pub in_relations : (word : List ℕ) (found : Option Fixed) → found_in clause_words (map to_ascii_lowercase word) ≡ None → found_in order_words (map to_ascii_lowercase word) ≡ None → found_in value_words (map to_ascii_lowercase word) ≡ None → found_in relation_words (map to_ascii_lowercase word) ≡ found → keyword_of word ≡ found
unfolding keyword_of
in_relations word found a b c e =
    found-later clause_words (order_words ++ (value_words ++ relation_words)) (map to_ascii_lowercase word) found a
    (found-later order_words (value_words ++ relation_words) (map to_ascii_lowercase word) found b (found-later value_words relation_words (map to_ascii_lowercase word) found c e))
