-- A line is one thing.
use Rattle.std.proofs.Common.{◌≡◌, ◌⊎◌, ℕ, Bool, true, false, ◌==◌, List, [], ◌∷◌, ◌++◌, length, refl, inl, inr, arith}
use Rattle.std.specs.Prelude.{◌≢◌, ◌↔◌, ◌&&◌, not, nat_le, nat_lt, if◌then◌else◌, Option, Some, None, Result, Ok, Err}
use Rattle.std.specs.Str.{is_utf8}
use Rattle.std.proofs.lemmas.Bool.{cases_Bool, leb-true, ltb-true}
use Rattle.ov_model.specs.declared.command.Command.{Command}
use Rattle.ov_model.specs.declared.refusal.Refusal.{Refusal}
use Rattle.ov_model.specs.declared.refusal.Refusal.TheVariants as no
use Rattle.ov_model.specs.Forms.{Form}
use Rattle.ov_model.specs.Line.{Line, Comment, Asks, Refused, answer, by_words, off_all, by_form, by_name, first_of, form_of, made_by, read_words, line_of}
use Rattle.ov_model.specs.declared.given.Given.TheVariants.{Text}
use Rattle.ov_model.specs.Words.{Next, NoWord, Word, Unclosed, plain, quoted, word_at, next_word, words_of, without_blanks, is_note, is_comment}

abbrev Speaks : Line → Type 0
Speaks Comment = ⊥
Speaks (Asks command) = Unit {0}
Speaks (Refused refusal) = Unit {0}

no_comment : (l : Line) → Speaks l → l ≢ Comment
no_comment Comment is e = is
no_comment (Asks command) is e = cc
no_comment (Refused refusal) is e = cc

answers : (r : Result Command Refusal) → Speaks (answer r)
answers (Ok command) = tt
answers (Err refusal) = tt

words_speak : (f : Form) (words : Option (List (List ℕ))) → Speaks (by_words f words)
words_speak f None = tt
words_speak f (Some words) = answers (made_by f (read_words f.choices f.params [] 2 words))

whole_speaks : (t : Bool) (a b : Line) → Speaks a → Speaks b → Speaks (if t then a else b)
whole_speaks true a b one other = one
whole_speaks false a b one other = other

off_speaks : (words : Option (List (List ℕ))) → Speaks (off_all words)
off_speaks None = tt
off_speaks (Some words) = tt

form_speaks : (behind : List ℕ) (words : Option (List (List ℕ))) (f : Option Form) → Speaks (by_form behind words f)
form_speaks behind words None = off_speaks words
form_speaks behind words (Some f) =
    whole_speaks f.whole (answer (f.make (record { words = Text (without_blanks behind) ∷ []; options = [] }))) (by_words f words)
    (answers (f.make (record { words = Text (without_blanks behind) ∷ []; options = [] }))) (words_speak f words)

-- a word, or a quote that isn't closed
abbrev IsThere : Next → Type 0
IsThere NoWord = ⊥
IsThere (Word word behind) = Unit {0}
IsThere Unclosed = Unit {0}

there_if : (t : Bool) (a b : Next) → IsThere a → IsThere b → IsThere (if t then a else b)
there_if true a b one other = one
there_if false a b one other = other

quoted_there : (escaped : Bool) (word text : List ℕ) → IsThere (quoted escaped word text)
quoted_there escaped word [] = tt
quoted_there false word (b ∷ text) =
    there_if (b == 34) (Word word text) _ tt
    (there_if (b == 92) (quoted true word text) (quoted false (word ++ b ∷ []) text) (quoted_there true word text) (quoted_there false (word ++ b ∷ []) text))
quoted_there true word (b ∷ text) =
    there_if _ (quoted false (word ++ b ∷ []) text) (quoted false (word ++ 92 ∷ b ∷ []) text)
    (quoted_there false (word ++ b ∷ []) text) (quoted_there false (word ++ 92 ∷ b ∷ []) text)

name_speaks : (forms : List Form) (next : Next) → IsThere next → Speaks (by_name forms next)
name_speaks forms NoWord is = absurd is
name_speaks forms (Word name behind) is = form_speaks behind (words_of behind) (form_of forms name (first_of (words_of behind)))
name_speaks forms Unclosed is = tt

-- a text that is no note has a word
word_there : (text : List ℕ) → is_note text ≡ false → IsThere (word_at text)
word_there [] e = cc
word_there (b ∷ text) e = there_if (b == 34) (quoted false [] text) (plain (b ∷ text)) (quoted_there false [] text) tt

-- the three tests of a line
abbrev by_tests : Bool → Bool → Bool → Line → Line
by_tests long note text rest = if long then Refused no.LongLine else if note then Comment else if text then Refused no.NotUtf8 else rest

tests_comment : (long note text : Bool) (rest : Line) → (long ≡ false → note ≡ false → Speaks rest) → by_tests long note text rest ≡ Comment → note ≡ true
tests_comment true note text rest speaks e = cc
tests_comment false true text rest speaks e = refl
tests_comment false false true rest speaks e = cc
tests_comment false false false rest speaks e = absurd (no_comment rest (speaks refl refl) e)

comment_tests : (long note text : Bool) (rest : Line) → long ≡ false → note ≡ true → by_tests long note text rest ≡ Comment
comment_tests true note text rest e f = cc
comment_tests false true text rest e f = refl
comment_tests false false text rest e f = cc

and_first : (a b : Bool) → (a && b) ≡ true → a ≡ true
and_first true b e = refl
and_first false b e = cc

and_second : (a b : Bool) → a ≡ true → (a && b) ≡ false → b ≡ false
and_second true b e f = f
and_second false b e f = cc

not_long : (n : ℕ) → nat_le n 65536 ≡ true → nat_lt 65536 n ≡ false
not_long n e =
    elim (cases_Bool (nat_lt 65536 n)) [
      | inl long ↦ absurd (omega (arith, ltb-true 65536 n long, leb-true n 65536 e))
      | inr short ↦ short
    ]

short_le : (n : ℕ) → nat_lt 65536 n ≡ false → nat_le n 65536 ≡ true
short_le n e = grind (arith, e)

pub comment_is : (forms : List Form) (text : List ℕ) → (line_of forms text ≡ Comment) ↔ (is_comment text ≡ true)
comment_is forms text = (
  λ e. tests_comment (nat_lt 65536 (length text)) (is_comment text) (not (is_utf8 text)) (by_name forms (next_word text))
      (λ short other. name_speaks forms (next_word text)
      (word_there (without_blanks text) (and_second (nat_le (length text) 65536) (is_note (without_blanks text)) (short_le (length text) short) other)))
      e,
  λ e. comment_tests (nat_lt 65536 (length text)) (is_comment text) (not (is_utf8 text)) (by_name forms (next_word text))
      (not_long (length text) (and_first (nat_le (length text) 65536) (is_note (without_blanks text)) e)) e,
)

one_of : (l : Line) → (l ≡ Comment) ⊎ (((c : Command) × (l ≡ Asks c)) ⊎ ((r : Refusal) × (l ≡ Refused r)))
one_of Comment = inl refl
one_of (Asks command) = inr (inl (command, refl))
one_of (Refused refusal) = inr (inr (refusal, refl))

pub some_line : (forms : List Form) (text : List ℕ) → (line_of forms text ≡ Comment) ⊎ (((c : Command) × (line_of forms text ≡ Asks c)) ⊎ ((r : Refusal) × (line_of forms text ≡ Refused r)))
some_line forms text = one_of (line_of forms text)

pub asks_refused : (l : Line) (c : Command) (r : Refusal) → l ≡ Asks c → l ≡ Refused r → ⊥
asks_refused l c r e f = cc

pub comment_asks : (l : Line) (c : Command) → l ≡ Comment → l ≡ Asks c → ⊥
comment_asks l c e f = cc

pub comment_refused : (l : Line) (r : Refusal) → l ≡ Comment → l ≡ Refused r → ⊥
comment_refused l r e f = cc
