-- What holds of the commands that forms make holds of each command that a line asks for by them.
use Rattle.std.proofs.Common.{◌≡◌, ◌≤◌, ℕ, Bool, true, false, ◌||◌, ◌==◌, List, [], ◌∷◌, ◌++◌, length, drop, refl, subst, arith}
use Rattle.std.specs.Prelude.{◌&&◌, not, if◌then◌else◌, nat_lt, Option, Some, None, Result, Ok, Err}
use Rattle.std.specs.List.{position_or_len}
use Rattle.std.specs.Str.{bytes_eq, is_utf8}
use Rattle.std.proofs.lemmas.Bool.{ltb-false}
use Rattle.std.proofs.lemmas.List.{length-drop}
use Rattle.ov_model.specs.Formed.{AllAsk, AsksSo}
use Rattle.ov_model.specs.Forms.{Values, Form}
use Rattle.ov_model.specs.Line.{Line, Comment, Refused, Read, missing, unless_missing, made_by, answer, by_words, first_of, has_second, form_of, off_all, by_form, by_name, read_words, line_of}
use Rattle.ov_model.specs.Words.{Next, NoWord, Word, Unclosed, next_word, words_of, without_blanks, is_blank, is_comment, is_no_blank, plain, quoted, word_at}
use Rattle.ov_model.specs.declared.command.Command.{Command}
use Rattle.ov_model.specs.declared.given.Given.TheVariants.{Text}
use Rattle.ov_model.specs.declared.refusal.Refusal.{Refusal}
use Rattle.ov_model.specs.declared.refusal.Refusal.TheVariants as no
use Rattle.ov_model.proofs.FormValues.{AreGood, AllRead, WordsRead, words_good, words_read}

-- what is made is such a command, or a refusal
abbrev pub IsMade : (Command → Type 0) → Result Command Refusal → Type 0
IsMade Made (Ok command) = Made command
IsMade Made (Err refusal) = Unit {0}

-- the values of a line of which all behind the name is one text
abbrev pub whole_values : List ℕ → Values
whole_values text = record { words = Text text ∷ []; options = [] }

-- a form whose options are written as May says, and whose commands are such
pub record IsForm (May : List ℕ → Type 0) (Made : Command → Type 0) (f : Form) : Type 0 where
  pub reads : AllRead May f.choices
  pub makes : f.whole ≡ false → (v : Values) → missing f.choices v.options ≡ None → AreGood May v.options → WordsRead f.params [] v.words → IsMade Made (f.make v)
  pub whole : f.whole ≡ true → (text : List ℕ) → length text ≤ 65536 → IsMade Made (f.make (whole_values text))

abbrev pub AreForms : (List ℕ → Type 0) → (Command → Type 0) → List Form → Type 0
AreForms May Made [] = Unit {0}
AreForms May Made (f ∷ fs) = IsForm May Made f × AreForms May Made fs

-- ---- what stands behind a line's first word is no longer than the line

abbrev IsShort : Next → Type 0
IsShort NoWord = Unit {0}
IsShort (Word name behind) = length behind ≤ 65536
IsShort Unclosed = Unit {0}

short_if : (t : Bool) (x y : Next) → IsShort x → IsShort y → IsShort (if t then x else y)
short_if true x y one other = one
short_if false x y one other = other

dropped_short : (n : ℕ) (text : List ℕ) → length text ≤ 65536 → length (drop n text) ≤ 65536
dropped_short n text short = omega (arith, short, length-drop n text)

quoted_short : (escaped : Bool) (word text : List ℕ) → length text ≤ 65536 → IsShort (quoted escaped word text)
quoted_short escaped word [] short = tt
quoted_short false word (b ∷ text) short =
    let less : length text ≤ 65536 = omega (arith, short)
    in short_if (b == 34) (Word word text) _ less
    (short_if (b == 92) (quoted true word text) (quoted false (word ++ b ∷ []) text) (quoted_short true word text less) (quoted_short false (word ++ b ∷ []) text less))
quoted_short true word (b ∷ text) short =
    let less : length text ≤ 65536 = omega (arith, short)
    in short_if (b == 34 || b == 92) (quoted false (word ++ b ∷ []) text) (quoted false (word ++ 92 ∷ b ∷ []) text)
    (quoted_short false (word ++ b ∷ []) text less) (quoted_short false (word ++ 92 ∷ b ∷ []) text less)

word_short : (text : List ℕ) → length text ≤ 65536 → IsShort (word_at text)
word_short [] short = tt
word_short (b ∷ text) short =
    short_if (b == 34) (quoted false [] text) (plain (b ∷ text)) (quoted_short false [] text (omega (arith, short)))
    (dropped_short (position_or_len is_blank (b ∷ text)) (b ∷ text) short)

next_short : (text : List ℕ) → length text ≤ 65536 → IsShort (next_word text)
next_short text short = word_short (without_blanks text) (dropped_short (position_or_len is_no_blank text) text short)

-- ---- from the forms to the lines

none_some : {X : Type 0} (x : X) → None ≡ Some x → ⊥
none_some x e = cc

some_same : {X : Type 0} (a b : X) → Some a ≡ Some b → a ≡ b
some_same a b e = cc

module _ (May : List ℕ → Type 0) (Made : Command → Type 0) where
  found_form_if : (t : Bool) (f g : Form) (rest : Option Form) → (if t then Some f else rest) ≡ Some g → IsForm May Made f → (rest ≡ Some g → IsForm May Made g) → IsForm May Made g
  found_form_if true f g rest e is later = subst (IsForm May Made) (some_same f g e) is
  found_form_if false f g rest e is later = later e

  found_form : (fs : List Form) (name : List ℕ) (word : Option (List ℕ)) (g : Form) → AreForms May Made fs → form_of fs name word ≡ Some g → IsForm May Made g
  found_form [] name word g are e = absurd (none_some g e)
  found_form (f ∷ fs) name word g are e =
      found_form_if (bytes_eq f.name name && has_second f.second word) f g (form_of fs name word) e are.0 (found_form fs name word g are.1)

  answer_well : (r : Result Command Refusal) → IsMade Made r → AsksSo Made (answer r)
  answer_well (Ok command) is = is
  answer_well (Err refusal) is = tt

  unless_made : (letter : Option (List ℕ)) (r : Result Command Refusal) → (letter ≡ None → IsMade Made r) → IsMade Made (unless_missing letter r)
  unless_made None r is = is refl
  unless_made (Some letter) r is = tt

  by_made : (f : Form) (r : Read) → f.whole ≡ false → IsForm May Made f → ((v : Values) → r ≡ Ok v → AreGood May v.options) → ((v : Values) → r ≡ Ok v → WordsRead f.params [] v.words) → IsMade Made (made_by f r)
  by_made f (Ok v) plain is good words = unless_made (missing f.choices v.options) (f.make v) (λ none. is.makes plain v none (good v refl) (words v refl))
  by_made f (Err refusal) plain is good words = tt

  words_well : (f : Form) (words : Option (List (List ℕ))) → f.whole ≡ false → IsForm May Made f → AsksSo Made (by_words f words)
  words_well f None plain is = tt
  words_well f (Some words) plain is =
      answer_well (made_by f (read_words f.choices f.params [] 2 words))
      (by_made f (read_words f.choices f.params [] 2 words) plain is (λ v e. words_good May f.choices is.reads f.params [] 2 words v e)
      (λ v e. words_read f.choices f.params [] 2 words v e))

  off_well : (words : Option (List (List ℕ))) → AsksSo Made (off_all words)
  off_well None = tt
  off_well (Some words) = tt

  form_well : (behind : List ℕ) (words : Option (List (List ℕ))) (found : Option Form) → length behind ≤ 65536 → ((g : Form) → found ≡ Some g → IsForm May Made g) → AsksSo Made (by_form behind words found)
  form_well behind words None short is = off_well words
  form_well behind words (Some f) short is = by f.whole refl (is f refl)
    where
      by : (t : Bool) → f.whole ≡ t → IsForm May Made f → AsksSo Made (if t then answer (f.make (whole_values (without_blanks behind))) else by_words f words)
      by true e form =
          answer_well (f.make (whole_values (without_blanks behind)))
          (form.whole e (without_blanks behind) (dropped_short (position_or_len is_no_blank behind) behind short))
      by false e form = words_well f words e form

  next_well : (forms : List Form) (next : Next) → AreForms May Made forms → IsShort next → AsksSo Made (by_name forms next)
  next_well forms NoWord are short = tt
  next_well forms (Word name behind) are short =
      form_well behind (words_of behind) (form_of forms name (first_of (words_of behind))) short (λ g e. found_form forms name (first_of (words_of behind)) g are e)
  next_well forms Unclosed are short = tt

  well_if : (t : Bool) (a b : Line) → AsksSo Made a → AsksSo Made b → AsksSo Made (if t then a else b)
  well_if true a b one other = one
  well_if false a b one other = other

  long_if : (t : Bool) (b : Line) → (t ≡ false → AsksSo Made b) → AsksSo Made (if t then Refused no.LongLine else b)
  long_if true b other = tt
  long_if false b other = other refl

  pub line_well : (forms : List Form) (text : List ℕ) → AreForms May Made forms → AsksSo Made (line_of forms text)
  line_well forms text are =
      long_if (nat_lt 65536 (length text)) _ (λ within.
      let short : length text ≤ 65536 = omega (arith, ltb-false 65536 (length text) within)
      in well_if (is_comment text) Comment _ tt
      (well_if (not (is_utf8 text)) (Refused no.NotUtf8) (by_name forms (next_word text)) tt (next_well forms (next_word text) are (next_short text short))))

  pub all_well : (forms : List Form) (lines : List (List ℕ)) → AreForms May Made forms → AllAsk Made forms lines
  all_well forms [] are = tt
  all_well forms (line ∷ lines) are = (line_well forms line are, all_well forms lines are)
