-- The lines of a script, and the words of a line.
--     lines_of text      the lines of a script
--     next_word text      the first word and what stands behind it
--     words_of text      all of them; None where a quote isn't closed
use Rattle.std.specs.Prelude.{ℕ, zero, suc, ◌+◌, Bool, true, false, ◌||◌, ◌&&◌, ◌==◌, nat_le, if◌then◌else◌, List, [], ◌∷◌, ◌++◌, length, take, drop, not, Option, Some, None}
use Rattle.std.specs.List.{onto_first, position_or_len}
use Rattle.std.specs.Option.{option_map}

-- a line ends at a line feed, or at the end of the text; an empty last line is no line
abbrev pub lines_of : List ℕ → List (List ℕ)
lines_of [] = []
lines_of (b ∷ text) = if b == 10 then [] ∷ lines_of text else onto_first b (lines_of text)

-- space, tab and carriage return
abbrev pub is_blank : ℕ → Bool
is_blank b = b == 32 || (b == 9 || b == 13)

abbrev pub is_no_blank : ℕ → Bool
is_no_blank b = not (is_blank b)

-- from the first byte on that is no blank
abbrev pub without_blanks : List ℕ → List ℕ
without_blanks text = drop (position_or_len is_no_blank text) text

-- no word; a word, and the text behind it; or a quote that isn't closed
pub data Next : Type 0 where
  NoWord : Next
  Word : (word : List ℕ) (behind : List ℕ) → Next
  Unclosed : Next

-- a word without quotes: up to a blank or to the end
abbrev pub plain : List ℕ → Next
plain text = Word (take (position_or_len is_blank text) text) (drop (position_or_len is_blank text) text)

-- The rest of a word in quotes, behind a backslash or not: up to the next quote with no backslash of its own before it. A
-- backslash goes where a quote or a backslash stands behind it; any other backslash stays.
abbrev pub quoted : Bool → List ℕ → List ℕ → Next
quoted escaped word [] = Unclosed
quoted false word (b ∷ text) =
    if b == 34 then Word word text
    else if b == 92 then quoted true word text
    else quoted false (word ++ b ∷ []) text
quoted true word (b ∷ text) =
    if b == 34 || b == 92 then quoted false (word ++ b ∷ []) text else quoted false (word ++ 92 ∷ b ∷ []) text

abbrev pub word_at : List ℕ → Next
word_at [] = NoWord
word_at (b ∷ text) = if b == 34 then quoted false [] text else plain (b ∷ text)

abbrev pub next_word : List ℕ → Next
next_word text = word_at (without_blanks text)

-- the word, and the words behind it
abbrev pub with_words : (List ℕ → Option (List (List ℕ))) → Next → Option (List (List ℕ))
with_words more NoWord = Some []
with_words more (Word word behind) = option_map (λ words. word ∷ words) (more behind)
with_words more Unclosed = None

-- so many words at most
abbrev pub words_up_to : ℕ → List ℕ → Option (List (List ℕ))
words_up_to zero text = Some []
words_up_to (suc n) text = with_words (words_up_to n) (next_word text)

-- each word takes a byte at least
abbrev pub words_of : List ℕ → Option (List (List ℕ))
words_of text = words_up_to (length text + 1) text

-- blanks alone, or blanks and then `#`
abbrev pub is_note : List ℕ → Bool
is_note [] = true
is_note (b ∷ text) = b == 35

-- a line of over 65,536 bytes is never a comment
abbrev pub is_comment : List ℕ → Bool
is_comment text = nat_le (length text) 65536 && is_note (without_blanks text)
