-- What a line of a script says.
--     line_of forms text      a comment, a command, or the first refusal
use Rattle.std.specs.Prelude.{ℕ, ◌+◌, Bool, true, false, not, ◌||◌, ◌&&◌, nat_lt, if◌then◌else◌, List, [], ◌∷◌, ◌++◌, length, Option, Some, None, Result, Ok, Err, is_some}
use Rattle.std.specs.Str.{is_utf8, bytes_eq}
use Rattle.ov_model.specs.declared.command.Command.{Command}
use Rattle.ov_model.specs.declared.refusal.Refusal.{Refusal}
use Rattle.ov_model.specs.declared.refusal.Refusal.TheVariants.{LongLine, NotUtf8, OpenQuote, UnknownCommand, Missing, UnexpectedWord}
use Rattle.ov_model.specs.Words.{Next, NoWord, Word, Unclosed, next_word, words_of, without_blanks, is_comment}
use Rattle.ov_model.specs.declared.given.Given.{Given}
use Rattle.ov_model.specs.declared.given.Given.TheVariants.{Text}
use Rattle.ov_model.specs.Values.{read}
use Rattle.ov_model.specs.Forms.{Param, Choice, Values, Form, option_in}

pub data Line : Type 0 where
  Comment : Line
  Asks : (command : Command) → Line
  Refused : (refusal : Refusal) → Line

-- words from the left: the values so far, or the refusal that ended the reading
abbrev pub Read : Type 0
Read = Result Values Refusal

-- an option is given
abbrev pub has : List (List ℕ × Given) → List ℕ → Bool
has options letter = is_some (option_in options letter)

-- the choice that is written so
abbrev pub choice_named : List Choice → List ℕ → Option Choice
choice_named [] letter = None
choice_named (c ∷ cs) letter = if bytes_eq c.letter letter then Some c else choice_named cs letter

-- a word may stand in an option's place where it is an option of the command, the first one of its kind, and no rival of one
-- that came before
abbrev pub may_follow : List (List ℕ × Given) → Choice → Bool
may_follow options c = not (has options c.letter) && not (has options c.rival)

-- what comes of a value, where there is one
abbrev pub and_then : {X Y : Type 0} → (X → Result Y Refusal) → Result X Refusal → Result Y Refusal
and_then more (Ok x) = more x
and_then more (Err refusal) = Err refusal

-- the option that a word in an option's place names
abbrev pub accepted : ℕ → List (List ℕ × Given) → Option Choice → Result Choice Refusal
accepted nth options None = Err (UnexpectedWord nth)
accepted nth options (Some c) = if may_follow options c then Ok c else Err (UnexpectedWord nth)

abbrev pub option_at : List Choice → List (List ℕ × Given) → ℕ → List ℕ → Result Choice Refusal
option_at choices options nth letter = accepted nth options (choice_named choices letter)

-- the options with the one that word `nth` names; the word behind it is its value, and is read by it
abbrev pub with_option : List (List ℕ × Given) → List ℕ → Given → List (List ℕ × Given)
with_option options letter given = options ++ (letter, given) ∷ []

abbrev pub one_option : List Choice → List Given → List (List ℕ × Given) → ℕ → List ℕ → List ℕ → Result (List (List ℕ × Given)) Refusal
one_option choices before options nth letter value =
    and_then (λ c. and_then (λ given. Ok (with_option options c.letter given)) (read c.reads (nth + 1) before value)) (option_at choices options nth letter)

-- options and their values from word `nth` on
abbrev pub read_options : List Choice → List Given → List (List ℕ × Given) → ℕ → List (List ℕ) → Read
read_options choices before options nth [] = Ok (record { words = before; options = options })
read_options choices before options nth (letter ∷ []) = and_then (λ c. Err (Missing c.letter)) (option_at choices options nth letter)
read_options choices before options nth (letter ∷ value ∷ words) =
    and_then (λ more. read_options choices before more (nth + 2) words) (one_option choices before options nth letter value)

-- the words in order from word `nth` on, and then the options
abbrev pub read_words : List Choice → List Param → List Given → ℕ → List (List ℕ) → Read
read_words choices [] before nth words = read_options choices before [] nth words
read_words choices (p ∷ ps) before nth [] = Err (Missing p.what)
read_words choices (p ∷ ps) before nth (word ∷ words) =
    and_then (λ given. read_words choices ps (before ++ given ∷ []) (nth + 1) words) (read p.reads nth before word)

-- the first option that is needed and neither given nor excluded by one that is
abbrev pub missing : List Choice → List (List ℕ × Given) → Option (List ℕ)
missing [] options = None
missing (c ∷ cs) options =
    if c.needed && not (has options c.letter || has options c.rival) then Some c.letter else missing cs options

abbrev pub unless_missing : Option (List ℕ) → Result Command Refusal → Result Command Refusal
unless_missing None made = made
unless_missing (Some letter) made = Err (Missing letter)

abbrev pub made_by : Form → Read → Result Command Refusal
made_by f (Ok values) = unless_missing (missing f.choices values.options) (f.make values)
made_by f (Err refusal) = Err refusal

abbrev pub answer : Result Command Refusal → Line
answer (Ok command) = Asks command
answer (Err refusal) = Refused refusal

-- the words behind the command's name, the first one being word 2; None where a quote isn't closed
abbrev pub by_words : Form → Option (List (List ℕ)) → Line
by_words f None = Refused OpenQuote
by_words f (Some words) = answer (made_by f (read_words f.choices f.params [] 2 words))

-- the first word behind the command's name
abbrev pub first_of : Option (List (List ℕ)) → Option (List ℕ)
first_of None = None
first_of (Some []) = None
first_of (Some (word ∷ words)) = Some word

-- where word 2 decides between two forms of a name
abbrev pub has_second : Option (List ℕ) → Option (List ℕ) → Bool
has_second None word = true
has_second (Some second) (Some word) = bytes_eq second word
has_second (Some second) None = false

abbrev pub form_of : List Form → List ℕ → Option (List ℕ) → Option Form
form_of [] name word = None
form_of (f ∷ fs) name word = if bytes_eq f.name name && has_second f.second word then Some f else form_of fs name word

-- a line that begins with no command's name
abbrev pub off_all : Option (List (List ℕ)) → Line
off_all None = Refused OpenQuote
off_all (Some words) = Refused UnknownCommand

-- all that follows the name and the blanks after it, where it is one text
abbrev pub by_form : List ℕ → Option (List (List ℕ)) → Option Form → Line
by_form behind words None = off_all words
by_form behind words (Some f) =
    if f.whole then answer (f.make (record { words = Text (without_blanks behind) ∷ []; options = [] })) else by_words f words

abbrev pub by_name : List Form → Next → Line
by_name forms NoWord = Comment
by_name forms (Word name behind) = by_form behind (words_of behind) (form_of forms name (first_of (words_of behind)))
by_name forms Unclosed = Refused OpenQuote

abbrev pub line_of : List Form → List ℕ → Line
line_of forms text =
    if nat_lt 65536 (length text) then Refused LongLine
    else if is_comment text then Comment
    else if not (is_utf8 text) then Refused NotUtf8
    else by_name forms (next_word text)
