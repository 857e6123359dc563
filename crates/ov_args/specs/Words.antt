-- What the words after the program's name ask for. A word is its bytes.
--     folder_of word      the folder that it names: any word that is not empty and does not begin with `-`
--     number_of word      the number that it spells: one digit to four, at most 1,000
--     joined_number word      N of `--steps=N`
--     number_after name word      N of `--steps N`
--     asked folder steps      both, where both are there
--     options_of words      the folder and the number of steps, where the words have one of the five forms
use Rattle.std.specs.Prelude.{ℕ, ◌==◌, ◌&&◌, nat_le, if◌then◌else◌, Option, Some, None, List, [], ◌∷◌, length, take, drop, codes}
use Rattle.std.specs.Option.{option_or}
use Rattle.std.specs.List.{list_all}
use Rattle.std.specs.Char.{is_ascii_digit}
use Rattle.std.specs.Str.{bytes_eq}
use Rattle.std.specs.Str.Parse.{digits_value}

abbrev pub folder_of : List ℕ → Option (List ℕ)
folder_of [] = None
folder_of (b ∷ bs) = if b == 45 then None else Some (b ∷ bs)

abbrev pub number_of : List ℕ → Option ℕ
number_of word =
    if nat_le 1 (length word) && (nat_le (length word) 4 && (list_all is_ascii_digit word && nat_le (digits_value 10 word) 1000))
    then Some (digits_value 10 word) else None

abbrev pub joined_number : List ℕ → Option ℕ
joined_number word = if bytes_eq (take 8 word) (codes "--steps=") then number_of (drop 8 word) else None

abbrev pub number_after : List ℕ → List ℕ → Option ℕ
number_after name word = if bytes_eq name (codes "--steps") then number_of word else None

abbrev pub asked : Option (List ℕ) → Option ℕ → Option (List ℕ × ℕ)
asked (Some folder) (Some steps) = Some (folder, steps)
asked _ _ = None

-- F, or F --steps=N, or --steps=N F, or F --steps N, or --steps N F
abbrev pub options_of : List (List ℕ) → Option (List ℕ × ℕ)
options_of (a ∷ []) = asked (folder_of a) (Some 0)
options_of (a ∷ b ∷ []) = option_or (asked (folder_of a) (joined_number b)) (asked (folder_of b) (joined_number a))
options_of (a ∷ b ∷ c ∷ []) = option_or (asked (folder_of a) (number_after b c)) (asked (folder_of c) (number_after a b))
options_of _ = None
