-- What `clap` makes of the words, beside the words.
--     steps_of text      the number of steps that a text for it stands for
--     value_of text      what one digit to four write
--     Spells words folder steps      the words are this folder and this text for the number of steps, in one of the five forms
--     Proposes words folder steps      where the words ask for something, it is this folder and what this text spells
--     has_dashes words      `--` is one of them
use Rattle.std.specs.Prelude.{◌≡◌, ◌⊎◌, ℕ, Bool, ◌&&◌, nat_le, if◌then◌else◌, length, Option, Some, None, List, [], ◌∷◌, ◌++◌, codes}
use Rattle.std.specs.List.{list_all, list_any}
use Rattle.std.specs.Char.{is_ascii_digit}
use Rattle.std.specs.Str.Parse.{digits_value}
use Rattle.std.specs.Str.{bytes_eq}
use Rattle.ov_args.specs.Words.{folder_of, number_of, options_of}

abbrev pub steps_of : Option (List ℕ) → Option ℕ
steps_of None = Some 0
steps_of (Some word) = number_of word

abbrev pub value_of : List ℕ → Option ℕ
value_of word = if nat_le 1 (length word) && (nat_le (length word) 4 && list_all is_ascii_digit word) then Some (digits_value 10 word) else None

abbrev pub Spells : List (List ℕ) → List ℕ → Option (List ℕ) → Type 0
Spells (a ∷ []) f None = a ≡ f
Spells (a ∷ b ∷ []) f (Some n) = ((a ≡ f) × (b ≡ codes "--steps=" ++ n)) ⊎ ((a ≡ codes "--steps=" ++ n) × (b ≡ f))
Spells (a ∷ b ∷ c ∷ []) f (Some n) = ((a ≡ f) × (b ≡ codes "--steps") × (c ≡ n)) ⊎ ((a ≡ codes "--steps") × (b ≡ n) × (c ≡ f))
Spells _ f _ = ⊥

abbrev pub Proposes : List (List ℕ) → List ℕ → Option (List ℕ) → Type 0
Proposes words f s = (folder : List ℕ) (steps : ℕ) → options_of words ≡ Some (folder, steps)
    → (f ≡ folder) × Spells words f s × (folder_of f ≡ Some f) × (steps_of s ≡ Some steps)

abbrev pub has_dashes : List (List ℕ) → Bool
has_dashes words = list_any (λ word. bytes_eq word (codes "--")) words
