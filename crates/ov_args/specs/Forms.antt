-- The five forms, each written out.
--     HasForm words folder steps      the words are F, F --steps N, --steps N F, F --steps=N or --steps=N F, of this folder and this number
use Rattle.std.specs.Prelude.{◌≡◌, ℕ, Some, List, [], ◌∷◌, ◌++◌, codes}
use Rattle.ov_args.specs.Words.{folder_of, number_of}

pub data HasForm : List (List ℕ) → List ℕ → ℕ → Type 0 where
  alone : (folder : List ℕ) → folder_of folder ≡ Some folder → HasForm (folder ∷ []) folder 0
  then_number : (folder digits : List ℕ) (steps : ℕ) → folder_of folder ≡ Some folder → number_of digits ≡ Some steps
      → HasForm (folder ∷ codes "--steps" ∷ digits ∷ []) folder steps
  after_number : (folder digits : List ℕ) (steps : ℕ) → folder_of folder ≡ Some folder → number_of digits ≡ Some steps
      → HasForm (codes "--steps" ∷ digits ∷ folder ∷ []) folder steps
  then_joined : (folder digits : List ℕ) (steps : ℕ) → folder_of folder ≡ Some folder → number_of digits ≡ Some steps
      → HasForm (folder ∷ (codes "--steps=" ++ digits) ∷ []) folder steps
  after_joined : (folder digits : List ℕ) (steps : ℕ) → folder_of folder ≡ Some folder → number_of digits ≡ Some steps
      → HasForm ((codes "--steps=" ++ digits) ∷ folder ∷ []) folder steps
