-- What `clap` makes of each of the five forms.
use Rattle.std.proofs.Common.{◌≡◌, ℕ, ◌==◌, true, false, List, [], ◌∷◌, ◌++◌, Option, Some, None, codes}
use Rattle.clap.specs.Words.{first_of, matches_of, takes}
use Rattle.clap.proofs.OnLiterals.{clap_on_literals}
use Rattle.ov_args.specs.Command.{the_command}

-- the command takes the words, and reads this folder and this text for the number of steps in them
pub record Reads (words : List (List ℕ)) (folder : List ℕ) (text : Option (List ℕ)) : Type 0 where
  pub taken : takes the_command words ≡ true
  pub folder_read : first_of (codes "folder") (matches_of the_command words) ≡ Some folder
  pub text_read : first_of (codes "steps") (matches_of the_command words) ≡ text

pub reads-alone : (x : ℕ) (f : List ℕ) → (x == 45) ≡ false → Reads ((x ∷ f) ∷ []) (x ∷ f) None
unfolding clap_on_literals
reads-alone x f h = record { taken = simp h; folder_read = simp h; text_read = simp h }

pub reads-then_number : (x : ℕ) (f : List ℕ) (y : ℕ) (n : List ℕ) → (x == 45) ≡ false → (y == 45) ≡ false
    → Reads ((x ∷ f) ∷ codes "--steps" ∷ (y ∷ n) ∷ []) (x ∷ f) (Some (y ∷ n))
unfolding clap_on_literals
reads-then_number x f y n h k = record { taken = simp (h, k); folder_read = simp (h, k); text_read = simp (h, k) }

pub reads-after_number : (x : ℕ) (f : List ℕ) (y : ℕ) (n : List ℕ) → (x == 45) ≡ false → (y == 45) ≡ false
    → Reads (codes "--steps" ∷ (y ∷ n) ∷ (x ∷ f) ∷ []) (x ∷ f) (Some (y ∷ n))
unfolding clap_on_literals
reads-after_number x f y n h k = record { taken = simp (h, k); folder_read = simp (h, k); text_read = simp (h, k) }

pub reads-then_joined : (x : ℕ) (f n : List ℕ) → (x == 45) ≡ false → Reads ((x ∷ f) ∷ (codes "--steps=" ++ n) ∷ []) (x ∷ f) (Some n)
unfolding clap_on_literals
reads-then_joined x f n h = record { taken = simp h; folder_read = simp h; text_read = simp h }

pub reads-after_joined : (x : ℕ) (f n : List ℕ) → (x == 45) ≡ false → Reads ((codes "--steps=" ++ n) ∷ (x ∷ f) ∷ []) (x ∷ f) (Some n)
unfolding clap_on_literals
reads-after_joined x f n h = record { taken = simp h; folder_read = simp h; text_read = simp h }
