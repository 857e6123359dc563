-- Whether a dataset of a name may begin.
use Rattle.std.proofs.Common.{Bor, ◌≡◌, ◌==◌, ◌||◌, ◌<◌, ◌≤◌, ℕ, Bool, true, false, List, [], ◌∷◌, length, refl, sym, ◌∙◌, ap, arith}
use Rattle.std.specs.Prelude.{Option, Some, None, find, is_some, nat_le, option_map, option_copied, if◌then◌else◌}
use Rattle.std.specs.List.{list_any}
use Rattle.std.specs.Option.{option_or}
use Rattle.std.proofs.lemmas.Bool.{le-leb, lt-leb, ne_eqb}
use Rattle.ov_catalog.specs.Applying.{is_named}
use Rattle.ov_catalog.specs.Numbers.{SetNumbers, Numbers}
use Rattle.ov_store.specs.declared.errors.StoreErr.{StoreErr}
use Rattle.ov_store.specs.declared.errors.StoreErr.TheVariants as why
use Rattle.ov_store.specs.Refusals.{off_if, new_off}

some_map : {A B : Type 0} (f : A → B) (o : Option A) → is_some (option_map f o) ≡ is_some o
some_map f None = refl
some_map f (Some x) = refl

some_copied : {A : Type 0} (o : Option (Bor A)) → is_some (option_copied o) ≡ is_some o
some_copied None = refl
some_copied (Some x) = refl

pub any_found : {L S : Type 0} (name : List ℕ) (sets : List (SetNumbers L S)) → list_any (is_named name) sets ≡ is_some (find (is_named name) sets)
any_found name [] = refl
any_found name (d ∷ sets) = by (is_named name d) (any_found name sets)
  where
    by : (b : Bool) → list_any (is_named name) sets ≡ is_some (find (is_named name) sets)
        → (b || list_any (is_named name) sets) ≡ is_some (if b then Some d else find (is_named name) sets)
    by true later = refl
    by false later = later

-- a dataset is found by its name exactly where there is one
pub found_any : {A L S : Type 0} (f : A → SetNumbers L S) (o : Option (Bor A)) (name : List ℕ) (sets : List (SetNumbers L S))
    → option_map f (option_copied o) ≡ find (is_named name) sets → list_any (is_named name) sets ≡ is_some o
found_any f o name sets e = any_found name sets ∙ sym (ap is_some e) ∙ some_map f (option_copied o) ∙ some_copied o

module _ {L S : Type 0} (n : Numbers L S) (name : List ℕ) where
  abbrev by_count : Option StoreErr
  by_count = option_or (off_if (nat_le 1024 (length n.sets)) why.TooManyCvds) (off_if (n.next == 4294967295) why.NoNumbers)

  pub off_taken : list_any (is_named name) n.sets ≡ true → new_off n name ≡ Some why.CvdExists
  off_taken e = ap (λ b. option_or (off_if b why.CvdExists) by_count) e

  not_taken : list_any (is_named name) n.sets ≡ false → new_off n name ≡ by_count
  not_taken e = ap (λ b. option_or (off_if b why.CvdExists) by_count) e

  pub off_many : list_any (is_named name) n.sets ≡ false → 1024 ≤ length n.sets → new_off n name ≡ Some why.TooManyCvds
  off_many e many = not_taken e ∙ ap (λ b. option_or (off_if b why.TooManyCvds) (off_if (n.next == 4294967295) why.NoNumbers)) (le-leb 1024 (length n.sets) many)

  few : length n.sets < 1024 → nat_le 1024 (length n.sets) ≡ false
  few less = lt-leb 1024 (length n.sets) less

  not_many : list_any (is_named name) n.sets ≡ false → length n.sets < 1024 → new_off n name ≡ off_if (n.next == 4294967295) why.NoNumbers
  not_many e less = not_taken e ∙ ap (λ b. option_or (off_if b why.TooManyCvds) (off_if (n.next == 4294967295) why.NoNumbers)) (few less)

  pub off_numbers : list_any (is_named name) n.sets ≡ false → length n.sets < 1024 → n.next ≡ 4294967295 → new_off n name ≡ Some why.NoNumbers
  off_numbers e less last = not_many e less ∙ ap (λ b. off_if b why.NoNumbers) (ap (λ k. k == 4294967295) last)

  pub off_none : list_any (is_named name) n.sets ≡ false → length n.sets < 1024 → n.next < 4294967295 → new_off n name ≡ None
  off_none e less below = not_many e less ∙ ap (λ b. off_if b why.NoNumbers) (differs below)
    where
      differs : n.next < 4294967295 → (n.next == 4294967295) ≡ false
      differs low = ne_eqb n.next 4294967295 (λ e. omega (arith, low, e))
