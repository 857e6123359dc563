-- The fields of a record that passed the test for texts.
use Rattle.std.proofs.Common.{◌≡◌, ◌+◌, ◌-◌, ◌∷◌, [], ℕ, List, zero, suc, refl, true, false, inl, inr, arith, take, drop, get_or-drop}
use Rattle.std.specs.Prelude.{slice_index_or}
use Rattle.std.specs.List.{list_all}
use Rattle.std.specs.Str.{is_utf8, IsUtf8, IsAscii}
use Rattle.std.proofs.lemmas.Bool.{cases_Bool}
use Rattle.std.proofs.lemmas.Str.{is_utf8-from_IsUtf8, IsUtf8-from_is_utf8, IsUtf8-from_ascii, IsUtf8-nil}
use Rattle.csv.specs.Records.{cut_from}
use Rattle.ov_csv.proofs.Spelled.{and-left, and-right, both}

-- the front of a text of ASCII
pub ascii-front : (n : ℕ) (bytes : List ℕ) → IsAscii bytes → IsAscii (take n bytes)
ascii-front zero bytes h i = omega arith
ascii-front (suc n) [] h i = omega arith
ascii-front (suc n) (b ∷ bs) h zero = h 0
ascii-front (suc n) (b ∷ bs) h (suc i) = ascii-front n bs (λ j. h (suc j)) i

-- each field of a record whose bytes are ASCII is a text
pub ascii-texts : (start : ℕ) (ends bytes : List ℕ) → IsAscii bytes → list_all is_utf8 (cut_from start ends bytes) ≡ true
unfolding cut_from
ascii-texts start [] bytes h = refl
ascii-texts start (end ∷ ends) bytes h =
    let rest : IsAscii (drop start bytes) = λ i. rw (get_or-drop start bytes i 0) (h (start + i)) in
    both _ _ (is_utf8-from_IsUtf8 _ (IsUtf8-from_ascii _ (ascii-front (end - start) _ rest))) (ascii-texts end ends bytes h)

-- the field at a place, or no bytes, is a text
pub text-at : (fields : List (List ℕ)) (place : ℕ) → list_all is_utf8 fields ≡ true → IsUtf8 (slice_index_or fields place [])
text-at [] place h = IsUtf8-nil
text-at (f ∷ fs) zero h = IsUtf8-from_is_utf8 f (and-left _ _ h)
text-at (f ∷ fs) (suc place) h = text-at fs place (and-right _ _ h)

-- bytes that are no text fail the test
pub no-text : (bytes : List ℕ) → ¬ (IsUtf8 bytes) → is_utf8 bytes ≡ false
no-text bytes n = elim (cases_Bool (is_utf8 bytes)) [
  | inl t ↦ absurd (n (IsUtf8-from_is_utf8 bytes t))
  | inr f ↦ f
]
