-- Bytes that were read ahead are the journal's.
use Rattle.std.proofs.Common.{◌≡◌, ◌≤◌, ◌<◌, ◌⊎◌, inl, inr, ℕ, ◌+◌, ◌-◌, Bool, true, false, if◌then◌else◌, List, [], length, take, drop, refl, sym, ◌∙◌, ap, arith}
use Rattle.std.specs.Prelude.{nat_le}
use Rattle.std.proofs.lemmas.Bool.{leb-true}
use Rattle.std.proofs.lemmas.Bool.Decides.{leb_tells}
use Rattle.std.proofs.Math.Dec.{leb}
use Rattle.std.proofs.lemmas.List.{drop-drop, drop-take, take-take, length-take}
use Rattle.std.proofs.Math.ListN.{drop_of_length-le}
use Rattle.std.proofs.Math.Seq.{take-length}
use Rattle.ov_journal.specs.Ahead.{Ahead, IsOf, behind}

-- the front of a list from a place on
on_a_side : (k n : ℕ) (xs : List ℕ) → ((leb k n ≡ true) × (k ≤ n)) ⊎ ((leb k n ≡ false) × (n < k)) → drop k (take n xs) ≡ take (n - k) (drop k xs)
on_a_side k n xs (inl within) =
    let whole : n ≡ k + (n - k) = omega (arith, within.1)
    in ap (λ m. drop k (take m xs)) whole ∙ drop-take k (n - k) xs
on_a_side k n xs (inr past) =
    let none : 0 ≡ n - k = omega (arith, past.1)
    in drop_of_length-le (take n xs) (omega (arith, past.1, length-take n xs)) ∙ ap (λ m. take m (drop k xs)) none

drop-of-take : (k n : ℕ) (xs : List ℕ) → drop k (take n xs) ≡ take (n - k) (drop k xs)
drop-of-take k n xs = on_a_side k n xs (leb_tells k n)

abbrev IsFrom : List ℕ → ℕ → List ℕ → Type 0
IsFrom all at part = part ≡ take (length part) (drop at all)

-- a front is itself, cut at its length
front_is : (n : ℕ) (xs part : List ℕ) → part ≡ take n xs → part ≡ take (length part) xs
front_is n xs part is = sym (take-length part) ∙ ap (take (length part)) is ∙ take-take (length part) n xs (omega (arith, ap length is, length-take n xs))

from_is : (all : List ℕ) (ahead : Ahead) (at : ℕ) (b : Bool) → nat_le ahead.from at ≡ b → IsOf all ahead → IsFrom all at (if b then drop (at - ahead.from) ahead.bytes else [])
from_is all ahead at false off is = refl
from_is all ahead at true on is =
    let k : ℕ = at - ahead.from
    in let n : ℕ = length ahead.bytes
    in let below : ahead.from ≤ at = leb-true ahead.from at on
    in let there : ahead.from + k ≡ at = omega arith
    in front_is (n - k) (drop at all) (drop k ahead.bytes)
    (ap (drop k) is ∙ drop-of-take k n (drop ahead.from all) ∙ ap (take (n - k)) (drop-drop k ahead.from all ∙ ap (λ m. drop m all) there))

-- those behind a place stand there
pub behind_is : (all : List ℕ) (ahead : Ahead) (at : ℕ) → IsOf all ahead → behind ahead at ≡ take (length (behind ahead at)) (drop at all)
behind_is all ahead at is = from_is all ahead at (nat_le ahead.from at) refl is

-- so many of them
pub front_of : (all : List ℕ) (ahead : Ahead) (at count : ℕ) → IsOf all ahead → count ≤ length (behind ahead at) → take count (behind ahead at) ≡ take count (drop at all)
front_of all ahead at count is enough = ap (take count) (behind_is all ahead at is) ∙ take-take count (length (behind ahead at)) (drop at all) enough
