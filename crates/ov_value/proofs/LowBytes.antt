-- Numbers as bytes, the least first.
use Rattle.std.proofs.Common.{◌≡◌, ◌<◌, ◌≤◌, ◌+◌, ◌-◌, ◌*◌, ◌/◌, ◌%◌, ◌^◌, ℕ, zero, suc, List, [], ◌∷◌, ◌++◌, length, get_or, refl, sym, ◌∙◌, ap, subst, arith, append_assoc}
use Rattle.std.proofs.Math.Nat.{pow-suc, pow-le-pow_right}
use Rattle.std.proofs.lemmas.Bool.{cases_lt}
use Rattle.std.proofs.Common.{drop, take, length-append, length-take, get_or-drop, get_or-take, inl, inr}
use Rattle.std.proofs.lemmas.List.{get_or_past, length-drop, take-append-drop, take_at, drop_at}
use Rattle.std.proofs.lemmas.Nat.{div_below}
use Rattle.ov_value.specs.Spelling.{low_bytes}
use Rattle.ov_value.specs.Reading.{low_number}

low_bytes_next : (m n rest : ℕ) → m ≡ suc n → low_bytes m rest ≡ rest % 256 ∷ low_bytes n (rest / 256)
low_bytes_next m n rest e = rw e refl

-- one more byte is written
pub push_step : (items start : List ℕ) (count k rest : ℕ) → k < count → items ++ low_bytes (count - k) rest ≡ start
    → (items ++ rest % 256 ∷ []) ++ low_bytes (count - (k + 1)) (rest / 256) ≡ start
push_step items start count k rest h e =
    append_assoc items (rest % 256 ∷ []) (low_bytes (count - (k + 1)) (rest / 256))
    ∙ ap (λ (l : List ℕ). items ++ l) (sym (low_bytes_next (count - k) (count - (k + 1)) rest (omega arith)))
    ∙ e

pub length-low_bytes : (count n : ℕ) → length (low_bytes count n) ≡ count
length-low_bytes zero n = refl
length-low_bytes (suc count) n = ap suc (length-low_bytes count (n / 256))

-- the bytes of a small number are those of no other
pub low_number-low_bytes : (count n : ℕ) → n < 256 ^ count → low_number (low_bytes count n) ≡ n
low_number-low_bytes zero n h = omega arith
low_number-low_bytes (suc count) n h =
    let less : n / 256 < 256 ^ count = div_below n 256 (256 ^ count) (omega arith) (omega (arith, pow-suc 256 count)) in
    rw (low_number-low_bytes count (n / 256) less) (omega arith)

pub low_number-less : (bytes : List ℕ) → ((i : ℕ) → get_or bytes i 0 < 256) → low_number bytes < 256 ^ length bytes
low_number-less [] h = omega arith
low_number-less (b ∷ bytes) h = omega (arith, low_number-less bytes (λ i. h (suc i)), h 0, pow-suc 256 (length bytes))

pub low_bytes-low_number : (bytes : List ℕ) → ((i : ℕ) → get_or bytes i 0 < 256) → low_bytes (length bytes) (low_number bytes) ≡ bytes
low_bytes-low_number [] h = refl
low_bytes-low_number (b ∷ bytes) h =
    let first : (b + 256 * low_number bytes) % 256 ≡ b = omega (arith, h 0) in
    let rest : (b + 256 * low_number bytes) / 256 ≡ low_number bytes = omega (arith, h 0) in
    rw (first, rest) (ap (λ (l : List ℕ). b ∷ l) (low_bytes-low_number bytes (λ i. h (suc i))))

-- each is a byte
abbrev pub AreBytes : List ℕ → Type 0
AreBytes bytes = (i : ℕ) → get_or bytes i 0 < 256

pub drop_fits : (n : ℕ) (bytes : List ℕ) → AreBytes bytes → AreBytes (drop n bytes)
drop_fits n bytes h i = rw get_or-drop (h (n + i))

pub take_fits : (n : ℕ) (bytes : List ℕ) → AreBytes bytes → AreBytes (take n bytes)
take_fits n bytes h i =
    elim (cases_lt i n) [
      | inl lt ↦ rw (get_or-take n bytes i 0 lt) (h i)
      | inr le ↦ rw (get_or_past (take n bytes) i 0 (omega (arith, length-take n bytes))) (omega arith)
    ]

-- seven bytes are below 2^56
pub low_number-bound : (bytes : List ℕ) → AreBytes bytes → length bytes ≤ 7 → low_number bytes < 256 ^ 7
low_number-bound bytes h few =
    let most : 256 ^ length bytes ≤ 256 ^ 7 = pow-le-pow_right (omega arith) few in
    omega (arith, low_number-less bytes h, most)

-- the number of at most seven of the last bytes
pub tail_number-bound : (bytes : List ℕ) (i n : ℕ) → AreBytes bytes → length bytes ≤ 8 → i < length bytes → n ≡ low_number (drop (length bytes - i) bytes) → n < 256 ^ 7
tail_number-bound bytes i n h few lt e =
    let least : length (drop (length bytes - i) bytes) ≤ 7 = omega (arith, length-drop (length bytes - i) bytes) in
    rw e (low_number-bound (drop (length bytes - i) bytes) (drop_fits (length bytes - i) bytes h) least)

-- the bytes of the number that some front is, and what is behind it
pub front_again : (rest front : List ℕ) (count : ℕ) → AreBytes rest → count ≤ length rest → front ≡ take count rest → rest ≡ low_bytes count (low_number front) ++ drop count rest
front_again rest front count h le e =
    let len : length (take count rest) ≡ count = omega (arith, length-take count rest) in
    let same : low_bytes count (low_number (take count rest)) ≡ take count rest =
    subst (λ n. low_bytes n (low_number (take count rest)) ≡ take count rest) len (low_bytes-low_number (take count rest) (take_fits count rest h)) in
    rw (e, same) (sym (take-append-drop count rest))

pub front_small : (rest front : List ℕ) (count : ℕ) → AreBytes rest → count ≤ length rest → front ≡ take count rest → low_number front < 256 ^ count
front_small rest front count h le e =
    let len : length (take count rest) ≡ count = omega (arith, length-take count rest) in
    rw e (subst (λ n. low_number (take count rest) < 256 ^ n) len (low_number-less (take count rest) (take_fits count rest h)))

-- equal bytes in front of the rest are those of one number
pub low_bytes-injective : (count m n : ℕ) (xs ys : List ℕ) → m < 256 ^ count → n < 256 ^ count → low_bytes count m ++ xs ≡ low_bytes count n ++ ys → (m ≡ n) × (xs ≡ ys)
low_bytes-injective count m n xs ys small_m small_n e =
    let fronts : low_bytes count m ≡ low_bytes count n =
    sym (take_at (low_bytes count m) xs count (length-low_bytes count m)) ∙ ap (take count) e ∙ take_at (low_bytes count n) ys count (length-low_bytes count n) in
    let rests : xs ≡ ys =
    sym (drop_at (low_bytes count m) xs count (length-low_bytes count m)) ∙ ap (drop count) e ∙ drop_at (low_bytes count n) ys count (length-low_bytes count n) in
    (sym (low_number-low_bytes count m small_m) ∙ ap low_number fronts ∙ low_number-low_bytes count n small_n, rests)

-- where marks stand, their bytes do
pub marks_whole : (w : ℕ) (xs : List ℕ) (width nulls : ℕ) (rest : List ℕ) → w ∷ xs ≡ width ∷ (low_bytes ((width + 7) / 8) nulls ++ rest) → (w ≡ width) × ((width + 7) / 8 ≤ length xs)
marks_whole w xs width nulls rest e =
    let tails : xs ≡ low_bytes ((width + 7) / 8) nulls ++ rest = cc in
    (cc, rw tails (omega (arith, length-append (low_bytes ((width + 7) / 8) nulls) rest, length-low_bytes ((width + 7) / 8) nulls)))
