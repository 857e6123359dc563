-- Eight bytes more that are ASCII.
use Rattle.std.proofs.Common.{◌≡◌, ◌<◌, ◌≤◌, ◌+◌, ◌-◌, ◌/◌, ◌%◌, ◌^◌, bit_and, sym, w64, ℕ, zero, suc, refl, List, [], ◌∷◌, length, get_or, take, drop, ◌∙◌, ap, subst, arith}
use Rattle.std.specs.Prelude.{min}
use Rattle.std.specs.Int.{bit_at, from_le_bytes}
use Rattle.std.specs.List.{All}
use Rattle.std.proofs.lemmas.Nat.Bits.{bit_at_and, bit_at-zero}
use Rattle.std.proofs.lemmas.List.{take_all, length-drop, drop-drop}
use Rattle.std.proofs.lemmas.List.Elements.{All-append, All-from_recursion, All-tail}
use Rattle.std.specs.Str.{IsAscii}

abbrev pub Low : ℕ → Type 0
Low b = b < 128

pub eight_more : (xs : List ℕ) → 8 ≤ length xs
    → All Low (get_or xs 0 0 ∷ get_or xs 1 0 ∷ get_or xs 2 0 ∷ get_or xs 3 0 ∷ get_or xs 4 0 ∷ get_or xs 5 0 ∷ get_or xs 6 0 ∷ get_or xs 7 0 ∷ [])
    → All Low (take (length xs - 8) (drop 8 xs)) → All Low xs
eight_more [] some front back = absurd (omega (arith, some))
eight_more (a ∷ []) some front back = absurd (omega (arith, some))
eight_more (a ∷ b ∷ []) some front back = absurd (omega (arith, some))
eight_more (a ∷ b ∷ c ∷ []) some front back = absurd (omega (arith, some))
eight_more (a ∷ b ∷ c ∷ d ∷ []) some front back = absurd (omega (arith, some))
eight_more (a ∷ b ∷ c ∷ d ∷ e ∷ []) some front back = absurd (omega (arith, some))
eight_more (a ∷ b ∷ c ∷ d ∷ e ∷ f ∷ []) some front back = absurd (omega (arith, some))
eight_more (a ∷ b ∷ c ∷ d ∷ e ∷ f ∷ g ∷ []) some front back = absurd (omega (arith, some))
eight_more (a ∷ b ∷ c ∷ d ∷ e ∷ f ∷ g ∷ h ∷ xs) some front back =
    let count : length (a ∷ b ∷ c ∷ d ∷ e ∷ f ∷ g ∷ h ∷ xs) - 8 ≡ length xs = omega arith in
    All-append Low (a ∷ b ∷ c ∷ d ∷ e ∷ f ∷ g ∷ h ∷ []) xs front (subst (All Low) (whole count) back')
  where
    whole : length (a ∷ b ∷ c ∷ d ∷ e ∷ f ∷ g ∷ h ∷ xs) - 8 ≡ length xs → take (length (a ∷ b ∷ c ∷ d ∷ e ∷ f ∷ g ∷ h ∷ xs) - 8) xs ≡ xs
    whole count = ap (λ n. take n xs) count ∙ take_all (length xs) xs (omega arith)

    back' : All Low (take (length (a ∷ b ∷ c ∷ d ∷ e ∷ f ∷ g ∷ h ∷ xs) - 8) xs)
    back' = back

pub get_same : (xs : List ℕ) (i d : ℕ) → i < length xs → get_or xs i 0 ≡ get_or xs i d
get_same [] i d low = absurd (omega (arith, low))
get_same (x ∷ xs) zero d low = refl
get_same (x ∷ xs) (suc i) d low = get_same xs i d (omega (arith, low))

pub ascii_of : (xs : List ℕ) → All Low xs → IsAscii xs
ascii_of [] all i = omega arith
ascii_of (x ∷ xs) all zero = all 0 0 (omega arith)
ascii_of (x ∷ xs) all (suc i) = ascii_of xs (All-tail Low x xs all) i

-- ---- the highest bits of eight bytes

no_bit : (v i : ℕ) → bit_and v 0x8080_8080_8080_8080 ≡ 0 → bit_at 0x8080_8080_8080_8080 i ≡ 1 → v / 2 ^ i % 2 ≡ 0
no_bit v i none one =
    let least : min (bit_at v i) 1 ≡ 0 = ap (λ n. min (bit_at v i) n) (sym one) ∙ sym (bit_at_and v 0x8080_8080_8080_8080 i) ∙ ap (λ n. bit_at n i) none ∙ bit_at-zero i in
    omega (arith, least)

pub low_eight : (a b c d e f g h v : ℕ) → a < 256 → b < 256 → c < 256 → d < 256 → e < 256 → f < 256 → g < 256 → h < 256
    → v ≡ from_le_bytes w64 (a ∷ b ∷ c ∷ d ∷ e ∷ f ∷ g ∷ h ∷ []) → bit_and v 0x8080_8080_8080_8080 ≡ 0 → All Low (a ∷ b ∷ c ∷ d ∷ e ∷ f ∷ g ∷ h ∷ [])
low_eight a b c d e f g h v fa fb fc fd fe ff fg fh is none =
    let ba : v / 2 ^ 7 % 2 ≡ 0 = no_bit v 7 none refl in
    let bb : v / 2 ^ 15 % 2 ≡ 0 = no_bit v 15 none refl in
    let bc : v / 2 ^ 23 % 2 ≡ 0 = no_bit v 23 none refl in
    let bd : v / 2 ^ 31 % 2 ≡ 0 = no_bit v 31 none refl in
    let be : v / 2 ^ 39 % 2 ≡ 0 = no_bit v 39 none refl in
    let bf : v / 2 ^ 47 % 2 ≡ 0 = no_bit v 47 none refl in
    let bg : v / 2 ^ 55 % 2 ≡ 0 = no_bit v 55 none refl in
    let bh : v / 2 ^ 63 % 2 ≡ 0 = no_bit v 63 none refl in
    All-from_recursion Low (a ∷ b ∷ c ∷ d ∷ e ∷ f ∷ g ∷ h ∷ []) (
      omega (arith, is, ba, fa),
      (
        omega (arith, is, bb, fa, fb),
        (
          omega (arith, is, bc, fa, fb, fc),
          (
            omega (arith, is, bd, fa, fb, fc, fd),
            (
              omega (arith, is, be, fa, fb, fc, fd, fe),
              (
                omega (arith, is, bf, fa, fb, fc, fd, fe, ff),
                (
                  omega (arith, is, bg, fa, fb, fc, fd, fe, ff, fg),
                  (omega (arith, is, bh, fa, fb, fc, fd, fe, ff, fg, fh), tt),
                ),
              ),
            ),
          ),
        ),
      ),
    )

-- ---- the last eight bytes

one_of_eight : (f : ℕ → ℕ) (k : ℕ) → k < 8 → get_or (f 0 ∷ f 1 ∷ f 2 ∷ f 3 ∷ f 4 ∷ f 5 ∷ f 6 ∷ f 7 ∷ []) k 0 ≡ f k
one_of_eight f zero low = refl
one_of_eight f (suc zero) low = refl
one_of_eight f (suc (suc zero)) low = refl
one_of_eight f (suc (suc (suc zero))) low = refl
one_of_eight f (suc (suc (suc (suc zero)))) low = refl
one_of_eight f (suc (suc (suc (suc (suc zero))))) low = refl
one_of_eight f (suc (suc (suc (suc (suc (suc zero)))))) low = refl
one_of_eight f (suc (suc (suc (suc (suc (suc (suc zero))))))) low = refl
one_of_eight f (suc (suc (suc (suc (suc (suc (suc (suc k)))))))) low = absurd (omega (arith, low))

pub last_eight : (xs : List ℕ) (at : ℕ) → at + 8 ≡ length xs
    → All Low (get_or xs at 0 ∷ get_or xs (at + 1) 0 ∷ get_or xs (at + 2) 0 ∷ get_or xs (at + 3) 0 ∷ get_or xs (at + 4) 0 ∷ get_or xs (at + 5) 0 ∷ get_or xs (at + 6) 0 ∷ get_or xs (at + 7) 0 ∷ [])
    → (k : ℕ) → length xs ≤ k + 8 → k < length xs → get_or xs k 0 < 128
last_eight xs at is all k low high =
    let f : ℕ → ℕ = λ i. get_or xs (at + i) 0 in
    let first : at + 0 ≡ at = omega arith in
    let eight : All Low (f 0 ∷ f 1 ∷ f 2 ∷ f 3 ∷ f 4 ∷ f 5 ∷ f 6 ∷ f 7 ∷ []) = subst (λ n. All Low (get_or xs n 0 ∷ f 1 ∷ f 2 ∷ f 3 ∷ f 4 ∷ f 5 ∷ f 6 ∷ f 7 ∷ [])) (sym first) all in
    let less : k - at < 8 = omega (arith, is, low, high) in
    let back : at + (k - at) ≡ k = omega (arith, is, low) in
    subst (λ n. get_or xs n 0 < 128) back (subst (λ x. x < 128) (one_of_eight f (k - at) less) (eight (k - at) 0 less))

-- what is left of bytes, fewer than eight, is among the last eight
pub record IsTail (xs rest : List ℕ) : Type 0 where
  pub short : length rest ≤ length xs
  pub is : rest ≡ drop (length xs - length rest) xs

pub whole_tail : (xs : List ℕ) → IsTail xs xs
whole_tail xs = let none : length xs - length xs ≡ 0 = omega arith in record { short = omega arith; is = sym (ap (λ n. drop n xs) none) }

pub tail_more : (xs rest : List ℕ) → 8 ≤ length rest → IsTail xs rest → IsTail xs (take (length rest - 8) (drop 8 rest))
tail_more xs rest some t =
    let long : length (drop 8 rest) ≡ length rest - 8 = length-drop 8 rest in
    let all : take (length rest - 8) (drop 8 rest) ≡ drop 8 rest = take_all (length rest - 8) (drop 8 rest) (omega (arith, long)) in
    let place : (length xs - length rest) + 8 ≡ length xs - (length rest - 8) = omega (arith, some, t.short) in
    subst (IsTail xs) (sym all) (record {
      short = omega (arith, long, t.short);
      is = ap (drop 8) t.is ∙ drop-drop 8 (length xs - length rest) xs ∙ ap (λ n. drop n xs) (place ∙ ap (λ n. length xs - n) (sym long));
    })

get_drop : (xs : List ℕ) (n k d : ℕ) → get_or (drop n xs) k d ≡ get_or xs (n + k) d
get_drop xs zero k d = let e : 0 + k ≡ k = omega arith in ap (λ m. get_or xs m d) (sym e)
get_drop [] (suc n) k d = refl
get_drop (x ∷ xs) (suc n) k d = let e : suc n + k ≡ suc (n + k) = omega arith in get_drop xs n k d ∙ ap (λ m. get_or (x ∷ xs) m d) (sym e)

pub tail_low : (xs rest : List ℕ) → IsTail xs rest → length rest < 8 → ((k : ℕ) → length xs ≤ k + 8 → k < length xs → get_or xs k 0 < 128) → All Low rest
tail_low xs rest t few last k d low =
    let n : ℕ = length xs - length rest in
    let here : get_or xs (n + k) 0 < 128 = last (n + k) (omega (arith, few, t.short)) (omega (arith, low, t.short)) in
    let same : get_or rest k 0 ≡ get_or xs (n + k) 0 = ap (λ l. get_or l k 0) t.is ∙ get_drop xs n k 0 in
    subst (λ x. x < 128) (sym same ∙ get_same rest k d low) here
