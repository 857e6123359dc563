-- Sets that leave nothing out of each other are the same.
use Rattle.std.proofs.Common.{◌≡◌, ℕ, Bool, true, false, not, ◌&&◌, List, [], ◌∷◌, length, refl, sym, ◌∙◌, ap, arith}
use Rattle.ov_member.specs.Rids.{AreRids, has, left_out}
use Rattle.ov_member.proofs.RidLemmas.{RiseFrom-filter, has-filter, same_from}

out_of : (xs ys : List ℕ) (n : ℕ) → has (left_out xs ys) n ≡ (has xs n && not (has ys n))
out_of xs ys n = has-filter (λ rid. not (has ys rid)) xs n

empty : (xs : List ℕ) → length xs ≡ 0 → xs ≡ []
empty [] none = refl
empty (x ∷ xs) none = absurd (omega (arith, none))

neither : (a b : Bool) → (a && not b) ≡ false → (b && not a) ≡ false → a ≡ b
neither true true e f = refl
neither true false e f = e
neither false true e f = sym f
neither false false e f = refl

pub same_of_out : (xs ys : List ℕ) → AreRids xs → AreRids ys → length (left_out xs ys) ≡ 0 → length (left_out ys xs) ≡ 0 → xs ≡ ys
same_of_out xs ys set other more fewer =
    same_from 1 1 xs ys set other (λ n.
    neither (has xs n) (has ys n)
    (sym (out_of xs ys n) ∙ ap (λ (l : List ℕ). has l n) (empty (left_out xs ys) more))
    (sym (out_of ys xs n) ∙ ap (λ (l : List ℕ). has l n) (empty (left_out ys xs) fewer)))

both_ways : (a : Bool) → (a && not a) ≡ false
both_ways true = refl
both_ways false = refl

pub none_out : (xs : List ℕ) → AreRids xs → left_out xs xs ≡ []
none_out xs set =
    same_from 1 1 (left_out xs xs) [] (RiseFrom-filter (λ rid. not (has xs rid)) 1 xs set) tt (λ n. out_of xs xs n ∙ both_ways (has xs n))
