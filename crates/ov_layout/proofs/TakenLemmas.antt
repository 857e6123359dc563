-- Vids that are taken off a list one after another.
use Rattle.std.proofs.Common.{◌≡◌, ℕ, zero, suc, ◌+◌, ◌<◌, ◌≤◌, Bool, true, false, not, ◌||◌, eqb, List, [], ◌∷◌, ◌++◌, length, get_or, take, drop, refl, sym, ◌∙◌, ap, inl, inr, arith}
use Rattle.std.specs.Prelude.{filter}
use Rattle.std.proofs.lemmas.Bool.{cases_Bool, or_parts, eq-eqb, ne_eqb, eqb-true, eqb-false}
use Rattle.ov_layout.specs.Parts.{has, Ascend}
use Rattle.ov_layout.proofs.VidLemmas.{has-more}
use Rattle.ov_layout.proofs.LeaveLemmas.{stays}

abbrev pub other_than : ℕ → ℕ → Bool
other_than vid v = not (eqb v vid)

-- a vid that isn't there leaves the list as it is
pub others-all : (vids : List ℕ) (vid : ℕ) → has vids vid ≡ false → filter (other_than vid) vids ≡ vids
others-all [] vid out = refl
others-all (v ∷ vids) vid out =
    let both = or_parts (eqb v vid) (has vids vid) out in
    rw both.0 (ap (λ (vs : List ℕ). v ∷ vs) (others-all vids vid both.1))

later-out : (least : ℕ) (vids : List ℕ) (vid : ℕ) → Ascend least vids → vid < least → has vids vid ≡ false
later-out least [] vid up lt = refl
later-out least (v ∷ vids) vid up lt =
    let le = up.0 in
    rw (ne_eqb v vid (λ e. absurd (omega arith))) (later-out (suc v) vids vid up.1 (omega arith))

get-least : (least : ℕ) (vids : List ℕ) (at : ℕ) → Ascend least vids → at < length vids → least ≤ get_or vids at 0
get-least least [] at up lt = absurd (omega arith)
get-least least (v ∷ vids) zero up lt = up.0
get-least least (v ∷ vids) (suc at) up lt = let le = up.0 in let rest = get-least (suc v) vids at up.1 (omega arith) in omega arith

pub one-off : (least : ℕ) (vids : List ℕ) (at vid : ℕ) → Ascend least vids → at < length vids → get_or vids at 0 ≡ vid → take at vids ++ drop (at + 1) vids ≡ filter (other_than vid) vids
one-off least [] at vid up lt is = absurd (omega arith)
one-off least (v ∷ vids) zero vid up lt is =
    let out : has vids vid ≡ false = later-out (suc v) vids vid up.1 (omega arith) in
    rw (eq-eqb v vid is) (sym (others-all vids vid out))
one-off least (v ∷ vids) (suc at) vid up lt is =
    let below = get-least (suc v) vids at up.1 (omega arith) in
    let back : suc at + 1 ≡ suc (at + 1) = omega arith in
    rw (ne_eqb v vid (λ e. absurd (omega arith)), back) (ap (λ (vs : List ℕ). v ∷ vs) (one-off (suc v) vids at vid up.1 (omega arith) is))

-- one more vid is taken off
pub off-more : (leaving vids : List ℕ) (k : ℕ) → k < length leaving → filter (other_than (get_or leaving k 0)) (filter (stays (take k leaving)) vids) ≡ filter (stays (take (k + 1) leaving)) vids
off-more leaving [] k lt = refl
off-more leaving (v ∷ vids) k lt =
    let rest = off-more leaving vids k lt in
    let more = has-more leaving k v lt in
    elim (cases_Bool (has (take k leaving) v)) [
      | inl was ↦ rw (was, more ∙ ap (λ (b : Bool). b || eqb (get_or leaving k 0) v) was) rest
      | inr wasnt ↦ elim (cases_Bool (eqb (get_or leaving k 0) v)) [
        | inl same ↦
            let back : eqb v (get_or leaving k 0) ≡ true = eq-eqb v (get_or leaving k 0) (sym (eqb-true (get_or leaving k 0) v same)) in
            rw (wasnt, more ∙ ap (λ (b : Bool). b || eqb (get_or leaving k 0) v) wasnt ∙ same) (rw back rest)
        | inr other ↦
            let back : eqb v (get_or leaving k 0) ≡ false = ne_eqb v (get_or leaving k 0) (λ e. eqb-false (get_or leaving k 0) v other (sym e)) in
            rw (wasnt, more ∙ ap (λ (b : Bool). b || eqb (get_or leaving k 0) v) wasnt ∙ other) (rw back (ap (λ (vs : List ℕ). v ∷ vs) rest))
      ]
    ]

pub all-stay : (vids : List ℕ) → filter (stays []) vids ≡ vids
all-stay [] = refl
all-stay (v ∷ vids) = ap (λ (vs : List ℕ). v ∷ vs) (all-stay vids)
