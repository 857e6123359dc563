use Rattle.std.proofs.Common.{add-one, length-append, length-take, get_or-take, ◌≡◌, ◌<◌, ◌≤◌, ◌+◌, ◌*◌, ◌^◌, ℕ, suc, Bool, true, false, cond, List, [], ◌∷◌, ◌++◌, length, take, get_or, refl, sym, ◌∙◌, ap, subst, arith}
use Rattle.std.specs.Int.{from_bool}
use Rattle.std.proofs.Math.Seq.{take-suc}
use Rattle.std.proofs.Math.Nat.{pow-suc, pow-le-pow_right}
use Rattle.std.specs.List.{All, flat_map}
use Rattle.ov_value.specs.declared.value.Value.{Value}
use Rattle.ov_value.specs.declared.value.Value.TheVariants.{Int, Text, Flag, Null}
use Rattle.ov_value.specs.Rows.{is_null}
use Rattle.ov_value.specs.Spelling.{value_bytes, kept_with, kept, marks}

-- a value before some that are kept is kept
kept_with_more : (v x : Value) (xs : List Value) → kept_with v (x ∷ xs) ≡ v ∷ x ∷ xs
kept_with_more (Int _) x xs = refl
kept_with_more (Text _) x xs = refl
kept_with_more (Flag _) x xs = refl
kept_with_more Null x xs = refl

pub null_is : (v : Value) → is_null v ≡ true → v ≡ Null
null_is (Int _) e = cc
null_is (Text _) e = cc
null_is (Flag _) e = cc
null_is Null e = refl

-- a NULL at the end changes nothing
pub kept-push_null : (xs : List Value) → kept (xs ++ Null ∷ []) ≡ kept xs
kept-push_null [] = refl
kept-push_null (x ∷ xs) = ap (kept_with x) (kept-push_null xs)

kept_single : (v : Value) → is_null v ≡ false → kept (v ∷ []) ≡ v ∷ []
kept_single (Int _) e = refl
kept_single (Text _) e = refl
kept_single (Flag _) e = refl
kept_single Null e = cc

-- another value at the end is kept, and all before it
pub kept-push_value : (xs : List Value) (v : Value) → is_null v ≡ false → kept (xs ++ v ∷ []) ≡ xs ++ v ∷ []
kept-push_value [] v e = kept_single v e
kept-push_value (x ∷ []) v e = ap (kept_with x) (kept_single v e) ∙ kept_with_more x v []
kept-push_value (x ∷ y ∷ xs) v e = ap (kept_with x) (kept-push_value (y ∷ xs) v e) ∙ kept_with_more x y (xs ++ v ∷ [])

kept_with_take : (v : Value) (ys xs : List Value) → ys ≡ take (length ys) xs → length ys ≤ length xs
    → (kept_with v ys ≡ take (length (kept_with v ys)) (v ∷ xs)) × (length (kept_with v ys) ≤ suc (length xs))
kept_with_take (Int n) ys xs e h = (ap (λ l. Int n ∷ l) e, omega arith)
kept_with_take (Text n) ys xs e h = (ap (λ l. Text n ∷ l) e, omega arith)
kept_with_take (Flag n) ys xs e h = (ap (λ l. Flag n ∷ l) e, omega arith)
kept_with_take Null [] xs e h = (refl, omega arith)
kept_with_take Null (y ∷ ys) xs e h = (ap (λ l. Null ∷ l) e, omega arith)

kept_front : (xs : List Value) → (kept xs ≡ take (length (kept xs)) xs) × (length (kept xs) ≤ length xs)
kept_front [] = (refl, omega arith)
kept_front (x ∷ xs) = kept_with_take x (kept xs) xs (kept_front xs).0 (kept_front xs).1

-- what is kept is a front
pub kept-take : (xs : List Value) → kept xs ≡ take (length (kept xs)) xs
kept-take xs = (kept_front xs).0

pub length-kept : (xs : List Value) → length (kept xs) ≤ length xs
length-kept xs = (kept_front xs).1

-- and has all the bytes
flat_map-kept_with : (v : Value) (ys : List Value) → flat_map value_bytes (kept_with v ys) ≡ value_bytes v ++ flat_map value_bytes ys
flat_map-kept_with (Int _) ys = refl
flat_map-kept_with (Text _) ys = refl
flat_map-kept_with (Flag _) ys = refl
flat_map-kept_with Null [] = refl
flat_map-kept_with Null (y ∷ ys) = refl

pub flat_map-kept : (xs : List Value) → flat_map value_bytes (kept xs) ≡ flat_map value_bytes xs
flat_map-kept [] = refl
flat_map-kept (x ∷ xs) = flat_map-kept_with x (kept xs) ∙ ap (λ l. value_bytes x ++ l) (flat_map-kept xs)

-- the marks have a bit a value
pub marks-less : (xs : List Value) → marks xs < 2 ^ length xs
marks-less [] = omega arith
marks-less (x ∷ xs) =
    elim (is_null x) as (λ b. cond b 1 0 + 2 * marks xs < 2 ^ suc (length xs)) [
      | true ↦ rw (pow-suc 2 (length xs)) (omega (arith, marks-less xs))
      | false ↦ rw (pow-suc 2 (length xs)) (omega (arith, marks-less xs))
    ]

-- few values have small marks
pub marks-bound : (xs : List Value) → length xs ≤ 63 → marks xs < 2 ^ 63
marks-bound xs h = let p : 2 ^ length xs ≤ 2 ^ 63 = pow-le-pow_right (omega arith) h in omega (arith, marks-less xs, p)

front_next : (xs : List Value) (i : ℕ) (v : Value) → i < length xs → v ≡ get_or xs i v → take (i + 1) xs ≡ take i xs ++ v ∷ []
front_next xs i v h e = rw add-one (take-suc xs i v h ∙ ap (λ w. take i xs ++ w ∷ []) (sym e))

-- how many are kept of one value more
pub length-kept_value : (xs : List Value) (i : ℕ) (v : Value) → i < length xs → v ≡ get_or xs i v → is_null v ≡ false → i + 1 ≡ length (kept (take (i + 1) xs))
length-kept_value xs i v h e n =
    rw (front_next xs i v h e, kept-push_value (take i xs) v n) (simp (length-append, length-take) (omega arith))

pub length-kept_null : (xs : List Value) (i : ℕ) (v : Value) → i < length xs → v ≡ get_or xs i v → is_null v ≡ true → length (kept (take i xs)) ≡ length (kept (take (i + 1) xs))
length-kept_null xs i v h e n =
    rw (front_next xs i v h e, null_is v n) (ap length (sym (kept-push_null (take i xs))))

-- what holds of each value holds of each that is kept
pub All-kept : (P : Value → Type 0) (xs : List Value) → All P xs → All P (kept xs)
All-kept P xs h k d lt =
    let same : get_or (kept xs) k d ≡ get_or xs k d = ap (λ (ys : List Value). get_or ys k d) (kept-take xs) ∙ get_or-take (length (kept xs)) xs k d lt in
    subst P (sym same) (h k d (omega (arith, length-kept xs)))

pub one_bit : (b : Bool) → from_bool b ≤ 1
one_bit true = omega arith
one_bit false = omega arith
