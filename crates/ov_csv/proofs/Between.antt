-- After a record no other has begun, a record takes a byte or more, and so the records of a text are found one by one.
use Rattle.std.proofs.Common.{◌≡◌, ◌<◌, ◌≤◌, ◌+◌, ◌-◌, add-one, ◌==◌, ◌||◌, ◌∷◌, [], ℕ, List, Bool, Option, Some, None, refl, ap, subst, true, false, length, suc, zero, inl, inr, arith, if◌then◌else◌}
use Rattle.std.proofs.lemmas.Bool.{cases_Bool}
use Rattle.csv.specs.Machine.{Read, next_record, step, in_field, start_field, start_record, is_end, ends_at_end}
use Rattle.csv.specs.Reading.{default_config, records_from, records_next}
use Rattle.csv.specs.declared.parser.State.{State}
use Rattle.csv.specs.declared.parser.State.TheVariants as st
use Rattle.csv.specs.declared.parser.Action.{Action}
use Rattle.csv.specs.declared.parser.Action.TheVariants as act
use Rattle.ov_csv.specs.Lines.{is_between, records_after}

-- a byte inside a field, by whether it is a comma, a CR or an LF
abbrev field_step : Bool → Bool → Bool → State × Action
field_step comma cr lf =
    if comma then (st.StartField, act.EndField)
    else if cr || lf then ((if cr then st.AfterCr else st.StartRecord), act.EndRecord)
    else (st.InField, act.Copy)

field_step-ends : (comma cr lf : Bool) → is_end (field_step comma cr lf).1 ≡ true → is_between (field_step comma cr lf).0 ≡ true
field_step-ends true cr lf e = cc
field_step-ends false true lf e = refl
field_step-ends false false true e = refl
field_step-ends false false false e = cc

-- the same where a quote opens, or where something is done only to a byte of another kind
abbrev unless : Bool → State → Action → State × Action → State × Action
unless here s a other = if here then (s, a) else other

unless-ends : (here : Bool) (s : State) (a : Action) (other : State × Action) → is_end a ≡ false
    → (is_end other.1 ≡ true → is_between other.0 ≡ true) → is_end (unless here s a other).1 ≡ true → is_between (unless here s a other).0 ≡ true
unless-ends true s a other n f e = cc
unless-ends false s a other n f e = f e

in_field-ends : (c : ℕ) → is_end (in_field default_config c).1 ≡ true → is_between (in_field default_config c).0 ≡ true
in_field-ends c e = field_step-ends (c == 44) (c == 13) (c == 10) e

start_field-ends : (c : ℕ) → is_end (start_field default_config c).1 ≡ true → is_between (start_field default_config c).0 ≡ true
start_field-ends c e = unless-ends (c == 34) st.InQuoted act.Skip (in_field default_config c) refl (in_field-ends c) e

start_record-ends : (c : ℕ) → is_end (start_record default_config c).1 ≡ true → is_between (start_record default_config c).0 ≡ true
start_record-ends c e = unless-ends ((c == 13) || (c == 10)) st.StartRecord act.Skip (start_field default_config c) refl (start_field-ends c) e

step-ends : (s : State) (c : ℕ) → is_end (step default_config s c).1 ≡ true → is_between (step default_config s c).0 ≡ true
step-ends st.StartRecord c e = start_record-ends c e
step-ends st.StartField c e = start_field-ends c e
step-ends st.InField c e = in_field-ends c e
step-ends st.InQuoted c e = unless-ends (c == 34) st.AfterQuote act.Skip (st.InQuoted, act.Copy) refl (λ e. cc) e
step-ends st.InEscape c e = cc
step-ends st.AfterQuote c e = unless-ends (c == 34) st.InQuoted act.Copy (in_field default_config c) refl (in_field-ends c) e
step-ends st.InComment c e = unless-ends (c == 10) st.StartRecord act.Skip (st.InComment, act.Skip) refl (λ e. cc) e
step-ends st.AfterCr c e = unless-ends (c == 10) st.StartRecord act.Skip (start_record default_config c) refl (start_record-ends c) e

-- what a record leaves: a state in which no other has begun, and no more bytes than so many
abbrev Leaves : Read → ℕ → Type 0
Leaves p count = (is_between p.1 ≡ true) × (length p.2 ≤ count)

leaves-more : (p : Read) (m n : ℕ) → m ≤ n → Leaves p m → Leaves p n
leaves-more p m n h l = (l.0, omega (arith, l.1, h))

some-read : (p q : Read) (count : ℕ) → ◌≡◌ {A = Option Read} (Some p) (Some q) → Leaves p count → Leaves q count
some-read p q count e l = subst (λ r. Leaves r count) (let e2 : p ≡ q = cc in e2) l

-- a record takes a byte, where there is one
pub record-leaves : (xs : List ℕ) (s : State) (fields : List (List ℕ)) (field : List ℕ) (p : Read)
    → next_record default_config s fields field xs ≡ Some p → Leaves p (length xs - 1)
unfolding next_record
record-leaves [] s fields field p e = elim (cases_Bool (ends_at_end s)) [
  | inl t ↦ some-read _ p 0 (rw t at e) (refl, omega arith)
  | inr f ↦ cc (rw f at e)
]
record-leaves (c ∷ rest) s fields field p e = elim (cases_Bool (is_end (step default_config s c).1)) [
  | inl t ↦ some-read _ p _ (rw t at e) (step-ends s c t, omega arith)
  | inr f ↦ leaves-more p (length rest - 1) _ (omega arith) (record-leaves rest _ _ _ p (rw f at e))
]

-- where no record has begun, and nothing is left, there is none
none-left : (s : State) (p : Read) → is_between s ≡ true → next_record default_config s [] [] [] ≡ Some p → ⊥
unfolding next_record
none-left st.StartRecord p b e = cc
none-left st.AfterCr p b e = cc
none-left st.StartField p b e = cc
none-left st.InField p b e = cc
none-left st.InQuoted p b e = cc
none-left st.InEscape p b e = cc
none-left st.AfterQuote p b e = cc
none-left st.InComment p b e = cc

pub record-shorter : (xs : List ℕ) (s : State) (p : Read) → is_between s ≡ true → next_record default_config s [] [] xs ≡ Some p
    → (is_between p.1 ≡ true) × (length p.2 < length xs)
record-shorter [] s p b e = absurd (none-left s p b e)
record-shorter (c ∷ rest) s p b e =
    let l = record-leaves (c ∷ rest) s [] [] p e in (l.0, omega (arith, l.1))

-- So the turns are enough where they are more than the bytes, and the records are found one by one.
abbrev Same : ℕ → ℕ → State → List ℕ → Type 0
Same n m s xs = records_from default_config n s xs ≡ records_from default_config m s xs

fuel-case : (n m : ℕ) (xs : List ℕ) (o : Option Read) → ((p : Read) → o ≡ Some p → (is_between p.1 ≡ true) × (length p.2 < length xs))
    → ((t : State) (ys : List ℕ) → is_between t ≡ true → length ys < n → length ys < m → Same n m t ys)
    → length xs < n + 1 → length xs < m + 1
    → records_next (records_from default_config n) o ≡ records_next (records_from default_config m) o
fuel-case n m xs None next ih h k = refl
fuel-case n m xs (Some p) next ih h k =
    let f = next p refl in ap (λ (rs : List (List (List ℕ))). p.0 ∷ rs) (ih p.1 p.2 f.0 (omega (arith, f.1)) (omega (arith, f.1)))

fuel-enough : (n m : ℕ) (s : State) (xs : List ℕ) → is_between s ≡ true → length xs < n → length xs < m → Same n m s xs
unfolding records_from
fuel-enough zero m s xs b h k = absurd (omega arith)
fuel-enough (suc n) zero s xs b h k = absurd (omega arith)
fuel-enough (suc n) (suc m) s xs b h k =
    fuel-case n m xs (next_record default_config s [] [] xs) (λ p e. record-shorter xs s p b e) (λ t ys c i j. fuel-enough n m t ys c i j)
    (omega arith) (omega arith)

-- the records from a state and bytes on, at the next one
after-next : (n : ℕ) (xs : List ℕ) (o : Option Read) (p : Read) → o ≡ Some p → (is_between p.1 ≡ true) × (length p.2 < n)
    → records_next (records_from default_config n) o ≡ p.0 ∷ records_from default_config (length p.2 + 1) p.1 p.2
after-next n xs None p e f = cc
after-next n xs (Some q) p e f =
    let same : q ≡ p = cc in
    rw same (ap (λ (rs : List (List (List ℕ))). p.0 ∷ rs) (fuel-enough n (length p.2 + 1) p.1 p.2 f.0 f.1 (omega arith)))

pub records_after-next : (s : State) (xs : List ℕ) (p : Read) → is_between s ≡ true → next_record default_config s [] [] xs ≡ Some p
    → records_after s (Some xs) ≡ p.0 ∷ records_after p.1 (Some p.2)
unfolding records_from
records_after-next s xs p b e =
    let f = record-shorter xs s p b e in
    rw add-one (after-next (length xs) xs (next_record default_config s [] [] xs) p e f)

pub records_after-none : (s : State) (xs : List ℕ) → next_record default_config s [] [] xs ≡ None → records_after s (Some xs) ≡ []
unfolding records_from
records_after-none s xs e = rw (add-one, e) refl
