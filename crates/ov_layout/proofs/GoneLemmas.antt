-- Partitions without versions.
use Rattle.std.proofs.Common.{◌≡◌, ℕ, zero, suc, ◌+◌, ◌<◌, ◌≤◌, Bool, true, false, not, cond, All, List, [], ◌∷◌, ◌++◌, length, get_or, take, drop, refl, ap, inl, inr, arith}
use Rattle.std.specs.Prelude.{filter, sum_by}
use Rattle.std.proofs.lemmas.Bool.{cases_Bool}
use Rattle.std.proofs.lemmas.List.Elements.{All-head, All-tail}
use Rattle.std.proofs.lemmas.List.Sums.{sum_by-cons, sum_by_more_le_part}
use Rattle.ov_layout.specs.declared.part.Part.{Part}
use Rattle.ov_layout.specs.Parts.{stored_of}
use Rattle.ov_layout.specs.Flips.{is_empty}
use Rattle.ov_layout.specs.Leaving.{gone_of, gone_from}

-- the records of those that go
abbrev pub stored_gone : List Part → ℕ
stored_gone parts = sum_by (λ part. cond (is_empty part) part.records 0) parts

gone-step : (source : ℕ) (kept : List ℕ) (parts : List Part) (k : ℕ) (d : Part) → k < length parts → gone_from source kept (drop k parts) ≡ cond (is_empty (get_or parts k d)) (gone_of source kept (get_or parts k d) ++ gone_from source kept (drop (suc k) parts)) (gone_from source kept (drop (suc k) parts))
gone-step source kept [] k d lt = absurd (omega arith)
gone-step source kept (part ∷ parts) zero d lt = refl
gone-step source kept (part ∷ parts) (suc k) d lt = gone-step source kept parts k d (omega arith)

-- what goes from a place on
pub gone-next : (source : ℕ) (kept : List ℕ) (parts : List Part) (k : ℕ) (d : Part) → k < length parts → gone_from source kept (drop k parts) ≡ cond (is_empty (get_or parts k d)) (gone_of source kept (get_or parts k d) ++ gone_from source kept (drop (k + 1) parts)) (gone_from source kept (drop (k + 1) parts))
gone-next source kept parts k d lt = let e : k + 1 ≡ suc k = omega arith in rw e (gone-step source kept parts k d lt)

-- those that go and those that stay have all records
pub stored-parted : (parts : List Part) → stored_gone parts + stored_of (filter (λ part. not (is_empty part)) parts) ≡ stored_of parts
stored-parted [] = refl
stored-parted (part ∷ parts) =
    let rest = stored-parted parts in
    let all = sum_by-cons (λ (p : Part). p.records) part parts in
    let gone = sum_by-cons (λ (p : Part). cond (is_empty p) p.records 0) part parts in
    elim (cases_Bool (is_empty part)) [
      | inl e ↦ let less = rw e at gone in rw e (omega (arith, rest, all, less))
      | inr e ↦
          let less = rw e at gone in
          let left = sum_by-cons (λ (p : Part). p.records) part (filter (λ p. not (is_empty p)) parts) in
          rw e (omega (arith, rest, all, less, left))
    ]

some-or-none : (b : Bool) (n : ℕ) → cond b n 0 ≤ n
some-or-none true n = omega arith
some-or-none false n = omega arith

-- what has gone so far and one part more are within all records
pub gone-within : (parts : List Part) (k : ℕ) (d : Part) → k < length parts → stored_gone (take k parts) + (get_or parts k d).records ≤ stored_of parts
gone-within parts k d lt =
    let own = sum_by_more_le_part (λ (p : Part). cond (is_empty p) p.records 0) (λ (p : Part). p.records) parts k d lt (λ p. some-or-none (is_empty p) p.records) in own

pub take-all : (k : ℕ) (parts : List Part) → length parts ≤ k → take k parts ≡ parts
take-all zero [] le = refl
take-all (suc k) [] le = refl
take-all zero (part ∷ parts) le = absurd (omega arith)
take-all (suc k) (part ∷ parts) le = ap (λ (ps : List Part). part ∷ ps) (take-all k parts (omega arith))

-- where no partition is empty, none goes
pub none-empty : (parts : List Part) → All (λ p. is_empty p ≡ false) parts → filter (λ p. not (is_empty p)) parts ≡ parts
none-empty [] some = refl
none-empty (part ∷ parts) some =
    let here = All-head (λ (p : Part). is_empty p ≡ false) part parts some in
    rw here (ap (λ (ps : List Part). part ∷ ps) (none-empty parts (All-tail (λ (p : Part). is_empty p ≡ false) part parts some)))

pub none-gone : (source : ℕ) (kept : List ℕ) (parts : List Part) → All (λ p. is_empty p ≡ false) parts → gone_from source kept parts ≡ []
none-gone source kept [] some = refl
none-gone source kept (part ∷ parts) some =
    let here = All-head (λ (p : Part). is_empty p ≡ false) part parts some in
    rw here (none-gone source kept parts (All-tail (λ (p : Part). is_empty p ≡ false) part parts some))
