-- Positions of a merge are positions of its versions, and so they are there.
use Rattle.std.proofs.Common.{◌<◌, ℕ, List, [], ◌∷◌, ◌++◌, length, refl, subst, inl, inr}
use Rattle.std.specs.List.{All}
use Rattle.std.proofs.lemmas.List.Elements.{All-nil, All-cons, All-head, All-tail, All-append}
use Rattle.ov_model.specs.Lists.{IsIn, joined}
use Rattle.ov_value.specs.Shapes.{Shape}
use Rattle.ov_segment.specs.declared.numbered.Record.{Record}
use Rattle.ov_fetch.specs.Scans.{AllStand}
use Rattle.ov_merge.specs.Places.{IsFirstPlace}

joined_stand : (records : List Record) (picks : List (List ℕ)) → All (AllStand records) picks → AllStand records (joined picks)
joined_stand records [] are = All-nil (λ p. p < length records)
joined_stand records (pick ∷ picks) are =
    All-append (λ p. p < length records) pick (joined picks) (All-head (AllStand records) pick picks are) (joined_stand records picks (All-tail (AllStand records) pick picks are))

-- one that stands behind others
behind : (records : List Record) (before after : List ℕ) (p : ℕ) → AllStand records (before ++ p ∷ after) → p < length records
behind records [] after p are = All-head (λ q. q < length records) p after are
behind records (q ∷ before) after p are = behind records before after p (All-tail (λ x. x < length records) q (before ++ p ∷ after) are)

one_stands : (schema : Shape) (records : List Record) (all : List ℕ) (p : ℕ) → AllStand records all → IsFirstPlace schema records all p → p < length records
one_stands schema records all p are is = behind records is.before is.after p (subst (AllStand records) is.there are)

all_are : (P : ℕ → Type 0) (places : List ℕ) → ((p : ℕ) → IsIn places p → P p) → All P places
all_are P [] each = All-nil P
all_are P (p ∷ places) each = All-cons P p places (each p (inl refl)) (all_are P places (λ q is. each q (inr is)))

pub merge_stands : (schema : Shape) (records : List Record) (picks : List (List ℕ)) (places : List ℕ) → All (AllStand records) picks → ((p : ℕ) → IsIn places p → IsFirstPlace schema records (joined picks) p) → AllStand records places
merge_stands schema records picks places are first =
    all_are (λ p. p < length records) places (λ p is. one_stands schema records (joined picks) p (joined_stand records picks are) (first p is))
