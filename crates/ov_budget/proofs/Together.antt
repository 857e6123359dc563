-- The rids of several versions together, as a set and as they are counted.
use Rattle.std.proofs.Common.{◌≡◌, ℕ, ◌+◌, Bool, true, false, not, ◌||◌, ◌&&◌, List, [], ◌∷◌, ◌++◌, length, filter, refl, sym, ◌∙◌, ap, inl, inr, arith}
use Rattle.std.specs.List.{list_any}
use Rattle.std.proofs.lemmas.Bool.{cases_Bool}
use Rattle.std.proofs.lemmas.List.{length-append}
use Rattle.ov_member.specs.Rids.{IsUnion, has, left_out, shared}
use Rattle.ov_member.proofs.RidLemmas.{has-append, same_from, RiseFrom-filter, has-filter}
use Rattle.ov_budget.specs.Sizes.{AreSets, AreVids, IsTogether}
use Rattle.ov_budget.specs.Tables.{list_at, rids_in}

pub vids_left : (count : ℕ) (xs ys : List ℕ) → AreVids count (xs ++ ys) → AreVids count xs
vids_left count [] ys are = tt
vids_left count (x ∷ xs) ys are = (are.0, vids_left count xs ys are.1)

pub vids_right : (count : ℕ) (xs ys : List ℕ) → AreVids count (xs ++ ys) → AreVids count ys
vids_right count [] ys are = are
vids_right count (x ∷ xs) ys are = vids_right count xs ys are.1

pub sets_append : (lists : List (List ℕ)) (xs ys : List ℕ) → AreSets lists xs → AreSets lists ys → AreSets lists (xs ++ ys)
sets_append lists [] ys left right = right
sets_append lists (x ∷ xs) ys left right = (left.0, sets_append lists xs ys left.1 right)

-- ---- of two halves

listed-append : (p : ℕ → Bool) (xs ys : List ℕ) → list_any p (xs ++ ys) ≡ (list_any p xs || list_any p ys)
listed-append p [] ys = refl
listed-append p (x ∷ xs) ys = elim (cases_Bool (p x)) [
  | inl passes ↦ rw passes refl
  | inr fails ↦ rw fails (listed-append p xs ys)
]

pub united : (lists : List (List ℕ)) (xs ys left right both : List ℕ) → IsTogether lists xs left → IsTogether lists ys right → IsUnion left right both → IsTogether lists (xs ++ ys) both
united lists xs ys left right both a b is = record {
  sets = sets_append lists xs ys a.sets b.sets;
  set = is.rids;
  together = λ rid. is.members rid ∙ (λ i. a.together rid i || b.together rid i) ∙ sym (listed-append (λ vid. has (list_at lists vid) rid) xs ys);
}

-- ---- as they are counted

-- whether one of these versions has a rid
abbrev listed : List (List ℕ) → List ℕ → ℕ → Bool
listed lists vids rid = list_any (λ vid. has (list_at lists vid) rid) vids

either : (a b : Bool) → ((a && not b) || b) ≡ (a || b)
either true true = refl
either true false = refl
either false true = refl
either false false = refl

alone : (a b : Bool) → ((a || b) && not b) ≡ (a && not b)
alone true true = refl
alone true false = refl
alone false true = refl
alone false false = refl

behind : (a b : Bool) → ((a || b) && b) ≡ b
behind true true = refl
behind true false = refl
behind false true = refl
behind false false = refl

has-rids : (lists : List (List ℕ)) (vids : List ℕ) (rid : ℕ) → has (rids_in lists vids) rid ≡ listed lists vids rid
has-rids lists [] rid = refl
has-rids lists (vid ∷ vids) rid =
    let first : List ℕ = list_at lists vid in
    let rest : List ℕ = rids_in lists vids in
    has-append (left_out first rest) rest rid
    ∙ ap (λ b. b || has rest rid) (has-filter (λ n. not (has rest n)) first rid)
    ∙ either (has first rid) (has rest rid)
    ∙ ap (λ b. has first rid || b) (has-rids lists vids rid)

-- what passes a test and what doesn't
halves : (p : ℕ → Bool) (xs : List ℕ) → length xs ≡ length (filter p xs) + length (filter (λ x. not (p x)) xs)
halves p [] = refl
halves p (x ∷ xs) = elim (cases_Bool (p x)) [
  | inl passes ↦ rw passes (omega (arith, halves p xs))
  | inr fails ↦ rw fails (omega (arith, halves p xs))
]

pub counted : (lists : List (List ℕ)) (vids rids : List ℕ) → IsTogether lists vids rids → length rids ≡ length (rids_in lists vids)
counted lists [] rids is = ap length (same_from 1 1 rids [] is.set tt is.together)
counted lists (vid ∷ vids) rids is =
    let first : List ℕ = list_at lists vid in
    let rest : List ℕ = rids_in lists vids in
    let both : (rid : ℕ) → has rids rid ≡ (has first rid || has rest rid) =
    λ rid. is.together rid ∙ ap (λ b. has first rid || b) (sym (has-rids lists vids rid)) in
    let less : IsTogether lists vids (shared rids rest) = record {
      sets = is.sets.1;
      set = RiseFrom-filter (λ n. has rest n) 1 rids is.set;
      together = λ rid. has-filter (λ n. has rest n) rids rid ∙ ap (λ b. b && has rest rid) (both rid) ∙ behind (has first rid) (has rest rid) ∙ has-rids lists vids rid;
    } in
    let own : left_out rids rest ≡ left_out first rest =
    same_from 1 1 _ _ (RiseFrom-filter (λ n. not (has rest n)) 1 rids is.set) (RiseFrom-filter (λ n. not (has rest n)) 1 first is.sets.0)
    (λ rid. has-filter (λ n. not (has rest n)) rids rid ∙ ap (λ b. b && not (has rest rid)) (both rid)
    ∙ alone (has first rid) (has rest rid) ∙ sym (has-filter (λ n. not (has rest n)) first rid)) in
    omega (arith, halves (λ n. has rest n) rids, counted lists vids (shared rids rest) less, ap length own, length-append (left_out first rest) rest)
