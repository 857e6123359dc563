-- Which sets have rids that are missing.
use Rattle.std.proofs.Common.{◌≡◌, ◌<◌, ◌+◌, ℕ, Bool, true, false, ◌||◌, ◌&&◌, List, [], ◌∷◌, length, get_or, take, Some, zero, suc, refl, sym, ◌∙◌, ap, arith}
use Rattle.std.specs.Prelude.{slice_get}
use Rattle.std.proofs.lemmas.List.{take_more}
use Rattle.std.proofs.lemmas.List.Folds.{list_any-append}
use Rattle.ov_member.specs.Rids.{has, shared}
use Rattle.ov_member.proofs.RidLemmas.{has-filter, has-head}
use Rattle.ov_fetch.specs.Rows.{is_asked}
use Rattle.ov_fetch.specs.Gathering.{SharesAt}

and_true : (a b : Bool) → (a && b) ≡ true → (a ≡ true) × (b ≡ true)
and_true true true e = (refl, refl)
and_true true false e = cc
and_true false b e = cc

both_true : (a b : Bool) → a ≡ true → (a && b) ≡ b
both_true true b e = refl
both_true false b e = cc

or_false : (a : Bool) → (a || false) ≡ a
or_false true = refl
or_false false = refl

pub record Shares (rids missing : List ℕ) : Type 0 where
  pub rid : ℕ
  pub member : has rids rid ≡ true
  pub lacking : has missing rid ≡ true

-- the first of what two sets share is in both
pub shares_one : (rids missing : List ℕ) → 0 < length (shared rids missing) → Shares rids missing
shares_one rids missing some = by (shared rids missing) refl
  where
    by : (xs : List ℕ) → shared rids missing ≡ xs → Shares rids missing
    by [] e = absurd (omega (arith, some, ap length e))
    by (x ∷ xs) e =
        let both = and_true (has rids x) (has missing x) (sym (has-filter (has missing) rids x) ∙ ap (λ (l : List ℕ). has l x) e ∙ has-head x xs) in
        record { rid = x; member = both.0; lacking = both.1 }

-- where they share none, no rid of the one is in the other
pub shares_none : (rids missing : List ℕ) → length (shared rids missing) ≡ 0 → (rid : ℕ) → has rids rid ≡ true → has missing rid ≡ false
shares_none rids missing none rid member =
    sym (both_true (has rids rid) (has missing rid) member) ∙ sym (has-filter (has missing) rids rid) ∙ by (shared rids missing) none
  where
    by : (xs : List ℕ) → length xs ≡ 0 → has xs rid ≡ false
    by [] e = refl
    by (x ∷ xs) e = absurd (omega (arith, e))

pub get_at : {X : Type 0} (members : List X) (place : ℕ) (d : X) → place < length members → slice_get members place ≡ Some (get_or members place d)
get_at [] place d below = absurd (omega (arith, below))
get_at (m ∷ ms) zero d below = refl
get_at (m ∷ ms) (suc place) d below = get_at ms place d (omega (arith, below))

pub get_below : {X : Type 0} (xs : List X) (place : ℕ) (x : X) → slice_get xs place ≡ Some x → place < length xs
get_below [] place x e = cc
get_below (y ∷ ys) zero x e = omega arith
get_below (y ∷ ys) (suc place) x e = omega (arith, get_below ys place x e)

pub shares_at : (members : List (List ℕ)) (missing rids : List ℕ) (place : ℕ) → place < length members → rids ≡ get_or members place rids → 0 < length (shared rids missing) → SharesAt members missing place
shares_at members missing rids place below is some =
    let s = shares_one rids missing some in
    record { rids = rids; there = get_at members place rids below ∙ ap Some (sym is); rid = s.rid; member = s.member; lacking = s.lacking }

-- one set more that has none
pub none_more : (members : List (List ℕ)) (missing rids : List ℕ) (place : ℕ) → place < length members → rids ≡ get_or members place rids → length (shared rids missing) ≡ 0
    → ((rid : ℕ) → is_asked (take place members) rid ≡ true → has missing rid ≡ false) → (rid : ℕ) → is_asked (take (place + 1) members) rid ≡ true → has missing rid ≡ false
none_more members missing rids place below is none before rid asked = by (is_asked (take place members) rid) refl
  where
    parts : is_asked (take (place + 1) members) rid ≡ (is_asked (take place members) rid || has rids rid)
    parts =
        ap (λ (l : List (List ℕ)). is_asked l rid) (take_more members place rids below)
        ∙ list_any-append (λ (m : List ℕ). has m rid) (take place members) (get_or members place rids ∷ [])
        ∙ ap (λ b. is_asked (take place members) rid || b) (or_false (has (get_or members place rids) rid) ∙ ap (λ (m : List ℕ). has m rid) (sym is))

    by : (b : Bool) → is_asked (take place members) rid ≡ b → has missing rid ≡ false
    by true e = before rid e
    by false e = shares_none rids missing none rid (ap (λ b. b || has rids rid) (sym e) ∙ sym parts ∙ asked)
