-- Records in order, each rid once, and what they have of the segments.
use Rattle.std.proofs.Common.{◌≡◌, ◌<◌, ◌≤◌, ℕ, suc, Bool, true, false, not, ◌&&◌, ◌||◌, eqb, nat_lt, cond, Less, Equal, Greater, List, [], ◌∷◌, length, get_or, Option, Some, None, refl, sym, ◌∙◌, ap, subst, arith}
use Rattle.std.specs.Prelude.{is_some}
use Rattle.std.specs.List.{filter, find, dedup, dedup_from, AllByRecursion}
use Rattle.std.specs.List.Sorted.{IsPermutation, IsNonDecreasingBy, IsStableByKey, ties}
use Rattle.std.specs.Ordering.{nat_cmp, is_lt}
use mathlib.Core.Bool.{true≢false}
use Rattle.std.proofs.lemmas.Bool.Decides.{nat_tests}
use Rattle.std.proofs.lemmas.Bool.{eqb-true, eqb-false}
use Rattle.std.proofs.lemmas.List.Elements.{All-from_recursion, recursion_from_All}
use Rattle.std.proofs.lemmas.List.Sorted.{All-permutation}
use Rattle.ov_member.specs.Rids.{has}
use Rattle.ov_value.specs.Shapes.{Shape}
use Rattle.ov_segment.specs.declared.numbered.Record.{Record}
use Rattle.ov_segment.specs.Segments.{AreRecords}
use Rattle.ov_fetch.specs.Extents.{rids_of}
use Rattle.ov_fetch.specs.Rows.{record_of}
use Rattle.ov_fetch.specs.Gathering.{IsRecord, wanted_of}

abbrev pub is_same : Record → Record → Bool
is_same x k = eqb x.rid k.rid

-- rids don't fall, from one on
abbrev Rise : ℕ → List Record → Type 0
Rise least [] = Unit {0}
Rise least (r ∷ rs) = (least ≤ r.rid) × Rise r.rid rs

rise_all : (least : ℕ) (rs : List Record) → ((d : Record) → 0 < length rs → least ≤ (get_or rs 0 d).rid) → IsNonDecreasingBy (λ r. r.rid) rs → Rise least rs
rise_all least [] first h = tt
rise_all least (r ∷ rs) first h = (first r (omega arith), rise_all r.rid rs (λ d some. h 0 1 d (omega arith) (omega (arith, some))) (λ i j d le below. h (suc i) (suc j) d (omega (arith, le)) (omega (arith, below))))

-- where rids don't fall, those that stay have rids that ascend strictly
stay : (schema : Shape) (last : ℕ) (k : Record) (rs : List Record) → last < k.rid → IsRecord schema k → Rise k.rid rs → AllByRecursion (IsRecord schema) rs → AreRecords schema last (dedup_from is_same k rs)
stay schema last k [] above is h all = (record { above = above; below = is.below; row = is.row; small = is.small }, tt)
stay schema last k (r ∷ rs) above is h all = by (is_same r k) refl (stay schema last k rs above is) (stay schema k.rid r rs)
  where
    by : (b : Bool) → is_same r k ≡ b → (Rise k.rid rs → AllByRecursion (IsRecord schema) rs → AreRecords schema last (dedup_from is_same k rs))
        → (k.rid < r.rid → IsRecord schema r → Rise r.rid rs → AllByRecursion (IsRecord schema) rs → AreRecords schema k.rid (dedup_from is_same r rs))
        → AreRecords schema last (cond b (dedup_from is_same k rs) (k ∷ dedup_from is_same r rs))
    by true e drops keeps = drops (subst (λ n. Rise n rs) (eqb-true r.rid k.rid e) h.1) all.1
    by false e drops keeps =
        let differ = eqb-false r.rid k.rid e in
        (record { above = above; below = is.below; row = is.row; small = is.small }, keeps (omega (arith, h.0, differ)) all.0 h.1 all.1)

pub in_order : (schema : Shape) (rs : List Record) → IsNonDecreasingBy (λ r. r.rid) rs → AllByRecursion (IsRecord schema) rs → AreRecords schema 0 (dedup is_same rs)
in_order schema [] h all = tt
in_order schema (r ∷ rs) h all = let rise = rise_all 0 (r ∷ rs) (λ d some. omega arith) h in stay schema 0 r rs all.0.above all.0 rise.1 all.1

-- the first record of each rid stays
first_stays : (rid : ℕ) (k : Record) (rs : List Record) → record_of (dedup_from is_same k rs) rid ≡ record_of (k ∷ rs) rid
first_stays rid k [] = refl
first_stays rid k (r ∷ rs) = by (is_same r k) refl (first_stays rid k rs) (first_stays rid r rs)
  where
    by : (b : Bool) → is_same r k ≡ b → record_of (dedup_from is_same k rs) rid ≡ record_of (k ∷ rs) rid → record_of (dedup_from is_same r rs) rid ≡ record_of (r ∷ rs) rid
        → record_of (cond b (dedup_from is_same k rs) (k ∷ dedup_from is_same r rs)) rid ≡ record_of (k ∷ r ∷ rs) rid
    by true e drops keeps = drops ∙ skip (eqb k.rid rid) refl
      where
        skip : (b : Bool) → eqb k.rid rid ≡ b → cond b (Some k) (record_of rs rid) ≡ cond b (Some k) (cond (eqb r.rid rid) (Some r) (record_of rs rid))
        skip true f = refl
        skip false f = ap (λ c. cond c (Some r) (record_of rs rid)) (sym (ap (λ n. eqb n rid) (eqb-true r.rid k.rid e) ∙ f))
    by false e drops keeps = ap (λ o. cond (eqb k.rid rid) (Some k) o) keeps

pub same_after_dedup : (rid : ℕ) (rs : List Record) → record_of (dedup is_same rs) rid ≡ record_of rs rid
same_after_dedup rid [] = refl
same_after_dedup rid (r ∷ rs) = first_stays rid r rs

-- the first that passes is the first of those that pass
abbrev head_of : List Record → Option Record
head_of [] = None
head_of (r ∷ rs) = Some r

first_passing : (test : Record → Bool) (rs : List Record) → find test rs ≡ head_of (filter test rs)
first_passing test [] = refl
first_passing test (r ∷ rs) = by (test r) (first_passing test rs)
  where
    by : (b : Bool) → find test rs ≡ head_of (filter test rs) → cond b (Some r) (find test rs) ≡ head_of (cond b (r ∷ filter test rs) (filter test rs))
    by true h = refl
    by false h = h

lt_part : (p q : Bool) → is_lt (cond p Less (cond q Equal Greater)) ≡ p
lt_part true q = refl
lt_part false true = refl
lt_part false false = refl

lt_is : (a b : ℕ) → is_lt (nat_cmp a b) ≡ nat_lt a b
lt_is a b = lt_part (nat_lt a b) (eqb a b)

tests : (a b : ℕ) → (not (nat_lt a b) && not (nat_lt b a)) ≡ eqb b a
tests a b = grind (arith, nat_tests)

tie_is : (x y : Record) → ties (λ (a b : Record). is_lt (nat_cmp a.rid b.rid)) x y ≡ eqb y.rid x.rid
tie_is x y = (λ i. not (lt_is x.rid y.rid i) && not (lt_is y.rid x.rid i)) ∙ tests x.rid y.rid

same_tests : (test other : Record → Bool) → ((r : Record) → test r ≡ other r) → (rs : List Record) → filter test rs ≡ filter other rs
same_tests test other same [] = refl
same_tests test other same (r ∷ rs) = (λ i. cond (same r i) (r ∷ same_tests test other same rs i) (same_tests test other same rs i))

pub same_after_sort : (rid : ℕ) (old new : List Record) → IsStableByKey (λ r. r.rid) nat_cmp old new → record_of new rid ≡ record_of old rid
same_after_sort rid old new stable =
    let x : Record = record { rid = rid; row = [] } in
    let all = λ (rs : List Record). same_tests (λ r. eqb r.rid rid) (ties (λ (a b : Record). is_lt (nat_cmp a.rid b.rid)) x) (λ r. sym (tie_is x r)) rs in
    first_passing (λ r. eqb r.rid rid) new ∙ ap head_of (all new ∙ stable x ∙ sym (all old)) ∙ sym (first_passing (λ r. eqb r.rid rid) old)

-- of the wanted records those of a wanted rid are all there, and of another none
pub wanted_there : (wanted : List ℕ) (rid : ℕ) (rs : List Record) → has wanted rid ≡ true → record_of (wanted_of wanted rs) rid ≡ record_of rs rid
wanted_there wanted rid [] h = refl
wanted_there wanted rid (r ∷ rs) h = by (has wanted r.rid) refl (wanted_there wanted rid rs h)
  where
    by : (b : Bool) → has wanted r.rid ≡ b → record_of (wanted_of wanted rs) rid ≡ record_of rs rid → record_of (cond b (r ∷ wanted_of wanted rs) (wanted_of wanted rs)) rid ≡ record_of (r ∷ rs) rid
    by true e rest = ap (λ o. cond (eqb r.rid rid) (Some r) o) rest
    by false e rest = rest ∙ skip (eqb r.rid rid) refl
      where
        skip : (b : Bool) → eqb r.rid rid ≡ b → record_of rs rid ≡ cond b (Some r) (record_of rs rid)
        skip true f = absurd (true≢false (sym h ∙ ap (has wanted) (sym (eqb-true r.rid rid f)) ∙ e))
        skip false f = refl

pub others_gone : (wanted : List ℕ) (rid : ℕ) (rs : List Record) → has wanted rid ≡ false → record_of (wanted_of wanted rs) rid ≡ None
others_gone wanted rid [] h = refl
others_gone wanted rid (r ∷ rs) h = by (has wanted r.rid) refl (others_gone wanted rid rs h)
  where
    by : (b : Bool) → has wanted r.rid ≡ b → record_of (wanted_of wanted rs) rid ≡ None → record_of (cond b (r ∷ wanted_of wanted rs) (wanted_of wanted rs)) rid ≡ None
    by false e rest = rest
    by true e rest = skip (eqb r.rid rid) refl
      where
        skip : (b : Bool) → eqb r.rid rid ≡ b → cond b (Some r) (record_of (wanted_of wanted rs) rid) ≡ None
        skip true f = absurd (true≢false (sym e ∙ ap (has wanted) (eqb-true r.rid rid f) ∙ h))
        skip false f = rest

-- a rid is among the rids where it has a record
pub has_record : (rid : ℕ) (rs : List Record) → has (rids_of rs) rid ≡ is_some (record_of rs rid)
has_record rid [] = refl
has_record rid (r ∷ rs) = by (eqb r.rid rid) (has_record rid rs)
  where
    by : (b : Bool) → has (rids_of rs) rid ≡ is_some (record_of rs rid) → (b || has (rids_of rs) rid) ≡ is_some (cond b (Some r) (record_of rs rid))
    by true h = refl
    by false h = h

pub sorted_all : (schema : Shape) (old new : List Record) → IsPermutation old new → AllByRecursion (IsRecord schema) old → AllByRecursion (IsRecord schema) new
sorted_all schema old new moved h = recursion_from_All (IsRecord schema) new (All-permutation (IsRecord schema) old new moved (All-from_recursion (IsRecord schema) old h))
