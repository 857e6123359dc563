-- Rids of records in their order, and lists of them.
use Rattle.std.proofs.Common.{◌≡◌, ◌≤◌, ◌<◌, ℕ, zero, suc, ◌+◌, ◌-◌, Bool, true, false, List, [], ◌∷◌, ◌++◌, length, take, drop, get_or, refl, sym, ◌∙◌, ap, subst, inl, inr, arith, append_assoc}
use Rattle.std.specs.Prelude.{nat_le, if◌then◌else◌}
use Rattle.std.specs.List.{All}
use Rattle.std.proofs.lemmas.List.{take-append-drop, append-nil, length-take}
use Rattle.std.proofs.lemmas.List.Elements.{All-nil, All-cons}
use Rattle.law_events.proofs.Counts.{are_at}
use Rattle.ov_model.specs.Book.{Version}
use Rattle.ov_model.specs.Lists.{IsIn}
use Rattle.ov_model.specs.Records.{Rec, is_same_rec, recs, records_of, of_version, order, order_of, fresh_in, rid_in}
use Rattle.ov_model.proofs.Growing.{same_rec-refl, length_recs, rid_more}
use Rattle.ov_model.proofs.Holds.{same_recs, at_known}
use Rattle.ov_model.proofs.Origins.{all_known}
use Rattle.ov_catalog.specs.Shown.{put_by, sorted_by}

-- ---- members

pub all_of : {X : Type 0} (P : X → Type 0) (xs : List X) → ((x : X) → IsIn xs x → P x) → All P xs
all_of P [] each = All-nil P
all_of P (x ∷ xs) each = All-cons P x xs (each x (inl refl)) (all_of P xs (λ y is. each y (inr is)))

put_long : {X : Type 0} (key : X → ℕ) (x : X) (xs : List X) → length (put_by key x xs) ≡ suc (length xs)
put_long key x [] = refl
put_long {X} key x (y ∷ ys) = by (nat_le (key x) (key y)) (put_long key x ys)
  where
    by : (b : Bool) → length (put_by key x ys) ≡ suc (length ys) → length (if b then x ∷ y ∷ ys else y ∷ put_by key x ys) ≡ suc (length (y ∷ ys))
    by true rest = refl
    by false rest = ap suc rest

pub sorted_long : {X : Type 0} (key : X → ℕ) (xs : List X) → length (sorted_by key xs) ≡ length xs
sorted_long key [] = refl
sorted_long key (x ∷ xs) = put_long key x (sorted_by key xs) ∙ ap suc (sorted_long key xs)

-- ---- a rid is one record's

pub rid_some : (xs : List Rec) (r : Rec) → 1 ≤ rid_in xs r
rid_some [] r = omega arith
rid_some (x ∷ xs) r = by (is_same_rec r x)
  where
    by : (b : Bool) → 1 ≤ (if b then 1 else rid_in xs r + 1)
    by true = omega arith
    by false = omega arith

rest_in : (x r : Rec) (xs : List Rec) → IsIn (x ∷ xs) r → is_same_rec r x ≡ false → IsIn xs r
rest_in x r xs (inl same) other = absurd (clash (sym (ap (is_same_rec r) (sym same) ∙ same_rec-refl r) ∙ other))
  where
    clash : true ≡ false → ⊥
    clash e = cc
rest_in x r xs (inr later) other = later

pub place_same : (xs : List Rec) (r q : Rec) → IsIn xs r → IsIn xs q → rid_in xs r ≡ rid_in xs q → r ≡ q
place_same [] r q is also same = absurd is
place_same (x ∷ xs) r q is also same =
    by (is_same_rec r x) (is_same_rec q x) (same_recs r x) (same_recs q x) (rest_in x r xs is) (rest_in x q xs also) same (place_same xs r q)
  where
    by : (b c : Bool) → (b ≡ true → r ≡ x) → (c ≡ true → q ≡ x) → (b ≡ false → IsIn xs r) → (c ≡ false → IsIn xs q)
        → (if b then 1 else rid_in xs r + 1) ≡ (if c then 1 else rid_in xs q + 1) → (IsIn xs r → IsIn xs q → rid_in xs r ≡ rid_in xs q → r ≡ q) → r ≡ q
    by true true here there more other e rest = here refl ∙ sym (there refl)
    by true false here there more other e rest = absurd (omega (arith, e, rid_some xs q))
    by false true here there more other e rest = absurd (omega (arith, e, rid_some xs r))
    by false false here there more other e rest = rest (more refl) (other refl) (omega (arith, e))

pub rid_low : (xs : List Rec) (r : Rec) → IsIn xs r → rid_in xs r ≤ length xs
rid_low [] r is = absurd is
rid_low (x ∷ xs) r is = by (is_same_rec r x) (rest_in x r xs is) (rid_low xs r)
  where
    by : (b : Bool) → (b ≡ false → IsIn xs r) → (IsIn xs r → rid_in xs r ≤ length xs) → (if b then 1 else rid_in xs r + 1) ≤ suc (length xs)
    by true later rest = omega arith
    by false later rest = omega (arith, rest (later refl))

-- ---- the records of the first versions

recs_append : (us vs : List Version) (done : List (List Rec)) → recs (us ++ vs) done ≡ recs vs (recs us done)
recs_append [] vs done = refl
recs_append (u ∷ us) vs done = recs_append us vs (done ++ records_of u done ∷ [])

recs_on : (vs : List Version) (done : List (List Rec)) → (more : List (List Rec)) × (recs vs done ≡ done ++ more)
recs_on [] done = ([], sym (append-nil done))
recs_on (v ∷ vs) done =
    let rest = recs_on vs (done ++ records_of v done ∷ [])
    in (records_of v done ∷ rest.0, rest.1 ∙ append_assoc done (records_of v done ∷ []) rest.0)

order_on : (done more : List (List Rec)) (n : ℕ) → (rest : List Rec) × (order (done ++ more) n ≡ order done n ++ rest)
order_on [] more n = (order more n, refl)
order_on (rs ∷ done) more n =
    let rest = order_on done more (n + 1)
    in (rest.0, ap (λ l. fresh_in rs n ++ l) rest.1 ∙ sym (append_assoc (fresh_in rs n) (order done (n + 1)) rest.0))

left_at : (done more : List (List Rec)) (k : ℕ) → k < length done → get_or (done ++ more) k [] ≡ get_or done k []
left_at [] more k low = absurd (omega (arith, low))
left_at (rs ∷ done) more zero low = refl
left_at (rs ∷ done) more (suc k) low = left_at done more k (omega (arith, low))

pub rid_before : (vs : List Version) (vid : ℕ) → 1 ≤ vid → vid ≤ length vs → (r : Rec) → IsIn (of_version (recs vs []) vid) r
    → rid_in (order_of vs) r ≤ length (order_of (take vid vs))
rid_before vs vid first last r is =
    let before : List (List Rec) = recs (take vid vs) []
    in let on = recs_on (drop vid vs) before
    in let whole : recs vs [] ≡ before ++ on.0 = ap (λ us. recs us []) (sym (take-append-drop vid vs)) ∙ recs_append (take vid vs) (drop vid vs) [] ∙ on.1
    in let rest = order_on before on.0 1
    in let all : order_of vs ≡ order before 1 ++ rest.0 = ap (λ l. order l 1) whole ∙ rest.1
    in let count : length before ≡ 0 + length (take vid vs) = length_recs (take vid vs) []
    in let low : vid - 1 < length before = omega (arith, first, last, count, length-take vid vs)
    in let here : IsIn (get_or before (vid - 1) []) r = subst (λ rs. IsIn rs r) (ap (λ l. get_or l (vid - 1) []) whole ∙ left_at before on.0 (vid - 1) low) is
    in let known : IsIn (order before 1) r = are_at (get_or before (vid - 1) []) (order before 1) r (at_known before (vid - 1) (order before 1) (all_known (take vid vs))) here
    in subst (λ n. n ≤ length (order before 1)) (sym (ap (λ l. rid_in l r) all ∙ rid_more (order before 1) rest.0 r known)) (rid_low (order before 1) r known)
