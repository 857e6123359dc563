-- One change to what is added.
use Rattle.std.proofs.Common.{◌≡◌, ◌<◌, ◌≤◌, ◌+◌, ◌∷◌, ◌∙◌, [], ℕ, zero, suc, List, refl, sym, ap, subst, arith, length, rules, get_or, set, take, Bool, true, false, cond, ◌++◌, ◌*◌, ◌^◌, ap₂}
use Rattle.std.specs.Prelude.{ℤ, pos, negsuc, nat_lt, ◌+ℤ◌, ◌≤ℤ◌}
use Rattle.std.specs.List.{All, sum_by}
use Rattle.std.specs.Int.Signed.{≤ℤ_refl}
use Rattle.std.proofs.lemmas.List.{take_more}
use Rattle.std.proofs.lemmas.List.Sums.{sum_by-append, sum_by-cons}
use Rattle.std.proofs.Math.ListN.{get_or-append}
use Rattle.std.proofs.Math.Seq.{get_or-append_seam}
use Rattle.ov_tally.specs.declared.span.Span.{Span}
use Rattle.std.proofs.Math.IntN.{+ℤ_assoc, +ℤ_comm, +ℤ_idr}
use Rattle.std.proofs.lemmas.Bool.{ltb-true, ltb-false}
use Rattle.std.proofs.lemmas.List.Elements.{All-set}
use Rattle.ov_tally.specs.Counting.{AreNone, AreWithin, IsFew, IsIn, total, total_to}
use Rattle.ov_tally.specs.Spans.{IsShort, Spans, covers, in_span, times}

pub set_low : (sums : List ℤ) (at p : ℕ) (v : ℤ) → p < at → total_to (set sums at v) p ≡ total_to sums p
set_low [] at p v low = refl
set_low (x ∷ xs) zero p v low = absurd (omega (arith, low))
set_low (x ∷ xs) (suc at) zero v low = refl
set_low (x ∷ xs) (suc at) (suc p) v low = ap (λ t. x +ℤ t) (set_low xs at p v (omega (arith, low)))

pub set_high : (sums : List ℤ) (at p : ℕ) (v k d : ℤ) → at < length sums → at ≤ p → v ≡ get_or sums at d +ℤ k → total_to (set sums at v) p ≡ total_to sums p +ℤ k
set_high [] at p v k d there low is = absurd (omega (arith, there))
set_high (x ∷ xs) zero p v k d there low is =
    ap (λ t. t +ℤ total (take p xs)) is ∙ +ℤ_assoc x k (total (take p xs)) ∙ ap (λ t. x +ℤ t) (+ℤ_comm k (total (take p xs))) ∙ sym (+ℤ_assoc x (total (take p xs)) k)
set_high (x ∷ xs) (suc at) zero v k d there low is = absurd (omega (arith, low))
set_high (x ∷ xs) (suc at) (suc p) v k d there low is =
    ap (λ t. x +ℤ t) (set_high xs at p v k d (omega (arith, there)) (omega (arith, low)) is) ∙ sym (+ℤ_assoc x (total_to xs p) k)

-- a change by one at most
pub set_within : (n : ℕ) (sums : List ℤ) (at : ℕ) (v k d : ℤ) → at < length sums → pos 0 ≤ℤ (k +ℤ pos 1) → k ≤ℤ pos 1 → v ≡ get_or sums at d +ℤ k → AreWithin n sums → AreWithin (suc n) (set sums at v)
set_within n sums at v k d there down up is all = All-set (IsIn (suc n)) sums at v (subst (IsIn (suc n)) (sym is) (near n (get_or sums at d) k (all at d there) down up)) (λ i e low. wider n (get_or sums i e) (all i e low))
  where
    wider : (n : ℕ) (x : ℤ) → IsIn n x → IsIn (suc n) x
    wider n x is = (search (rules, is.0), search (rules, is.1))

    near : (n : ℕ) (x k : ℤ) → IsIn n x → pos 0 ≤ℤ (k +ℤ pos 1) → k ≤ℤ pos 1 → IsIn (suc n) (x +ℤ k)
    near n x k is down up = (search (rules, is.0, down), search (rules, is.1, up))

-- both ends of a range
pub marked : (old middle new : List ℤ) (first past : ℕ) → first ≤ past
    → ((p : ℕ) → p < first → total_to middle p ≡ total_to old p) → ((p : ℕ) → first ≤ p → total_to middle p ≡ total_to old p +ℤ pos 1)
    → ((p : ℕ) → p < past → total_to new p ≡ total_to middle p) → ((p : ℕ) → past ≤ p → total_to new p ≡ total_to middle p +ℤ negsuc 0)
    → (p : ℕ) → total_to new p ≡ total_to old p +ℤ pos (covers (record { first = first; past = past } ∷ []) p)
marked old middle new first past up la ha lb hb p = by (nat_lt p first) (nat_lt p past) refl refl
  where
    by : (b c : Bool) → nat_lt p first ≡ b → nat_lt p past ≡ c → total_to new p ≡ total_to old p +ℤ pos (0 + cond b 0 (cond c 1 0))
    by true c before within = let q = ltb-true p first before in lb p (omega (arith, q, up)) ∙ la p q ∙ sym (+ℤ_idr (total_to old p))
    by false true before within = let q = ltb-false p first before in lb p (ltb-true p past within) ∙ ha p q
    by false false before within = let q = ltb-false p first before in hb p (ltb-false p past within) ∙ ap (λ t. t +ℤ negsuc 0) (ha p q) ∙ +ℤ_assoc (total_to old p) (pos 1) (negsuc 0)

pub two_more : (n : ℕ) (sums : List ℤ) → AreWithin (suc (suc n)) sums → AreWithin (n + 2) sums
two_more n sums all = let e : suc (suc n) ≡ n + 2 = omega arith in subst (λ m. AreWithin m sums) e all

-- a range more of a version
pub spans_more : (spans : List Span) (i p : ℕ) (d : Span) (old now new : ℤ) → i < length spans → now ≡ old +ℤ pos (covers (take i spans) p) → new ≡ now +ℤ pos (covers (get_or spans i d ∷ []) p)
    → new ≡ old +ℤ pos (covers (take (i + 1) spans) p)
spans_more spans i p d old now new low before is =
    is ∙ ap (λ t. t +ℤ pos (covers (get_or spans i d ∷ []) p)) before ∙ +ℤ_assoc old (pos (covers (take i spans) p)) (pos (covers (get_or spans i d ∷ []) p))
    ∙ ap (λ m. old +ℤ pos m) (sym (ap (sum_by (in_span p)) (take_more spans i d low) ∙ sum_by-append (in_span p) (take i spans) (get_or spans i d ∷ [])))

pub within_more : (n i : ℕ) (sums : List ℤ) → AreWithin (n + 2 * i + 2) sums → AreWithin (n + 2 * (i + 1)) sums
within_more n i sums all = let e : n + 2 * i + 2 ≡ n + 2 * (i + 1) = omega arith in subst (λ m. AreWithin m sums) e all

-- of what is 0
pub none_total : (sums : List ℤ) (p : ℕ) → AreNone sums → total_to sums p ≡ pos 0
none_total [] p all = refl
none_total (x ∷ xs) zero all = ap (λ t. t +ℤ pos 0) (all 0 x (omega arith))
none_total (x ∷ xs) (suc p) all = ap₂ (λ (s t : ℤ). s +ℤ t) (all 0 x (omega arith)) (none_total xs p (λ k d low. all (suc k) d (omega (arith, low))))

pub none_within : (sums : List ℤ) → AreNone sums → AreWithin 0 sums
none_within sums all k d low = subst (IsIn 0) (sym (all k d low)) (≤ℤ_refl (pos 0), ≤ℤ_refl (pos 0))

total-append : (xs : List ℤ) (x : ℤ) → total (xs ++ x ∷ []) ≡ total xs +ℤ x
total-append [] x = +ℤ_comm x (pos 0)
total-append (y ∷ xs) x = ap (λ t. y +ℤ t) (total-append xs x) ∙ sym (+ℤ_assoc y (total xs) x)

pub next_total : (marks : List ℤ) (i : ℕ) (d : ℤ) → i < length marks → total (take (i + 1) marks) ≡ total (take i marks) +ℤ get_or marks i d
next_total marks i d low = ap total (take_more marks i d low) ∙ total-append (take i marks) (get_or marks i d)

pub total_at : (marks : List ℤ) (i : ℕ) → total_to marks i ≡ total (take (i + 1) marks)
total_at marks i = let e : suc i ≡ i + 1 = omega arith in ap (λ n. total (take n marks)) e

pub within_up : (n m : ℕ) (sums : List ℤ) → n ≤ m → AreWithin n sums → AreWithin m sums
within_up n m sums up all k d low = wide (get_or sums k d) (all k d low)
  where
    wide : (x : ℤ) → IsIn n x → IsIn m x
    wide x is = (search (rules, is.0, up), search (rules, is.1, up))

pub few_next : (marks : List ℤ) (i : ℕ) (d sum mark : ℤ) → i < length marks → sum ≡ total (take i marks) → mark ≡ get_or marks i d → IsFew (total_to marks i) → IsFew (sum +ℤ mark)
few_next marks i d sum mark low sum_is is few = subst IsFew (total_at marks i ∙ next_total marks i d low ∙ ap₂ (λ (s t : ℤ). s +ℤ t) (sym sum_is) (sym is)) few

pub sum_next : (marks : List ℤ) (i : ℕ) (d sum mark new : ℤ) → i < length marks → sum ≡ total (take i marks) → mark ≡ get_or marks i d → new ≡ sum +ℤ mark → new ≡ total (take (i + 1) marks)
sum_next marks i d sum mark new low sum_is is new_is = new_is ∙ ap₂ (λ (s t : ℤ). s +ℤ t) sum_is is ∙ sym (next_total marks i d low)

pub pushed_each : (marks made new : List ℤ) (i : ℕ) (v : ℤ) → length made ≡ i → new ≡ made ++ v ∷ [] → v ≡ total (take (i + 1) marks) → ((p : ℕ) → p < i → get_or made p (pos 0) ≡ total_to marks p)
    → (p : ℕ) → p < i + 1 → get_or new p (pos 0) ≡ total_to marks p
pushed_each marks made new i v count push is each p low = ap (λ l. get_or l p (pos 0)) push ∙ by (nat_lt p i) refl
  where
    by : (b : Bool) → nat_lt p i ≡ b → get_or (made ++ v ∷ []) p (pos 0) ≡ total_to marks p
    by true e = let q = ltb-true p i e in get_or-append made (v ∷ []) (pos 0) p (omega (arith, q, count)) ∙ each p q
    by false e = let q = ltb-false p i e in let here : p ≡ i = omega (arith, q, low) in
        ap (λ n. get_or (made ++ v ∷ []) n (pos 0)) (here ∙ sym count) ∙ get_or-append_seam made v [] (pos 0) ∙ is ∙ sym (total_at marks i) ∙ ap (total_to marks) (sym here)

-- a version more
pub versions_more : (versions : List Spans) (i p : ℕ) (d : Spans) (now new : ℤ) → i < length versions → now ≡ pos (times (take i versions) p) → new ≡ now +ℤ pos (covers (get_or versions i d).items p)
    → new ≡ pos (times (take (i + 1) versions) p)
versions_more versions i p d now new low before is =
    is ∙ ap (λ t. t +ℤ pos (covers (get_or versions i d).items p)) before
    ∙ ap (λ m. pos (times (take i versions) p + m)) (let e : covers (get_or versions i d).items p ≡ 0 + covers (get_or versions i d).items p = omega arith in e)
    ∙ ap pos (sym (ap (λ l. times l p) (take_more versions i d low) ∙ sum_by-append (λ spans. covers spans.items p) (take i versions) (get_or versions i d ∷ [])))

times_few : (versions : List Spans) (p : ℕ) → All IsShort versions → times versions p ≤ length versions * 2 ^ 30
times_few [] p all = omega arith
times_few (v ∷ vs) p all = rw (sum_by-cons (λ spans. covers spans.items p) v vs) (let a = covers_few v.items p in let b = times_few vs p (λ k d low. all (suc k) d (omega (arith, low))) in let c : length v.items ≤ 2 ^ 30 = all 0 v (omega arith) in omega (arith, a, b, c))
  where
    one : (p : ℕ) (s : Span) → in_span p s ≤ 1
    one p s = by (nat_lt p s.first) (nat_lt p s.past)
      where
        by : (b c : Bool) → cond b 0 (cond c 1 0) ≤ 1
        by true c = omega arith
        by false true = omega arith
        by false false = omega arith

    covers_few : (spans : List Span) (p : ℕ) → covers spans p ≤ length spans
    covers_few [] p = omega arith
    covers_few (s ∷ spans) p = rw (sum_by-cons (in_span p) s spans) (let a = one p s in let b = covers_few spans p in omega (arith, a, b))

pub times_fit : (versions : List Spans) (p : ℕ) (t : ℤ) → length versions ≤ 2 ^ 29 → All IsShort versions → t ≡ pos (times versions p) → IsFew t
times_fit versions p t few short is = subst IsFew (sym is) (few_of (times versions p) (let a = times_few versions p short in omega (arith, a, few)))
  where
    few_of : (n : ℕ) → n ≤ 2 ^ 62 → IsFew (pos n)
    few_of n low = (search (rules, low), search (rules, low))

pub version_more : (versions : List Spans) (i p : ℕ) (s : Spans) (spans : List Span) (now new : ℤ) → i < length versions → s ≡ get_or versions i s → spans ≡ s.items
    → now ≡ pos (times (take i versions) p) → new ≡ now +ℤ pos (covers spans p) → new ≡ pos (times (take (i + 1) versions) p)
version_more versions i p s spans now new low here are before is =
    versions_more versions i p s now new low before (is ∙ ap (λ l. now +ℤ pos (covers l p)) are ∙ ap (λ (v : Spans). now +ℤ pos (covers v.items p)) here)
