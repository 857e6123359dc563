-- Sets kept by their edges.
use Rattle.std.proofs.Common.{◌≡◌, ℕ, zero, suc, ◌+◌, ◌-◌, ◌%◌, ◌<◌, ◌≤◌, ◌^◌, Bool, true, false, if◌then◌else◌, not, eqb, List, [], ◌∷◌, length, get_or, take, drop, refl, ap, subst, sym, ◌∙◌, inl, inr, arith}
use Rattle.std.proofs.lemmas.Bool.{cases_lt, lt-ltb, le-ltb}
use Rattle.std.proofs.lemmas.List.{length-append}
use Rattle.std.proofs.Math.Seq.{take-length}
use Rattle.std.specs.List.Sorted.{IsNonDecreasing}
use Rattle.ov_member.specs.Rids.{RiseFrom, has}
use Rattle.ov_member.specs.Lists.{run, AreApart}
use Rattle.ov_member.specs.Edges.{Ascend, status, ends, ranges_between, rids_between}
use Rattle.ov_member.proofs.RidLemmas.{length-RiseFrom, has-append}
use Rattle.ov_member.proofs.RunLemmas.{length-run, has-run_in, has-run_below, has-run_past}
use Rattle.ov_member.proofs.RangeLemmas.{RiseFrom-apart}

pub Ascend-weaker : (low high : ℕ) (edges : List ℕ) → low ≤ high → Ascend high edges → Ascend low edges
Ascend-weaker low high [] le h = tt
Ascend-weaker low high (edge ∷ edges) le h = (omega arith, h.1, h.2)

-- below the first edge nothing has turned
pub status-below : (inside : Bool) (low : ℕ) (edges : List ℕ) (n : ℕ) → Ascend low edges → n ≤ low → status inside edges n ≡ inside
status-below inside low [] n h le = refl
status-below inside low (edge ∷ edges) n h le = rw (lt-ltb n edge (omega arith)) refl

-- what is between the edges is what they say to be in
pub has-between : (low : ℕ) (edges : List ℕ) (n : ℕ) → Ascend low edges → ends false edges ≡ false → has (rids_between edges) n ≡ status false edges n
has-between low [] n h e = refl
has-between low (first ∷ []) n h e = absurd cc
has-between low (first ∷ past ∷ edges) n h e =
    let rest = has-between past edges n h.2.2 e in
    let parts = has-append (run first (past - first)) (rids_between edges) n in
    elim (cases_lt n first) [
      | inl lt ↦
          let out = has-run_below first (past - first) n lt in
          let none = status-below false past edges n h.2.2 (omega arith) in
          parts ∙ rw (out, rest, none, lt-ltb n first lt) refl
      | inr from ↦ elim (cases_lt n past) [
        | inl lt ↦ parts ∙ rw (has-run_in first (past - first) n from (omega arith), le-ltb n first from, lt-ltb n past lt) refl
        | inr le ↦ parts ∙ rw (has-run_past first (past - first) n (omega arith), le-ltb n first from, le-ltb n past le) rest
      ]
    ]

pub AreApart-between : (low : ℕ) (edges : List ℕ) → Ascend low edges → AreApart low (ranges_between edges)
AreApart-between low [] h = tt
AreApart-between low (first ∷ []) h = tt
AreApart-between low (first ∷ past ∷ edges) h =
    let e : first + (past - first) ≡ past = omega arith in
    (h.0, omega arith, omega arith, rw e (AreApart-between past edges h.2.2))

pub RiseFrom-between : (low : ℕ) (edges : List ℕ) → Ascend low edges → RiseFrom (suc low) (rids_between edges)
RiseFrom-between low edges h = RiseFrom-apart low (ranges_between edges) (AreApart-between low edges h)

pub length-between : (first past : ℕ) (edges : List ℕ) → length (rids_between (first ∷ past ∷ edges)) ≡ (past - first) + length (rids_between edges)
length-between first past edges = length-append (run first (past - first)) (rids_between edges) ∙ rw (length-run first (past - first)) refl

Ascend-above : (low : ℕ) (edges : List ℕ) (k : ℕ) (d : ℕ) → Ascend low edges → k < length edges → low < get_or edges k d
Ascend-above low [] k d h lt = absurd (omega arith)
Ascend-above low (edge ∷ edges) zero d h lt = h.0
Ascend-above low (edge ∷ edges) (suc k) d h lt = let next = Ascend-above edge edges k d h.2 (omega arith) in omega arith

pub Ascend-ordered : (low : ℕ) (edges : List ℕ) → Ascend low edges → IsNonDecreasing edges
Ascend-ordered low [] h i j d le lt = absurd (omega arith)
Ascend-ordered low (edge ∷ edges) h zero zero d le lt = omega arith
Ascend-ordered low (edge ∷ edges) h zero (suc j) d le lt = let next = Ascend-above edge edges j d h.2 (omega arith) in omega arith
Ascend-ordered low (edge ∷ edges) h (suc i) zero d le lt = absurd (omega arith)
Ascend-ordered low (edge ∷ edges) h (suc i) (suc j) d le lt = Ascend-ordered edge edges h.2 i j d (omega arith) (omega arith)

-- the first two edges, and those behind them
pub record FrontPair (edges : List ℕ) (first past : ℕ) (others : List ℕ) : Type 0 where
  pub is : edges ≡ first ∷ past ∷ others

pub front_pair : (edges : List ℕ) → 2 ≤ length edges → FrontPair edges (get_or edges 0 0) (get_or edges 1 0) (take (length edges - 2) (drop 2 edges))
front_pair [] le = absurd (omega arith)
front_pair (first ∷ []) le = absurd (omega arith)
front_pair (first ∷ past ∷ edges) le =
    let e : length (first ∷ past ∷ edges) - 2 ≡ length edges = omega arith in
    record { is = rw (e, take-length edges) refl }

-- so many turns
abbrev pub turned : ℕ → Bool → Bool
turned zero inside = inside
turned (suc count) inside = turned count (not inside)

not-not : (inside : Bool) → not (not inside) ≡ inside
not-not true = refl
not-not false = refl

pub turned-odd : (count : ℕ) → turned count false ≡ eqb (count % 2) 1
turned-odd zero = refl
turned-odd (suc zero) = refl
turned-odd (suc (suc count)) = let e : suc (suc count) % 2 ≡ count % 2 = omega arith in rw e (turned-odd count)

-- a number is in after an odd number of edges up to it
pub status-turned : (inside : Bool) (edges : List ℕ) (n count : ℕ) → count ≤ length edges → ((k : ℕ) → k < count → get_or edges k 0 ≤ n) → ((k : ℕ) → count ≤ k → k < length edges → n < get_or edges k 0) → status inside edges n ≡ turned count inside
status-turned inside [] n zero le below above = refl
status-turned inside [] n (suc count) le below above = absurd (omega arith)
status-turned inside (edge ∷ edges) n zero le below above = rw (lt-ltb n edge (above 0 (omega arith) (omega arith))) refl
status-turned inside (edge ∷ edges) n (suc count) le below above =
    rw (le-ltb n edge (below 0 (omega arith))) (status-turned (not inside) edges n count (omega arith) (λ k lt. below (suc k) (omega arith)) (λ k from lt. above (suc k) (omega arith) (omega arith)))

pub turned-parity : (count : ℕ) (inside : Bool) → turned count inside ≡ (if eqb (count % 2) 1 then not inside else inside)
turned-parity zero inside = refl
turned-parity (suc zero) inside = refl
turned-parity (suc (suc count)) inside = let e : suc (suc count) % 2 ≡ count % 2 = omega arith in rw (e, not-not inside) (turned-parity count inside)

-- behind edges that a number is past, it is in as before
status-behind : (inside : Bool) (edges : List ℕ) (n count : ℕ) → count ≤ length edges → ((k : ℕ) → k < count → get_or edges k 0 ≤ n) → status (turned count inside) (drop count edges) n ≡ status inside edges n
status-behind inside edges n zero le below = refl
status-behind inside [] n (suc count) le below = absurd (omega arith)
status-behind inside (edge ∷ edges) n (suc count) le below =
    rw (le-ltb n edge (below 0 (omega arith))) (status-behind (not inside) edges n count (omega arith) (λ k lt. below (suc k) (omega arith)))

-- the same of one edge
pub status-past : (inside : Bool) (edges : List ℕ) (edge : ℕ) (rest : List ℕ) (n : ℕ) → edges ≡ edge ∷ rest → edge ≤ n → status (not inside) rest n ≡ status inside edges n
status-past inside edges edge rest n is le = rw (is, le-ltb n edge le) refl

pub Ascend-behind : (low : ℕ) (edges : List ℕ) (count : ℕ) → Ascend low edges → Ascend 0 (drop count edges)
Ascend-behind low edges zero h = Ascend-weaker 0 low edges (omega arith) h
Ascend-behind low [] (suc count) h = tt
Ascend-behind low (edge ∷ edges) (suc count) h = Ascend-behind edge edges count h.2

-- a leap over the edges up to a rid
pub record Leaps (inside : Bool) (edges : List ℕ) (rid count : ℕ) (after : Bool) : Type 0 where
  pub inside_is : after ≡ status inside edges rid
  pub ahead_is : (n : ℕ) → rid ≤ n → status after (drop count edges) n ≡ status inside edges n

pub leaps : (inside : Bool) (edges : List ℕ) (rid count : ℕ) (after : Bool) → count ≤ length edges → ((k : ℕ) → k < count → get_or edges k 0 ≤ rid) → ((k : ℕ) → count ≤ k → k < length edges → rid < get_or edges k 0) → after ≡ (if eqb (count % 2) 1 then not inside else inside)
    → Leaps inside edges rid count after
leaps inside edges rid count after le below above is =
    let turns : after ≡ turned count inside = is ∙ sym (turned-parity count inside) in
    record {
      inside_is = turns ∙ sym (status-turned inside edges rid count le below above);
      ahead_is = λ n from. rw turns (status-behind inside edges n count le (λ k lt. let one = below k lt in omega (arith, one, from)));
    }

-- one more pair of edges is counted
pub record Counted (count total : ℕ) (edges : List ℕ) (first past : ℕ) (others : List ℕ) : Type 0 where
  pub order : first < past
  pub sum : count + (past - first) + length (rids_between others) ≡ total
  pub ascend : Ascend 0 others

pub counted_more : (count total : ℕ) (edges : List ℕ) → count + length (rids_between edges) ≡ total → Ascend 0 edges → 2 ≤ length edges → Counted count total edges (get_or edges 0 0) (get_or edges 1 0) (take (length edges - 2) (drop 2 edges))
counted_more count total edges e h le =
    let first = get_or edges 0 0 in
    let past = get_or edges 1 0 in
    let others = take (length edges - 2) (drop 2 edges) in
    let front = front_pair edges le in
    let up : Ascend 0 (first ∷ past ∷ others) = subst (Ascend 0) front.is h in
    let one : length (rids_between edges) ≡ (past - first) + length (rids_between others) = ap (λ (xs : List ℕ). length (rids_between xs)) front.is ∙ length-between first past others in
    record { order = up.2.0; sum = omega (arith, e, one); ascend = Ascend-weaker 0 past others (omega arith) up.2.2 }

pub count-bound : (edges : List ℕ) → Ascend 0 edges → length (rids_between edges) ≤ 2 ^ 31
count-bound edges h = let bound = length-RiseFrom 1 (rids_between edges) (RiseFrom-between 0 edges h) (omega arith) in omega arith
