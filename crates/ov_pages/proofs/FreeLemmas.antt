-- Free runs.
use Rattle.std.proofs.Common.{◌≡◌, ℕ, suc, ◌+◌, ◌-◌, ◌<◌, ◌≤◌, ◌^◌, Bool, true, false, not, ◌||◌, ◌&&◌, List, [], ◌∷◌, length, get_or, take, drop, refl, sym, ap, subst, ◌∙◌, inl, inr, arith}
use Rattle.std.proofs.lemmas.Bool.{cases_lt, cases_Bool, lt-ltb, le-ltb, le-leb, lt-leb}
use Rattle.ov_pages.specs.Sets.{holds, is_in_run, IsWithRun, IsWithoutRun, IsFreeRun, IsLowestRun, IsReservedRun, IsRefused, IsHighest}
use Rattle.ov_pages.specs.Edges.{Ascend, status, ends, AreEdges, pages_between, turned}
use Rattle.ov_pages.proofs.EdgeLemmas.{Ascend-weaker, status-high, holds-between, front_pair}
use Rattle.ov_pages.proofs.TurnLemmas.{TurnsRun, turns_run}

-- the edges from a place on, where no free run begins before it
pub record Looked (edges : List ℕ) (n low : ℕ) (rest : List ℕ) : Type 0 where
  pub limit : low ≤ 2 ^ 22
  pub ascend : Ascend low rest
  pub closed : ends false rest ≡ false
  pub same : (page : ℕ) → low ≤ page → status false edges page ≡ status false rest page
  pub none : (first : ℕ) → first < low → IsFreeRun (pages_between edges) n first → ⊥

pub looked_none : (edges : List ℕ) (n : ℕ) → AreEdges edges → Looked edges n 0 edges
looked_none edges n sound = record { limit = omega arith; ascend = sound.ascend; closed = sound.closed; same = λ page le. refl; none = λ first lt run. omega arith }

free_status : (edges : List ℕ) (n first page : ℕ) → AreEdges edges → IsFreeRun (pages_between edges) n first → first ≤ page → page < first + n → status false edges page ≡ false
free_status edges n first page sound run from to = sym (holds-between 0 edges page sound.ascend sound.closed) ∙ run.free page from to

-- one run of reserved pages is passed
pub looked_more : (edges : List ℕ) (n low : ℕ) (rest : List ℕ) → AreEdges edges → 1 ≤ n → Looked edges n low rest → 2 ≤ length rest → get_or rest 0 0 - low < n → Looked edges n (get_or rest 1 0) (take (length rest - 2) (drop 2 rest))
looked_more edges n low rest sound some looked long short =
    let first = get_or rest 0 0 in
    let past = get_or rest 1 0 in
    let others = take (length rest - 2) (drop 2 rest) in
    let is = (front_pair rest long).is in
    let ascend : Ascend low (first ∷ past ∷ others) = subst (Ascend low) is looked.ascend in
    let closed : ends false (first ∷ past ∷ others) ≡ false = sym (ap (ends false) is) ∙ looked.closed in
    let same = λ (page : ℕ) (le : low ≤ page). looked.same page le ∙ ap (λ (xs : List ℕ). status false xs page) is in
    let inside = λ (page : ℕ) (from : first ≤ page) (to : page < past).
    let at : status false (first ∷ past ∷ others) page ≡ true = rw (le-ltb page first from, lt-ltb page past to) refl in
    same page (omega arith) ∙ at in
    record {
      limit = ascend.2.1;
      ascend = Ascend-weaker past (suc past) others (omega arith) ascend.2.2;
      closed = closed;
      same = λ page le. same page (omega arith) ∙ rw (le-ltb page first (omega arith), le-ltb page past le) refl;
      none = λ at lt run. elim (cases_lt at low) [
        | inl below ↦ looked.none at below run
        | inr from ↦ elim (cases_lt at first) [
          | inl before ↦ let free = free_status edges n at first sound run (omega arith) (omega arith) in let in_it = inside first (omega arith) (omega arith) in absurd cc
          | inr here ↦ let free = free_status edges n at at sound run (omega arith) (omega arith) in let in_it = inside at here lt in absurd cc
        ]
      ];
    }

-- the pages up to the next edge are free
pub lowest_before : (edges : List ℕ) (n low : ℕ) (rest : List ℕ) → AreEdges edges → Looked edges n low rest → 2 ≤ length rest → n ≤ get_or rest 0 0 - low → IsLowestRun (pages_between edges) n low
lowest_before edges n low rest sound looked long wide =
    let first = get_or rest 0 0 in
    let is = (front_pair rest long).is in
    let ascend : Ascend low (first ∷ get_or rest 1 0 ∷ take (length rest - 2) (drop 2 rest)) = subst (Ascend low) is looked.ascend in
    record {
      run = record {
        fits = omega arith;
        free = λ page from to. holds-between 0 edges page sound.ascend sound.closed ∙ looked.same page from ∙ ap (λ (xs : List ℕ). status false xs page) is ∙ rw (lt-ltb page first (omega arith)) refl;
      };
      lowest = looked.none;
    }

at_end : (rest : List ℕ) → ends false rest ≡ false → length rest < 2 → rest ≡ []
at_end [] e lt = refl
at_end (x ∷ []) e lt = absurd cc
at_end (x ∷ y ∷ rest) e lt = absurd (omega arith)

-- past the last edge all pages are free
pub lowest_behind : (edges : List ℕ) (n low : ℕ) (rest : List ℕ) → AreEdges edges → Looked edges n low rest → length rest < 2 → low + n ≤ 2 ^ 22 → IsLowestRun (pages_between edges) n low
lowest_behind edges n low rest sound looked short fits =
    let is = at_end rest looked.closed short in
    record {
      run = record {
        fits = fits;
        free = λ page from to. holds-between 0 edges page sound.ascend sound.closed ∙ looked.same page from ∙ ap (λ (xs : List ℕ). status false xs page) is;
      };
      lowest = looked.none;
    }

pub none_behind : (edges : List ℕ) (n low : ℕ) (rest : List ℕ) → Looked edges n low rest → 2 ^ 22 < low + n → (first : ℕ) → IsFreeRun (pages_between edges) n first → ⊥
none_behind edges n low rest looked high first run =
    elim (cases_lt first low) [
      | inl below ↦ looked.none first below run
      | inr from ↦ let fits = run.fits in omega arith
    ]

or-false : (b : Bool) → (b || false) ≡ b
or-false true = refl
or-false false = refl

and-true : (b : Bool) → (b && true) ≡ b
and-true true = refl
and-true false = refl

out_below : (first n page : ℕ) → page < first → is_in_run first n page ≡ false
out_below first n page lt = rw (lt-leb first page lt) refl

out_behind : (first n page : ℕ) → first + n ≤ page → is_in_run first n page ≡ false
out_behind first n page le = rw (le-leb first page (omega arith), le-ltb page (first + n) le) refl

in_within : (first n page : ℕ) → first ≤ page → page < first + n → is_in_run first n page ≡ true
in_within first n page from to = rw (le-leb first page from, lt-ltb page (first + n) to) refl

-- a free run is reserved where its pages are turned
pub with_run : (old new : List ℕ) (first n : ℕ) → AreEdges old → TurnsRun first (first + n) old new → IsFreeRun (pages_between old) n first → IsWithRun (pages_between old) (pages_between new) first n
with_run old new first n sound turns free page =
    let before = holds-between 0 old page sound.ascend sound.closed in
    let after = holds-between 0 new page turns.sound.ascend turns.sound.closed in
    elim (cases_lt page first) [
      | inl below ↦ after ∙ turns.before page below ∙ sym before ∙ rw (out_below first n page below) (sym (or-false (holds (pages_between old) page)))
      | inr from ↦ elim (cases_lt page (first + n)) [
        | inl to ↦
            let none = free.free page from to in
            after ∙ turns.within page from to ∙ ap not (sym before ∙ none) ∙ rw (none, in_within first n page from to) refl
        | inr behind ↦ after ∙ turns.behind page behind ∙ sym before ∙ rw (out_behind first n page behind) (sym (or-false (holds (pages_between old) page)))
      ]
    ]

-- a reserved run is free where its pages are turned
pub without_run : (old new : List ℕ) (first n : ℕ) → AreEdges old → TurnsRun first (first + n) old new → IsReservedRun (pages_between old) n first → IsWithoutRun (pages_between old) (pages_between new) first n
without_run old new first n sound turns reserved page =
    let before = holds-between 0 old page sound.ascend sound.closed in
    let after = holds-between 0 new page turns.sound.ascend turns.sound.closed in
    elim (cases_lt page first) [
      | inl below ↦ after ∙ turns.before page below ∙ sym before ∙ rw (out_below first n page below) (sym (and-true (holds (pages_between old) page)))
      | inr from ↦ elim (cases_lt page (first + n)) [
        | inl to ↦
            let here = reserved page from to in
            after ∙ turns.within page from to ∙ ap not (sym before ∙ here) ∙ rw (here, in_within first n page from to) refl
        | inr behind ↦ after ∙ turns.behind page behind ∙ sym before ∙ rw (out_behind first n page behind) (sym (and-true (holds (pages_between old) page)))
      ]
    ]

-- no page changes where a run has none
pub without_none : (old : List ℕ) (first : ℕ) → IsWithoutRun old old first 0
without_none old first page =
    elim (cases_lt page first) [
      | inl below ↦ rw (out_below first 0 page below) (sym (and-true (holds old page)))
      | inr from ↦ rw (out_behind first 0 page (omega arith)) (sym (and-true (holds old page)))
    ]

-- reserved pages are below 2^22
pub reserved_limit : (edges : List ℕ) (first n : ℕ) → AreEdges edges → IsReservedRun (pages_between edges) n first → 0 < n → first + n ≤ 2 ^ 22
reserved_limit edges first n sound reserved some =
    elim (cases_lt (2 ^ 22) (first + n)) [
      | inl high ↦
          let last : first + (n - 1) + 1 ≡ first + n = omega arith in
          let here = reserved (first + (n - 1)) (omega arith) (omega arith) in
          let there = status-high false 0 edges (first + (n - 1)) sound.ascend sound.closed (omega arith) in
          let same = holds-between 0 edges (first + (n - 1)) sound.ascend sound.closed in
          absurd cc
      | inr le ↦ le
    ]

-- the last edge
abbrev pub last_of : ℕ → List ℕ → ℕ
last_of low [] = low
last_of low (edge ∷ edges) = last_of edge edges

last_of-get_or : (low : ℕ) (edges : List ℕ) (d : ℕ) → 0 < length edges → get_or edges (length edges - 1) d ≡ last_of low edges
last_of-get_or low [] d lt = absurd (omega arith)
last_of-get_or low (edge ∷ []) d lt = refl
last_of-get_or low (edge ∷ x ∷ edges) d lt = let e : length (edge ∷ x ∷ edges) - 1 ≡ suc (length (x ∷ edges) - 1) = omega arith in rw e (last_of-get_or edge (x ∷ edges) d (omega arith))

pub last_of-at : (edges : List ℕ) → get_or edges (length edges - 1) 0 ≡ last_of 0 edges
last_of-at [] = refl
last_of-at (edge ∷ edges) = last_of-get_or 0 (edge ∷ edges) 0 (omega arith)

last_of-from : (least low : ℕ) (edges : List ℕ) → Ascend least edges → low ≤ least → low ≤ last_of low edges
last_of-from least low [] h le = omega arith
last_of-from least low (edge ∷ edges) h le = let rest = last_of-from (suc edge) edge edges h.2 (omega arith) in omega arith

last_of-above : (least low : ℕ) (edges : List ℕ) (page : ℕ) → Ascend least edges → ends false edges ≡ false → status false edges page ≡ true → page < last_of low edges
last_of-above least low [] page h e in_it = absurd cc
last_of-above least low (first ∷ []) page h e in_it = absurd cc
last_of-above least low (first ∷ past ∷ edges) page h e in_it =
    elim (cases_lt page first) [
      | inl below ↦ let out = rw (lt-ltb page first below) at in_it in absurd cc
      | inr from ↦ elim (cases_lt page past) [
        | inl to ↦ let more = last_of-from (suc past) past edges h.2.2 (omega arith) in omega arith
        | inr behind ↦ last_of-above (suc past) past edges page h.2.2 e (rw (le-ltb page first from, le-ltb page past behind) at in_it)
      ]
    ]

last_of-in : (least low : ℕ) (edges : List ℕ) → Ascend least edges → ends false edges ≡ false → 0 < length edges → (least < last_of low edges) × (status false edges (last_of low edges - 1) ≡ true)
last_of-in least low [] h e lt = absurd (omega arith)
last_of-in least low (first ∷ []) h e lt = absurd cc
last_of-in least low (first ∷ past ∷ []) h e lt = (omega arith, rw (le-ltb (past - 1) first (omega arith), lt-ltb (past - 1) past (omega arith)) refl)
last_of-in least low (first ∷ past ∷ x ∷ edges) h e lt =
    let rest = last_of-in (suc past) past (x ∷ edges) h.2.2 e (omega arith) in
    let high = rest.0 in
    (omega arith, rw (le-ltb (last_of past (x ∷ edges) - 1) first (omega arith), le-ltb (last_of past (x ∷ edges) - 1) past (omega arith)) rest.1)

pub highest_is : (edges : List ℕ) → AreEdges edges → IsHighest (pages_between edges) (last_of 0 edges)
highest_is edges sound = record {
  above = λ page in_it. last_of-above 0 0 edges page sound.ascend sound.closed (sym (holds-between 0 edges page sound.ascend sound.closed) ∙ in_it);
  last = λ some. holds-between 0 edges (last_of 0 edges - 1) sound.ascend sound.closed ∙ (last_of-in 0 0 edges sound.ascend sound.closed (some_edges edges some)).1;
}
  where
    some_edges : (xs : List ℕ) → 0 < last_of 0 xs → 0 < length xs
    some_edges [] lt = lt
    some_edges (x ∷ xs) lt = omega arith

-- a run that is free can be had
pub not_refused : (pages : List ℕ) (n first : ℕ) → IsLowestRun pages n first → n < 2 ^ 20 → IsRefused pages n → ⊥
not_refused pages n first lowest small (inl large) = omega arith
not_refused pages n first lowest small (inr none) = none first lowest.run

pub free_limit : (edges pages : List ℕ) (first n : ℕ) → AreEdges edges → pages_between edges ≡ pages → IsReservedRun pages n first → 0 < n → first + n ≤ 2 ^ 22
free_limit edges pages first n sound e reserved some = reserved_limit edges first n sound (subst (λ (xs : List ℕ). IsReservedRun xs n first) (sym e) reserved) some

-- a reserved run that was turned
pub record Freed (edges new pages : List ℕ) (first n : ℕ) : Type 0 where
  pub turns : TurnsRun first (first + n) edges new
  pub gone : IsWithoutRun pages (pages_between new) first n

pub freed : (edges new pages : List ℕ) (first n : ℕ) → AreEdges edges → pages_between edges ≡ pages → IsReservedRun pages n first → 0 < n → new ≡ turned (first + n) (turned first edges) → Freed edges new pages first n
freed edges new pages first n sound e reserved some is =
    let limit = free_limit edges pages first n sound e reserved some in
    let turns : TurnsRun first (first + n) edges new = rw is (turns_run first (first + n) edges sound (omega arith) limit) in
    record {
      turns = turns;
      gone = subst (λ (xs : List ℕ). IsWithoutRun xs (pages_between new) first n) e (without_run edges new first n sound turns (subst (λ (xs : List ℕ). IsReservedRun xs n first) (sym e) reserved));
    }

-- a free run that was turned
pub record Taken (edges new pages : List ℕ) (first n : ℕ) : Type 0 where
  pub turns : TurnsRun first (first + n) edges new
  pub grown : IsWithRun pages (pages_between new) first n

pub taken : (edges new pages : List ℕ) (first n : ℕ) → AreEdges edges → pages_between edges ≡ pages → IsLowestRun (pages_between edges) n first → 0 < n → new ≡ turned (first + n) (turned first edges) → Taken edges new pages first n
taken edges new pages first n sound e lowest some is =
    let turns : TurnsRun first (first + n) edges new = rw is (turns_run first (first + n) edges sound (omega arith) lowest.run.fits) in
    record {
      turns = turns;
      grown = subst (λ (xs : List ℕ). IsWithRun xs (pages_between new) first n) e (with_run edges new first n sound turns lowest.run);
    }

-- the lowest free run begins at most one past the highest reserved page
pub lowest_at_most : (pages : List ℕ) (n first : ℕ) → IsLowestRun pages n first → (end : ℕ) → IsHighest pages end → first ≤ end
lowest_at_most pages n first lowest end highest =
    elim (cases_lt end first) [
      | inl high ↦
          let fits = lowest.run.fits in
          absurd (lowest.lowest end high (record {
            fits = omega arith;
            free = λ page from to. elim (cases_Bool (holds pages page)) [ inl held ↦ let below = highest.above page held in absurd (omega arith) | inr free ↦ free ];
          }))
      | inr le ↦ le
    ]
