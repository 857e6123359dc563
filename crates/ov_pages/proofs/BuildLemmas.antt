-- The edges of runs in order, run by run.
use Rattle.std.proofs.Common.{◌≡◌, ℕ, zero, suc, ◌+◌, ◌*◌, ◌<◌, ◌≤◌, false, not, ltb, List, [], ◌∷◌, length, get_or, take, drop, All, refl, sym, ap, subst, ◌∙◌, inl, inr, arith}
use Rattle.std.specs.List.Sorted.{IsNonDecreasingBy}
use Rattle.std.proofs.lemmas.Bool.{cases_lt, lt-ltb, le-ltb, le-leb, lt-leb}
use Rattle.std.proofs.lemmas.List.{take_all, get_or-drop, get_or_default, length-drop}
use Rattle.std.proofs.lemmas.List.Sums.{sum_by-cons, sum_by_more, sum_by-drop_more, sum_by-take-drop}
use Rattle.std.proofs.lemmas.List.Elements.{All-head, All-tail}
use Rattle.ov_pages.specs.declared.live.Run.{Run}
use Rattle.ov_pages.specs.Edges.{AreEdges, status, turned}
use Rattle.ov_pages.specs.Runs.{times_by, times_in, IsRun, AreEdgesOf, IsLeastTwice}
use Rattle.ov_pages.proofs.TurnLemmas.{turns_run}

times_by-below : (r : Run) (page : ℕ) → page < r.first → times_by page r ≡ 0
times_by-below r page lt = rw (lt-leb r.first page lt) refl

times_by-within : (r : Run) (page : ℕ) → r.first ≤ page → page < r.past → times_by page r ≡ 1
times_by-within r page from to = rw (le-leb r.first page from, lt-ltb page r.past to) refl

times_by-past : (r : Run) (page : ℕ) → r.first ≤ page → r.past ≤ page → times_by page r ≡ 0
times_by-past r page from past = rw (le-leb r.first page from, le-ltb page r.past past) refl

-- the edges of the first i runs, and one past their last page
pub record Built (runs : List Run) (i : ℕ) (edges : List ℕ) (past : ℕ) : Type 0 where
  pub sound : AreEdges edges
  pub small : length edges ≤ 2 * i
  pub pages : (page : ℕ) → status false edges page ≡ ltb 0 (times_in (take i runs) page)
  pub once : (page : ℕ) → times_in (take i runs) page ≤ 1
  pub behind : (page : ℕ) → past ≤ page → times_in (take i runs) page ≡ 0
  pub start : i ≡ 0 → past ≡ 0
  pub last : (j : ℕ) (d : Run) (page : ℕ) → i ≡ suc j → (get_or runs j d).first ≤ page → page < past → times_in (take i runs) page ≡ 1

pub built_none : (runs : List Run) (edges : List ℕ) → edges ≡ [] → Built runs 0 edges 0
built_none runs edges e = rw e (record {
  sound = record { ascend = tt; closed = refl };
  small = omega arith;
  pages = λ page. refl;
  once = λ page. omega arith;
  behind = λ page le. refl;
  start = λ e. refl;
  last = λ j d page e from to. absurd (omega arith);
})

pub built_more : (runs : List Run) (i : ℕ) (edges : List ℕ) (past : ℕ) (d : Run) → Built runs i edges past → i < length runs → IsRun (get_or runs i d) → past ≤ (get_or runs i d).first
    → Built runs (i + 1) (turned (get_or runs i d).past (turned (get_or runs i d).first edges)) (get_or runs i d).past
built_more runs i edges past d built lt is_run apart =
    let r = get_or runs i d in
    let turns = turns_run r.first r.past edges built.sound is_run.order is_run.limit in
    let more = λ (page : ℕ). sum_by_more (times_by page) runs i d lt in
    let order = is_run.order in
    record {
      sound = turns.sound;
      small = let longer = turns.longer in let small = built.small in omega arith;
      pages = λ page.
          elim (cases_lt page r.first) [
            | inl below ↦
                let none = times_by-below r page below in
                let same : times_in (take (i + 1) runs) page ≡ times_in (take i runs) page = omega (arith, more page, none) in
                turns.before page below ∙ built.pages page ∙ ap (ltb 0) (sym same)
            | inr from ↦ elim (cases_lt page r.past) [
              | inl to ↦
                  let one = times_by-within r page from to in
                  let none = built.behind page (omega arith) in
                  let all : times_in (take (i + 1) runs) page ≡ 1 = omega (arith, more page, one, none) in
                  turns.within page from to ∙ ap not (built.pages page ∙ ap (ltb 0) none) ∙ sym (ap (ltb 0) all)
              | inr behind ↦
                  let none = times_by-past r page from behind in
                  let same : times_in (take (i + 1) runs) page ≡ times_in (take i runs) page = omega (arith, more page, none) in
                  turns.behind page behind ∙ built.pages page ∙ ap (ltb 0) (sym same)
            ]
          ];
      once = λ page.
          let before = built.once page in
          elim (cases_lt page r.first) [
            | inl below ↦ let none = times_by-below r page below in omega (arith, more page)
            | inr from ↦ elim (cases_lt page r.past) [
              | inl to ↦ let one = times_by-within r page from to in let none = built.behind page (omega arith) in omega (arith, more page)
              | inr behind ↦ let none = times_by-past r page from behind in omega (arith, more page)
            ]
          ];
      behind = λ page le. let none = times_by-past r page (omega arith) le in let before = built.behind page (omega arith) in omega (arith, more page);
      start = λ e. absurd (omega arith);
      last = λ j x page e from to.
          let here : j ≡ i = omega arith in
          let same : get_or runs j x ≡ r = ap (λ (k : ℕ). get_or runs k x) here ∙ get_or_default runs i x d lt in
          let from_here : r.first ≤ page = subst (λ (y : Run). y.first ≤ page) same from in
          let one = times_by-within r page from_here to in
          let none = built.behind page (omega arith) in
          omega (arith, more page);
    }

none_after : (runs : List Run) (page : ℕ) → All (λ r. page < r.first) runs → times_in runs page ≡ 0
none_after [] page h = refl
none_after (r ∷ runs) page h =
    let first = times_by-below r page (All-head (λ x. page < x.first) r runs h) in
    let rest = none_after runs page (All-tail (λ x. page < x.first) r runs h) in
    omega (arith, sum_by-cons (times_by page) r runs)

overlap_before : (runs : List Run) (i : ℕ) (edges : List ℕ) (past : ℕ) (d : Run) → Built runs i edges past → i < length runs → IsNonDecreasingBy (λ r. r.first) runs → (get_or runs i d).first < past → times_in (take i runs) (get_or runs i d).first ≡ 1
overlap_before runs zero edges past d built lt sorted early = let none = built.start refl in absurd (omega arith)
overlap_before runs (suc j) edges past d built lt sorted early = built.last j d (get_or runs (suc j) d).first refl (sorted j (suc j) d (omega arith) lt) early

-- a run that begins before the last page of those before it
pub overlaps : (runs : List Run) (i : ℕ) (edges : List ℕ) (past : ℕ) (d : Run) → Built runs i edges past → i < length runs → IsRun (get_or runs i d) → IsNonDecreasingBy (λ r. r.first) runs → (get_or runs i d).first < past → IsLeastTwice runs (get_or runs i d).first
overlaps runs i edges past d built lt is_run sorted early =
    let r = get_or runs i d in
    let order = is_run.order in
    record {
      twice =
          let one = times_by-within r r.first (omega arith) order in
          let before = overlap_before runs i edges past d built lt sorted early in
          let rest = sum_by-drop_more (times_by r.first) runs i d lt in
          omega (arith, sum_by-take-drop (times_by r.first) runs i);
      least = λ other less.
          let none = none_after (drop i runs) other (λ k x below.
          let there = get_or-drop i runs k x in
          let up = sorted i (i + k) x (omega arith) (omega (arith, length-drop i runs)) in
          let here : get_or runs i x ≡ r = get_or_default runs i x d lt in
          let first : r.first ≤ (get_or runs (i + k) x).first = subst (λ (y : Run). y.first ≤ (get_or runs (i + k) x).first) here up in
          rw there (omega arith)) in
          let before = built.once other in
          omega (arith, sum_by-take-drop (times_by other) runs i);
    }

pub built_all : (runs : List Run) (i : ℕ) (edges : List ℕ) (past : ℕ) → Built runs i edges past → length runs ≤ i → AreEdgesOf runs edges
built_all runs i edges past built le =
    let all : take i runs ≡ runs = take_all i runs le in
    record {
      sound = built.sound;
      once = λ page. subst (λ (xs : List Run). times_in xs page ≤ 1) all (built.once page);
      pages = λ page. built.pages page ∙ ap (λ (xs : List Run). ltb 0 (times_in xs page)) all;
    }
