-- Runs of live extents: which they are, and the edges made of them in order.
use Rattle.std.proofs.Common.{◌≡◌, ℕ, zero, suc, ◌+◌, ◌<◌, ◌≤◌, ◌^◌, Bool, true, false, cond, ltb, List, [], ◌∷◌, ◌++◌, length, get_or, take, Option, Some, None, refl, sym, ap, ◌∙◌, inl, inr, arith}
use Rattle.std.specs.Prelude.{option_map}
use Rattle.std.specs.List.{find}
use Rattle.std.specs.List.Sorted.{IsPermutation}
use Rattle.std.proofs.lemmas.Bool.{cases_lt, lt-ltb, le-ltb, le-leb, lt-leb, ltb-false}
use Rattle.std.proofs.lemmas.List.{length-append, take_all}
use Rattle.std.proofs.lemmas.List.Sums.{sum_by_push, sum_by_more}
use Rattle.std.proofs.lemmas.List.Elements.{All-push}
use Rattle.std.proofs.lemmas.List.Sorted.{All-permutation, sum_by-IsPermutation, length_permutation}
use Rattle.ov_host.specs.declared.area.Extent.{Extent}
use Rattle.ov_host.specs.Extent.{pages_of}
use Rattle.ov_pages.specs.declared.live.Run.{Run}
use Rattle.ov_pages.specs.Sets.{is_in_run, one_if}
use Rattle.ov_pages.specs.Live.{is_too_high, too_high_page, AreReserved, IsLeastOverlap}
use Rattle.ov_pages.specs.Edges.{pages_between}
use Rattle.ov_pages.specs.Runs.{times_by, IsRun, AreRunsOf, AreEdgesOf, IsLeastTwice}
use Rattle.ov_pages.proofs.EdgeLemmas.{holds-between}

pub passed_over : (b : Bool) (x : Extent) (found : Option Extent) → option_map (λ (e : Extent). e.page) (cond b (Some x) found) ≡ None → (b ≡ false) × (option_map (λ (e : Extent). e.page) found ≡ None)
passed_over true x found e = absurd cc
passed_over false x found e = (refl, e)

-- an extent that was found not to be too high
low_at : (live : List Extent) (i : ℕ) (d : Extent) → too_high_page live ≡ None → i < length live → is_too_high (get_or live i d) ≡ false
low_at [] i d e lt = absurd (omega arith)
low_at (x ∷ live) zero d e lt = (passed_over (is_too_high x) x (find is_too_high live) e).0
low_at (x ∷ live) (suc i) d e lt = low_at live i d (passed_over (is_too_high x) x (find is_too_high live) e).1 (omega arith)

pub fits_at : (live : List Extent) (i : ℕ) (d : Extent) → too_high_page live ≡ None → i < length live → (get_or live i d).page + pages_of (get_or live i d) ≤ 2 ^ 22
fits_at live i d e lt = ltb-false _ _ (low_at live i d e lt)

pub runs_none : (live : List Extent) (runs : List Run) → runs ≡ [] → AreRunsOf (take 0 live) runs
runs_none live runs e = rw e (record { times = λ page. refl; count = refl; are_runs = λ k d lt. absurd (omega arith) })

abbrev run_from : ℕ → ℕ → Run
run_from first past = record { first = first; past = past }

-- an extent that covers pages is one run more
pub runs_more : (live : List Extent) (runs : List Run) (i : ℕ) (d : Extent) → i < length live → too_high_page live ≡ None → 0 < pages_of (get_or live i d) → AreRunsOf (take i live) runs
    → AreRunsOf (take (i + 1) live) (runs ++ run_from (get_or live i d).page ((get_or live i d).page + pages_of (get_or live i d)) ∷ [])
runs_more live runs i d lt low some so_far =
    let e = get_or live i d in
    let r = run_from e.page (e.page + pages_of e) in
    let limit = fits_at live i d low lt in
    record {
      times = λ page.
          sum_by_push (times_by page) runs r
          ∙ ap (λ (n : ℕ). n + times_by page r) (so_far.times page)
          ∙ sym (sum_by_more (λ (x : Extent). one_if (is_in_run x.page (pages_of x) page)) live i d lt);
      count =
          let one : one_if (ltb 0 (pages_of e)) ≡ 1 = rw (lt-ltb 0 (pages_of e) some) refl in
          let more = sum_by_more (λ (x : Extent). one_if (ltb 0 (pages_of x))) live i d lt in
          omega (arith, length-append runs (r ∷ []), so_far.count, more, one);
      are_runs = All-push IsRun runs r so_far.are_runs (record { order = omega arith; limit = limit });
    }

not_in_none : (first page : ℕ) → is_in_run first 0 page ≡ false
not_in_none first page =
    elim (cases_lt page first) [
      | inl lt ↦ rw (lt-leb first page lt) refl
      | inr le ↦ rw (le-leb first page le, le-ltb page (first + 0) (omega arith)) refl
    ]

-- an extent that covers none changes nothing
pub runs_same : (live : List Extent) (runs : List Run) (i : ℕ) (d : Extent) → i < length live → pages_of (get_or live i d) ≡ 0 → AreRunsOf (take i live) runs → AreRunsOf (take (i + 1) live) runs
runs_same live runs i d lt none so_far = record {
  times = λ page.
      let zero_here : one_if (is_in_run (get_or live i d).page (pages_of (get_or live i d)) page) ≡ 0 = rw (none, not_in_none (get_or live i d).page page) refl in
      let more = sum_by_more (λ (x : Extent). one_if (is_in_run x.page (pages_of x) page)) live i d lt in
      let so = so_far.times page in
      omega (arith, so, more, zero_here);
  count =
      let zero_here : one_if (ltb 0 (pages_of (get_or live i d))) ≡ 0 = rw none refl in
      let more = sum_by_more (λ (x : Extent). one_if (ltb 0 (pages_of x))) live i d lt in
      omega (arith, so_far.count, more, zero_here);
  are_runs = so_far.are_runs;
}

pub runs_all : (live : List Extent) (runs : List Run) (i : ℕ) → length live ≤ i → AreRunsOf (take i live) runs → AreRunsOf live runs
runs_all live runs i le h = rw take_all at h

pub runs_moved : (live : List Extent) (old new : List Run) → IsPermutation old new → AreRunsOf live old → AreRunsOf live new
runs_moved live old new moved h = record {
  times = λ page. sum_by-IsPermutation (times_by page) old new moved ∙ h.times page;
  count = length_permutation old new moved ∙ h.count;
  are_runs = All-permutation IsRun old new moved h.are_runs;
}

pub none_from : (found : Option ℕ) → ((page : ℕ) → found ≡ Some page → ⊥) → found ≡ None
none_from None h = refl
none_from (Some page) h = absurd (h page refl)

-- the edges of all runs are those of the reserved pages
pub are_reserved : (live : List Extent) (runs : List Run) (edges : List ℕ) (room : ℕ) → too_high_page live ≡ None → AreRunsOf live runs → AreEdgesOf runs edges → room ≡ length runs → AreReserved live (record { pages = pages_between edges; room = room })
are_reserved live runs edges room low h made e = record {
  low = low;
  once = λ page. let times = h.times page in let once = made.once page in omega arith;
  pages = λ page. holds-between 0 edges page made.sound.ascend made.sound.closed ∙ made.pages page ∙ ap (ltb 0) (h.times page);
  room = e ∙ h.count;
}

-- the page that runs have twice is covered twice
pub least_overlap : (live : List Extent) (runs : List Run) (page : ℕ) → too_high_page live ≡ None → AreRunsOf live runs → IsLeastTwice runs page → IsLeastOverlap live page
least_overlap live runs page low h least = record {
  low = low;
  twice = let times = h.times page in let twice = least.twice in omega arith;
  least = λ other lt. let times = h.times other in let once = least.least other lt in omega arith;
}
