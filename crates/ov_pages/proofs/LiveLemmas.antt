-- Live extents and the reserved pages.
use Rattle.std.proofs.Common.{◌≡◌, ℕ, zero, suc, ◌+◌, ◌-◌, ◌<◌, ◌≤◌, ◌^◌, Bool, true, false, not, cond, ◌&&◌, ◌||◌, eqb, ltb, List, [], ◌∷◌, ◌++◌, length, get_or, Option, Some, None, refl, sym, ap, ◌∙◌, inl, inr, arith}
use Rattle.std.specs.Prelude.{option_map, remove}
use Rattle.std.specs.List.{find}
use Rattle.std.proofs.lemmas.Bool.{cases_lt, ne_eqb, lt-ltb, le-ltb, le-leb, lt-leb, ltb-false}
use Rattle.std.proofs.lemmas.List.Sums.{sum_by_push, sum_by-remove, sum_by_more_le}
use Rattle.ov_host.specs.declared.area.Extent.{Extent}
use Rattle.ov_host.specs.Extent.{pages_of}
use Rattle.ov_pages.specs.Sets.{Reserved, holds, is_in_run, one_if, IsLowestRun, IsReservedRun, IsWithRun, IsWithoutRun}
use Rattle.ov_pages.specs.Live.{is_too_high, too_high_page, times_covered, count_covering, AreReserved}
use Rattle.ov_pages.proofs.RunLemmas.{passed_over}

abbrev covers : ℕ → Extent → ℕ
covers page e = one_if (is_in_run e.page (pages_of e) page)

abbrev covers_any : Extent → ℕ
covers_any e = one_if (ltb 0 (pages_of e))

in_run : (first n page : ℕ) → first ≤ page → page < first + n → is_in_run first n page ≡ true
in_run first n page from to = rw (le-leb first page from, lt-ltb page (first + n) to) refl

pub live_reserved : (live : List Extent) (r : Reserved) → AreReserved live r → (i : ℕ) (d : Extent) → i < length live → IsReservedRun r.pages (pages_of (get_or live i d)) (get_or live i d).page
live_reserved live r h i d lt page from to =
    let e = get_or live i d in
    let one : covers page e ≡ 1 = ap one_if (in_run e.page (pages_of e) page from to) in
    let more = sum_by_more_le (covers page) live i d lt in
    h.pages page ∙ lt-ltb 0 (times_covered live page) (omega arith)

pub live_room : (live : List Extent) (r : Reserved) → AreReserved live r → (i : ℕ) (d : Extent) → i < length live → 0 < pages_of (get_or live i d) → 0 < r.room
live_room live r h i d lt some =
    let one : covers_any (get_or live i d) ≡ 1 = ap one_if (lt-ltb 0 (pages_of (get_or live i d)) some) in
    let more = sum_by_more_le covers_any live i d lt in
    let room = h.room in
    omega arith

not_high : (b : Bool) (x : Extent) (found : Option Extent) → b ≡ false → option_map (λ (e : Extent). e.page) found ≡ None → option_map (λ (e : Extent). e.page) (cond b (Some x) found) ≡ None
not_high true x found e h = absurd cc
not_high false x found e h = h

low_push : (live : List Extent) (e : Extent) → too_high_page live ≡ None → is_too_high e ≡ false → too_high_page (live ++ e ∷ []) ≡ None
low_push [] e h low = not_high (is_too_high e) e None low refl
low_push (x ∷ live) e h low =
    let over = passed_over (is_too_high x) x (find is_too_high live) h in
    not_high (is_too_high x) x (find is_too_high (live ++ e ∷ [])) over.0 (low_push live e over.1 low)

low_remove : (live : List Extent) (i : ℕ) → too_high_page live ≡ None → too_high_page (remove live i) ≡ None
low_remove [] zero h = refl
low_remove [] (suc i) h = refl
low_remove (x ∷ live) zero h = (passed_over (is_too_high x) x (find is_too_high live) h).1
low_remove (x ∷ live) (suc i) h =
    let over = passed_over (is_too_high x) x (find is_too_high live) h in
    not_high (is_too_high x) x (find is_too_high (remove live i)) over.0 (low_remove live i over.1)

-- a count and a test, where one is added to none
put_in : (held : Bool) (times : ℕ) (here : Bool) → held ≡ ltb 0 times → times ≤ 1 → (here ≡ true → held ≡ false) → (times + one_if here ≤ 1) × ((held || here) ≡ ltb 0 (times + one_if here))
put_in held times true e le none =
    let zero_times = ltb-false 0 times (sym e ∙ none refl) in
    (omega arith, rw (none refl) (sym (lt-ltb 0 (times + 1) (omega arith))))
put_in held times false e le none =
    let same : times + 0 ≡ times = omega arith in
    (omega arith, rw same (or_false held ∙ e))
  where
    or_false : (b : Bool) → (b || false) ≡ b
    or_false true = refl
    or_false false = refl

-- the same, where one is taken from one
take_out : (held : Bool) (times rest : ℕ) (here : Bool) → held ≡ ltb 0 times → times ≤ 1 → rest + one_if here ≡ times → (held && not here) ≡ ltb 0 rest
take_out held times rest true e le sum =
    let none : rest ≡ 0 = omega arith in
    rw none (and_false held)
  where
    and_false : (b : Bool) → (b && false) ≡ false
    and_false true = refl
    and_false false = refl
take_out held times rest false e le sum =
    let same : rest ≡ times = omega arith in
    rw same (and_true held ∙ e)
  where
    and_true : (b : Bool) → (b && true) ≡ b
    and_true true = refl
    and_true false = refl

in_run-true : (first n page : ℕ) → is_in_run first n page ≡ true → (first ≤ page) × (page < first + n)
in_run-true first n page e =
    elim (cases_lt page first) [
      | inl lt ↦ let out : is_in_run first n page ≡ false = rw (lt-leb first page lt) refl in absurd cc
      | inr from ↦ elim (cases_lt page (first + n)) [
        | inl to ↦ (from, to)
        | inr behind ↦ let out : is_in_run first n page ≡ false = rw (le-leb first page from, le-ltb page (first + n) behind) refl in absurd cc
      ]
    ]

pub live_more : (live : List Extent) (old new : Reserved) (e : Extent) → AreReserved live old → 0 < pages_of e → IsLowestRun old.pages (pages_of e) e.page → IsWithRun old.pages new.pages e.page (pages_of e) → new.room ≡ old.room + 1 → AreReserved (live ++ e ∷ []) new
live_more live old new e h some lowest grown room =
    let times = λ (page : ℕ). sum_by_push (covers page) live e in
    let step = λ (page : ℕ). put_in (holds old.pages page) (times_covered live page) (is_in_run e.page (pages_of e) page) (h.pages page) (h.once page) (λ here. let at = in_run-true e.page (pages_of e) page here in lowest.run.free page at.0 at.1) in
    record {
      low = low_push live e h.low (le-ltb (2 ^ 22) (e.page + pages_of e) lowest.run.fits);
      once = λ page. let at = (step page).0 in omega (arith, times page);
      pages = λ page. grown page ∙ (step page).1 ∙ ap (ltb 0) (sym (times page));
      room =
          let one : covers_any e ≡ 1 = ap one_if (lt-ltb 0 (pages_of e) some) in
          omega (arith, room, h.room, sum_by_push covers_any live e, one);
    }

room_fewer : (pages count rest old new : ℕ) → rest + one_if (ltb 0 pages) ≡ count → old ≡ count → new ≡ cond (eqb pages 0) old (old - 1) → new ≡ rest
room_fewer zero count rest old new sum e is = omega arith
room_fewer (suc pages) count rest old new sum e is =
    let one : one_if (ltb 0 (suc pages)) ≡ 1 = ap one_if (lt-ltb 0 (suc pages) (omega arith)) in
    let some : eqb (suc pages) 0 ≡ false = ne_eqb (suc pages) 0 (λ e. omega arith) in
    let less : new ≡ old - 1 = rw some at is in
    omega (arith, one)

pub live_fewer : (live : List Extent) (old new : Reserved) (i : ℕ) (e : Extent) → AreReserved live old → i < length live → e ≡ get_or live i e → IsWithoutRun old.pages new.pages e.page (pages_of e) → new.room ≡ cond (eqb (pages_of e) 0) old.room (old.room - 1) → AreReserved (remove live i) new
live_fewer live old new i e h lt is gone room =
    let times = λ (page : ℕ). rw (← is) at (sum_by-remove (covers page) live i e lt) in
    record {
      low = low_remove live i h.low;
      once = λ page. let before = h.once page in omega (arith, times page);
      pages = λ page. gone page ∙ take_out (holds old.pages page) (times_covered live page) (times_covered (remove live i) page) (is_in_run e.page (pages_of e) page) (h.pages page) (h.once page) (times page);
      room = room_fewer (pages_of e) (count_covering live) (count_covering (remove live i)) old.room new.room (rw (← is) at (sum_by-remove covers_any live i e lt)) h.room room;
    }
