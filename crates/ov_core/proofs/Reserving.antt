-- Reserved pages are those of extents, however these are listed.
use Rattle.std.proofs.Common.{◌≡◌, inl, inr, ℕ, zero, suc, ◌+◌, ◌-◌, ◌<◌, ◌≤◌, ◌^◌, Bool, true, false, ◌&&◌, ◌==◌, List, [], ◌∷◌, ◌++◌, length, drop, get_or, drop-cons, add-one, refl, sym, ◌∙◌, ap, subst, arith}
use Rattle.std.specs.Prelude.{Some, None, nat_le, nat_lt, if◌then◌else◌, cond, option_map}
use Rattle.std.specs.List.{find}
use Rattle.std.proofs.lemmas.Bool.{cases_lt, le-ltb, ltb-false}
use Rattle.ov_host.specs.declared.area.Extent.{Extent}
use Rattle.ov_host.specs.Extent.{pages_of}
use Rattle.ov_pages.specs.Sets.{Reserved, holds, is_in_run, one_if, IsFreeRun, IsLowestRun, IsRefused, IsReservedRun, IsWithRun, IsWithoutRun}
use Rattle.ov_pages.specs.Live.{is_too_high, too_high_page, times_covered, AreReserved}
use Rattle.ov_pages.proofs.LiveLemmas.{live_reserved, live_room, live_more, live_fewer}
use Rattle.ov_catalog.specs.Extents.{covers, has_page}
use Rattle.ov_core.specs.Brought.{extent_at}
use Rattle.ov_core.specs.Rooms.{IsFree, IsLowest, IsNoRun, IsRun, HasNone, pages_for}
use Rattle.ov_catalog.proofs.FlipCounts.{total, total-append}
use Rattle.ov_catalog.proofs.Weighing.{sum_total}

-- an extent of no bytes
abbrev pub nowhere : Extent
nowhere = record { page = 0; bytes = 0 }

-- the same extents, in any order, but for those of no bytes
abbrev pub AreSame : List Extent → List Extent → Type 0
AreSame a b = (w : Extent → ℕ) → w nowhere ≡ 0 → total w a ≡ total w b

-- ---- three weights

abbrev at_page : ℕ → Extent → ℕ
at_page page e = one_if (is_in_run e.page (pages_of e) page)

abbrev any_page : Extent → ℕ
any_page e = one_if (nat_lt 0 (pages_of e))

abbrev too_high : Extent → ℕ
too_high e = one_if (is_too_high e)

at_page_none : (page : ℕ) → at_page page nowhere ≡ 0
at_page_none page = by (nat_le 0 page) (nat_lt page (0 + 0)) (le-ltb page (0 + 0) (omega arith))
  where
    by : (a b : Bool) → b ≡ false → one_if (a && b) ≡ 0
    by true true h = absurd cc
    by true false h = refl
    by false b h = refl

low_total : (es : List Extent) → too_high_page es ≡ None → total too_high es ≡ 0
low_total [] h = refl
low_total (e ∷ es) h = by (is_too_high e) (low_total es) h
  where
    by : (b : Bool) → (too_high_page es ≡ None → total too_high es ≡ 0) → option_map (λ (x : Extent). x.page) (cond b (Some e) (find is_too_high es)) ≡ None → one_if b + total too_high es ≡ 0
    by true rest h = absurd cc
    by false rest h = omega (arith, rest h)

total_low : (es : List Extent) → total too_high es ≡ 0 → too_high_page es ≡ None
total_low [] h = refl
total_low (e ∷ es) h = by (is_too_high e) (total_low es) h
  where
    by : (b : Bool) → (total too_high es ≡ 0 → too_high_page es ≡ None) → one_if b + total too_high es ≡ 0 → option_map (λ (x : Extent). x.page) (cond b (Some e) (find is_too_high es)) ≡ None
    by true rest h = absurd (omega arith)
    by false rest h = rest (omega (arith, h))

pub times_total : (es : List Extent) (page : ℕ) → times_covered es page ≡ total (at_page page) es
times_total es page = sum_total (at_page page) es

pub covers_total : (es : List Extent) (page : ℕ) → covers es page ≡ total (at_page page) es
covers_total [] page = refl
covers_total (e ∷ es) page = by (has_page e page) (covers_total es page)
  where
    by : (b : Bool) → covers es page ≡ total (at_page page) es → (if b then 1 else 0) + covers es page ≡ one_if b + total (at_page page) es
    by true h = omega (arith, h)
    by false h = omega (arith, h)

-- both count alike
pub times_covers : (es : List Extent) (page : ℕ) → times_covered es page ≡ covers es page
times_covers es page = times_total es page ∙ sym (covers_total es page)

pub same_covers : (a b : List Extent) → AreSame a b → (page : ℕ) → covers a page ≡ covers b page
same_covers a b same page = covers_total a page ∙ same (at_page page) (at_page_none page) ∙ sym (covers_total b page)

-- ---- what is reserved

pub reserved_same : (a b : List Extent) (r : Reserved) → AreSame a b → AreReserved a r → AreReserved b r
reserved_same a b r same h =
    let times : (page : ℕ) → times_covered a page ≡ times_covered b page = λ page. times_total a page ∙ same (at_page page) (at_page_none page) ∙ sym (times_total b page)
    in record {
      low = total_low b (sym (same too_high refl) ∙ low_total a h.low);
      once = λ page. omega (arith, times page, h.once page);
      pages = λ page. h.pages page ∙ ap (λ (n : ℕ). nat_lt 0 n) (times page);
      room = h.room ∙ sum_total any_page a ∙ same any_page refl ∙ sym (sum_total any_page b);
    }

-- nothing is reserved for an extent of no bytes
pub reserved_empty : (live : List Extent) (r : Reserved) → AreReserved live r → AreReserved (nowhere ∷ live) r
reserved_empty live r h = reserved_same live (nowhere ∷ live) r (λ w none. omega (arith, none)) h

pub reserved_more : (live : List Extent) (old new : Reserved) (e : Extent) → AreReserved live old → 0 < pages_of e → IsLowestRun old.pages (pages_of e) e.page → IsWithRun old.pages new.pages e.page (pages_of e) → new.room ≡ old.room + 1 → AreReserved (e ∷ live) new
reserved_more live old new e h some lowest grown room =
    reserved_same (live ++ e ∷ []) (e ∷ live) new (λ w none. omega (arith, total-append w live (e ∷ []))) (live_more live old new e h some lowest grown room)

pub free_run : (live : List Extent) (r : Reserved) (e : Extent) → AreReserved (e ∷ live) r → IsReservedRun r.pages (pages_of e) e.page
free_run live r e h = live_reserved (e ∷ live) r h 0 e (omega arith)

pub free_room : (live : List Extent) (r : Reserved) (e : Extent) → AreReserved (e ∷ live) r → 0 < pages_of e → 0 < r.room
free_room live r e h some = live_room (e ∷ live) r h 0 e (omega arith) some

pub reserved_fewer : (live : List Extent) (old new : Reserved) (e : Extent) → AreReserved (e ∷ live) old → IsWithoutRun old.pages new.pages e.page (pages_of e) → new.room ≡ (if pages_of e == 0 then old.room else old.room - 1) → AreReserved live new
reserved_fewer live old new e h gone room = live_fewer (e ∷ live) old new 0 e h (omega arith) refl gone room

-- ---- free runs

module _ (live : List Extent) (r : Reserved) (h : AreReserved live r) where
  held_covers : (page : ℕ) → holds r.pages page ≡ nat_lt 0 (covers live page)
  held_covers page = h.pages page ∙ ap (λ (n : ℕ). nat_lt 0 n) (times_covers live page)

  pub to_free : (n first : ℕ) → IsFreeRun r.pages n first → IsFree live n first
  to_free n first run = record {
    below = run.fits;
    off = λ page from to. omega (arith, ltb-false 0 (covers live page) (sym (held_covers page) ∙ run.free page from to));
  }

  pub from_free : (n first : ℕ) → IsFree live n first → IsFreeRun r.pages n first
  from_free n first free = record {
    fits = free.below;
    free = λ page from to. held_covers page ∙ ap (λ (m : ℕ). nat_lt 0 m) (free.off page from to);
  }

  pub to_lowest : (n first : ℕ) → IsLowestRun r.pages n first → n < 2 ^ 20 → IsLowest live n first
  to_lowest n first lowest few = record {
    run = to_free n first lowest.run;
    few = few;
    lowest = λ other lt free. lowest.lowest other lt (from_free n other free);
  }

  pub to_none : (n : ℕ) → IsRefused r.pages n → HasNone live n
  to_none n (inl many) = inl many
  to_none n (inr none) = inr (λ first free. none first (from_free n first free))

-- ---- the extent of bytes

pub extent_is : (page : ℕ) (bytes : List ℕ) → 0 < length bytes → record { page = page; bytes = length bytes } ≡ extent_at page bytes
extent_is page [] some = absurd (omega (arith, some))
extent_is page (byte ∷ bytes) some = refl

pub extent_none : (page : ℕ) (bytes : List ℕ) → length bytes ≡ 0 → nowhere ≡ extent_at page bytes
extent_none page [] none = refl
extent_none page (byte ∷ bytes) none = absurd (omega (arith, none))

pub no_run : (live : List Extent) (bytes : List ℕ) → length bytes ≡ 0 → IsRun live bytes nowhere
no_run live bytes none = record { size = sym none; empty = λ is. refl; lowest = λ some. absurd (omega (arith, none, some)) }

some_bytes : (bytes : List ℕ) → 0 < length bytes → bytes ≡ [] → ⊥
some_bytes bytes some is = let none : length bytes ≡ 0 = ap length is in omega (arith, none, some)

module _ (live : List Extent) (r : Reserved) (h : AreReserved live r) (bytes : List ℕ) (n page : ℕ) (some : 0 < length bytes) (count : n ≡ pages_for bytes) where
  pub a_run : IsLowestRun r.pages n page → (IsRefused r.pages n → ⊥) → IsRun live bytes (record { page = page; bytes = length bytes })
  a_run lowest can = record {
    size = refl;
    empty = λ is. absurd (some_bytes bytes some is);
    lowest = λ more. subst (λ (m : ℕ). IsLowest live m page) count (to_lowest live r h n page lowest few);
  }
    where
      few : n < 2 ^ 20
      few = elim (cases_lt n (2 ^ 20)) [ inl lt ↦ lt | inr ge ↦ absurd (can (inl ge)) ]

  pub run_reserved : (new : Reserved) → IsLowestRun r.pages n page → IsWithRun r.pages new.pages page n → new.room ≡ r.room + 1 → AreReserved (record { page = page; bytes = length bytes } ∷ live) new
  run_reserved new lowest grown room =
      let e : Extent = record { page = page; bytes = length bytes }
      in let pages : 0 < pages_of e = omega (arith, some)
      in reserved_more live r new e h pages (subst (λ (m : ℕ). IsLowestRun r.pages m page) count lowest) (subst (λ (m : ℕ). IsWithRun r.pages new.pages page m) count grown) room

  pub none_is : IsRefused r.pages n → IsNoRun live bytes n
  none_is refused = record { some = some; none = subst (λ (m : ℕ). HasNone live m) count (to_none live r h n refused); pages_are = count }

-- ---- extents freed one after another

drop_next : (xs : List Extent) (i : ℕ) → i < length xs → drop i xs ≡ get_or xs i nowhere ∷ drop (i + 1) xs
drop_next xs i h = rw (add-one, drop-cons xs i nowhere) refl

pub next_freed : (xs live : List Extent) (i : ℕ) (r : Reserved) → i < length xs → AreReserved (drop i xs ++ live) r → AreReserved (get_or xs i nowhere ∷ (drop (i + 1) xs ++ live)) r
next_freed xs live i r lt h = subst (λ (es : List Extent). AreReserved (es ++ live) r) (drop_next xs i lt) h

drop_all : (xs : List Extent) (i : ℕ) → length xs ≤ i → drop i xs ≡ []
drop_all [] zero le = refl
drop_all [] (suc i) le = refl
drop_all (x ∷ xs) zero le = absurd (omega (arith, le))
drop_all (x ∷ xs) (suc i) le = drop_all xs i (omega (arith, le))

pub all_freed : (xs live : List Extent) (i : ℕ) (r : Reserved) → length xs ≤ i → AreReserved (drop i xs ++ live) r → AreReserved live r
all_freed xs live i r le h = subst (λ (es : List Extent). AreReserved (es ++ live) r) (drop_all xs i le) h
