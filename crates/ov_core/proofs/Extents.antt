-- An event whose extents are placed says the same otherwise: it applies, has a spelling, and as long a one.
use Rattle.std.proofs.Common.{◌≡◌, ℕ, ◌+◌, ◌*◌, ◌%◌, ◌<◌, ◌≤◌, ◌^◌, Bool, true, false, ◌&&◌, ◌==◌, List, [], ◌∷◌, ◌++◌, length, refl, sym, ◌∙◌, ap, subst, arith, length-append}
use Rattle.std.specs.Prelude.{Option, Some, None, nat_le, not}
use Rattle.std.specs.Option.{option_or}
use Rattle.std.proofs.lemmas.Bool.Decides.{nat_tests}
use Rattle.ov_host.specs.declared.area.Extent.{Extent}
use Rattle.ov_host.specs.Extent.{pages_of}
use Rattle.ov_event.specs.declared.event.Event as raw
use Rattle.ov_event.specs.declared.event.Event.TheVariants as says
use Rattle.ov_event.specs.Fields.{u8, u32, text, extent, counted, IsExtent}
use Rattle.ov_event.specs.Spelling.{spelling, schema, column, parents, place, IsEvent}
use Rattle.ov_catalog.specs.Numbers.{PlanNumbers, SetNumbers, Numbers}
use Rattle.ov_catalog.specs.Planning.{copy_off, of_running}
use Rattle.ov_catalog.specs.Applying.{first_off, commit_off, format_off, wide_off, of_live, set_numbered, is_extent, is_list, is_segment, is_same}
use Rattle.ov_catalog.specs.Raw.{place_in}
use Rattle.law_events.proofs.Asking.{applies_sound}
use Rattle.ov_core.specs.declared.brought.Brought.{Brought}
use Rattle.ov_core.specs.Brought.{extent_at, with_extents, BringsRuns, IsUnplaced}
use Rattle.ov_core.specs.Rooms.{ArePlaced, IsRun, PassesEnd}
use Rattle.ov_journal.specs.Held as journals

-- ---- as long a spelling

u32_length : (n : ℕ) → length (u32 n) ≡ 4
unfolding u32
u32_length n = refl

extent_length : (e : Extent) → length (extent e) ≡ 8
unfolding extent
extent_length e =
    omega (arith, length-append (u32 e.page) (u32 e.bytes ++ []), length-append (u32 e.bytes) [], u32_length e.page, u32_length e.bytes)

-- the last field
end_same : (l m : Extent) → length (extent l ++ []) ≡ length (extent m ++ [])
end_same l m = omega (arith, length-append (extent l) [], length-append (extent m) [], extent_length l, extent_length m)

-- the two last fields
ends_same : (l s m t : Extent) → length (extent l ++ (extent s ++ [])) ≡ length (extent m ++ (extent t ++ []))
ends_same l s m t =
    omega (
      arith,
      length-append (extent l) (extent s ++ []),
      length-append (extent s) [],
      length-append (extent m) (extent t ++ []),
      length-append (extent t) [],
      extent_length l,
      extent_length s,
      extent_length m,
      extent_length t,
    )

behind_same : (front x y : List ℕ) → length x ≡ length y → length (front ++ x) ≡ length (front ++ y)
behind_same front x y same = omega (arith, length-append front x, length-append front y, same)

pub spelled_same : (l s : Extent) (e : raw.Event) → length (spelling (with_extents l s e)) ≡ length (spelling e)
unfolding spelling
spelled_same l s (says.Init name columns rows list segment) =
    behind_same (u8 1) _ _ (behind_same (text name) _ _ (behind_same (schema columns) _ _ (behind_same (u32 rows) _ _ (ends_same l s list segment))))
spelled_same l s (says.Commit cvd vid message edges rows fresh placed added list segment) =
    behind_same (u8 2) _ _ (behind_same (u32 cvd) _ _ (behind_same (u32 vid) _ _ (behind_same (text message) _ _ (behind_same (parents edges) _ _
    (behind_same (u32 rows) _ _ (behind_same (u32 fresh) _ _ (behind_same (place placed) _ _ (behind_same (u32 added) _ _ (ends_same l s list segment)))))))))
spelled_same l s (says.Plan cvd p q targets) = refl
spelled_same l s (says.Copy cvd count segment) = behind_same (u8 4) _ _ (behind_same (u32 cvd) _ _ (behind_same (u32 count) _ _ (end_same s segment)))
spelled_same l s (says.Flip cvd) = refl
spelled_same l s (says.Drop cvd) = refl
spelled_same l s (says.Base next) = refl
spelled_same l s (says.Whole set) = refl
spelled_same l s (says.Wide cvd vid message added edges rows fresh placed more list segment) =
    behind_same (u8 9) _ _ (behind_same (u32 cvd) _ _ (behind_same (u32 vid) _ _ (behind_same (text message) _ _ (behind_same (counted u8 column added) _ _ (behind_same (parents edges) _ _
    (behind_same (u32 rows) _ _ (behind_same (u32 fresh) _ _ (behind_same (place placed) _ _ (behind_same (u32 more) _ _ (ends_same l s list segment))))))))))

pub passes_same : (journal : journals.Numbers) (l s : Extent) (e : raw.Event) → PassesEnd journal (with_extents l s e) → PassesEnd journal e
passes_same journal l s e passes = omega (arith, passes, spelled_same l s e)

pub passes_placed : (journal : journals.Numbers) (l s : Extent) (e : raw.Event) → PassesEnd journal e → PassesEnd journal (with_extents l s e)
passes_placed journal l s e passes = omega (arith, passes, spelled_same l s e)

-- ---- it has one

pub event_placed : (l s : Extent) (e : raw.Event) → IsEvent e → IsExtent l → IsExtent s → IsEvent (with_extents l s e)
unfolding IsEvent
event_placed l s (says.Init name columns rows list segment) is a b = (is.0, is.1, is.2, a, b)
event_placed l s (says.Commit cvd vid message edges rows fresh placed added list segment) is a b =
    (is.0, is.1, is.2, is.3, is.4, is.5, is.6, is.7, a, b)
event_placed l s (says.Plan cvd p q targets) is a b = is
event_placed l s (says.Copy cvd count segment) is a b = (is.0, is.1, b)
event_placed l s (says.Flip cvd) is a b = is
event_placed l s (says.Drop cvd) is a b = is
event_placed l s (says.Base next) is a b = is
event_placed l s (says.Whole set) is a b = is
event_placed l s (says.Wide cvd vid message columns edges rows fresh placed added list segment) is a b =
    (is.0, is.1, is.2, is.3, is.4, is.5, is.6, is.7, is.8, a, b)

-- the extents of an event that brings runs
pub record Ends (e : raw.Event) (l s : Extent) : Type 0 where
  pub list : IsExtent l
  pub segment : IsExtent s

pub ends_of : (bytes : List ℕ) (s : Extent) (e : raw.Event) → BringsRuns e bytes → with_extents (extent_at 0 bytes) s e ≡ e → IsEvent e → Ends e (extent_at 0 bytes) s
unfolding IsEvent
ends_of bytes s (says.Init name columns rows list segment) brings same is =
    let one : list ≡ extent_at 0 bytes = cc in let two : segment ≡ s = cc in
    record { list = subst IsExtent one is.3; segment = subst IsExtent two is.4 }
ends_of bytes s (says.Commit cvd vid message edges rows fresh placed added list segment) brings same is =
    let one : list ≡ extent_at 0 bytes = cc in let two : segment ≡ s = cc in
    record { list = subst IsExtent one is.8; segment = subst IsExtent two is.9 }
ends_of bytes s (says.Plan cvd p q targets) brings same is = absurd brings
ends_of bytes s (says.Copy cvd count segment) brings same is =
    let two : segment ≡ s = cc in
    record { list = subst (λ (xs : List ℕ). IsExtent (extent_at 0 xs)) (sym brings) (omega arith, omega arith); segment = subst IsExtent two is.2 }
ends_of bytes s (says.Flip cvd) brings same is = absurd brings
ends_of bytes s (says.Drop cvd) brings same is = absurd brings
ends_of bytes s (says.Base next) brings same is = absurd brings
ends_of bytes s (says.Whole set) brings same is = absurd brings
ends_of bytes s (says.Wide cvd vid message columns edges rows fresh placed added list segment) brings same is =
    let one : list ≡ extent_at 0 bytes = cc in let two : segment ≡ s = cc in
    record { list = subst IsExtent one is.9; segment = subst IsExtent two is.10 }

extent_size : (page : ℕ) (bytes : List ℕ) → (extent_at page bytes).bytes ≡ length bytes
extent_size page [] = refl
extent_size page (byte ∷ bytes) = refl

pub list_small : (b : Brought) → IsUnplaced b → IsEvent b.event → length b.list.items < 2 ^ 32
list_small b is event =
    let ends : Ends b.event (extent_at 0 b.list.items) (extent_at 0 b.segment.items) =
    ends_of b.list.items (extent_at 0 b.segment.items) b.event is.runs is.extents event
    in omega (arith, ends.list.1, extent_size 0 b.list.items)

pub segment_small : (b : Brought) → IsUnplaced b → IsEvent b.event → length b.segment.items < 2 ^ 32
segment_small b is event =
    let ends : Ends b.event (extent_at 0 b.list.items) (extent_at 0 b.segment.items) =
    ends_of b.list.items (extent_at 0 b.segment.items) b.event is.runs is.extents event
    in omega (arith, ends.segment.1, extent_size 0 b.segment.items)

-- the extent of a run
pub run_extent : (live : List Extent) (bytes : List ℕ) (e : Extent) → IsRun live bytes e → length bytes < 2 ^ 32 → IsExtent e
run_extent live [] e run small = (let none = run.empty refl in omega (arith, none), omega (arith, run.size))
run_extent live (byte ∷ bytes) e run small =
    let below = (run.lowest (omega arith)).run.below in (omega (arith, below), omega (arith, run.size, small))

-- ---- it applies

fits_page : (live : List Extent) (bytes : List ℕ) (e : Extent) → IsRun live bytes e → is_extent e ≡ true
fits_page live [] e run =
    let none : e.page ≡ 0 = run.empty refl in
    let size : e.bytes ≡ 0 = run.size in
    let low : e.page + pages_of e ≤ 2 ^ 22 = omega (arith, none, size) in
    grind (arith, nat_tests)
fits_page live (byte ∷ bytes) e run =
    let below = (run.lowest (omega arith)).run.below in
    let size : e.bytes ≡ length (byte ∷ bytes) = run.size in
    let low : e.page + pages_of e ≤ 2 ^ 22 = omega (arith, below, size) in
    let some : 0 < e.bytes = omega (arith, size) in
    grind (arith, nat_tests)

last_of_four : (a b c d x : Bool) → (a && (b && (c && d))) ≡ true → x ≡ true → (a && (b && (c && x))) ≡ true
last_of_four true true true d x h is = is
last_of_four true true false d x h is = absurd cc
last_of_four true false c d x h is = absurd cc
last_of_four false b c d x h is = absurd cc

last_of_two : (a b x : Bool) → (a && b) ≡ true → x ≡ true → (a && x) ≡ true
last_of_two true b x h is = is
last_of_two false b x h is = absurd cc

list_fits : (rows : ℕ) (old new : Extent) → old.bytes ≡ new.bytes → is_extent new ≡ true → is_list rows old ≡ true → is_list rows new ≡ true
list_fits rows old new size is h =
    let P : ℕ → Type 0 = λ n. (n % 8 == 0 && (nat_le n (8 * rows) && (is_same (n == 0) (rows == 0) && is_extent new))) ≡ true in
    subst P size (last_of_four (old.bytes % 8 == 0) (nat_le old.bytes (8 * rows)) (is_same (old.bytes == 0) (rows == 0)) (is_extent old) (is_extent new) h is)

segment_fits : (records : ℕ) (old new : Extent) → old.bytes ≡ new.bytes → is_extent new ≡ true → is_segment records old ≡ true → is_segment records new ≡ true
segment_fits records old new size is h =
    let P : ℕ → Type 0 = λ n. (is_same (n == 0) (records == 0) && is_extent new) ≡ true in
    subst P size (last_of_two (is_same (old.bytes == 0) (records == 0)) (is_extent old) (is_extent new) h is)

both_true : (a b x y : Bool) → a ≡ true → b ≡ true → x ≡ true → y ≡ true → (a && b) ≡ (x && y)
both_true a b x y p q r t = ap (λ (v : Bool). v && b) (p ∙ sym r) ∙ ap (λ (v : Bool). x && v) (q ∙ sym t)

module _ (live : List Extent) (b : Brought) (l s : Extent) (is : IsUnplaced b) (placed : ArePlaced live b.list.items b.segment.items l s) where
  list_size : (extent_at 0 b.list.items).bytes ≡ l.bytes
  list_size = extent_size 0 b.list.items ∙ sym placed.list_run.size

  segment_size : (extent_at 0 b.segment.items).bytes ≡ s.bytes
  segment_size = extent_size 0 b.segment.items ∙ sym placed.segment_run.size

  list_page : is_extent l ≡ true
  list_page = fits_page live b.list.items l placed.list_run

  segment_page : is_extent s ≡ true
  segment_page = fits_page (l ∷ live) b.segment.items s placed.segment_run

  applies_by : (format : ℕ) (e : raw.Event) (n : Numbers Extent Extent) → BringsRuns e b.list.items → with_extents (extent_at 0 b.list.items) (extent_at 0 b.segment.items) e ≡ e → first_off format e n ≡ None → first_off format (with_extents l s e) n ≡ first_off format e n
  applies_by format (says.Init name columns rows list segment) n brings same h =
      let one : extent_at 0 b.list.items ≡ list = cc in
      let two : extent_at 0 b.segment.items ≡ segment = cc in
      let sound = applies_sound format (says.Init name columns rows list segment) n h in
      let list_is = list_fits rows list l (sym (ap (λ (x : Extent). x.bytes) one) ∙ list_size) list_page sound.0 in
      let segment_is = segment_fits rows segment s (sym (ap (λ (x : Extent). x.bytes) two) ∙ segment_size) segment_page sound.1 in
      let test = both_true (is_list rows l) (is_segment rows s) (is_list rows list) (is_segment rows segment) list_is segment_is sound.0 sound.1 in
      rw test refl
  applies_by format (says.Commit cvd vid message edges rows fresh place added list segment) n brings same h =
      let one : extent_at 0 b.list.items ≡ list = cc in
      let two : extent_at 0 b.segment.items ≡ segment = cc in
      let sound = applies_sound format (says.Commit cvd vid message edges rows fresh place added list segment) n h in
      let list_is = list_fits rows list l (sym (ap (λ (x : Extent). x.bytes) one) ∙ list_size) list_page sound.0 in
      let segment_is = segment_fits added segment s (sym (ap (λ (x : Extent). x.bytes) two) ∙ segment_size) segment_page sound.1 in
      let test = both_true (is_list rows l) (is_segment added s) (is_list rows list) (is_segment added segment) list_is segment_is sound.0 sound.1 in
      by (set_numbered cvd n) test
    where
      by : (found : Option (SetNumbers Extent Extent)) → (is_list rows l && is_segment added s) ≡ (is_list rows list && is_segment added segment)
          → of_live (commit_off vid message edges rows fresh (place_in place) added l s) found ≡ of_live (commit_off vid message edges rows fresh (place_in place) added list segment) found
      by None test = refl
      by (Some d) test = rw test refl
  applies_by format (says.Plan cvd p q targets) n brings same h = absurd brings
  applies_by format (says.Copy cvd count segment) n brings same h =
      let two : extent_at 0 b.segment.items ≡ segment = cc in
      let sound = applies_sound format (says.Copy cvd count segment) n h in
      let some : not (s.bytes == 0) ≡ true = subst (λ (bytes : ℕ). not (bytes == 0) ≡ true) (sym (ap (λ (x : Extent). x.bytes) two) ∙ segment_size) sound.0 in
      let test = both_true (not (s.bytes == 0)) (is_extent s) (not (segment.bytes == 0)) (is_extent segment) some segment_page sound.0 sound.1 in
      by (set_numbered cvd n) test
    where
      of_plan : (plan : Option (PlanNumbers Extent)) → (not (s.bytes == 0) && is_extent s) ≡ (not (segment.bytes == 0) && is_extent segment)
          → of_running (copy_off count s) plan ≡ of_running (copy_off count segment) plan
      of_plan None test = refl
      of_plan (Some plan) test = rw test refl

      by : (found : Option (SetNumbers Extent Extent)) → (not (s.bytes == 0) && is_extent s) ≡ (not (segment.bytes == 0) && is_extent segment)
          → of_live (λ d. of_running (copy_off count s) d.plan) found ≡ of_live (λ d. of_running (copy_off count segment) d.plan) found
      by None test = refl
      by (Some d) test = of_plan d.plan test
  applies_by format (says.Flip cvd) n brings same h = absurd brings
  applies_by format (says.Drop cvd) n brings same h = absurd brings
  applies_by format (says.Base next) n brings same h = absurd brings
  applies_by format (says.Whole set) n brings same h = absurd brings
  applies_by format (says.Wide cvd vid message columns edges rows fresh place added list segment) n brings same h =
      let one : extent_at 0 b.list.items ≡ list = cc in
      let two : extent_at 0 b.segment.items ≡ segment = cc in
      let sound = applies_sound format (says.Wide cvd vid message columns edges rows fresh place added list segment) n h in
      let list_is = list_fits rows list l (sym (ap (λ (x : Extent). x.bytes) one) ∙ list_size) list_page sound.0 in
      let segment_is = segment_fits added segment s (sym (ap (λ (x : Extent). x.bytes) two) ∙ segment_size) segment_page sound.1 in
      let test = both_true (is_list rows l) (is_segment added s) (is_list rows list) (is_segment added segment) list_is segment_is sound.0 sound.1 in
      ap (option_or (format_off format)) (by (set_numbered cvd n) test)
    where
      by : (found : Option (SetNumbers Extent Extent)) → (is_list rows l && is_segment added s) ≡ (is_list rows list && is_segment added segment)
          → of_live (wide_off vid message columns edges rows fresh (place_in place) added l s) found ≡ of_live (wide_off vid message columns edges rows fresh (place_in place) added list segment) found
      by None test = refl
      by (Some d) test = rw test refl

  pub applies_placed : (format : ℕ) (n : Numbers Extent Extent) → first_off format b.event n ≡ None → first_off format (with_extents l s b.event) n ≡ None
  applies_placed format n h = applies_by format b.event n is.runs is.extents h ∙ h

pub brings_placed : (bytes : List ℕ) (l s : Extent) (e : raw.Event) → BringsRuns e bytes → BringsRuns (with_extents l s e) bytes
brings_placed bytes l s (says.Init name columns rows list segment) brings = tt
brings_placed bytes l s (says.Commit cvd vid message edges rows fresh place added list segment) brings = tt
brings_placed bytes l s (says.Plan cvd p q targets) brings = absurd brings
brings_placed bytes l s (says.Copy cvd count segment) brings = brings
brings_placed bytes l s (says.Flip cvd) brings = absurd brings
brings_placed bytes l s (says.Drop cvd) brings = absurd brings
brings_placed bytes l s (says.Base next) brings = absurd brings
brings_placed bytes l s (says.Whole set) brings = absurd brings
brings_placed bytes l s (says.Wide cvd vid message columns edges rows fresh place added list segment) brings = tt
