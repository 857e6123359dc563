-- The pages of extents as ranges of places, and where the runs of a change lie.
use Rattle.std.proofs.Common.{◌≡◌, inl, inr, ℕ, ◌+◌, ◌*◌, ◌/◌, ◌<◌, ◌≤◌, Bool, true, false, ◌&&◌, ◌==◌, List, [], ◌∷◌, length, take, drop, map, refl, sym, ◌∙◌, ap, arith}
use Rattle.std.specs.Prelude.{Option, None, nat_le, nat_lt, if◌then◌else◌}
use Rattle.std.proofs.lemmas.Bool.{leb-true, ltb-true}
use Rattle.std.proofs.lemmas.Bool.Decides.{nat_tests, Decides-eqb}
use Rattle.ov_host.specs.declared.area.Extent.{Extent}
use Rattle.ov_host.specs.Extent.{pages_of}
use Rattle.ov_host.specs.Disk.{IsWritten}
use Rattle.ov_event.specs.declared.event.Event as raw
use Rattle.ov_event.specs.declared.event.Event.TheVariants as says
use Rattle.ov_layout.specs.Changes.{extents_of}
use Rattle.ov_publish.specs.Pages.{whole_pages, range_of, with_run, AreOff, AreThere, SameOn}
use Rattle.ov_publish.proofs.Overwriting.{run_is_read, run_there, run_longer, first_read, both_same}
use Rattle.ov_catalog.specs.Extents.{brought, covers, has_page}
use Rattle.ov_catalog.specs.Events.{Init, Commit, Copy, Wide}
use Rattle.ov_catalog.specs.Raw.{event_in, place_in, shape_in}
use Rattle.ov_catalog.specs.Stands.{seen_event}
use Rattle.law_image.specs.Lists.{list_in}
use Rattle.law_image.specs.Pages.{SameLive, pages_in, extent_bytes, read_whole, readings_of}
use Rattle.law_image.specs.Segments.{segment_in}
use Rattle.law_image.proofs.Standing.{same_pages}
use Rattle.ov_core.specs.Brought.{content, segments_in, with_extents, BringsRuns}
use Rattle.ov_core.specs.Rooms.{ArePlaced, IsRun}
use Rattle.ov_core.proofs.Reserving.{AreSame, nowhere}

abbrev pub ranges_for : List Extent → List (ℕ × ℕ)
ranges_for [] = []
ranges_for (e ∷ es) = (e.page * 4096, e.page * 4096 + whole_pages e.bytes) ∷ ranges_for es

has_between : (e : Extent) (page : ℕ) → e.page ≤ page → page < e.page + pages_of e → has_page e page ≡ true
has_between e page low high = grind (arith, nat_tests)

pub has_low : (e : Extent) (page : ℕ) → has_page e page ≡ true → e.page ≤ page
has_low e page has = by (nat_le e.page page) (nat_lt page (e.page + pages_of e)) has (leb-true e.page page)
  where
    by : (a b : Bool) → (a && b) ≡ true → (a ≡ true → e.page ≤ page) → e.page ≤ page
    by true b h low = low refl
    by false b h low = absurd cc

pub has_high : (e : Extent) (page : ℕ) → has_page e page ≡ true → page < e.page + pages_of e
has_high e page has = by (nat_le e.page page) (nat_lt page (e.page + pages_of e)) has (ltb-true page (e.page + pages_of e))
  where
    by : (a b : Bool) → (a && b) ≡ true → (b ≡ true → page < e.page + pages_of e) → page < e.page + pages_of e
    by true true h high = high refl
    by true false h high = absurd cc
    by false b h high = absurd cc

covered_first : (e : Extent) (es : List Extent) (page : ℕ) → has_page e page ≡ true → 1 ≤ covers (e ∷ es) page
covered_first e es page has = by (has_page e page) has
  where
    by : (b : Bool) → b ≡ true → 1 ≤ (if b then 1 else 0) + covers es page
    by true h = omega arith
    by false h = absurd cc

covered_later : (e : Extent) (es : List Extent) (page : ℕ) → covers es page ≤ covers (e ∷ es) page
covered_later e es page = omega arith

-- a page of the ranges is covered
pub in_ranges : (es : List Extent) (p : ℕ) → IsWritten (ranges_for es) p → 1 ≤ covers es (p / 4096)
in_ranges [] p is = absurd is
in_ranges (e ∷ es) p (inl at) =
    let low : e.page ≤ p / 4096 = omega (arith, at.0)
    in let high : p / 4096 < e.page + pages_of e = omega (arith, at.0, at.1)
    in covered_first e es (p / 4096) (has_between e (p / 4096) low high)
in_ranges (e ∷ es) p (inr later) = omega (arith, in_ranges es p later, covered_later e es (p / 4096))

-- each place of a covered page is in the ranges
pub to_ranges : (es : List Extent) (page p : ℕ) → page * 4096 ≤ p → p < page * 4096 + 4096 → 1 ≤ covers es page → IsWritten (ranges_for es) p
to_ranges [] page p low high is = absurd (omega (arith, is))
to_ranges (e ∷ es) page p low high is = by (has_page e page) refl (to_ranges es page p low high) is
  where
    by : (b : Bool) → has_page e page ≡ b → (1 ≤ covers es page → IsWritten (ranges_for es) p) → 1 ≤ (if b then 1 else 0) + covers es page → IsWritten (ranges_for (e ∷ es)) p
    by true has rest h = inl (omega (arith, low, has_low e page has), omega (arith, high, has_high e page has))
    by false has rest h = inr (rest (omega (arith, h)))

-- ---- the live pages

module _ (es : List Extent) (old new : List ℕ) where
  pub are_there : ((page : ℕ) → 1 ≤ covers es page → page < pages_in old) → AreThere (ranges_for es) old
  are_there inside p is = let page : p / 4096 < length old / 4096 = inside (p / 4096) (in_ranges es p is) in omega (arith, page)

  pub same_live : SameOn (ranges_for es) old new → SameLive es old new
  same_live same = same_pages es old new
      (λ page is.
      let last : page * 4096 + 4095 < length new = same.there (page * 4096 + 4095) (to_ranges es page (page * 4096 + 4095) (omega arith) (omega arith) is)
      in omega (arith, last))
      (λ p is. same.same p (to_ranges es (p / 4096) p (omega arith) (omega arith) is))

-- ---- the runs

not_zero : (n : ℕ) → 0 < n → (n == 0) ≡ false
not_zero n some = grind (arith, nat_tests)

module _ (live : List Extent) (bytes : List ℕ) (e : Extent) (run : IsRun live bytes e) where
  -- a page of the run is one of its extent
  run_page : (p : ℕ) → IsWritten (range_of e.page bytes ∷ []) p → has_page e (p / 4096) ≡ true
  run_page p (inl at) =
      let low : e.page ≤ p / 4096 = omega (arith, at.0)
      in let size : e.bytes ≡ length bytes = run.size
      in let high : p / 4096 < e.page + pages_of e = omega (arith, at.0, at.1, size)
      in has_between e (p / 4096) low high
  run_page p (inr none) = absurd none

  -- no live extent has it
  pub run_off : (page : ℕ) → has_page e page ≡ true → covers live page ≡ 0
  run_off page has =
      let low : e.page ≤ page = has_low e page has
      in let high : page < e.page + pages_of e = has_high e page has
      in let size : e.bytes ≡ length bytes = run.size
      in let some : 0 < length bytes = omega (arith, low, high, size)
      in (run.lowest some).run.off page low (omega (arith, high, size))

  pub range_off : AreOff (range_of e.page bytes ∷ []) (ranges_for live)
  range_off p here there =
      let one : 1 ≤ covers live (p / 4096) = in_ranges live p there
      in let none : covers live (p / 4096) ≡ 0 = run_off (p / 4096) (run_page p here)
      in omega (arith, one, none)

  -- the extent covers the pages of its run
  pub run_covers : (p : ℕ) → IsWritten (range_of e.page bytes ∷ []) p → 1 ≤ covers (e ∷ live) (p / 4096)
  run_covers p here = covered_first e live (p / 4096) (run_page p here)

module _ (live : List Extent) (list segment : List ℕ) (l s : Extent) (placed : ArePlaced live list segment l s) where
  pub both_off : AreOff (range_of l.page list ∷ range_of s.page segment ∷ []) (ranges_for live)
  both_off p (inl here) there = range_off live list l placed.list_run p (inl here) there
  both_off p (inr here) there = range_off (l ∷ live) segment s placed.segment_run p here (inr there)

  -- the segment's run is off the list's
  segment_off : AreOff (range_of s.page segment ∷ []) (range_of l.page list ∷ [])
  segment_off p here there =
      let one : 1 ≤ covers (l ∷ live) (p / 4096) = run_covers live list l placed.list_run p there
      in let none : covers (l ∷ live) (p / 4096) ≡ 0 = run_off (l ∷ live) segment s placed.segment_run (p / 4096) (run_page (l ∷ live) segment s placed.segment_run p here)
      in omega (arith, one, none)

  abbrev pub written : List ℕ → List ℕ
  written old = with_run s.page segment (with_run l.page list old)

  pub live_same : (old : List ℕ) → AreThere (ranges_for live) old → SameOn (ranges_for live) old (written old)
  live_same old there = both_same l.page s.page list segment old (ranges_for live) there both_off

  longer : (old : List ℕ) → length old ≤ length (written old)
  longer old = omega (arith, run_longer l.page list old, run_longer s.page segment (with_run l.page list old))

  list_read : (old : List ℕ) → extent_bytes (written old) l ≡ list
  list_read old =
      ap (λ (n : ℕ). take n (drop (4096 * l.page) (written old))) placed.list_run.size
      ∙ ap (λ (at : ℕ). take (length list) (drop at (written old))) (omega arith)
      ∙ first_read l.page s.page list segment old segment_off

  segment_read : (old : List ℕ) → extent_bytes (written old) s ≡ segment
  segment_read old =
      ap (λ (n : ℕ). take n (drop (4096 * s.page) (written old))) placed.segment_run.size
      ∙ ap (λ (at : ℕ). take (length segment) (drop at (written old))) (omega arith)
      ∙ run_is_read s.page segment (with_run l.page list old)

  whole_read : {X : Type 0} (read : List ℕ → Option X) (pages bytes : List ℕ) (e : Extent) → extent_bytes pages e ≡ bytes → e.bytes ≡ length bytes → read_whole read pages e ≡ read bytes
  whole_read read pages bytes e same size =
      let whole : (length (extent_bytes pages e) == e.bytes) ≡ true = (Decides-eqb (length (extent_bytes pages e)) e.bytes).1 (ap length same ∙ sym size)
      in ap (λ (b : Bool). if b then read (extent_bytes pages e) else None) whole ∙ ap read same

  pub list_seen : (old : List ℕ) → (readings_of (written old)).list l ≡ list_in list
  list_seen old = whole_read list_in (written old) list l (list_read old) placed.list_run.size

  pub segments_seen : (old : List ℕ) → map (readings_of (written old)).segment (extents_of s) ≡ segments_in segment
  segments_seen old = by segment refl
    where
      by : (bytes : List ℕ) → segment ≡ bytes → map (readings_of (written old)).segment (extents_of s) ≡ segments_in bytes
      by [] is =
          let none : s.bytes ≡ 0 = placed.segment_run.size ∙ ap length is
          in let test : (s.bytes == 0) ≡ true = (Decides-eqb s.bytes 0).1 none
          in ap (λ (b : Bool). map (readings_of (written old)).segment (if b then [] else s ∷ [])) test
      by (byte ∷ bytes) is =
          let some : s.bytes ≡ length (byte ∷ bytes) = placed.segment_run.size ∙ ap length is
          in let test : (s.bytes == 0) ≡ false = not_zero s.bytes (omega (arith, some))
          in ap (λ (b : Bool). map (readings_of (written old)).segment (if b then [] else s ∷ [])) test
          ∙ ap (λ r. r ∷ []) (whole_read segment_in (written old) segment s (segment_read old) placed.segment_run.size ∙ ap segment_in is)

  pub spells : (old : List ℕ) (e : raw.Event) → BringsRuns e list → seen_event (readings_of (written old)) (with_extents l s e) ≡ content (event_in e) list segment
  spells old (says.Init name columns rows a b) brings =
      λ i. Init name (shape_in columns) rows (list_seen old i) (segments_seen old i)
  spells old (says.Commit cvd vid message edges rows fresh place added a b) brings =
      λ i. Commit cvd vid message edges rows fresh (place_in place) added (list_seen old i) (segments_seen old i)
  spells old (says.Plan cvd p q targets) brings = absurd brings
  spells old (says.Copy cvd count a) brings = λ i. Copy cvd count (segments_seen old i)
  spells old (says.Flip cvd) brings = absurd brings
  spells old (says.Drop cvd) brings = absurd brings
  spells old (says.Base next) brings = absurd brings
  spells old (says.Whole set) brings = absurd brings
  spells old (says.Wide cvd vid message columns edges rows fresh place added a b) brings =
      λ i. Wide cvd vid message columns edges rows fresh (place_in place) added (list_seen old i) (segments_seen old i)

  -- ---- its extents in the event

  segment_covers : (page : ℕ) → covers (extents_of s) page ≤ (if has_page s page then 1 else 0)
  segment_covers page = by (s.bytes == 0)
    where
      by : (b : Bool) → covers (if b then [] else s ∷ []) page ≤ (if has_page s page then 1 else 0)
      by true = omega arith
      by false = omega arith

  pub runs_apart : (page : ℕ) → covers live page ≤ 1 → covers (l ∷ extents_of s) page + covers live page ≤ 1
  runs_apart page once = by (has_page l page) (has_page s page) refl refl (segment_covers page)
    where
      by : (a b : Bool) → has_page l page ≡ a → has_page s page ≡ b → covers (extents_of s) page ≤ (if b then 1 else 0)
          → (if a then 1 else 0) + covers (extents_of s) page + covers live page ≤ 1
      by true true in_list in_segment few =
          let none : covers (l ∷ live) page ≡ 0 = run_off (l ∷ live) segment s placed.segment_run page in_segment
          in let one : 1 ≤ covers (l ∷ live) page = covered_first l live page in_list
          in absurd (omega (arith, none, one))
      by true false in_list in_segment few = let none : covers live page ≡ 0 = run_off live list l placed.list_run page in_list in omega (arith, none, few)
      by false true in_list in_segment few =
          let none : covers (l ∷ live) page ≡ 0 = run_off (l ∷ live) segment s placed.segment_run page in_segment
          in omega (arith, none, few, covered_later l live page)
      by false false in_list in_segment few = omega (arith, once, few)

  pub list_inside : (old : List ℕ) (page : ℕ) → has_page l page ≡ true → page < pages_in (written old)
  list_inside old page has =
      let low : l.page ≤ page = has_low l page has
      in let high : page < l.page + pages_of l = has_high l page has
      in let size : l.bytes ≡ length list = placed.list_run.size
      in let some : 0 < length list = omega (arith, low, high, size)
      in omega (arith, high, size, run_there l.page list old some, run_longer s.page segment (with_run l.page list old))

  pub segment_inside : (old : List ℕ) (page : ℕ) → has_page s page ≡ true → page < pages_in (written old)
  segment_inside old page has =
      let low : s.page ≤ page = has_low s page has
      in let high : page < s.page + pages_of s = has_high s page has
      in let size : s.bytes ≡ length segment = placed.segment_run.size
      in let some : 0 < length segment = omega (arith, low, high, size)
      in omega (arith, high, size, run_there s.page segment (with_run l.page list old) some)

  pub runs_inside : (old : List ℕ) (page : ℕ) → 1 ≤ covers (l ∷ extents_of s) page → page < pages_in (written old)
  runs_inside old page some = by (has_page l page) (has_page s page) refl refl (segment_covers page) some
    where
      by : (a b : Bool) → has_page l page ≡ a → has_page s page ≡ b → covers (extents_of s) page ≤ (if b then 1 else 0)
          → 1 ≤ (if a then 1 else 0) + covers (extents_of s) page → page < pages_in (written old)
      by true b in_list in_segment few h = list_inside old page in_list
      by false true in_list in_segment few h = segment_inside old page in_segment
      by false false in_list in_segment few h = absurd (omega (arith, few, h))

  pub live_inside : (old : List ℕ) (page : ℕ) → page < pages_in old → page < pages_in (written old)
  live_inside old page there = omega (arith, there, longer old)

-- what it brings are both extents; one of no bytes counts for nothing
pub brought_placed : (live : List Extent) (bytes : List ℕ) (l s : Extent) (e : raw.Event) → BringsRuns e bytes → IsRun live bytes l
    → AreSame (brought (event_in (with_extents l s e))) (l ∷ extents_of s)
brought_placed live bytes l s (says.Init name columns rows a b) brings run w none = refl
brought_placed live bytes l s (says.Commit cvd vid message edges rows fresh place added a b) brings run w none = refl
brought_placed live bytes l s (says.Plan cvd p q targets) brings run w none = absurd brings
brought_placed live bytes l s (says.Copy cvd count segment) brings run w none =
    let page : l.page ≡ 0 = run.empty brings
    in let size : l.bytes ≡ 0 = run.size ∙ ap length brings
    in let is : l ≡ nowhere = λ i. record { page = page i; bytes = size i }
    in omega (arith, ap w is, none)
brought_placed live bytes l s (says.Flip cvd) brings run w none = absurd brings
brought_placed live bytes l s (says.Drop cvd) brings run w none = absurd brings
brought_placed live bytes l s (says.Base next) brings run w none = absurd brings
brought_placed live bytes l s (says.Whole set) brings run w none = absurd brings
brought_placed live bytes l s (says.Wide cvd vid message columns edges rows fresh place added a b) brings run w none = refl
