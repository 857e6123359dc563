-- What a store keeps after a change: the pages of its live extents, and numbers of events each of which applied.
use Rattle.std.proofs.Common.{◌≡◌, ℕ, ◌+◌, ◌<◌, ◌≤◌, Bool, true, false, ◌==◌, List, [], ◌∷◌, ◌++◌, length, None, refl, sym, ◌∙◌, ap, subst, arith}
use Rattle.std.specs.Prelude.{Result, IfErr, if◌then◌else◌}
use Rattle.std.proofs.lemmas.Bool.Decides.{Decides-eqb}
use Rattle.std.proofs.lemmas.Result.{IfErr-weaker}
use Rattle.ov_host.specs.declared.area.Extent.{Extent}
use Rattle.ov_host.specs.Host.{State}
use Rattle.ov_event.specs.declared.event.Event as raw
use Rattle.ov_event.specs.declared.event.Event.TheVariants as says
use Rattle.ov_event.specs.Fitting.{Fits}
use Rattle.ov_event.specs.Spelling.{IsEvent}
use Rattle.ov_event.proofs.Events.{fits_of}
use Rattle.ov_layout.specs.Changes.{extents_of}
use Rattle.ov_pages.specs.Sets.{Reserved}
use Rattle.ov_pages.specs.Live.{AreReserved}
use Rattle.ov_catalog.specs.Applying.{Beyond, first_off, start_of}
use Rattle.ov_catalog.specs.Events.{applied}
use Rattle.ov_catalog.specs.Extents.{brought, covers, given_up, has_page, live}
use Rattle.ov_catalog.specs.Numbers.{Numbers, nothing_yet}
use Rattle.ov_catalog.specs.Raw.{event_in}
use Rattle.ov_catalog.specs.Sources.{IsApart}
use Rattle.law_image.specs.Pages.{pages_in}
use Rattle.ov_catalog.proofs.FlipCounts.{total}
use Rattle.ov_catalog.proofs.Following.{follow_in_two, next_in_two}
use Rattle.ov_catalog.proofs.Serving.{all_follow, all_served, numbers_more, AllServed}
use Rattle.ov_catalog.proofs.Weighing.{live_total}
use Rattle.ov_core.specs.declared.brought.Brought.{Brought}
use Rattle.ov_core.specs.declared.errors.ChangeErr.{ChangeErr}
use Rattle.ov_core.specs.declared.errors.ChangeErr.TheVariants as errors
use Rattle.ov_core.specs.Brought.{extent_at, with_extents, BringsRuns, IsUnplaced}
use Rattle.ov_core.specs.Held.{Held, IsReplayed}
use Rattle.ov_core.specs.Rooms.{ArePlaced, IsWhy, IsWhyNoRuns, IsWhyNotWritten, PassesEnd}
use Rattle.ov_core.proofs.Extents.{applies_placed, event_placed, list_small, passes_placed, passes_same, run_extent, segment_small}
use Rattle.ov_core.proofs.Ranges.{brought_placed, list_inside, live_inside, segment_inside, written}
use Rattle.ov_core.proofs.Reserving.{AreSame, extent_none, nowhere, reserved_same, same_covers}

pub placed_by : (live : List Extent) (list segment : List ℕ) (b : Brought) (l s : Extent) → list ≡ b.list.items → segment ≡ b.segment.items
    → ArePlaced live list segment l s → ArePlaced live b.list.items b.segment.items l s
placed_by live list segment b l s one two placed =
    subst (λ (xs : List ℕ). ArePlaced live b.list.items xs l s) two (subst (λ (xs : List ℕ). ArePlaced live xs segment l s) one placed)

-- ---- numbers

pub served : (n : Numbers Extent Extent) → IsReplayed n → AllServed n.sets
served n is = subst (λ (x : Numbers Extent Extent). AllServed x.sets) (sym is.are) (all_served is.format is.events is.follow)

pub replayed_more : (format : ℕ) (n : Numbers Extent Extent) (e : raw.Event) → IsReplayed n → first_off format e n ≡ None → IsReplayed (applied (event_in e) n)
replayed_more format n e is h = record {
  format = 2;
  events = is.events ++ e ∷ [];
  follow = all_follow 2 is.events e (follow_in_two (start_of is.format) is.events nothing_yet is.follow)
      (subst (λ (x : Numbers Extent Extent). first_off 2 e x ≡ None) is.are (next_in_two (record { format = format; reach = Beyond }) e n h));
  are = ap (applied (event_in e)) is.are ∙ sym (numbers_more is.events e);
}

none_given_up : (bytes : List ℕ) (l s : Extent) (e : raw.Event) (n : Numbers Extent Extent) → BringsRuns e bytes → given_up (event_in (with_extents l s e)) n ≡ []
none_given_up bytes l s (says.Init name columns rows a b) n brings = refl
none_given_up bytes l s (says.Commit cvd vid message edges rows fresh place added a b) n brings = refl
none_given_up bytes l s (says.Plan cvd p q targets) n brings = absurd brings
none_given_up bytes l s (says.Copy cvd count segment) n brings = refl
none_given_up bytes l s (says.Flip cvd) n brings = absurd brings
none_given_up bytes l s (says.Drop cvd) n brings = absurd brings
none_given_up bytes l s (says.Base next) n brings = absurd brings
none_given_up bytes l s (says.Whole set) n brings = absurd brings
none_given_up bytes l s (says.Wide cvd vid message columns edges rows fresh place added a b) n brings = refl

-- no such event is a flip
pub apart_placed : (bytes : List ℕ) (l s : Extent) (e : raw.Event) (n : Numbers Extent Extent) → BringsRuns e bytes → IsApart (with_extents l s e) n
apart_placed bytes l s (says.Init name columns rows a b) n brings = tt
apart_placed bytes l s (says.Commit cvd vid message edges rows fresh place added a b) n brings = tt
apart_placed bytes l s (says.Plan cvd p q targets) n brings = absurd brings
apart_placed bytes l s (says.Copy cvd count segment) n brings = tt
apart_placed bytes l s (says.Flip cvd) n brings = absurd brings
apart_placed bytes l s (says.Drop cvd) n brings = absurd brings
apart_placed bytes l s (says.Base next) n brings = absurd brings
apart_placed bytes l s (says.Whole set) n brings = absurd brings
apart_placed bytes l s (says.Wide cvd vid message columns edges rows fresh place added a b) n brings = tt

-- an extent of no bytes counts for nothing
empty_total : (w : Extent → ℕ) (segment : List ℕ) (s : Extent) → w nowhere ≡ 0 → s ≡ extent_at s.page segment → s.bytes ≡ length segment → total w (extents_of s) ≡ w s
empty_total w segment s none is size = by (s.bytes == 0) refl
  where
    by : (b : Bool) → (s.bytes == 0) ≡ b → total w (if b then [] else s ∷ []) ≡ w s
    by true h =
        let no_bytes : length segment ≡ 0 = sym size ∙ (Decides-eqb s.bytes 0).0 h
        in let e : nowhere ≡ s = extent_none s.page segment no_bytes ∙ sym is
        in sym none ∙ ap w e
    by false h = omega arith

-- a page of the runs or of a live extent is there then
inside_by : (live : List Extent) (list segment : List ℕ) (l s : Extent) (placed : ArePlaced live list segment l s) (old : List ℕ) (page : ℕ)
    → ((p : ℕ) → 1 ≤ covers live p → p < pages_in old) → 1 ≤ covers (s ∷ l ∷ live) page → page < pages_in (written live list segment l s placed old)
inside_by live list segment l s placed old page there some = by (has_page l page) (has_page s page) refl refl some
  where
    by : (a b : Bool) → has_page l page ≡ a → has_page s page ≡ b → 1 ≤ (if b then 1 else 0) + ((if a then 1 else 0) + covers live page)
        → page < pages_in (written live list segment l s placed old)
    by true b in_list in_segment h = list_inside live list segment l s placed old page in_list
    by false true in_list in_segment h = segment_inside live list segment l s placed old page in_segment
    by false false in_list in_segment h = live_inside live list segment l s placed old page (there page (omega (arith, h)))

module _ (n : Numbers Extent Extent) (replayed : IsReplayed n) (b : Brought) (unplaced : IsUnplaced b) (format : ℕ) (applies : first_off format b.event n ≡ None)
    (l s : Extent) (placed : ArePlaced (live n) b.list.items b.segment.items l s) (segment_is : s ≡ extent_at s.page b.segment.items) where
  abbrev e : raw.Event
  e = with_extents l s b.event

  pub applies_now : first_off format e n ≡ None
  applies_now = applies_placed (live n) b l s unplaced placed format n applies

  -- the new extents and the live ones are those that are live then
  pub live_same : AreSame (s ∷ l ∷ live n) (live (applied (event_in e) n))
  live_same w none =
      let all = live_total w format e n applies_now (apart_placed b.list.items l s b.event n unplaced.runs) (served n replayed)
      in let given : total w (given_up (event_in e) n) ≡ 0 = ap (total w) (none_given_up b.list.items l s b.event n unplaced.runs)
      in let come : total w (brought (event_in e)) ≡ w l + total w (extents_of s) = brought_placed (live n) b.list.items l s b.event unplaced.runs placed.list_run w none
      in let last : total w (extents_of s) ≡ w s = empty_total w b.segment.items s none segment_is placed.segment_run.size
      in omega (arith, all, given, come, last)

  pub kept_add : (y : raw.Event) (after : Numbers Extent Extent) (r : Reserved) → y ≡ e → after ≡ applied (event_in y) n → AreReserved (s ∷ l ∷ live n) r
      → AreReserved (live after) r × IsReplayed after
  kept_add y after r same is h =
      let all : after ≡ applied (event_in e) n = is ∙ ap (λ (v : raw.Event). applied (event_in v) n) same
      in subst (λ (x : Numbers Extent Extent). AreReserved (live x) r × IsReplayed x) (sym all)
      (reserved_same (s ∷ l ∷ live n) (live (applied (event_in e) n)) r live_same h, replayed_more format n e replayed applies_now)

  -- the pages of what is live then are there
  pub pages_there : (y : raw.Event) (after : Numbers Extent Extent) (old new : List ℕ) → y ≡ e → after ≡ applied (event_in y) n
      → new ≡ written (live n) b.list.items b.segment.items l s placed old
      → ((page : ℕ) → 1 ≤ covers (live n) page → page < pages_in old) → (page : ℕ) → 1 ≤ covers (live after) page → page < pages_in new
  pages_there y after old new same is wrote there page some =
      let all : after ≡ applied (event_in e) n = is ∙ ap (λ (v : raw.Event). applied (event_in v) n) same
      in let now : covers (live after) page ≡ covers (s ∷ l ∷ live n) page = ap (λ (x : Numbers Extent Extent). covers (live x) page) all ∙ sym (same_covers (s ∷ l ∷ live n) (live (applied (event_in e) n)) live_same page)
      in subst (λ (ps : List ℕ). page < pages_in ps) (sym wrote)
      (inside_by (live n) b.list.items b.segment.items l s placed old page there (omega (arith, some, now)))

-- ---- the event

-- it has a spelling where its runs are placed
pub event_spelled : (b : Brought) (live : List Extent) (l s : Extent) → IsUnplaced b → IsEvent b.event → ArePlaced live b.list.items b.segment.items l s → (y : raw.Event) → y ≡ with_extents l s b.event → IsEvent y
event_spelled b live l s unplaced event placed y same =
    subst IsEvent (sym same) (event_placed l s b.event event
    (run_extent live b.list.items l placed.list_run (list_small b unplaced event))
    (run_extent (l ∷ live) b.segment.items s placed.segment_run (segment_small b unplaced event)))

pub event_fits : (b : Brought) (live : List Extent) (l s : Extent) → IsUnplaced b → IsEvent b.event → ArePlaced live b.list.items b.segment.items l s → (y : raw.Event) → y ≡ with_extents l s b.event → Fits y
event_fits b live l s unplaced event placed y same = fits_of y (event_spelled b live l s unplaced event placed y same)

-- ---- why not

no_runs : (held : Held) (b : Brought) (old new : State) (why : ChangeErr) → IsWhyNoRuns (live held.numbers) b.list.items b.segment.items why → IsWhy why held b old new
no_runs held b old new errors.Host h = absurd h
no_runs held b old new errors.Memory h = h
no_runs held b old new (errors.Full pages) h = h
no_runs held b old new errors.JournalFull h = absurd h

pub no_runs_why : {T : Type 0} (r : Result T ChangeErr) (held : Held) (b : Brought) (old new : State) (list segment : List ℕ) → list ≡ b.list.items → segment ≡ b.segment.items
    → IfErr r (IsWhyNoRuns (live held.numbers) list segment) → IfErr r (λ why. IsWhy why held b old new)
no_runs_why r held b old new list segment one two h =
    let P : List ℕ → List ℕ → Type 0 = λ xs ys. IfErr r (IsWhyNoRuns (live held.numbers) xs ys)
    in let there : P b.list.items b.segment.items = subst (λ (ys : List ℕ). P b.list.items ys) two (subst (λ (xs : List ℕ). P xs segment) one h)
    in IfErr-weaker r (IsWhyNoRuns (live held.numbers) b.list.items b.segment.items) (λ why. IsWhy why held b old new) (no_runs held b old new) there

pub not_written_why : (held : Held) (b : Brought) (l s : Extent) → ArePlaced (live held.numbers) b.list.items b.segment.items l s → (y : raw.Event) (old new : State) (why : ChangeErr) → y ≡ with_extents l s b.event → IsWhyNotWritten held.journal y old new why → IsWhy why held b old new
not_written_why held b l s placed y old new errors.Host same h = h
not_written_why held b l s placed y old new errors.Memory same h = h
not_written_why held b l s placed y old new (errors.Full pages) same h = absurd h
not_written_why held b l s placed y old new errors.JournalFull same h =
    ((l, s, placed), passes_same held.journal l s b.event (subst (λ (v : raw.Event). PassesEnd held.journal v) same h))

pub had_room : (held : Held) (b : Brought) (l s : Extent) (y : raw.Event) → y ≡ with_extents l s b.event → (PassesEnd held.journal y → ⊥) → PassesEnd held.journal b.event → ⊥
had_room held b l s y same fits passes =
    fits (subst (λ (v : raw.Event). PassesEnd held.journal v) (sym same) (passes_placed held.journal l s b.event passes))
