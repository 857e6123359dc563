-- What stood at the entry of a run and what its moves wrote bound what a store has now. A run of pages is free there, or would
-- pass the last page; so it is for the journal's end.
use Rattle.std.proofs.Common.{◌≡◌, ◌⊎◌, inl, inr, ◌≤◌, ◌<◌, ℕ, zero, suc, ◌+◌, ◌^◌, Bool, true, false, ◌==◌, List, [], ◌∷◌, ◌++◌, length, refl, ap, arith}
use Rattle.std.specs.Prelude.{Option, Some, if◌then◌else◌}
use Rattle.std.proofs.lemmas.Bool.{cases_lt}
use Rattle.ov_host.specs.declared.area.Extent.{Extent}
use Rattle.ov_host.specs.Extent.{pages_of}
use Rattle.ov_event.specs.declared.event.Event as raw
use Rattle.ov_event.specs.declared.event.Event.TheVariants as says
use Rattle.ov_event.specs.Spelling.{spelling}
use Rattle.ov_layout.specs.Changes.{extents_of}
use Rattle.ov_model.specs.Moves as moves
use Rattle.ov_model.specs.Moves.{Move, Drop as DropMove}
use Rattle.ov_model.specs.World.{World}
use Rattle.ov_catalog.specs.Events.{Event, applied}
use Rattle.ov_catalog.specs.Extents.{brought, covers, has_page, live}
use Rattle.ov_catalog.specs.Numbers.{Numbers}
use Rattle.ov_catalog.specs.Raw.{event_in}
use Rattle.ov_catalog.specs.Shown.{Rids, Records}
use Rattle.ov_catalog.specs.Sources.{IsApart}
use Rattle.ov_catalog.specs.Stands.{asked_event}
use Rattle.ov_catalog.proofs.Covering.{live_applied}
use Rattle.ov_core.specs.declared.brought.Brought.{Brought}
use Rattle.ov_core.specs.Brought.{Asks, Brings, BringsRuns, IsBare, IsUnplaced, content, with_extents}
use Rattle.ov_core.specs.Held.{Held}
use Rattle.ov_core.specs.Rooms.{HasNone, IsDropped, IsFree, IsFull, IsMade, IsRecorded, IsRun, PassesJournal, pages_for}
use Rattle.ov_core.proofs.Keeping.{apart_placed}
use Rattle.ov_core.proofs.Ranges.{brought_placed, has_high, has_low}
use Rattle.ov_core.proofs.Reserving.{nowhere, same_covers}
use Rattle.law_room.proofs.Known.{written_once}
use Rattle.law_room.specs.Room.{Entry, HasRuns, IsWithin, LacksRecord, LacksRun, Made, Take, Takes, Writes, checkpoints, is_checkpoint}

-- ---- what a move writes

pub runs_of : (e : raw.Event) (list segment : List ℕ) → BringsRuns e list → HasRuns e list segment
runs_of (says.Init name schema rows l s) list segment brings = tt
runs_of (says.Commit cvd vid message parents rows fresh place added l s) list segment brings = tt
runs_of (says.Plan cvd p q targets) list segment brings = absurd brings
runs_of (says.Copy cvd count s) list segment brings = brings
runs_of (says.Flip cvd) list segment brings = absurd brings
runs_of (says.Drop cvd) list segment brings = absurd brings
runs_of (says.Base next) list segment brings = absurd brings
runs_of (says.Whole said) list segment brings = absurd brings
runs_of (says.Wide cvd vid message columns parents rows fresh place added l s) list segment brings = tt

abbrev writes_brought : (m : Move) (w : World) (b : Brought) → IsUnplaced b → Brings m w b → Writes m w
writes_brought m w b unplaced brings =
    record { event = b.event; list = b.list.items; segment = b.segment.items; says = brings.says; sized = unplaced.extents; runs = runs_of b.event b.list.items b.segment.items unplaced.runs }

runs_bare : (e : raw.Event) → IsBare e → HasRuns e [] []
runs_bare (says.Init name schema rows l s) bare = absurd bare
runs_bare (says.Commit cvd vid message parents rows fresh place added l s) bare = absurd bare
runs_bare (says.Plan cvd p q targets) bare = (refl, refl)
runs_bare (says.Copy cvd count s) bare = absurd bare
runs_bare (says.Flip cvd) bare = (refl, refl)
runs_bare (says.Drop cvd) bare = (refl, refl)
runs_bare (says.Base next) bare = absurd bare
runs_bare (says.Whole said) bare = absurd bare
runs_bare (says.Wide cvd vid message columns parents rows fresh place added l s) bare = absurd bare

sized_bare : (e : raw.Event) → IsBare e → with_extents nowhere nowhere e ≡ e
sized_bare (says.Init name schema rows l s) bare = absurd bare
sized_bare (says.Commit cvd vid message parents rows fresh place added l s) bare = absurd bare
sized_bare (says.Plan cvd p q targets) bare = refl
sized_bare (says.Copy cvd count s) bare = absurd bare
sized_bare (says.Flip cvd) bare = refl
sized_bare (says.Drop cvd) bare = refl
sized_bare (says.Base next) bare = absurd bare
sized_bare (says.Whole said) bare = absurd bare
sized_bare (says.Wide cvd vid message columns parents rows fresh place added l s) bare = absurd bare

-- whether it fits or not, a move with such an event writes no run
abbrev IsSaid : Move → World → raw.Event → Type 0
IsSaid m w e = Some (content (event_in e) [] []) ≡ asked_event m w

abbrev writes_bare : (m : Move) (w : World) (e : raw.Event) → IsBare e → IsSaid m w e → Writes m w
writes_bare m w e bare says = record { event = e; list = []; segment = []; says = says; sized = sized_bare e bare; runs = runs_bare e bare }

-- one move more
abbrev takes_event : (m : Move) (w : World) (written : Writes m w) → Takes m w (pages_for written.list + pages_for written.segment) (length (spelling written.event))
takes_event m w written = inl (record { writes = written; pages_are = refl; size_is = refl })

pub take_more : (before : List Made) (pages bytes own size : ℕ) (m : Move) (w : World) → Takes m w own size → Take before pages bytes
    → Take (before ++ record { move = m; world = w } ∷ []) (pages + own) (bytes + (6 + size))
take_more [] pages bytes own size m w takes taken = (own, size, 0, 0, takes, (refl, refl), omega (arith, taken.0), omega (arith, taken.1))
take_more (made ∷ before) pages bytes own size m w takes taken = (
  taken.0,
  taken.1,
  taken.2 + own,
  taken.3 + (6 + size),
  taken.4,
  take_more before taken.2 taken.3 own size m w takes taken.5,
  omega (arith, taken.6),
  omega (arith, taken.7),
)

-- a move that isn't a checkpoint
checkpoints_same : (before : List Made) (m : Move) (w : World) → is_checkpoint m ≡ false → checkpoints (before ++ record { move = m; world = w } ∷ []) ≡ checkpoints before
checkpoints_same [] m w other = ap (λ b. (if b then 1 else 0) + 0) other
checkpoints_same (made ∷ before) m w other = ap (λ n. (if is_checkpoint made.move then 1 else 0) + n) (checkpoints_same before m w other)

-- a move that has an event isn't one
no_checkpoint : (m : Move) (w : World) (x : Event (Option Rids) (Option Records)) → Some x ≡ asked_event m w → is_checkpoint m ≡ false
no_checkpoint (moves.Init name schema rows) w x says = refl
no_checkpoint (moves.Commit cvd parents message added rows) w x says = refl
no_checkpoint (moves.BeginPlan cvd p q) w x says = refl
no_checkpoint (moves.Copy cvd) w x says = refl
no_checkpoint (moves.Flip cvd) w x says = refl
no_checkpoint (moves.Drop cvd) w x says = refl
no_checkpoint moves.Checkpoint w x says = absurd cc

-- ---- runs of pages below a highest one

-- the extents have no page at `top` or above
abbrev AreBelow : List Extent → ℕ → Type 0
AreBelow es top = (page : ℕ) → 1 ≤ covers es page → page < top

none_above : (es : List Extent) (top page : ℕ) → AreBelow es top → top ≤ page → covers es page ≡ 0
none_above es top page below high = by (covers es page) (below page)
  where
    by : (n : ℕ) → (1 ≤ n → page < top) → n ≡ 0
    by zero low = refl
    by (suc n) low = absurd (omega (arith, low (omega arith), high))

free_above : (es : List Extent) (top n : ℕ) → AreBelow es top → top + n ≤ 2 ^ 22 → IsFree es n top
free_above es top n below room = record { below = room; off = λ page low high. none_above es top page below low }

-- a lowest run begins no further on
starts_below : (es : List Extent) (bytes : List ℕ) (e : Extent) (top : ℕ) → IsRun es bytes e → AreBelow es top → 0 < length bytes → e.page ≤ top
starts_below es bytes e top run below some = by (cases_lt top e.page)
  where
    by : (top < e.page) ⊎ (e.page ≤ top) → e.page ≤ top
    by (inl above) =
        let room : e.page + pages_for bytes ≤ 2 ^ 22 = (run.lowest some).run.below
        in absurd ((run.lowest some).lowest top above (free_above es top (pages_for bytes) below (omega (arith, room, above))))
    by (inr low) = low

run_below : (es : List Extent) (bytes : List ℕ) (e : Extent) (top page : ℕ) → IsRun es bytes e → AreBelow es top → has_page e page ≡ true → page < top + pages_for bytes
run_below es bytes e top page run below has =
    let low : e.page ≤ page = has_low e page has
    in let high : page < e.page + pages_of e = has_high e page has
    in let size : e.bytes ≡ length bytes = run.size
    in let some : 0 < length bytes = omega (arith, low, high, size)
    in omega (arith, high, size, starts_below es bytes e top run below some)

-- all extents with one more
more_below : (es : List Extent) (bytes : List ℕ) (e : Extent) (top : ℕ) → IsRun es bytes e → AreBelow es top → AreBelow (e ∷ es) (top + pages_for bytes)
more_below es bytes e top run below page some = by (has_page e page) refl some
  where
    by : (b : Bool) → has_page e page ≡ b → 1 ≤ (if b then 1 else 0) + covers es page → page < top + pages_for bytes
    by true has h = run_below es bytes e top page run below has
    by false has h = omega (arith, below page (omega (arith, h)))

-- where none is free, there were too many pages, or they pass the last page
none_free : (es : List Extent) (n top : ℕ) → AreBelow es top → HasNone es n → (2 ^ 20 ≤ n) ⊎ (2 ^ 22 < top + n)
none_free es n top below (inl many) = inl many
none_free es n top below (inr none) = by (cases_lt (2 ^ 22) (top + n))
  where
    by : (2 ^ 22 < top + n) ⊎ (top + n ≤ 2 ^ 22) → (2 ^ 20 ≤ n) ⊎ (2 ^ 22 < top + n)
    by (inl passes) = inr passes
    by (inr room) = absurd (none top (free_above es top n below room))

lacks_first : (a b run top : ℕ) → run ≡ a → (2 ^ 20 ≤ a) ⊎ (2 ^ 22 < top + a) → (2 ^ 20 ≤ run) ⊎ (2 ^ 22 < top + (a + b))
lacks_first a b run top is (inl many) = inl (omega (arith, many, is))
lacks_first a b run top is (inr passes) = inr (omega (arith, passes))

lacks_second : (a b run top : ℕ) → run ≡ b → (2 ^ 20 ≤ b) ⊎ (2 ^ 22 < top + a + b) → (2 ^ 20 ≤ run) ⊎ (2 ^ 22 < top + (a + b))
lacks_second a b run top is (inl many) = inl (omega (arith, many, is))
lacks_second a b run top is (inr passes) = inr (omega (arith, passes))

-- bytes take a page at least
run_some : (bytes : List ℕ) (pages : ℕ) → 0 < length bytes → pages ≡ pages_for bytes → 0 < pages
run_some bytes pages some are = omega (arith, some, are)

-- ---- refusals

-- where what a move writes finds no run, one may be wanting
pub full_is_lacking : (entry : Entry) (before : List Made) (held : Held) (m : Move) (w : World) (writes : Writes m w) (pages : ℕ)
    → IsWithin entry before held → IsFull (live held.numbers) writes.list writes.segment pages → LacksRun entry before m w pages
full_is_lacking entry before held m w writes pages within (inl lack) = record {
  writes = writes;
  pages = within.pages;
  bytes = within.bytes;
  taken = within.taken;
  some = run_some writes.list pages lack.some lack.pages_are;
  which = inl lack.pages_are;
  lacks = lacks_first (pages_for writes.list) (pages_for writes.segment) pages (entry.pages + within.pages) lack.pages_are
      (none_free (live held.numbers) (pages_for writes.list) (entry.pages + within.pages) within.below lack.none);
}
full_is_lacking entry before held m w writes pages within (inr (l, run, lack)) =
    let below : AreBelow (l ∷ live held.numbers) (entry.pages + within.pages + pages_for writes.list) =
    more_below (live held.numbers) writes.list l (entry.pages + within.pages) run within.below
    in record {
      writes = writes;
      pages = within.pages;
      bytes = within.bytes;
      taken = within.taken;
      some = run_some writes.segment pages lack.some lack.pages_are;
      which = inr lack.pages_are;
      lacks = lacks_second (pages_for writes.list) (pages_for writes.segment) pages (entry.pages + within.pages) lack.pages_are
          (none_free (l ∷ live held.numbers) (pages_for writes.segment) (entry.pages + within.pages + pages_for writes.list) below lack.none);
    }

-- a run that a move is refused may be wanting
pub full_is_licensed : (entry : Entry) (before : List Made) (held : Held) (m : Move) (w : World) (b : Brought) (pages : ℕ)
    → IsWithin entry before held → IsUnplaced b → Brings m w b → IsFull (live held.numbers) b.list.items b.segment.items pages
    → LacksRun entry before m w pages
full_is_licensed entry before held m w b pages within unplaced brings full =
    full_is_lacking entry before held m w (writes_brought m w b unplaced brings) pages within full

-- so may a record
pub passes_is_licensed : (entry : Entry) (before : List Made) (held : Held) (m : Move) (w : World) (b : Brought)
    → IsWithin entry before held → IsUnplaced b → Brings m w b → PassesJournal held b.event → LacksRecord entry before m w
passes_is_licensed entry before held m w b within unplaced brings passes = record {
  own = pages_for b.list.items + pages_for b.segment.items;
  size = length (spelling b.event);
  takes = takes_event m w (writes_brought m w b unplaced brings);
  pages = within.pages;
  bytes = within.bytes;
  taken = within.taken;
  lacks = inl (omega (arith, passes, within.within));
}

lacks_bare : (entry : Entry) (before : List Made) (held : Held) (m : Move) (w : World) (e : raw.Event)
    → IsWithin entry before held → IsBare e → IsSaid m w e → PassesJournal held e → LacksRecord entry before m w
lacks_bare entry before held m w e within bare says passes = record {
  own = 0;
  size = length (spelling e);
  takes = takes_event m w (writes_bare m w e bare says);
  pages = within.pages;
  bytes = within.bytes;
  taken = within.taken;
  lacks = inl (omega (arith, passes, within.within));
}

pub bare_is_licensed : (entry : Entry) (before : List Made) (held : Held) (m : Move) (w : World) (e : raw.Event)
    → IsWithin entry before held → IsBare e → Asks m w e → PassesJournal held e → LacksRecord entry before m w
bare_is_licensed entry before held m w e within bare asks passes = lacks_bare entry before held m w e within bare asks.says passes

pub drop_is_licensed : (entry : Entry) (before : List Made) (held : Held) (cvd : ℕ) (w : World)
    → IsWithin entry before held → PassesJournal held (says.Drop cvd) → LacksRecord entry before (DropMove cvd) w
drop_is_licensed entry before held cvd w within passes = lacks_bare entry before held (DropMove cvd) w (says.Drop cvd) within tt refl passes

pub bare_lacks_no_run : (entry : Entry) (before : List Made) (m : Move) (w : World) (e : raw.Event) (pages : ℕ) → IsBare e → Asks m w e → LacksRun entry before m w pages → ⊥
bare_lacks_no_run entry before m w e pages bare asks lacks = by lacks.which
  where
    by : (pages ≡ pages_for lacks.writes.list) ⊎ (pages ≡ pages_for lacks.writes.segment) → ⊥
    by (inl is) =
        let same = written_once m w lacks.writes (writes_bare m w e bare asks.says) asks.fits
        in let empty : pages_for lacks.writes.list ≡ 0 = ap pages_for same.1 in omega (arith, is, empty, lacks.some)
    by (inr is) =
        let same = written_once m w lacks.writes (writes_bare m w e bare asks.says) asks.fits
        in let empty : pages_for lacks.writes.segment ≡ 0 = ap pages_for same.2 in omega (arith, is, empty, lacks.some)

-- ---- moves

-- the extents of an event are at most those of its two runs
brought_covers : (l s : Extent) (page : ℕ) → covers (l ∷ extents_of s) page ≤ covers (s ∷ l ∷ []) page
brought_covers l s page = by (s.bytes == 0)
  where
    by : (b : Bool) → covers (l ∷ (if b then [] else s ∷ [])) page ≤ covers (s ∷ l ∷ []) page
    by true = omega arith
    by false = omega arith

pub within_made : (entry : Entry) (before : List Made) (old new : Held) (m : Move) (w : World) (b : Brought)
    → IsWithin entry before old → IsUnplaced b → Brings m w b → IsMade old new b
    → new.journal.end ≤ old.journal.end + 6 + length (spelling b.event) → new.journal.epoch ≡ old.journal.epoch
    → IsWithin entry (before ++ record { move = m; world = w } ∷ []) new
within_made entry before old new m w b within unplaced brings made grows same = record {
  pages = within.pages + (pages_for b.list.items + pages_for b.segment.items);
  bytes = within.bytes + (6 + length (spelling b.event));
  epoch = omega (arith, same, within.epoch, checkpoints_same before m w (no_checkpoint m w (content (event_in b.event) b.list.items b.segment.items) brings.says));
  taken = take_more before within.pages within.bytes (pages_for b.list.items + pages_for b.segment.items) (length (spelling b.event)) m w
      (takes_event m w (writes_brought m w b unplaced brings)) within.taken;
  below = below_now;
  within = omega (arith, grows, within.within);
}
  where
    all_below : AreBelow (made.s ∷ made.l ∷ live old.numbers) (entry.pages + within.pages + pages_for b.list.items + pages_for b.segment.items)
    all_below =
        more_below (made.l ∷ live old.numbers) b.segment.items made.s (entry.pages + within.pages + pages_for b.list.items) made.placed.segment_run
        (more_below (live old.numbers) b.list.items made.l (entry.pages + within.pages) made.placed.list_run within.below)

    below_now : AreBelow (live new.numbers) (entry.pages + (within.pages + (pages_for b.list.items + pages_for b.segment.items)))
    below_now page some =
        let e : raw.Event = with_extents made.l made.s b.event
        in let now : covers (live new.numbers) page ≡ covers (live (applied (event_in e) old.numbers)) page = ap (λ (n : Numbers Extent Extent). covers (live n) page) made.applied_is
        in let come : covers (brought (event_in e)) page ≡ covers (made.l ∷ extents_of made.s) page = same_covers (brought (event_in e)) (made.l ∷ extents_of made.s) (brought_placed (live old.numbers) b.list.items made.l made.s b.event unplaced.runs made.placed.list_run) page
        in omega (
          arith,
          all_below page (omega (arith, some, now, come, live_applied page e old.numbers (apart_placed b.list.items made.l made.s b.event old.numbers unplaced.runs), brought_covers made.l made.s page)),
        )

bare_covers : (e : raw.Event) (n : Numbers Extent Extent) (page : ℕ) → IsBare e → IsApart e n → covers (live (applied (event_in e) n)) page ≤ covers (live n) page
bare_covers (says.Init name schema rows l s) n page bare apart = absurd bare
bare_covers (says.Commit cvd vid message parents rows fresh place added l s) n page bare apart = absurd bare
bare_covers (says.Plan cvd p q targets) n page bare apart = omega (arith, live_applied page (says.Plan cvd p q targets) n apart)
bare_covers (says.Copy cvd count s) n page bare apart = absurd bare
bare_covers (says.Flip cvd) n page bare apart = omega (arith, live_applied page (says.Flip cvd) n apart)
bare_covers (says.Drop cvd) n page bare apart = omega (arith, live_applied page (says.Drop cvd) n apart)
bare_covers (says.Base next) n page bare apart = absurd bare
bare_covers (says.Whole said) n page bare apart = absurd bare
bare_covers (says.Wide cvd vid message columns parents rows fresh place added l s) n page bare apart = absurd bare

within_bare : (entry : Entry) (before : List Made) (old new : Held) (m : Move) (w : World) (e : raw.Event)
    → IsWithin entry before old → IsBare e → IsSaid m w e → IsRecorded old new e
    → new.journal.end ≤ old.journal.end + 6 + length (spelling e) → new.journal.epoch ≡ old.journal.epoch
    → IsWithin entry (before ++ record { move = m; world = w } ∷ []) new
within_bare entry before old new m w e within bare says recorded grows same = record {
  pages = within.pages + 0;
  bytes = within.bytes + (6 + length (spelling e));
  epoch = omega (arith, same, within.epoch, checkpoints_same before m w (no_checkpoint m w (content (event_in e) [] []) says));
  taken = take_more before within.pages within.bytes 0 (length (spelling e)) m w (takes_event m w (writes_bare m w e bare says)) within.taken;
  below = below_now;
  within = omega (arith, grows, within.within);
}
  where
    below_now : AreBelow (live new.numbers) (entry.pages + (within.pages + 0))
    below_now page some =
        let now : covers (live new.numbers) page ≡ covers (live (applied (event_in e) old.numbers)) page = ap (λ (n : Numbers Extent Extent). covers (live n) page) recorded.applied_is
        in omega (arith, within.below page (omega (arith, some, now, bare_covers e old.numbers page bare recorded.apart)))

pub within_recorded : (entry : Entry) (before : List Made) (old new : Held) (m : Move) (w : World) (e : raw.Event)
    → IsWithin entry before old → IsBare e → Asks m w e → IsRecorded old new e
    → new.journal.end ≤ old.journal.end + 6 + length (spelling e) → new.journal.epoch ≡ old.journal.epoch
    → IsWithin entry (before ++ record { move = m; world = w } ∷ []) new
within_recorded entry before old new m w e within bare asks recorded grows same =
    within_bare entry before old new m w e within bare asks.says recorded grows same

pub within_dropped : (entry : Entry) (before : List Made) (old new : Held) (cvd : ℕ) (w : World)
    → IsWithin entry before old → IsDropped old new cvd
    → new.journal.end ≤ old.journal.end + 6 + length (spelling (says.Drop cvd)) → new.journal.epoch ≡ old.journal.epoch
    → IsWithin entry (before ++ record { move = DropMove cvd; world = w } ∷ []) new
within_dropped entry before old new cvd w within dropped grows same =
    within_bare entry before old new (DropMove cvd) w (says.Drop cvd) within tt refl dropped grows same
