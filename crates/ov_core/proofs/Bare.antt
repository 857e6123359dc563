-- A change that brings no run, at any World that the store is at.
use Rattle.std.proofs.Common.{◌≡◌, ℕ, ◌<◌, ◌≤◌, ◌^◌, List, [], ◌∷◌, ◌++◌, None, Some, refl, sym, ◌∙◌, ap, subst, arith}
use Rattle.ov_host.specs.declared.area.Extent.{Extent}
use Rattle.ov_host.specs.Host.{State}
use Rattle.ov_host.specs.Stops.{Only}
use Rattle.ov_event.specs.declared.event.Event as raw
use Rattle.ov_event.specs.declared.event.Event.TheVariants as says
use Rattle.ov_event.specs.Spelling.{IsEvent, spelling}
use Rattle.ov_journal.specs.Held.{IsAt, kept_by}
use Rattle.ov_journal.specs.Journal.{Kept, and_one}
use Rattle.ov_pages.specs.Sets.{Reserved}
use Rattle.ov_pages.specs.Live.{AreReserved}
use Rattle.ov_publish.specs.Steps.{IsAdded, IsFree, IsStored}
use Rattle.ov_model.specs.Moves.{Move, moved}
use Rattle.ov_model.specs.World.{World}
use Rattle.ov_catalog.specs.Applying.{first_off}
use Rattle.ov_catalog.specs.Events.{applied}
use Rattle.ov_catalog.specs.Extents.{brought, covers, given_up, live}
use Rattle.ov_catalog.specs.Numbers.{Numbers}
use Rattle.ov_catalog.specs.Raw.{event_in, numbers_in}
use Rattle.ov_catalog.specs.Sources.{IsApart}
use Rattle.ov_catalog.specs.Stands.{IsMove, Readings, seen_event}
use Rattle.ov_catalog.proofs.Covering.{live_applied}
use Rattle.ov_catalog.proofs.FlipCounts.{total, total-append}
use Rattle.ov_catalog.proofs.Weighing.{live_total}
use Rattle.law_image.specs.Pages.{SameLive, pages_in, readings_of}
use Rattle.law_events.proofs.Asking.{applies_sound}
use Rattle.law_events.proofs.Moves.{is_move_in}
use Rattle.ov_core.specs.AtWorld.{IsAtWorld, IsAtNext, IsEither}
use Rattle.ov_core.specs.Brought.{Asks, IsBare, content}
use Rattle.ov_core.specs.Held.{Held, IsReplayed}
use Rattle.ov_core.proofs.Keeping.{replayed_more, served}
use Rattle.ov_core.proofs.Ranges.{ranges_for}
use Rattle.ov_core.proofs.Reserving.{AreSame, reserved_same}
use Rattle.ov_core.proofs.Storing as storing

bare_brought : (e : raw.Event) → IsBare e → brought (event_in e) ≡ []
bare_brought (says.Init name columns rows list segment) bare = absurd bare
bare_brought (says.Commit cvd vid message edges rows fresh place added list segment) bare = absurd bare
bare_brought (says.Plan cvd p q targets) bare = refl
bare_brought (says.Copy cvd count segment) bare = absurd bare
bare_brought (says.Flip cvd) bare = refl
bare_brought (says.Drop cvd) bare = refl
bare_brought (says.Base next) bare = absurd bare
bare_brought (says.Whole said) bare = absurd bare
bare_brought (says.Wide cvd vid message columns edges rows fresh place added list segment) bare = absurd bare

-- so nothing is read for it
bare_seen : (r : Readings) (e : raw.Event) → IsBare e → seen_event r e ≡ content (event_in e) [] []
bare_seen r (says.Init name columns rows list segment) bare = absurd bare
bare_seen r (says.Commit cvd vid message edges rows fresh place added list segment) bare = absurd bare
bare_seen r (says.Plan cvd p q targets) bare = refl
bare_seen r (says.Copy cvd count segment) bare = absurd bare
bare_seen r (says.Flip cvd) bare = refl
bare_seen r (says.Drop cvd) bare = refl
bare_seen r (says.Base next) bare = absurd bare
bare_seen r (says.Whole said) bare = absurd bare
bare_seen r (says.Wide cvd vid message columns edges rows fresh place added list segment) bare = absurd bare

module _ (e : raw.Event) (n : Numbers Extent Extent) (replayed : IsReplayed n) (format : ℕ) (applies : first_off format e n ≡ None) (apart : IsApart e n) (bare : IsBare e) where
  -- what is given up, and what stays, is what was live
  bare_same : AreSame (live n) (given_up (event_in e) n ++ live (applied (event_in e) n))
  bare_same w none =
      omega (
        arith,
        live_total w format e n applies apart (served n replayed),
        ap (total w) (bare_brought e bare),
        total-append w (given_up (event_in e) n) (live (applied (event_in e) n)),
      )

  bare_reserved : (after : Numbers Extent Extent) (freed : List Extent) (r : Reserved) → after ≡ applied (event_in e) n → freed ≡ given_up (event_in e) n
      → AreReserved (live n) r → AreReserved (freed ++ live after) r
  bare_reserved after freed r is given h =
      let all : AreReserved (given_up (event_in e) n ++ live (applied (event_in e) n)) r =
      reserved_same (live n) (given_up (event_in e) n ++ live (applied (event_in e) n)) r bare_same h
      in subst (λ (es : List Extent). AreReserved (es ++ live after) r) (sym given)
      (subst (λ (x : Numbers Extent Extent). AreReserved (given_up (event_in e) n ++ live x) r) (sym is) all)

  -- what is freed, and what stays
  pub bare_kept : (m after : Numbers Extent Extent) (front middle freed items : List Extent) (r : Reserved) → m ≡ n → after ≡ applied (event_in e) m
      → front ≡ [] → middle ≡ front → freed ≡ middle ++ given_up (event_in e) m → items ≡ freed
      → AreReserved (live n) r → AreReserved (items ++ live after) r × IsReplayed after
  bare_kept m after front middle freed items r same is empty kept given all h =
      let now : after ≡ applied (event_in e) n = is ∙ ap (applied (event_in e)) same
      in let gone : items ≡ given_up (event_in e) n =
      all ∙ given ∙ ap (λ (xs : List Extent). xs ++ given_up (event_in e) m) (kept ∙ empty) ∙ ap (given_up (event_in e)) same
      in (
        bare_reserved after items r now gone h,
        subst IsReplayed (sym now) (replayed_more format n e replayed applies),
      )

  -- the pages of what stays are there
  pub bare_there : (m after : Numbers Extent Extent) (old new : List ℕ) → m ≡ n → after ≡ applied (event_in e) m → new ≡ old
      → ((page : ℕ) → 1 ≤ covers (live n) page → page < pages_in old) → (page : ℕ) → 1 ≤ covers (live after) page → page < pages_in new
  bare_there m after old new same is kept there page some =
      let now : after ≡ applied (event_in e) n = is ∙ ap (applied (event_in e)) same
      in let some_now : 1 ≤ covers (live (applied (event_in e) n)) page = subst (λ (x : Numbers Extent Extent). 1 ≤ covers (live x) page) now some
      in let none : covers (brought (event_in e)) page ≡ 0 = ap (λ (es : List Extent). covers es page) (bare_brought e bare)
      in subst (λ (ps : List ℕ). page < pages_in ps) (sym kept)
      (there page (omega (arith, some_now, none, live_applied page e n apart)))

pub drop_event : (cvd : ℕ) → cvd < 2 ^ 32 → IsEvent (says.Drop cvd)
unfolding IsEvent
drop_event cvd small = small

module _ (w : World) (held : Held) (s0 : State) (is : IsAtWorld w held s0) (m : Move) (e : raw.Event) (event : IsEvent e)
    (applies : first_off held.journal.format e held.numbers ≡ None) (bare : IsBare e) (asks : Asks m w e) where
  abbrev pages : List ℕ
  pages = s0.tape.disk.pages.bytes

  abbrev extents : List Extent
  extents = live (numbers_in is.events)

  same : SameLive extents pages pages
  same = record { there = is.stands.stands.apart.inside; same = λ p used. refl }

  none : (page : ℕ) → covers (brought (event_in e)) page ≡ 0
  none page = ap (λ (es : List Extent). covers es page) (bare_brought e bare)

  move : IsMove held.journal.format e m w (numbers_in is.events) (readings_of pages)
  move =
      is_move_in held.journal.format is.events (readings_of pages) w e m is.stands.stands is.stands.format asks.fits (applies_sound held.journal.format e held.numbers applies)
      (ap Some (bare_seen (readings_of pages) e bare) ∙ asks.says)
      (λ page. omega (arith, none page, is.stands.stands.apart.once page))
      (λ page some. absurd (omega (arith, none page, some)))

  module _ (p : List ℕ) (spells : p ≡ spelling e) (s1 : State)
      (stops : (payloads : List (List ℕ)) (ranges : List (ℕ × ℕ)) → IsAt payloads held.journal s0 → IsFree ranges [] s0.tape.disk
      → Only s0.tape s1.tape (IsStored (kept_by held.journal payloads) (and_one (kept_by held.journal payloads) p) ranges pages pages s0.tape.disk.printed)) where
    stored : Only s0.tape s1.tape (IsStored (storing.kept w held s0 is) (and_one (storing.kept w held s0 is) (spelling e)) (ranges_for extents) pages pages s0.tape.disk.printed)
    stored =
        let kept : Kept = storing.kept w held s0 is
        in let P : List ℕ → Type 0 = λ q. Only s0.tape s1.tape (IsStored kept (and_one kept q) (ranges_for extents) pages pages s0.tape.disk.printed)
        in subst P spells (stops is.payloads (ranges_for extents) is.at (storing.free w held s0 is [] (λ q none there. none)))

    pub bare_stops : Only s0.tape s1.tape (IsEither w (moved m w) s0.tape.disk.printed)
    bare_stops = storing.stops w held s0 is m e pages same event move s1 stored

    pub bare_done : (later : Held) → IsAdded (is.payloads ++ p ∷ []) pages s0.tape.disk.printed later.journal s1
        → later.numbers ≡ applied (event_in e) held.numbers → IsAtNext (moved m w) later s0 s1
    bare_done later added numbers =
        let P : List ℕ → Type 0 = λ q. IsAdded (is.payloads ++ q ∷ []) pages s0.tape.disk.printed later.journal s1
        in storing.next w held s0 is m e pages same event move s1 later (subst P spells added) stored numbers
