-- A change whose runs are written to free pages, at any World that the store is at.
use Rattle.std.proofs.Common.{◌≡◌, ℕ, List, [], ◌∷◌, ◌++◌, None, Some, sym, ◌∙◌, ap, subst, arith}
use Rattle.ov_host.specs.declared.area.Extent.{Extent}
use Rattle.ov_host.specs.Host.{State}
use Rattle.ov_host.specs.Stops.{Only}
use Rattle.ov_event.specs.declared.event.Event as raw
use Rattle.ov_event.specs.Spelling.{IsEvent, spelling}
use Rattle.ov_journal.specs.Held.{IsAt, kept_by}
use Rattle.ov_journal.specs.Journal.{Kept, and_one}
use Rattle.ov_layout.specs.Changes.{extents_of}
use Rattle.ov_publish.specs.declared.run.Run.{Run}
use Rattle.ov_publish.specs.Pages.{range_of, with_run, AreOff}
use Rattle.ov_publish.specs.Steps.{IsAdded, IsFree, IsStored, ranges_of, with_runs}
use Rattle.ov_model.specs.Moves.{Move, moved}
use Rattle.ov_model.specs.World.{World}
use Rattle.ov_catalog.specs.Applying.{first_off}
use Rattle.ov_catalog.specs.Events.{applied}
use Rattle.ov_catalog.specs.Extents.{brought, covers, live}
use Rattle.ov_catalog.specs.Numbers.{Numbers}
use Rattle.ov_catalog.specs.Raw.{event_in, numbers_in}
use Rattle.ov_catalog.specs.Stands.{IsMove}
use Rattle.law_image.specs.Pages.{SameLive, readings_of}
use Rattle.law_events.proofs.Asking.{applies_sound}
use Rattle.law_events.proofs.Moves.{is_move_in}
use Rattle.ov_core.specs.declared.brought.Brought.{Brought}
use Rattle.ov_core.specs.AtWorld.{IsAtWorld, IsAtNext, IsEither}
use Rattle.ov_core.specs.Brought.{with_extents, Brings, IsUnplaced}
use Rattle.ov_core.specs.Held.{Held}
use Rattle.ov_core.specs.Rooms.{ArePlaced}
use Rattle.ov_core.proofs.Extents.{applies_placed, event_placed, list_small, run_extent, segment_small}
use Rattle.ov_core.proofs.Ranges.{are_there, both_off, brought_placed, live_same, ranges_for, runs_apart, runs_inside, same_live, spells, written}
use Rattle.ov_core.proofs.Reserving.{same_covers}
use Rattle.ov_core.proofs.Storing as storing

-- two runs, where they go and what they have
pub record Carries (list segment : List ℕ) (l s : Extent) (a b : Run) : Type 0 where
  pub list_page : a.page ≡ l.page
  pub list_bytes : a.bytes.now ≡ list
  pub segment_page : b.page ≡ s.page
  pub segment_bytes : b.bytes.now ≡ segment

module _ (list segment : List ℕ) (l s : Extent) (a b : Run) (carry : Carries list segment l s a b) where
  pub runs_are : (old : List ℕ) → with_runs a b old ≡ with_run s.page segment (with_run l.page list old)
  runs_are old = λ i. with_run (carry.segment_page i) (carry.segment_bytes i) (with_run (carry.list_page i) (carry.list_bytes i) old)

  pub ranges_are : ranges_of a b ≡ range_of l.page list ∷ range_of s.page segment ∷ []
  ranges_are = λ i. range_of (carry.list_page i) (carry.list_bytes i) ∷ range_of (carry.segment_page i) (carry.segment_bytes i) ∷ []

module _ (w : World) (held : Held) (s0 : State) (is : IsAtWorld w held s0) (m : Move) (x : Brought) (l s : Extent)
    (unplaced : IsUnplaced x) (event : IsEvent x.event) (applies : first_off held.journal.format x.event held.numbers ≡ None)
    (placed_in : ArePlaced (live held.numbers) x.list.items x.segment.items l s) (brings : Brings m w x) where
  abbrev e : raw.Event
  e = with_extents l s x.event

  abbrev pages : List ℕ
  pages = s0.tape.disk.pages.bytes

  abbrev extents : List Extent
  extents = live (numbers_in is.events)

  placed : ArePlaced extents x.list.items x.segment.items l s
  placed = subst (λ (n : Numbers Extent Extent). ArePlaced (live n) x.list.items x.segment.items l s) is.numbers_are placed_in

  abbrev final : List ℕ
  final = written extents x.list.items x.segment.items l s placed pages

  same : SameLive extents pages final
  same = same_live extents pages final
      (live_same extents x.list.items x.segment.items l s placed pages (are_there extents pages pages is.stands.stands.apart.inside))

  spelled : IsEvent e
  spelled = event_placed l s x.event event
      (run_extent extents x.list.items l placed.list_run (list_small x unplaced event))
      (run_extent (l ∷ extents) x.segment.items s placed.segment_run (segment_small x unplaced event))

  applies_now : first_off held.journal.format e (numbers_in is.events) ≡ None
  applies_now =
      subst (λ (n : Numbers Extent Extent). first_off held.journal.format e n ≡ None) is.numbers_are
      (applies_placed (live held.numbers) x l s unplaced placed_in held.journal.format held.numbers applies)

  move : IsMove held.journal.format e m w (numbers_in is.events) (readings_of final)
  move =
      let are : (page : ℕ) → covers (brought (event_in e)) page ≡ covers (l ∷ extents_of s) page =
      same_covers (brought (event_in e)) (l ∷ extents_of s) (brought_placed extents x.list.items l s x.event unplaced.runs placed.list_run)
      in is_move_in held.journal.format is.events (readings_of final) w e m (storing.stands_over w held s0 is final same) is.stands.format brings.fits
      (applies_sound held.journal.format e (numbers_in is.events) applies_now)
      (ap Some (spells extents x.list.items x.segment.items l s placed pages x.event unplaced.runs) ∙ brings.says)
      (λ page. omega (arith, are page, runs_apart extents x.list.items x.segment.items l s placed page (is.stands.stands.apart.once page)))
      (λ page some. runs_inside extents x.list.items x.segment.items l s placed pages page (omega (arith, are page, some)))

  module _ (a b : Run) (carry : Carries x.list.items x.segment.items l s a b) (y : raw.Event) (same_event : y ≡ e) (s1 : State)
      (stops : (payloads : List (List ℕ)) (ranges : List (ℕ × ℕ)) → IsAt payloads held.journal s0 → IsFree ranges (ranges_of a b) s0.tape.disk
      → Only s0.tape s1.tape (IsStored (kept_by held.journal payloads) (and_one (kept_by held.journal payloads) (spelling y)) ranges pages (with_runs a b pages) s0.tape.disk.printed)) where
    stored : Only s0.tape s1.tape (IsStored (storing.kept w held s0 is) (and_one (storing.kept w held s0 is) (spelling e)) (ranges_for extents) pages final s0.tape.disk.printed)
    stored =
        let kept : Kept = storing.kept w held s0 is
        in let off : AreOff (ranges_of a b) (ranges_for extents) =
        subst (λ (rs : List (ℕ × ℕ)). AreOff rs (ranges_for extents)) (sym (ranges_are x.list.items x.segment.items l s a b carry))
        (both_off extents x.list.items x.segment.items l s placed)
        in let P : raw.Event → List ℕ → Type 0 = λ v ps. Only s0.tape s1.tape (IsStored kept (and_one kept (spelling v)) (ranges_for extents) pages ps s0.tape.disk.printed)
        in let one : P y (with_runs a b pages) = stops is.payloads (ranges_for extents) is.at (storing.free w held s0 is (ranges_of a b) off)
        in let two : P e (with_runs a b pages) = subst (λ (v : raw.Event). P v (with_runs a b pages)) same_event one
        in subst (λ (ps : List ℕ). P e ps) (runs_are x.list.items x.segment.items l s a b carry pages) two

    pub change_stops : Only s0.tape s1.tape (IsEither w (moved m w) s0.tape.disk.printed)
    change_stops = storing.stops w held s0 is m e final same spelled move s1 stored

    pub change_done : (later : Held) → IsAdded (is.payloads ++ spelling y ∷ []) (with_runs a b pages) s0.tape.disk.printed later.journal s1
        → later.numbers ≡ applied (event_in y) held.numbers → IsAtNext (moved m w) later s0 s1
    change_done later added numbers =
        let P : raw.Event → List ℕ → Type 0 = λ v ps. IsAdded (is.payloads ++ spelling v ∷ []) ps s0.tape.disk.printed later.journal s1
        in let one : P e (with_runs a b pages) = subst (λ (v : raw.Event). P v (with_runs a b pages)) same_event added
        in let two : P e final = subst (λ (ps : List ℕ). P e ps) (runs_are x.list.items x.segment.items l s a b carry pages) one
        in storing.next w held s0 is m e final same spelled move s1 later two stored
        (numbers ∙ ap (λ (v : raw.Event). applied (event_in v) held.numbers) same_event)
