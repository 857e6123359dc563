-- A record over pages in which the live extents stay stands for the World before a move or for the one after it.
use Rattle.std.proofs.Common.{◌≡◌, ◌⊎◌, inl, inr, ℕ, List, [], ◌∷◌, ◌++◌, refl, sym, ◌∙◌, ap, subst}
use Rattle.ov_host.specs.declared.area.Extent.{Extent}
use Rattle.ov_host.specs.Disk.{Image, Leaves, as_read}
use Rattle.ov_host.specs.Host.{State}
use Rattle.ov_host.specs.Stops.{Only}
use Rattle.ov_host.proofs.Stops.{only_start, only_wider}
use Rattle.ov_host.proofs.Writes.{settled_leaves}
use Rattle.ov_event.specs.declared.event.Event as raw
use Rattle.ov_event.specs.Spelling.{IsEvent, spelling}
use Rattle.ov_journal.specs.Held.{kept_by}
use Rattle.ov_journal.specs.Journal.{Kept, IsJournal, and_one}
use Rattle.ov_publish.specs.Pages.{AreOff, SameOn}
use Rattle.ov_publish.specs.Steps.{IsAdded, IsFree, IsStored}
use Rattle.ov_model.specs.Moves.{Move, moved}
use Rattle.ov_model.specs.World.{World}
use Rattle.ov_catalog.specs.Events.{applied}
use Rattle.ov_catalog.specs.Extents.{live}
use Rattle.ov_catalog.specs.Raw.{event_in, numbers_in}
use Rattle.ov_catalog.specs.Stands.{IsMove, StandsFor}
use Rattle.law_image.specs.Images.{StandsBy, StandsAs}
use Rattle.law_image.specs.Pages.{SameLive, readings_of}
use Rattle.law_image.proofs.Standing.{same_world, other_pages, one_more}
use Rattle.ov_core.specs.AtWorld.{IsAtWorld, IsAtNext, IsEither}
use Rattle.ov_core.specs.Held.{Held}
use Rattle.ov_core.proofs.Growing as growing
use Rattle.ov_core.proofs.Ranges.{ranges_for, are_there, same_live}
use Rattle.ov_catalog.proofs.Serving.{numbers_more}

module _ (w : World) (held : Held) (s0 : State) (is : IsAtWorld w held s0) where
  abbrev pub kept : Kept
  kept = kept_by held.journal is.payloads

  abbrev pub pages : List ℕ
  pages = s0.tape.disk.pages.bytes

  abbrev pub extents : List Extent
  extents = live (numbers_in is.events)

  stays : (c : Image) → IsJournal kept c.journal → SameLive extents pages c.pages → StandsBy kept is.events w c
  stays c journal same =
      same_world kept kept is.events w (as_read s0.tape.disk) c is.stands journal (record { epoch = refl; format = refl; payloads = refl }) same

  itself : SameLive extents pages pages
  itself = record { there = is.stands.stands.apart.inside; same = λ p used. refl }

  -- nothing was written
  pub still : (m : Move) → Only s0.tape s0.tape (IsEither w (moved m w) s0.tape.disk.printed)
  still m = only_start s0.tape (IsEither w (moved m w) s0.tape.disk.printed) (λ c left.
      let same_pages : c.pages ≡ pages = settled_leaves pages c.pages (subst (λ a. Leaves a c.pages) is.rest.rest left.pages)
      in let same_journal : c.journal ≡ s0.tape.disk.journal.bytes =
      settled_leaves s0.tape.disk.journal.bytes c.journal (subst (λ a. Leaves a c.journal) is.at.rest left.journal)
      in let Spelled : List ℕ → Type 0 = λ b. IsJournal kept b
      in let Same : List ℕ → Type 0 = λ b. SameLive extents pages b
      in record {
        stands = inl (inr (record {
          kept = kept;
          events = is.events;
          by = stays c (subst Spelled (sym same_journal) is.at.spells) (subst Same (sym same_pages) itself);
        }));
        printed_is = left.printed;
      })

  -- the live pages may be written around
  pub free : (ranges : List (ℕ × ℕ)) → AreOff ranges (ranges_for extents) → IsFree (ranges_for extents) ranges s0.tape.disk
  free ranges off = record { rest = is.rest.rest; there = are_there extents pages pages is.stands.stands.apart.inside; off = off }

  -- what the events stand for over other pages
  pub stands_over : (final : List ℕ) → SameLive extents pages final → StandsFor held.journal.format is.events (readings_of final) w
  stands_over final same =
      (other_pages kept is.events w (as_read s0.tape.disk) (record { pages = final; journal = s0.tape.disk.journal.bytes; printed = [] }) is.stands refl same).stands

  module _ (m : Move) (e : raw.Event) (final : List ℕ) (same : SameLive extents pages final) (spelled : IsEvent e)
      (move : IsMove held.journal.format e m w (numbers_in is.events) (readings_of final)) where
    after : (c : Image) → IsJournal (and_one kept (spelling e)) c.journal → c.pages ≡ final → StandsBy (and_one kept (spelling e)) (is.events ++ e ∷ []) (moved m w) c
    after c journal at_end =
        let Same : List ℕ → Type 0 = λ b. SameLive extents pages b
        in let Moves : List ℕ → Type 0 = λ b. IsMove held.journal.format e m w (numbers_in is.events) (readings_of b)
        in one_more kept is.events w (as_read s0.tape.disk) c e m is.stands spelled journal (subst Same (sym at_end) same) (subst Moves (sym at_end) move)

    -- a stop meanwhile
    pub either : (c : Image) → IsStored kept (and_one kept (spelling e)) (ranges_for extents) pages final s0.tape.disk.printed c → IsEither w (moved m w) s0.tape.disk.printed c
    either c stored = record { stands = by stored.which; printed_is = stored.printed_is }
      where
        by : (IsJournal kept c.journal × SameOn (ranges_for extents) pages c.pages) ⊎ (IsJournal (and_one kept (spelling e)) c.journal × (c.pages ≡ final)) → StandsAs w c ⊎ StandsAs (moved m w) c
        by (inl old) = inl (inr (record { kept = kept; events = is.events; by = stays c old.0 (same_live extents pages c.pages old.1) }))
        by (inr new) = inr (inr (record { kept = and_one kept (spelling e); events = is.events ++ e ∷ []; by = after c new.0 new.1 }))

    pub stops : (s1 : State) → Only s0.tape s1.tape (IsStored kept (and_one kept (spelling e)) (ranges_for extents) pages final s0.tape.disk.printed)
        → Only s0.tape s1.tape (IsEither w (moved m w) s0.tape.disk.printed)
    stops s1 only =
        only_wider s0.tape s1.tape (IsStored kept (and_one kept (spelling e)) (ranges_for extents) pages final s0.tape.disk.printed)
        (IsEither w (moved m w) s0.tape.disk.printed) either only

    module _ (s1 : State) (later : Held) (added : IsAdded (is.payloads ++ spelling e ∷ []) final s0.tape.disk.printed later.journal s1) where
      pub next : Only s0.tape s1.tape (IsStored kept (and_one kept (spelling e)) (ranges_for extents) pages final s0.tape.disk.printed)
          → later.numbers ≡ applied (event_in e) held.numbers → IsAtNext (moved m w) later s0 s1
      next only numbers =
          let same_kept = growing.kept_after held.journal later.journal is.payloads (spelling e) final s0.tape.disk.printed s1 added s0 (ranges_for extents) pages s0.tape.disk.printed only
          in let Journal : Kept → Type 0 = λ k. IsJournal k s1.tape.disk.journal.bytes
          in let Stands : Kept → Type 0 = λ k. StandsBy k (is.events ++ e ∷ []) (moved m w) (as_read s1.tape.disk)
          in record {
            at = record {
              payloads = is.payloads ++ spelling e ∷ [];
              events = is.events ++ e ∷ [];
              at = added.at;
              rest = record { told = added.at.told; rest = growing.settled_pages held.journal later.journal is.payloads (spelling e) final s0.tape.disk.printed s1 added };
              stands = subst Stands same_kept (after (as_read s1.tape.disk) (subst Journal (sym same_kept) added.at.spells) (growing.at_final held.journal later.journal is.payloads (spelling e) final s0.tape.disk.printed s1 added));
              numbers_are = numbers ∙ ap (applied (event_in e)) is.numbers_are ∙ sym (numbers_more is.events e);
            };
            printed_same = added.printed_is;
          }
