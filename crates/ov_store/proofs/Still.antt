-- What a stop leaves of a store that is at a World, before a call changes anything.
use Rattle.std.proofs.Common.{◌≡◌, sym, subst, inl, inr}
use Rattle.ov_host.specs.Disk.{Image, Leaves, MayLeave}
use Rattle.ov_host.specs.Host.{State}
use Rattle.ov_host.specs.Stops.{Only}
use Rattle.ov_host.proofs.Stops.{only_start}
use Rattle.ov_host.proofs.Writes.{settled_leaves}
use Rattle.ov_journal.specs.Held.{kept_by}
use Rattle.ov_journal.specs.Journal.{IsJournal}
use Rattle.ov_model.specs.World.{World}
use Rattle.ov_catalog.specs.Stands.{StandsFor}
use Rattle.law_image.specs.Images.{StandsAs}
use Rattle.law_image.specs.Pages.{readings_of}
use Rattle.ov_core.specs.AtWorld.{IsAtWorld, IsEither}
use Rattle.ov_core.specs.Held.{Held}
use Rattle.ov_open.specs.Opening.{IsWorld}

module _ (w : World) (held : Held) (s : State) (at : IsAtWorld w held s) (c : Image) (left : MayLeave s.tape.disk c) where
  pages_same : c.pages ≡ s.tape.disk.pages.bytes
  pages_same = settled_leaves s.tape.disk.pages.bytes c.pages (subst (λ a. Leaves a c.pages) at.rest.rest left.pages)

  journal_same : c.journal ≡ s.tape.disk.journal.bytes
  journal_same = settled_leaves s.tape.disk.journal.bytes c.journal (subst (λ a. Leaves a c.journal) at.at.rest left.journal)

  pub stands_still : StandsAs w c
  stands_still = inr (record {
    kept = kept_by held.journal at.payloads;
    events = at.events;
    by = record {
      journal = subst (IsJournal (kept_by held.journal at.payloads)) (sym journal_same) at.stands.journal;
      spell = at.stands.spell;
      stands = subst (λ pages. StandsFor held.journal.format at.events (readings_of pages) w) (sym pages_same) at.stands.stands;
      epoch = at.stands.epoch;
      format = at.stands.format;
      records = at.stands.records;
    };
  })

pub still : (w v : World) (held : Held) (s : State) → IsAtWorld w held s → Only s.tape s.tape (IsEither w v s.tape.disk.printed)
still w v held s at =
    only_start s.tape (IsEither w v s.tape.disk.printed) (λ c left. record { stands = inl (stands_still w held s at c left); printed_is = left.printed })

pub still_world : (w : World) (held : Held) (s : State) → IsAtWorld w held s → Only s.tape s.tape (IsWorld w s.tape.disk.printed)
still_world w held s at =
    only_start s.tape (IsWorld w s.tape.disk.printed) (λ c left. record { stands = stands_still w held s at c left; printed_is = left.printed })
