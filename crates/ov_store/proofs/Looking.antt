-- A store stays at its World while its host is only looked at.
use Rattle.std.proofs.Common.{◌≡◌, true, take, sym, ◌∙◌, subst}
use Rattle.ov_host.specs.Disk.{as_read, settled}
use Rattle.ov_host.specs.Host.{State}
use Rattle.ov_host.specs.Tape.{Tape}
use Rattle.ov_journal.specs.Bytes.{IsLive}
use Rattle.ov_journal.specs.Held.{kept_by}
use Rattle.ov_journal.specs.Journal.{IsJournal}
use Rattle.ov_model.specs.World.{World}
use Rattle.law_image.specs.Images.{StandsBy}
use Rattle.ov_fetch.specs.Extents.{Looked}
use Rattle.ov_core.specs.AtWorld.{IsAtWorld}
use Rattle.ov_core.specs.Held.{Held}

-- the tape alone counts
tape_at : (t : Tape) → (w : World) (held : Held) (s u : State) → u.tells ≡ true → u.tape ≡ s.tape → IsAtWorld w held s → IsAtWorld w held u
tape_at t w held s u tells same at = record {
  payloads = at.payloads;
  events = at.events;
  at = record {
    told = tells;
    rest = subst (λ (x : Tape). x.disk.journal ≡ settled x.disk.journal.bytes) (sym same) at.at.rest;
    spells = subst (λ (x : Tape). IsJournal (kept_by held.journal at.payloads) x.disk.journal.bytes) (sym same) at.at.spells;
    place = at.at.place;
    slots = subst (λ (x : Tape). IsLive held.journal.side held.journal.spare_open (take 38 x.disk.journal.bytes)) (sym same) at.at.slots;
  };
  rest = record { told = tells; rest = subst (λ (x : Tape). x.disk.pages ≡ settled x.disk.pages.bytes) (sym same) at.rest.rest };
  stands = subst (λ (x : Tape). StandsBy (kept_by held.journal at.payloads) at.events w (as_read x.disk)) (sym same) at.stands;
  numbers_are = at.numbers_are;
}

pub looked_at : (w : World) (held : Held) (s u : State) → Looked s u → IsAtWorld w held s → IsAtWorld w held u
looked_at w held s u looked at = tape_at s.tape w held s u (looked.told ∙ at.at.told) (looked.tape at.at.told) at
