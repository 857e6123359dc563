-- A store's numbers stay those of its journal while its host is only looked at.
use Rattle.std.proofs.Common.{◌≡◌, take, sym, ◌∙◌, subst}
use Rattle.ov_host.specs.Disk.{settled}
use Rattle.ov_host.specs.Host.{State}
use Rattle.ov_host.specs.Tape.{Tape}
use Rattle.ov_journal.specs.Bytes.{IsLive}
use Rattle.ov_journal.specs.Held.{kept_by}
use Rattle.ov_journal.specs.Journal.{IsJournal}
use Rattle.ov_fetch.specs.Extents.{Looked}
use Rattle.ov_core.specs.Held.{Held, IsByJournal}

pub looked_by : (held : Held) (s u : State) → Looked s u → IsByJournal held s → IsByJournal held u
looked_by held s u looked by =
    let same : u.tape ≡ s.tape = looked.tape by.at.told
    in record {
      payloads = by.payloads;
      at = record {
        told = looked.told ∙ by.at.told;
        rest = subst (λ (x : Tape). x.disk.journal ≡ settled x.disk.journal.bytes) (sym same) by.at.rest;
        spells = subst (λ (x : Tape). IsJournal (kept_by held.journal by.payloads) x.disk.journal.bytes) (sym same) by.at.spells;
        place = by.at.place;
        slots = subst (λ (x : Tape). IsLive held.journal.side held.journal.spare_open (take 38 x.disk.journal.bytes)) (sym same) by.at.slots;
      };
      replays = by.replays;
    }
