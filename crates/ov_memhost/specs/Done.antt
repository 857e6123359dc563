-- The calls that a host in memory keeps, as plain values.
use Rattle.std.specs.Prelude.{ℕ, List, map}
use Rattle.ov_host.specs.declared.area.Area.{Area}
use Rattle.ov_host.specs.declared.area.Area.TheVariants.{Pages, Journal}
use Rattle.ov_host.specs.Tape.{Call, Writes, Syncs, Prints}
use Rattle.ov_memhost.specs.declared.areas.Areas.{Areas}
use Rattle.ov_memhost.specs.declared.history.Did.{Did}
use Rattle.ov_memhost.specs.declared.history.Did.TheVariants.{Wrote, Synced, Printed}
use Rattle.ov_memhost.specs.declared.history.Past.{Past}
use Rattle.ov_memhost.specs.Kept.{Kept, Contents}

abbrev pub call_of : Did → Call
call_of (Wrote w) = Writes w.area w.at w.bytes.items
call_of (Synced area) = Syncs area
call_of (Printed bytes) = Prints bytes.items

abbrev pub kept_of : Past → Kept
kept_of p = record { number = p.number; call = call_of p.did }

abbrev pub kept_in : List Past → List Kept
kept_in ps = map kept_of ps

abbrev pub contents : Areas → Contents
contents a = record { pages = a.pages.items; journal = a.journal.items }

abbrev pub bytes_in : Area → Contents → List ℕ
bytes_in Pages c = c.pages
bytes_in Journal c = c.journal

abbrev pub with_bytes : Area → List ℕ → Contents → Contents
with_bytes Pages bytes c = record { pages = bytes; journal = c.journal }
with_bytes Journal bytes c = record { pages = c.pages; journal = bytes }
