-- An area with what is pending in it, as the model sees it.
use Rattle.std.specs.Prelude.{reverse}
use Rattle.ov_host.specs.Disk.{Stored}
use Rattle.ov_memhost.specs.declared.pending.Pending.{Pending}

abbrev pub stored_of : Pending → Stored
stored_of p = record { bytes = p.bytes.items; synced = p.synced; greatest = p.greatest; written = reverse p.written.items }
