-- A disk that is played again, as the model sees it.
use Rattle.ov_host.specs.Disk.{Disk}
use Rattle.ov_memhost.specs.declared.replica.Replica.{Replica}
use Rattle.ov_memhost.specs.Pending.{stored_of}

abbrev pub disk_of : Replica → Disk
disk_of r = record { pages = stored_of r.pages; journal = stored_of r.journal; printed = r.printed.items }
