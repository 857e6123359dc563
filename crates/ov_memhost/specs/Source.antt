-- What contracts see of a source in memory.
use Rattle.std.specs.Prelude.{true, drop}
use Rattle.ov_host.specs.Source.{Script}
use Rattle.ov_memhost.specs.declared.source.MemSource.{MemSource}

-- it tells its bytes: those that were not read yet
abbrev pub script_of : MemSource → Script
script_of s = record { tells = true; left = drop s.read s.bytes.items; faults = s.counts.faults }
