-- A file that is read piece by piece.
use Rattle.std.proofs.Common.{◌∙◌, arith}
use Rattle.ov_host.specs.Stage.{Staged}
use Rattle.ov_files.specs.Files.{Looks}

-- one call after another changes no file
pub after_more : {a b c : Staged} → Looks a b → Looks b c → Looks a c
after_more first more = record {
  told = more.told ∙ first.told;
  faults = omega (arith, first.faults, more.faults);
  misses = omega (arith, first.misses, more.misses);
  files = more.files ∙ first.files;
}
