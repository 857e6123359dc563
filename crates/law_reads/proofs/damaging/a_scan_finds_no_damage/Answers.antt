use Rattle.law_reads.proofs.Undamaged.{scan_finds_none}
use Rattle.law_reads.proofs.damaging.a_scan_finds_no_damage.Goals as goal

pub returns : goal.returns
returns c = scan_finds_none
