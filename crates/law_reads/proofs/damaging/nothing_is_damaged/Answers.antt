use Rattle.law_reads.proofs.Served.{no_damage, scan_spared, no_part_damage, part_spared}
use Rattle.law_reads.proofs.damaging.nothing_is_damaged.Goals as goal

pub returns-clause-damage : goal.returns-clause-damage
returns-clause-damage c = no_damage

pub returns-clause-scan : goal.returns-clause-scan
returns-clause-scan c = scan_spared

pub returns-clause-disagrees : goal.returns-clause-disagrees
returns-clause-disagrees c = no_part_damage

pub returns-clause-part : goal.returns-clause-part
returns-clause-part c = part_spared
