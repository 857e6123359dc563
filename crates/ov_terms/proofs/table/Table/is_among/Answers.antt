use Rattle.ov_terms.proofs.Among.{nowhere}
use Rattle.ov_terms.proofs.table.Table.is_among.Goals as goal

pub returns-in-empty : goal.returns-in-empty
returns-in-empty c = nowhere c.args.self.now c.args.group.now c.args.vids.now c.in-empty.len_below
