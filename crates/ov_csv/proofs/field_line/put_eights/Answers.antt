use Rattle.ov_csv.proofs.PutLemmas.{put_stays}
use Rattle.ov_csv.proofs.field_line.put_eights.Goals as goal

pub returns-then-any_marks-clause-stays : goal.returns-then-any_marks-clause-stays
returns-then-any_marks-clause-stays c = put_stays c.args.text.now.items c.args.field.now c.loop-rest.text.items c.loop-rest.rest.now c.loop-rest.invariant.0 c.loop-rest.invariant.3

pub returns-clause-stays : goal.returns-clause-stays
returns-clause-stays c = put_stays c.args.text.now.items c.args.field.now c.loop-rest.text.items c.loop-rest.rest.now c.loop-rest.invariant.0 c.loop-rest.invariant.3
