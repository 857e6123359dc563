use Rattle.std.specs.Prelude.{Some}
use Rattle.ov_catalog.specs.Sets.{set_in}
use Rattle.ov_catalog.proofs.CommitLemmas.{facts-of, there}
use Rattle.ov_catalog.proofs.WideLemmas.{wide-arrives}
use Rattle.ov_catalog.proofs.wide.room_in.Goals as goal

pub make_room-requires-clause-there : goal.make_room-requires-clause-there
make_room-requires-clause-there c =
    let d = c.args.d.now in
    let applies = wide-arrives c.args.message.now c.args.columns.now c.args.parents.now c.args.new.now (Some (set_in d)) c.in_ok-schema.ensures.answer in
    there d c.args.parents.now c.args.new.now c.requires (facts-of d c.args.message.now c.args.parents.now c.args.new.now applies)
