use Rattle.ov_catalog.proofs.CommitLemmas.{facts-of, there}
use Rattle.ov_catalog.proofs.commit.room_in.Goals as goal

pub make_room-requires-clause-there : goal.make_room-requires-clause-there
make_room-requires-clause-there c =
    let d = c.args.d.now in
    there d c.args.parents.now c.args.new.now c.requires (facts-of d c.args.message.now c.args.parents.now c.args.new.now c.in_ok-check_commit.ensures)
