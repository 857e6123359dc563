use Rattle.ov_layout.proofs.RoomLemmas.{stored-leaves}
use Rattle.ov_layout.proofs.layout.Layout.stored.Goals as goal

pub returns-clause-few : goal.returns-clause-few
returns-clause-few c =
    let inside = c.self.inside in
    stored-leaves inside.index.items inside.parts.items inside.next inside.stored inside.cost c.self.invariant.0
